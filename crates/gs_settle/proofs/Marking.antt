-- When each level was above its bound, in a play under way and in one that is over.
use Rattle.std.proofs.Common.{◌≡◌, ℕ, zero, suc, ◌+◌, ◌-◌, ◌*◌, ◌<◌, ◌≤◌, inl, inr, arith, ap, refl, ◌∙◌, sym, subst, max, All, List, length, map, replicate, Bool, true, false, nat_lt, if◌then◌else◌, Option, Some, None, IfSome, slice_index, slice_index_or}
use Rattle.std.specs.List.{range_with_len}
use Rattle.std.proofs.Math.Nat.{div-le_of_le-mul, mul-le-mul_left, mul_comm}
use Rattle.std.proofs.lemmas.Bool.{cases_lt, ltb-true}
use Rattle.std.proofs.lemmas.List.{get_or-replicate, length-replicate, same_lists}
use Rattle.std.proofs.lemmas.List.Elements.{All-from_get_or}
use Rattle.std.proofs.lemmas.List.FromFn.{get_or-map-range_with_len, length-map-range_with_len}
use Rattle.gs_core.specs.declared.event.Event.{Event}
use Rattle.gs_plan.specs.Bounds.{level_in}
use Rattle.gs_plan.specs.Plans.{graph_of, rate_of, text_of}
use Rattle.gs_plan.specs.declared.plan.Plan.{Plan}
use Rattle.gs_skew.specs.Skews.{potential}
use Rattle.gs_plan.specs.Weights.{weight_in}
use Rattle.gs_script.specs.Script.{Said}
use Rattle.gs_run.specs.Accepted.{AreNumbers}
use Rattle.gs_run.specs.Net.{Net}
use Rattle.gs_run.specs.Nets.{net_of}
use Rattle.gs_run.specs.Run.{Allowed, ends, later_ends}
use Rattle.gs_run.specs.World.{World, clocks_in}
use Rattle.gs_run.proofs.Keeping.{world_at}
use Rattle.gs_run.proofs.Moments.{row_members, whole_run}
use Rattle.gs_run.proofs.PlanNumbers.{level_is, plan_has_numbers}
use Rattle.gs_calendar.specs.Course.{course_of}
use Rattle.gs_calendar.specs.Events.{events_of}
use Rattle.gs_rows.specs.Row.{Row, fast_upto, row_at, rows_of_script, start_from, zeros_of}
use Rattle.gs_rows.specs.Stage.{IsOver, Stage, row_now}
use Rattle.gs_rows.proofs.Keeping.{rows_are}
use Rattle.gs_rows.proofs.Reports.{script_fast}
use Rattle.gs_rows.proofs.Staging.{ends_count}
use Rattle.gs_settle.specs.Plays.{AreInTime, PlaySettles, fast_from_gamma, first_clock, first_clocks, last_above, last_of_level, last_upto, rows_from_gamma}
use Rattle.gs_settle.specs.inside.Running.{AreMarked, marked}
use Rattle.gs_settle.specs.Times.{AreSettled, level_time}
use Rattle.gs_settle.proofs.Holding.{row_settled}

-- ---- one quantum after another

-- after the start
pub first_marked : (p : Plan) (rows : List Row) (t m : ℕ) (row : List ℕ) (old new : List (Option ℕ)) → t ≡ 0 → m ≡ (text_of p).levels + 1
    → old ≡ replicate m None → row ≡ (row_at rows t).clocks → length new ≡ length old → AreMarked p row 0 old new → new ≡ last_upto p rows t
first_marked p rows t m row old new zero_t levels none clocks long marks =
    let f : ℕ → Option ℕ = last_of_level p rows t in
    let n : ℕ = (text_of p).levels + 1 in
    let count = ap (λ (l : List (Option ℕ)). length l) none ∙ length-replicate m None in
    same_lists new (map f (range_with_len 0 n)) (omega (arith, long, count, levels) ∙ sym (length-map-range_with_len f 0 n)) (λ s d inside.
    let hs : s < length old = omega (arith, inside, long) in
    let empty : slice_index_or old s d ≡ None = ap (λ (l : List (Option ℕ)). slice_index_or l s d) none ∙ get_or-replicate m s None d (omega (arith, hs, count)) in
    marks s d hs
    ∙ ap (λ (o : Option ℕ). marked p row 0 s o) empty
    ∙ ap (λ (l : List ℕ). marked p l 0 s None) (clocks ∙ ap (λ (u : ℕ). (row_at rows u).clocks) zero_t)
    ∙ ap (λ (u : ℕ). last_of_level p rows u s) (sym zero_t)
    ∙ sym (get_or-map-range_with_len f 0 n s s d (omega (arith, hs, count, levels)) (omega arith)))

-- after a quantum more
pub more_marked : (p : Plan) (rows : List Row) (t next : ℕ) (row : List ℕ) (old new : List (Option ℕ)) → next ≡ t + 1
    → old ≡ last_upto p rows t → row ≡ (row_at rows next).clocks → length new ≡ length old → AreMarked p row next old new
    → new ≡ last_upto p rows next
more_marked p rows t next row old new is before clocks long marks =
    let f : ℕ → Option ℕ = last_of_level p rows t in
    let g : ℕ → Option ℕ = last_of_level p rows next in
    let n : ℕ = (text_of p).levels + 1 in
    let e : next ≡ suc t = omega (arith, is) in
    let count : length old ≡ n = ap (λ (l : List (Option ℕ)). length l) before ∙ length-map-range_with_len f 0 n in
    same_lists new (map g (range_with_len 0 n)) (omega (arith, long, count) ∙ sym (length-map-range_with_len g 0 n)) (λ s d inside.
    let hs : s < n = omega (arith, inside, long, count) in
    let was : slice_index_or old s d ≡ last_of_level p rows t s =
    ap (λ (l : List (Option ℕ)). slice_index_or l s d) before ∙ get_or-map-range_with_len f 0 n s s d hs (omega arith) in
    marks s d (omega (arith, hs, count))
    ∙ ap (λ (o : Option ℕ). marked p row next s o) was
    ∙ ap (λ (l : List ℕ). marked p l next s (last_of_level p rows t s)) clocks
    ∙ ap (λ (u : ℕ). marked p (row_at rows u).clocks u s (last_of_level p rows t s)) e
    ∙ ap (λ (u : ℕ). last_of_level p rows u s) (sym e)
    ∙ sym (get_or-map-range_with_len g 0 n s s d hs (omega arith)))

pub more_fast : (rows : List Row) (t next fast more new : ℕ) → next ≡ t + 1 → fast ≡ fast_upto rows t → more ≡ (row_at rows next).fast
    → new ≡ fast + more → new ≡ fast_upto rows next
more_fast rows t next fast more new is before row sum =
    let e : next ≡ suc t = omega (arith, is) in
    sum
    ∙ ap (λ (x : ℕ). x + more) before
    ∙ ap (λ (x : ℕ). fast_upto rows t + x) (row ∙ ap (λ (u : ℕ). (row_at rows u).fast) e)
    ∙ ap (λ (u : ℕ). fast_upto rows u) (sym e)

-- ---- a stage of the play

pub row_here : (p : Plan) (said : Said) (gamma : ℕ) (x : Stage) → x.plan ≡ p → x.said ≡ said → x.l0s ≡ first_clocks gamma (graph_of p).nodes
    → row_now x ≡ row_at (rows_from_gamma p said gamma) x.quanta
row_here p said gamma x plan same l0s =
    ap (λ (q : Plan). row_at (rows_of_script q x.said x.l0s) x.quanta) plan
    ∙ ap (λ (r : Said). row_at (rows_of_script p r x.l0s) x.quanta) same
    ∙ ap (λ (l : List ℕ). row_at (rows_of_script p said l) x.quanta) l0s

-- ---- in time

-- what is found is above the bound
last_is : (f : ℕ → ℕ) (bound t u : ℕ) → last_above f bound t ≡ Some u → (bound < f u) × (u ≤ t)
last_is f bound zero u e = pick (nat_lt bound (f 0)) refl e where
  pick : (b : Bool) → nat_lt bound (f 0) ≡ b → (if b then Some 0 else None) ≡ Some u → (bound < f u) × (u ≤ 0)
  pick true above same =
      let at : 0 ≡ u = cc in
      let lt : bound < f 0 = ltb-true bound (f 0) above in
      (subst (λ (x : ℕ). bound < f x) at lt, omega (arith, at))
  pick false above same = absurd (cc)
last_is f bound (suc t) u e = pick (last_is f bound t u) (nat_lt bound (f (suc t))) refl e where
  pick : (last_above f bound t ≡ Some u → (bound < f u) × (u ≤ t)) → (b : Bool) → nat_lt bound (f (suc t)) ≡ b
      → (if b then Some (suc t) else last_above f bound t) ≡ Some u → (bound < f u) × (u ≤ suc t)
  pick rec true above same =
      let at : suc t ≡ u = cc in
      let lt : bound < f (suc t) = ltb-true bound (f (suc t)) above in
      (subst (λ (x : ℕ). bound < f x) at lt, omega (arith, at))
  pick rec false above same = let found = rec same in (found.0, let le = found.1 in omega (arith, le))

-- no clock of the start is above gamma
first_within : (gamma n v : ℕ) → v < n → first_clock gamma n v ≤ gamma
first_within gamma n v h =
    let m : ℕ = max (n - 1) 1 in
    let le : gamma * v ≤ gamma * m = mul-le-mul_left gamma (omega (arith, h)) in
    let turned : gamma * m ≡ m * gamma = mul_comm gamma m in
    div-le_of_le-mul m (omega (arith, le, turned))

pub all_within : (gamma n k : ℕ) (clocks : List ℕ) → k ≤ n → clocks ≡ map (first_clock gamma n) (range_with_len 0 k)
    → All (λ clock. clock ≤ gamma) clocks
all_within gamma n k clocks le is =
    let count : length clocks ≡ k =
    ap (λ (l : List ℕ). length l) is ∙ length-map-range_with_len (first_clock gamma n) 0 k in
    All-from_get_or (λ clock. clock ≤ gamma) clocks 0 (λ v inside.
    let hv : v < k = omega (arith, inside, count) in
    let at : slice_index clocks v ≡ first_clock gamma n v =
    ap (λ (l : List ℕ). slice_index l v) is ∙ get_or-map-range_with_len (first_clock gamma n) 0 k v v 0 hv (omega arith) in
    let small = first_within gamma n v (omega (arith, hv, le)) in
    omega (arith, at, small))

-- From its time on each level holds.
pub play_settles : (p : Plan) (said : Said) (gamma : ℕ)
    → Allowed (net_of p) (start_from (net_of p) (first_clocks gamma (graph_of p).nodes)) (events_of (net_of p) (course_of said))
    → PlaySettles p said gamma
play_settles p said gamma allowed s t ht late =
    let net : Net = net_of p in
    let n : ℕ = (graph_of p).nodes in
    let numbers : AreNumbers net = plan_has_numbers p in
    let clocks : List ℕ = first_clocks gamma n in
    let es : List Event = events_of net (course_of said) in
    let w0 : World = start_from net clocks in
    let total : List World = ends net w0 es in
    let r = whole_run net (slice_index (zeros_of net)) (slice_index clocks) es allowed in
    let long : length (later_ends net w0 es) ≡ said.quanta = ends_count net (course_of said) w0 in
    let at : (v : ℕ) → v < n → slice_index clocks v ≤ gamma = λ v hv.
    let is = get_or-map-range_with_len (first_clock gamma n) 0 n v v 0 hv (omega arith) in
    let small = first_within gamma n v hv in
    omega (arith, is, small) in
    let near : (v w : ℕ) → v < n → w < n → slice_index clocks w ≤ slice_index clocks v + gamma = λ v w hv hw. let b = at w hw in omega (arith, b) in
    let members = row_members numbers r t (omega (arith, ht, long)) in
    let settled : AreSettled net (clocks_in net (world_at total t)) s =
    row_settled gamma numbers r near (world_at total t) t s (omega (arith, ht, long)) late members (λ v hv. refl) in
    subst (λ (l : List ℕ). AreSettled net l s) (sym (rows_are net w0 es t)) settled

pub are_in_time : (p : Plan) (said : Said) (gamma : ℕ)
    → Allowed (net_of p) (start_from (net_of p) (first_clocks gamma (graph_of p).nodes)) (events_of (net_of p) (course_of said))
    → AreInTime p gamma (last_upto p (rows_from_gamma p said gamma) said.quanta)
are_in_time p said gamma allowed = λ s hs.
    let rows : List Row = rows_from_gamma p said gamma in
    let f : ℕ → Option ℕ = last_of_level p rows said.quanta in
    let at = get_or-map-range_with_len f 0 ((text_of p).levels + 1) s s None (omega (arith, hs)) (omega arith) in
    let time : ℕ = level_time (net_of p) gamma s in
    subst (λ (o : Option ℕ). IfSome o (λ t. t < time)) (sym at) (pick s (f s) refl) where
      pick : (s : ℕ) (o : Option ℕ) → last_of_level p (rows_from_gamma p said gamma) said.quanta s ≡ o
          → IfSome o (λ t. t < level_time (net_of p) gamma s)
      pick s None e = tt
      pick s (Some t) e =
          let found = last_is (λ u. potential (weight_in (text_of p) (graph_of p)) (row_at (rows_from_gamma p said gamma) u).clocks s)
          (level_in (text_of p) (graph_of p) s) said.quanta t e in
          elim (cases_lt t (level_time (net_of p) gamma s)) [
            | inl early ↦ early
            | inr late ↦
                let within = (play_settles p said gamma allowed s t found.1 late).level in
                let bound = level_is (text_of p) (graph_of p) (rate_of p) s p.rates in
                let above = found.0 in
                absurd (omega (arith, above, within, bound))
          ]

-- ---- where all is played

pub allowed_here : (p : Plan) (said : Said) (gamma : ℕ) (x : Stage) → x.plan ≡ p → x.said ≡ said → x.l0s ≡ first_clocks gamma (graph_of p).nodes
    → IsOver x → Allowed (net_of p) (start_from (net_of p) (first_clocks gamma (graph_of p).nodes)) (events_of (net_of p) (course_of said))
allowed_here p said gamma x plan same l0s over =
    subst (λ (l : List ℕ). Allowed (net_of p) (start_from (net_of p) l) (events_of (net_of p) (course_of said))) l0s
    (subst (λ (r : Said). Allowed (net_of p) (start_from (net_of p) x.l0s) (events_of (net_of p) (course_of r))) same
    (subst (λ (q : Plan). Allowed (net_of q) (start_from (net_of q) x.l0s) (events_of (net_of q) (course_of x.said))) plan over.allowed))

pub settles_here : (p : Plan) (said : Said) (gamma : ℕ) (x : Stage) → x.plan ≡ p → x.said ≡ said → x.l0s ≡ first_clocks gamma (graph_of p).nodes
    → IsOver x → PlaySettles p said gamma
settles_here p said gamma x plan same l0s over = play_settles p said gamma (allowed_here p said gamma x plan same l0s over)

pub last_here : (p : Plan) (said : Said) (gamma : ℕ) (x : Stage) (last : List (Option ℕ)) → x.said ≡ said → IsOver x
    → last ≡ last_upto p (rows_from_gamma p said gamma) x.quanta → last ≡ last_upto p (rows_from_gamma p said gamma) said.quanta
last_here p said gamma x last same over is =
    is ∙ ap (λ (t : ℕ). last_upto p (rows_from_gamma p said gamma) t) (over.quanta ∙ ap (λ (r : Said). r.quanta) same)

pub fast_here : (p : Plan) (said : Said) (gamma : ℕ) (x : Stage) (fast : ℕ) → x.said ≡ said → IsOver x
    → fast ≡ fast_upto (rows_from_gamma p said gamma) x.quanta → fast ≡ fast_from_gamma p said gamma
fast_here p said gamma x fast same over is =
    is ∙ ap (λ (t : ℕ). fast_upto (rows_from_gamma p said gamma) t) (over.quanta ∙ ap (λ (r : Said). r.quanta) same)
    ∙ script_fast p said (first_clocks gamma (graph_of p).nodes)

pub in_time_here : (p : Plan) (said : Said) (gamma : ℕ) (x : Stage) (last : List (Option ℕ)) → x.plan ≡ p → x.said ≡ said
    → x.l0s ≡ first_clocks gamma (graph_of p).nodes → IsOver x → last ≡ last_upto p (rows_from_gamma p said gamma) x.quanta → AreInTime p gamma last
in_time_here p said gamma x last plan same l0s over is =
    subst (λ (l : List (Option ℕ)). AreInTime p gamma l) (sym (last_here p said gamma x last same over is))
    (are_in_time p said gamma (allowed_here p said gamma x plan same l0s over))
