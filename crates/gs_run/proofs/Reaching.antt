-- What is known of every world that allowed events lead to.
use Rattle.std.proofs.Common.{◌≡◌, ◌≢◌, ℕ, zero, suc, ◌+◌, ◌-◌, ◌<◌, ◌≤◌, ◌^◌, arith, ap, sym, ◌∙◌, refl, List, [], ◌∷◌, ◌++◌, length, slice_get, slice_index_or, ◌==◌, inl, inr, true, false, Option, Some, None, subst}
use Rattle.std.specs.List.{find}
use Rattle.std.proofs.lemmas.Bool.{cases_lt, eq-eqb, ne_eqb}
use Rattle.std.proofs.lemmas.List.Folds.{find_at}
use Rattle.std.proofs.lemmas.List.Sums.{position_or_len_is}
use Rattle.gs_core.specs.Steps.{tick_fault, deliver_fault}
use Rattle.gs_core.specs.declared.event.Event.{Event}
use Rattle.gs_core.specs.declared.event.Event.TheVariants.{Deliver}
use Rattle.gs_run.specs.Net.{Net, params_of, neighbours}
use Rattle.gs_run.specs.World.{World, Sent, member, sent_by, effect, world_from}
use Rattle.gs_run.specs.Why.{why}
use Rattle.gs_run.specs.Run.{run, Allowed, later_ends}
use Rattle.gs_run.specs.Budget.{Watched, decision}
use Rattle.gs_run.specs.Accepted.{AreNumbers, IsSmall}
use Rattle.gs_run.specs.Reach.{IsReachable}
use Rattle.gs_run.proofs.Keeping.{Holds, arrives, run_watched}
use Rattle.gs_run.proofs.Dates.{AreNumbered}
use Rattle.gs_run.proofs.Moments.{start, Dated, DatedInside, whole_run, run_of_watched, last_moment}
use Rattle.gs_run.proofs.Safe.{AreFar, run_is_far, few_quanta, IsShort, member_is_short, tick_has_no_fault, delivery_has_no_fault}

-- ---- the start, and one more event

pub start_is_reachable : (net : Net) (hw clocks : ℕ → ℕ) → IsSmall net hw clocks
    → IsReachable net (world_from net hw clocks)
start_is_reachable net hw clocks small =
    record { hw = hw; clocks = clocks; events = []; small = small; allowed = tt; is = refl }

run_append : (net : Net) (w : World) (es : List Event) (e : Event)
    → run net w (es ++ e ∷ []) ≡ effect net (run net w es) e
run_append net w [] e = refl
run_append net w (x ∷ es) e = run_append net (effect net w x) es e

allowed_append : (net : Net) (w : World) (es : List Event) (e : Event) → Allowed net w es
    → why net (run net w es) e ≡ None → Allowed net w (es ++ e ∷ [])
allowed_append net w [] e a none = (none, tt)
allowed_append net w (x ∷ es) e a none = (a.0, allowed_append net (effect net w x) es e a.1 none)

pub step_is_reachable : (net : Net) (w : World) (e : Event) → IsReachable net w → why net w e ≡ None
    → IsReachable net (effect net w e)
step_is_reachable net w e r none = record {
  hw = r.hw;
  clocks = r.clocks;
  events = r.events ++ e ∷ [];
  small = r.small;
  allowed =
      let P : World → Type 0 = λ z. why net z e ≡ None in
      allowed_append net (world_from net r.hw r.clocks) r.events e r.allowed (subst P r.is none);
  is = ap (λ (z : World). effect net z e) r.is ∙ sym (run_append net (world_from net r.hw r.clocks) r.events e);
}

-- ---- what is known of a reachable world

pub record IsKnown (net : Net) (w : World) : Type 0 where
  pub members : length w.members ≡ net.nodes
  pub few : w.quanta ≤ 2 ^ 24
  pub short : (v : ℕ) → v < net.nodes → IsShort net (member w v)
  pub at : (v : ℕ) → v < net.nodes → (member w v).node.at ≤ (member w v).reading
  pub last : (v : ℕ) → v < net.nodes → (member w v).node.last ≤ (member w v).reading
  pub entries : (v : ℕ) → v < net.nodes → length (member w v).node.entries ≡ length (neighbours net v)
  pub heard : (v : ℕ) → v < net.nodes → length (member w v).heard ≡ length (neighbours net v)
  pub numbered : (v : ℕ) → v < net.nodes → AreNumbered (member w v).node.seq (member w v).sent
  pub no_fault : (from to seq : ℕ) → why net w (Deliver from to seq) ≡ None → (s : Sent) → sent_by w from seq ≡ Some s
      → deliver_fault (params_of net to) (member w to).node s.beacon (member w to).reading ≡ None

-- what holds at a moment of a run is known of its world
moment_is_known : {net : Net} {total : List World} {last : ℕ} → AreNumbers net → AreFar net total last → last ≤ 2 ^ 24
    → (x : Watched) → Holds net (DatedInside net total last) x → IsKnown net x.world
moment_is_known {net} {total} {last} numbers far few x h =
    let inside : x.world.quanta ≤ last = (h.each 0 numbers.some).0 in
    let dated : Holds net (Dated net total) x =
    record { members = h.members; decided = h.decided; each = λ v hv. (h.each v hv).1 } in
    record {
      members = h.members;
      few = omega (arith, inside, few);
      short = λ v hv.
          member_is_short far x.world.quanta v (member x.world v) (decision x v) inside hv (dated.each v hv);
      at = λ v hv. (dated.each v hv).current.at;
      last = λ v hv. (dated.each v hv).last;
      entries = λ v hv. (dated.each v hv).entries;
      heard = λ v hv. (dated.each v hv).heard;
      numbered = λ v hv. (dated.each v hv).numbered;
      no_fault = λ from to seq none s found.
          let a = arrives net x.world from to seq none in
          let same : a.1 ≡ s = same_sent a.1 s (sent_by x.world from seq) a.2.found found in
          let P : Sent → Type 0 =
          λ z. deliver_fault (params_of net to) (member x.world to).node z.beacon (member x.world to).reading ≡ None in
          subst P same (delivery_has_no_fault numbers far x inside dated from to seq a.0 a.1 a.2);
    }
  where
    same_sent : (a b : Sent) (o : Option Sent) → o ≡ Some a → o ≡ Some b → a ≡ b
    same_sent a b o p q = let e : Some a ≡ Some b = sym p ∙ q in cc

pub reachable_is_known : (net : Net) (w : World) → AreNumbers net → IsReachable net w → IsKnown net w
reachable_is_known net w numbers r =
    let last : ℕ = length (later_ends net (world_from net r.hw r.clocks) r.events) in
    let k = whole_run net r.hw r.clocks r.events r.allowed in
    let x : Watched = run_watched net (start net r.hw r.clocks) r.events in
    let known : IsKnown net x.world =
    moment_is_known numbers (run_is_far numbers r.small k) (few_quanta last numbers k) x (last_moment numbers k) in
    subst (λ (z : World). IsKnown net z) (run_of_watched net (start net r.hw r.clocks) r.events ∙ sym r.is) known

-- a tick has no fault while the own sequence has room
pub known_tick : (net : Net) (w : World) (v : ℕ) → IsKnown net w → v < net.nodes
    → length (member w v).sent < 2 ^ 64 - 1
    → tick_fault (params_of net v) (member w v).node (member w v).reading ≡ None
known_tick net w v k hv room =
    let count = (k.numbered v hv).count in
    tick_has_no_fault net v (member w v) (k.short v hv) (k.last v hv) (omega (arith, count, room))

-- ---- a beacon by its number

abbrev no_sent : Sent
no_sent = record { quantum = 0; beacon = record { cluster = 0; sender = 0; seq = 0; l = 0; m = 0 } }

slice_get-past : (xs : List Sent) (i : ℕ) → length xs ≤ i → slice_get xs i ≡ None
slice_get-past [] i le = refl
slice_get-past (x ∷ xs) zero le = absurd (omega arith)
slice_get-past (x ∷ xs) (suc i) le = slice_get-past xs i (omega arith)

-- what is found at the first place that passes
found_at : (seq place : ℕ) (sent : List Sent) → place ≤ length sent
    → ((k : ℕ) → k < place → ((slice_index_or sent k no_sent).beacon.seq == seq) ≡ false)
    → (place < length sent → ((slice_index_or sent place no_sent).beacon.seq == seq) ≡ true)
    → find (λ s. s.beacon.seq == seq) sent ≡ slice_get sent place
found_at seq place sent le others this =
    let first = position_or_len_is (λ s. s.beacon.seq == seq) sent place no_sent le others this in
    find_at (λ s. s.beacon.seq == seq) sent ∙ ap (λ (i : ℕ). slice_get sent i) first

-- No beacon has a number that was not given yet.
none_has : (seq own : ℕ) (sent : List Sent) → AreNumbered own sent
    → ((k : ℕ) → k < length sent → k + 1 ≢ seq) → find (λ s. s.beacon.seq == seq) sent ≡ None
none_has seq own sent n other =
    found_at seq (length sent) sent (omega arith)
    (λ k hk. let e = n.each k no_sent hk in ne_eqb _ seq (λ same. other k hk (sym e ∙ same))) (λ h. absurd (omega arith))
    ∙ slice_get-past sent (length sent) (omega arith)

pub none_has_zero : (own : ℕ) (sent : List Sent) → AreNumbered own sent → find (λ s. s.beacon.seq == 0) sent ≡ None
none_has_zero own sent n = none_has 0 own sent n (λ k hk e. absurd (omega (arith, e)))

-- The beacon with a number stands one place before it.
pub found_by_number : (seq own : ℕ) (sent : List Sent) → AreNumbered own sent → 1 ≤ seq
    → find (λ s. s.beacon.seq == seq) sent ≡ slice_get sent (seq - 1)
found_by_number seq own sent n one = elim (cases_lt (seq - 1) (length sent)) [
  | inr past ↦
      none_has seq own sent n (λ k hk e. absurd (omega (arith, e, hk, past)))
      ∙ sym (slice_get-past sent (seq - 1) past)
  | inl inside ↦
      found_at seq (seq - 1) sent (omega (arith, inside))
      (λ k hk.
      let e = n.each k no_sent (omega (arith, hk, inside)) in
      ne_eqb _ seq (λ same. absurd (omega (arith, same, e, hk, one))))
      (λ h. let e = n.each (seq - 1) no_sent inside in eq-eqb _ seq (omega (arith, e, one)))
]
