-- How far clocks move apart in one quantum of a script.
use Rattle.std.proofs.Common.{◌≡◌, ℕ, zero, suc, ◌+◌, ◌-◌, ◌*◌, ◌^◌, ◌<◌, ◌≤◌, arith, ap, sym, refl, ◌∙◌, subst, inl, inr, List, [], ◌∷◌, length, get_or, slice_index, nat_eq, Bool, true, false, cond, filter, None, if◌then◌else◌}
use Rattle.std.proofs.lemmas.Bool.{cases_Bool, cases_eq, eq-eqb, false_from_ne_true, ne_eqb}
use Rattle.gs_core.specs.Node.{clock_of}
use Rattle.gs_units.specs.Growth.{IsIncrement}
use Rattle.gs_units.specs.Rates.{drift_of, r_of, top_of}
use Rattle.gs_units.specs.declared.rate.Rate.{Rate}
use Rattle.gs_units.specs.declared.rate.Mode.{Mode}
use Rattle.gs_units.specs.declared.rate.Mode.TheVariants.{Slow, Fast}
use Rattle.gs_plan.specs.declared.plan.Plan.{Plan}
use Rattle.gs_script.specs.Script.{Said}
use Rattle.gs_run.specs.Fast.{fast_in, is_fast}
use Rattle.gs_run.specs.Net.{Net}
use Rattle.gs_run.specs.Nets.{net_of}
use Rattle.gs_run.specs.World.{Member, World, clock_in, clocks_in, member, nobody}
use Rattle.gs_run.proofs.PlanNumbers.{plan_has_numbers}
use Rattle.gs_run.proofs.Rows.{SteersBy, steers_by}
use Rattle.gs_run.proofs.Theorems.{clock_at as clock_in_row}
use Rattle.gs_calendar.specs.Course.{Course, course_of}
use Rattle.gs_calendar.specs.Stale.{breach_upto}
use Rattle.gs_lookout.specs.Lookouts.{HasGrown}
use Rattle.gs_seat.specs.Worlds.{world_of}
use Rattle.gs_seat.proofs.Clocks.{next_clock}
use Rattle.gs_seat.proofs.Aging.{none_before}
use Rattle.gs_seat.proofs.Reading.{course_is}
use Rattle.gs_seat.proofs.Turning.{known_at, world_agrees}
use Rattle.gs_play.specs.inside.Apart.{most_apart}
use Rattle.gs_play.specs.inside.Totals.{IsCalm}
use Rattle.gs_play.proofs.Counted.{row_count}

-- what has no breach by a quantum has none by an earlier one
pub calm_earlier : (p : Plan) (s : Said) (m n j : ℕ) → j ≤ n → IsCalm p s (m + n) → IsCalm p s (m + j)
calm_earlier p s m n j le is = record {
  read = is.read;
  end = (let end = is.end in omega (arith, end, le));
  calm = (let whole : m + n ≡ m + j + (n - j) = omega (arith, le) in
      back (m + j) (n - j) (subst (λ (u : ℕ). breach_upto (net_of p) (course_of s) u ≡ None) whole is.calm));
}
  where
    back : (t k : ℕ) → breach_upto (net_of p) (course_of s) (t + k) ≡ None → breach_upto (net_of p) (course_of s) t ≡ None
    back t zero none = let same : t + zero ≡ t = omega arith in subst (λ (u : ℕ). breach_upto (net_of p) (course_of s) u ≡ None) same none
    back t (suc k) none = let same : t + suc k ≡ suc (t + k) = omega arith in
        back t k (none_before (net_of p) (course_of s) (t + k) (subst (λ (u : ℕ). breach_upto (net_of p) (course_of s) u ≡ None) same none))

-- where none passes a test, each fails it
none_passes : {A : Type 0} (test : A → Bool) (xs : List A) (k : ℕ) (d : A) → length (filter test xs) ≡ 0 → k < length xs → test (get_or xs k d) ≡ false
none_passes test [] k d none h = absurd (omega (arith, h))
none_passes test (x ∷ xs) zero d none h = false_from_ne_true (test x) (λ passes.
    let some : length (cond true (x ∷ filter test xs) (filter test xs)) ≡ 0 = subst (λ (b : Bool). length (cond b (x ∷ filter test xs) (filter test xs)) ≡ 0) passes none in
    omega (arith, some))
none_passes test (x ∷ xs) (suc k) d none h = elim (cases_Bool (test x)) [
  | inl passes ↦ (let some : length (cond true (x ∷ filter test xs) (filter test xs)) ≡ 0 = subst (λ (b : Bool). length (cond b (x ∷ filter test xs) (filter test xs)) ≡ 0) passes none in
      absurd (omega (arith, some)))
  | inr fails ↦ none_passes test xs k d (subst (λ (b : Bool). length (cond b (x ∷ filter test xs) (filter test xs)) ≡ 0) fails none) (omega (arith, h))
]

not_fast : (mode : Mode) → is_fast mode ≡ false → mode ≡ Slow
not_fast Slow e = refl
not_fast Fast e = absurd (cc)

-- what a quantum adds to each clock
steered : (p : Plan) (s : Said) (t v : ℕ) → IsCalm p s t → v < (net_of p).nodes
    → SteersBy (net_of p) (member (world_of (net_of p) (course_of s) t) v).node.mode (clock_in (net_of p) (world_of (net_of p) (course_of s) t) v) (clock_in (net_of p) (world_of (net_of p) (course_of s) (suc t)) v)
steered p s t v is hv =
    let net : Net = net_of p in
    let c : Course = course_of s in
    let m : Member = member (world_of net c t) v in
    let course = course_is p s is.read in
    let few = is.read.bounds.quanta in
    let end = is.end in
    let known = known_at net c t (plan_has_numbers p) course (omega (arith, few, end)) is.calm in
    subst (SteersBy net m.node.mode (clock_in net (world_of net c t) v)) (sym (next_clock net c t v hv))
    (steers_by net m.node.mode m.node.l m.node.at m.reading (m.reading + c.inc v (suc t)) (c.inc v (suc t)) (course.inc_low v (suc t), course.inc_high v (suc t)) (known.at v hv) refl)

pub has_grown : (p : Plan) (s : Said) (t fast : ℕ) → IsCalm p s t → fast ≡ fast_in (world_of (net_of p) (course_of s) t)
    → HasGrown (most_apart (net_of p).rate fast) (clocks_in (net_of p) (world_of (net_of p) (course_of s) t)) (clocks_in (net_of p) (world_of (net_of p) (course_of s) (suc t)))
has_grown p s t fast is counted =
    let net : Net = net_of p in
    let c : Course = course_of s in
    let w : World = world_of net c t in
    let now = row_count net c t in
    let next = row_count net c (suc t) in
    let many = (world_agrees net c t).count in
    let more = (world_agrees net c (suc t)).count in
    record {
      places = omega (arith, now, next);
      apart = λ x y hx hy.
          let ix : x < net.nodes = omega (arith, hx, next) in
          let iy : y < net.nodes = omega (arith, hy, next) in
          let a = steered p s t x is ix in
          let b = steered p s t y is iy in
          let least = a.least in
          let most = b.most in
          let old_x = clock_in_row net w x (omega (arith, ix, many)) in
          let old_y = clock_in_row net w y (omega (arith, iy, many)) in
          let new_x = clock_in_row net (world_of net c (suc t)) x (omega (arith, ix, more)) in
          let new_y = clock_in_row net (world_of net c (suc t)) y (omega (arith, iy, more)) in
          elim (cases_eq fast 0) [
            | inl none ↦ (let by : most_apart net.rate fast ≡ r_of net.rate = ap (λ (z : Bool). if z then r_of net.rate else drift_of net.rate) (eq-eqb fast 0 none) in
                let slow = b.slow (not_fast (member w y).node.mode (none_passes (λ (m : Member). is_fast m.node.mode) w.members y nobody (sym counted ∙ none) (omega (arith, iy, many)))) in
                omega (arith, by, slow, least, old_x, old_y, new_x, new_y))
            | inr some ↦ (let by : most_apart net.rate fast ≡ drift_of net.rate = ap (λ (z : Bool). if z then r_of net.rate else drift_of net.rate) (ne_eqb fast 0 some) in
                omega (arith, by, most, least, old_x, old_y, new_x, new_y))
          ];
    }

-- so with the row and the count as the code has them
pub grown_row : (p : Plan) (s : Said) (t fast : ℕ) (rate : Rate) (by : ℕ) (row : List ℕ) → IsCalm p s t → fast ≡ fast_in (world_of (net_of p) (course_of s) t)
    → rate ≡ (net_of p).rate → by ≡ most_apart rate fast → row ≡ clocks_in (net_of p) (world_of (net_of p) (course_of s) (suc t))
    → HasGrown by (clocks_in (net_of p) (world_of (net_of p) (course_of s) t)) row
grown_row p s t fast rate by row is counted same most now = rw (most, same, now) (has_grown p s t fast is counted)
