-- A script that loses no more beacons in a row than its plan allows for has no breach.
use Rattle.std.proofs.Common.{◌≡◌, ℕ, zero, suc, ◌+◌, ◌-◌, ◌*◌, ◌<◌, ◌≤◌, ◌⊎◌, inl, inr, false, arith, ap, sym, refl, ◌∙◌, subst, Some, None, is_some, get_or}
use Rattle.std.proofs.lemmas.Bool.{cases_Bool, cases_eq, cases_lt, lt-leb}
use Rattle.gs_units.proofs.FirstFault.{later_is}
use Rattle.gs_topo.proofs.Nearer.{position_nowhere}
use Rattle.gs_plan.specs.Accepted.{IsAccepted}
use Rattle.gs_plan.specs.Plans.{graph_of, text_of}
use Rattle.gs_plan.specs.declared.plan.Plan.{Plan}
use Rattle.gs_plan.proofs.Telling.{plan_accepted}
use Rattle.gs_run.specs.Accepted.{AreNumbers}
use Rattle.gs_run.specs.Net.{Net, Adjacent, neighbour, neighbours}
use Rattle.gs_run.specs.Nets.{net_of}
use Rattle.gs_run.proofs.Places.{neighbour_is_next}
use Rattle.gs_run.proofs.PlanNumbers.{plan_has_numbers}
use Rattle.gs_calendar.specs.Calendar.{heard_at, sent_at, stale_at, turn}
use Rattle.gs_calendar.specs.Course.{Course, course_of}
use Rattle.gs_calendar.specs.Events.{nodes_of}
use Rattle.gs_calendar.specs.Laws.{FewLossesNeverBreach}
use Rattle.gs_calendar.specs.Losses.{IsLostOn, LosesAtMost}
use Rattle.gs_run.proofs.Bridges.{delay_below}
use Rattle.gs_calendar.proofs.Fitting.{IsCourse, fits}
use Rattle.gs_calendar.proofs.Fresh.{heard_is_later}
use Rattle.gs_calendar.proofs.OnTime.{IsSentAfter, each_sent, sends_some}
use Rattle.gs_calendar.specs.Stale.{breach_among, breach_at, breach_upto, first_stale}
use Rattle.gs_calendar.proofs.Staleness.{script_breach_is}

-- ---- one beacon is not lost

-- a beacon that is sent after quantum a and by quantum b, and is not lost
record IsKeptAfter (net : Net) (c : Course) (from to a b : ℕ) : Type 0 where
  when : ℕ
  seq : ℕ
  after : a < when
  by : when ≤ b
  sent : sent_at net c from when ≡ Some seq
  kept : c.lost from to when ≡ false

-- one of n beacons that were sent one after the other, or all of them are lost
kept_or_lost : (net : Net) (c : Course) (from to a b first : ℕ) → b ≤ c.quanta
    → (n : ℕ) → ((i : ℕ) → i < n → IsSentAfter net c from a b (first + i))
    → IsKeptAfter net c from to a b ⊎ ((i : ℕ) → i < n → IsLostOn net c from to (first + i))
kept_or_lost net c from to a b first short zero sent = inr (λ i less. absurd (omega (arith, less)))
kept_or_lost net c from to a b first short (suc n) sent =
    elim (kept_or_lost net c from to a b first short n (λ i less. sent i (omega (arith, less)))) [
      | inl one ↦ inl one
      | inr lost ↦
          let last : IsSentAfter net c from a b (first + n) = sent n (omega arith) in
          let by = last.by in
          elim (cases_Bool (c.lost from to last.when)) [
            | inl gone ↦ inr (λ i less. elim (cases_eq i n) [
              | inl same ↦ subst (λ (j : ℕ). IsLostOn net c from to (first + j)) (sym same) (last.when, omega (arith, by, short), last.sent, gone)
              | inr other ↦ lost i (omega (arith, less, other))
            ])
            | inr kept ↦ inl (record { when = last.when; seq = first + n; after = last.after; by = by; sent = last.sent; kept = kept })
          ]
    ]

-- in the time that one beacon more than may be lost takes
one_kept : (net : Net) (c : Course) (from to a most : ℕ) → AreNumbers net → IsCourse net c → LosesAtMost net c most → Adjacent net from to
    → a + (most + 1) * (net.every * net.tick) ≤ c.quanta → IsKeptAfter net c from to a (a + (most + 1) * (net.every * net.tick))
one_kept net c from to a most numbers course few near short =
    let time : ℕ = (most + 1) * (net.every * net.tick) in
    let first : ℕ = (turn net c from a).seq + 1 in
    let rises : (turn net c from a).seq + (most + 1) ≤ (turn net c from (a + time)).seq = sends_some net c from a numbers course (most + 1) in
    elim (kept_or_lost net c from to a (a + time) first short (most + 1) (λ i less.
    each_sent net c from a time (first + i) (omega arith) (omega (arith, rises, less)))) [
      | inl one ↦ one
      | inr lost ↦ absurd (few from to first near (λ i le. lost i (omega (arith, le))))
    ]

-- ---- nothing gets too old

-- the greatest age leaves the time for so many lost beacons in a row
abbrev LeavesTime : Net → ℕ → Type 0
LeavesTime net most = (from to : ℕ) → Adjacent net from to → (most + 1) * net.every * net.tick + net.delay_max from to ≤ net.age

is_fresh : (net : Net) (c : Course) (from to most t : ℕ) → AreNumbers net → IsCourse net c → LeavesTime net most → LosesAtMost net c most → Adjacent net from to
    → t < c.quanta → t < (heard_at net c from to t).quantum + net.age
is_fresh net c from to most t numbers course leaves few near short =
    let time : ℕ = (most + 1) * (net.every * net.tick) in
    let late : ℕ = net.delay_max from to in
    let age : time + late ≤ net.age = (let enough = leaves from to near in omega (arith, enough)) in
    elim (cases_lt t (time + late)) [
      | inl early ↦ omega (arith, early, age)
      | inr later ↦
          let a : ℕ = t - late - time in
          let is : a + time + late ≡ t = omega (arith, later) in
          let one = one_kept net c from to a most numbers course few near (omega (arith, is, short)) in
          let by = one.by in
          let after = one.after in
          let delay = course.delay_high from to one.when near in
          let heard = heard_is_later net c from to one.when one.seq t
          (record { some = course.delay_some from to one.when near; by = omega (arith, by, delay, is); sent = one.sent; kept = one.kept }) in
          omega (arith, heard, after, age, is)
    ]

-- ---- so there is no breach

none_stale : (net : Net) (c : Course) (most t v : ℕ) → AreNumbers net → IsCourse net c → LeavesTime net most → LosesAtMost net c most → t < c.quanta → first_stale net c (suc t) v ≡ None
none_stale net c most t v numbers course leaves few short = position_nowhere (λ x. stale_at net c x v (suc t)) (neighbours net v) 0 (λ i inside.
    let x : ℕ = neighbour net v i in
    let near : Adjacent net x v = numbers.both_ways v x (neighbour_is_next net v i inside) in
    lt-leb ((heard_at net c x v t).quantum + net.age) t (is_fresh net c x v most t numbers course leaves few near short))

none_at : (net : Net) (c : Course) (most t : ℕ) → AreNumbers net → IsCourse net c → LeavesTime net most → LosesAtMost net c most → t < c.quanta → breach_at net c (suc t) ≡ None
none_at net c most t numbers course leaves few short =
    ap (breach_among net c (suc t)) (position_nowhere (λ v. is_some (first_stale net c (suc t) v)) (nodes_of net) 0 (λ k inside.
    ap is_some (none_stale net c most t (get_or (nodes_of net) k 0) numbers course leaves few short)))

none_upto : (net : Net) (c : Course) (most : ℕ) → AreNumbers net → IsCourse net c → LeavesTime net most → LosesAtMost net c most → (t : ℕ) → t ≤ c.quanta → breach_upto net c t ≡ None
none_upto net c most numbers course leaves few zero by = refl
none_upto net c most numbers course leaves few (suc t) by =
    later_is (breach_upto net c t) (breach_at net c (suc t)) (none_upto net c most numbers course leaves few t (omega (arith, by)))
    ∙ none_at net c most t numbers course leaves few (omega (arith, by))

-- ---- of every plan

plan_leaves_time : (p : Plan) → LeavesTime (net_of p) (text_of p).losses
plan_leaves_time p from to near =
    let is : IsAccepted (text_of p) (graph_of p) = plan_accepted (text_of p) (graph_of p) p.accepted p.graph in
    let age = is.age in
    let most = delay_below (text_of p) (graph_of p) from to near in
    omega (arith, age, most)

-- every script that loses no more beacons in a row than its plan allows for
pub few_losses : FewLossesNeverBreach
few_losses p s same is few =
    let net : Net = net_of p in
    let c : Course = course_of s in
    let numbers : AreNumbers net = plan_has_numbers p in
    let course : IsCourse net c = fits p s same is in
    script_breach_is net c numbers course
    ∙ none_upto net c (text_of p).losses numbers course (plan_leaves_time p) few c.quanta (omega arith)
