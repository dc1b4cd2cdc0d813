-- A seat that sleeps: a quantum below its wake-up does nothing but add.
use Rattle.std.proofs.Common.{◌≡◌, ◌+◌, ◌-◌, ◌<◌, ◌≤◌, ℕ, suc, arith, ap, sym, refl, ◌∙◌, List, [], ◌∷◌, false, nat_le}
use Rattle.std.proofs.lemmas.Bool.{lt-leb}
use Rattle.gs_run.specs.Net.{Net}
use Rattle.gs_run.specs.World.{World, Member, member}
use Rattle.gs_run.specs.Accepted.{AreNumbers}
use Rattle.gs_calendar.specs.Calendar.{ticks, turn}
use Rattle.gs_calendar.specs.Course.{Course}
use Rattle.gs_calendar.specs.Due.{due_by}
use Rattle.gs_calendar.specs.Events.{deliveries_to}
use Rattle.gs_calendar.specs.inside.Feeds.{deliver_all}
use Rattle.gs_calendar.proofs.Fitting.{IsCourse}
use Rattle.gs_calendar.proofs.Turns.{last_before}
use Rattle.gs_seat.specs.Alone.{alone}
use Rattle.gs_seat.specs.Letters.{Letter, keys, first_due}
use Rattle.gs_seat.specs.Sleepers.{IsAsleep}
use Rattle.gs_seat.specs.Worlds.{world_of, part_at, part_begun}
use Rattle.gs_seat.specs.declared.sleeper.Sleeper.{Sleeper}
use Rattle.gs_seat.proofs.Alone.{idle_quantum}
use Rattle.gs_seat.proofs.Held.{held_due}
use Rattle.gs_seat.proofs.Turning.{IsReady, slow, world_agrees, next_world}

-- nothing is due before the first is
pub none_due : (t most : ℕ) (bs : List Letter) → t < first_due most bs → due_by t (keys bs) ≡ []
none_due t most [] less = refl
none_due t most (b ∷ bs) less = let later : nat_le b.due t ≡ false = lt-leb b.due t (omega (arith, less)) in rw later refl

pub first_by : (most : ℕ) (bs : List Letter) → first_due most bs ≤ most
first_by most [] = omega arith
first_by most (b ∷ bs) = omega arith

-- nor does the node tick before its gap is over
pub no_tick : (net : Net) (c : Course) (v t : ℕ) (s : Sleeper) → v < net.nodes → IsAsleep net c v t s → suc t < s.ticked + s.gap.value → ticks net c v (suc t) ≡ false
no_tick net c v t s hv is less =
    let gap : c.gap v (suc t) ≡ s.gap.value = is.gap.same (suc t) (omega arith) is.gap.here in
    let ticked : s.ticked ≡ (part_at net c t v).ticked_at = ap (λ (m : Member). m.ticked_at) is.is in
    let last = ((world_agrees net c t).each v hv).last in
    let before = last_before net c v t in
    lt-leb (c.gap v (suc t)) (suc t - (turn net c v t).last) (omega (arith, gap, less, ticked, last, before))

-- so the quantum only adds
pub idle_is : (net : Net) (c : Course) (v t most : ℕ) (by : ℕ → ℕ) (s : Sleeper) (bs : List Letter) → AreNumbers net → IsCourse net c → v < net.nodes
    → IsAsleep net c v t s → IsReady net c v t by bs → suc t < s.ticked + s.gap.value → suc t < first_due most bs → part_at net c (suc t) v ≡ part_begun net c t v
idle_is net c v t most by s bs numbers course hv is ready still none =
    let w : World = world_of net c t in
    let h = world_agrees net c t in
    let now : w.quanta + 1 ≡ suc t = (let n = h.quanta in omega (arith, n)) in
    let come : deliveries_to net c (suc t) v ≡ [] =
    sym (held_due net c v t by (keys bs) (slow net c v numbers course) ready.before ready.late ready.held) ∙ ap (deliver_all v) (none_due (suc t) most bs none) in
    ap (λ (z : World). alone (member z v)) (next_world net c t)
    ∙ idle_quantum net c (suc t) w v now h.count hv come (no_tick net c v t s hv is still)
