-- A node through its turn.
use Rattle.std.proofs.Common.{◌≡◌, ◌+◌, ◌-◌, ◌*◌, ◌<◌, ◌≤◌, ◌^◌, ℕ, suc, arith, ap, sym, refl, ◌∙◌, subst, List, [], ◌∷◌, Option, Some, None, IfSome, IfNone, Bool, true, nat_le, inl, inr}
use Rattle.std.proofs.lemmas.Bool.{cases_Bool}
use Rattle.gs_beacon.specs.declared.beacon.Beacon.{Beacon}
use Rattle.gs_units.specs.declared.params.NodeParams.{NodeParams}
use Rattle.gs_core.specs.Node.{beacon_of}
use Rattle.gs_run.specs.Net.{Net, params_of}
use Rattle.gs_run.specs.World.{Member, advanced, heard_member}
use Rattle.gs_script.specs.Lasts.{Lasts}
use Rattle.gs_script.specs.declared.run.Run.{Run}
use Rattle.gs_calendar.specs.Calendar.{ticks, turn, sent_at, given_seq}
use Rattle.gs_calendar.specs.Course.{Course}
use Rattle.gs_calendar.proofs.Turns.{last_before}
use Rattle.gs_seat.specs.Alone.{hears, ticks_alone, CanHear, CanTick}
use Rattle.gs_seat.specs.Letters.{Letter, letters_by}
use Rattle.gs_seat.specs.Sleepers.{part_of, reading_at, IsAsleep, IsSetAs}
use Rattle.gs_seat.specs.inside.Turns.{IsTurn}
use Rattle.gs_seat.specs.Worlds.{part_at, part_begun, part_heard, WasSent}
use Rattle.gs_seat.specs.declared.sleeper.Sleeper.{Sleeper}
use Rattle.gs_seat.proofs.Turning.{world_agrees}

-- what is heard leaves the last tick as it is
pub hears_ticked : (p : NodeParams) (bs : List Letter) (m : Member) → (hears p bs m).ticked_at ≡ m.ticked_at
hears_ticked p [] m = refl
hears_ticked p (b ∷ bs) m = hears_ticked p bs (heard_member p b.place b.sent m)

-- one quantum more
one_more : (reading inc at t : ℕ) → at ≤ t → reading + inc * (suc t - at) ≡ reading + inc * (t - at) + inc
one_more reading inc at t le =
    let e : suc t - at ≡ (t - at) + 1 = omega (arith, le) in
    let product : inc * ((t - at) + 1) ≡ inc * (t - at) + inc = omega arith in
    ap (λ (k : ℕ). reading + inc * k) e ∙ omega (arith, product)

-- a node as the quantum has begun
pub asleep_begun : (net : Net) (c : Course) (v t : ℕ) (s : Sleeper) → IsAsleep net c v t s → part_of s (reading_at s (suc t)) ≡ part_begun net c t v
asleep_begun net c v t s is =
    let inc : c.inc v (suc t) ≡ s.inc.value = is.inc.same (suc t) (omega arith) is.inc.here in
    ap (part_of s) (one_more s.reading s.inc.value s.at t is.at)
    ∙ ap (λ (m : Member). advanced m s.inc.value) is.is
    ∙ ap (advanced (part_at net c t v)) (sym inc)

lasts_on : (f : ℕ → ℕ) (t u x : ℕ) → t < u → Lasts f t u x → Lasts f (suc t) u x
lasts_on f t u x more is = record { here = omega (arith, more); same = λ i low high. is.same i (omega (arith, low)) high }

-- what was known of a quantum is known in it
pub known_on : (f : ℕ → ℕ) (t now : ℕ) (old new : Run) → now ≡ suc t → new ≡ old → Lasts f (suc t) old.until old.value → Lasts f now new.until new.value
known_on f t now old new e same is = subst (λ (r : Run). Lasts f now r.until r.value) (sym same) (subst (λ (k : ℕ). Lasts f k old.until old.value) (sym e) is)

-- one to which nothing happened is what it was
pub asleep_on : (net : Net) (c : Course) (v t : ℕ) (s : Sleeper) → IsAsleep net c v t s → suc t < s.inc.until → suc t < s.gap.until
    → part_at net c (suc t) v ≡ part_begun net c t v → IsAsleep net c v (suc t) s
asleep_on net c v t s is inc gap idle = record {
  told = is.told;
  is = asleep_begun net c v t s is ∙ sym idle;
  at = (let at = is.at in omega (arith, at));
  inc = lasts_on (c.inc v) (suc t) s.inc.until s.inc.value inc is.inc;
  gap = lasts_on (c.gap v) (suc t) s.gap.until s.gap.value gap is.gap;
}

-- ---- the steps as the code takes them, in quantum `now` at the reading r

pub begun_as : (net : Net) (c : Course) (v t now r : ℕ) (s : Sleeper) → now ≡ suc t → r ≡ reading_at s now → IsAsleep net c v t s → part_of s r ≡ part_begun net c t v
begun_as net c v t now r s e f is = ap (part_of s) (f ∙ ap (reading_at s) e) ∙ asleep_begun net c v t s is

-- the reading is far from the end
pub begun_few : (net : Net) (c : Course) (v t now : ℕ) (bs : List Letter) (s : Sleeper) → now ≡ suc t → IsTurn net c t v bs → IsAsleep net c v t s → reading_at s now < 2 ^ 62
begun_few net c v t now bs s e turn is =
    let same : reading_at s now ≡ (part_begun net c t v).reading = ap (λ (m : Member). m.reading) (begun_as net c v t now (reading_at s now) s e refl is) in
    let few = turn.can_read.few in
    omega (arith, same, few)

pub may_hear : (net : Net) (c : Course) (v t now r : ℕ) (bs : List Letter) (s : Sleeper) → now ≡ suc t → r ≡ reading_at s now → IsTurn net c t v (letters_by (suc t) bs)
    → IsAsleep net c v t s → CanHear s.core.params (letters_by now bs) (part_of s r)
may_hear net c v t now r bs s e f turn is =
    subst (λ (k : ℕ). CanHear s.core.params (letters_by k bs) (part_of s r)) (sym e)
    (subst (λ (q : NodeParams). CanHear q (letters_by (suc t) bs) (part_of s r)) (sym is.told)
    (subst (λ (m : Member). CanHear (params_of net v) (letters_by (suc t) bs) m) (sym (begun_as net c v t now r s e f is)) turn.can_hear))

-- once all was heard
pub record HasHeard (net : Net) (c : Course) (v t now r : ℕ) (bs : List Letter) (s : Sleeper) : Type 0 where
  pub now_is : now ≡ suc t
  pub turn : IsTurn net c t v (letters_by (suc t) bs)
  pub told : s.core.params ≡ params_of net v
  pub part : part_of s r ≡ part_heard net c t v (letters_by (suc t) bs)
  pub gap : c.gap v (suc t) ≡ s.gap.value

pub has_heard : (net : Net) (c : Course) (v t now r : ℕ) (bs : List Letter) (s0 s1 : Sleeper) → now ≡ suc t → r ≡ reading_at s0 now → IsTurn net c t v (letters_by (suc t) bs)
    → IsAsleep net c v t s0 → part_of s1 r ≡ hears s0.core.params (letters_by now bs) (part_of s0 r) → IsSetAs s0 s1 → HasHeard net c v t now r bs s1
has_heard net c v t now r bs s0 s1 e f turn is heard set =
    let due : List Letter = letters_by (suc t) bs in
    record {
      now_is = e;
      turn = turn;
      told = set.told ∙ is.told;
      part = heard
          ∙ ap (λ (k : ℕ). hears s0.core.params (letters_by k bs) (part_of s0 r)) e
          ∙ ap (hears s0.core.params due) (begun_as net c v t now r s0 e f is)
          ∙ ap (λ (p : NodeParams). hears p due (part_begun net c t v)) is.told;
      gap = is.gap.same (suc t) (omega arith) is.gap.here ∙ ap (λ (g : Run). g.value) (sym set.gap);
    }

heard_last : (net : Net) (c : Course) (v t now r : ℕ) (bs : List Letter) (s : Sleeper) → HasHeard net c v t now r bs s → s.ticked ≡ (part_at net c t v).ticked_at
heard_last net c v t now r bs s h = ap (λ (m : Member). m.ticked_at) h.part ∙ hears_ticked (params_of net v) (letters_by (suc t) bs) (part_begun net c t v)

pub ticked_before : (net : Net) (c : Course) (v t now r : ℕ) (bs : List Letter) (s : Sleeper) → v < net.nodes → HasHeard net c v t now r bs s → s.ticked ≤ now
ticked_before net c v t now r bs s hv h =
    let last = heard_last net c v t now r bs s h in
    let agrees = ((world_agrees net c t).each v hv).last in
    let before = last_before net c v t in
    let e = h.now_is in
    omega (arith, last, agrees, before, e)

pub may_tick : (net : Net) (c : Course) (v t now r : ℕ) (bs : List Letter) (s : Sleeper) → HasHeard net c v t now r bs s → CanTick s.core.params (part_of s r)
may_tick net c v t now r bs s h =
    subst (λ (q : NodeParams). CanTick q (part_of s r)) (sym h.told) (subst (λ (m : Member). CanTick (params_of net v) m) (sym h.part) h.turn.can_tick)

-- whether it ticks is what the calendar says
ticks_as : (net : Net) (c : Course) (v t now r : ℕ) (bs : List Letter) (s : Sleeper) → HasHeard net c v t now r bs s → nat_le s.gap.value (now - s.ticked) ≡ ticks net c v (suc t)
ticks_as net c v t now r bs s h =
    ap (λ (k : ℕ). nat_le s.gap.value (k - s.ticked)) h.now_is
    ∙ ap (λ (l : ℕ). nat_le s.gap.value (suc t - l)) (heard_last net c v t now r bs s h)
    ∙ ap (λ (g : ℕ). nat_le g (suc t - (part_at net c t v).ticked_at)) (sym h.gap)
    ∙ sym h.turn.ticks_is

beacon_as : (net : Net) (c : Course) (v t now r : ℕ) (bs : List Letter) (s : Sleeper) → HasHeard net c v t now r bs s
    → (let m : Member = part_heard net c t v (letters_by (suc t) bs) in beacon_of (params_of net v) m.node m.reading) ≡ beacon_of s.core.params s.core.node r
beacon_as net c v t now r bs s h =
    ap (λ (m : Member). beacon_of (params_of net v) m.node m.reading) (sym h.part) ∙ ap (λ (q : NodeParams). beacon_of q s.core.node r) (sym h.told)

-- what the tick gives is sent
pub gives_as : (net : Net) (c : Course) (v t now r : ℕ) (bs : List Letter) (s : Sleeper) (o : Option Beacon) → HasHeard net c v t now r bs s
    → IfSome o (λ b. (nat_le s.gap.value (now - s.ticked) ≡ true) × (beacon_of s.core.params s.core.node r ≡ Some b))
    → IfSome o (λ b. WasSent net c v (suc t) (record { quantum = suc t; beacon = b }))
gives_as net c v t now r bs s None h g = tt
gives_as net c v t now r bs s (Some b) h g = h.turn.gives b (sym (ticks_as net c v t now r bs s h) ∙ g.0) (beacon_as net c v t now r bs s h ∙ g.1)

none_as : (net : Net) (c : Course) (v t now r : ℕ) (bs : List Letter) (s : Sleeper) → HasHeard net c v t now r bs s
    → (nat_le s.gap.value (now - s.ticked) ≡ true → beacon_of s.core.params s.core.node r ≡ None) → sent_at net c v (suc t) ≡ None
none_as net c v t now r bs s h g = elim (cases_Bool (ticks net c v (suc t))) [
  | inl yes_ticks ↦ h.turn.none yes_ticks (beacon_as net c v t now r bs s h ∙ g (ticks_as net c v t now r bs s h ∙ yes_ticks))
  | inr none ↦ ap (λ (x : Bool). given_seq x net.every (turn net c v t)) none
]

pub sends_none : (net : Net) (c : Course) (v t now r : ℕ) (bs : List Letter) (s : Sleeper) (o : Option Beacon) → HasHeard net c v t now r bs s
    → IfNone o (nat_le s.gap.value (now - s.ticked) ≡ true → beacon_of s.core.params s.core.node r ≡ None) → IfNone o (sent_at net c v (suc t) ≡ None)
sends_none net c v t now r bs s None h g = none_as net c v t now r bs s h g
sends_none net c v t now r bs s (Some b) h g = tt

-- after the tick, if one comes, and with what is known ahead
pub record IsSettled (c : Course) (v now r : ℕ) (s1 s2 s3 : Sleeper) : Type 0 where
  pub ticked : part_of s2 r ≡ ticks_alone s1.core.params now (nat_le s1.gap.value (now - s1.ticked)) (part_of s1 r)
  pub set : IsSetAs s1 s2
  pub inc : Lasts (c.inc v) (suc now) s3.inc.until s3.inc.value
  pub gap : Lasts (c.gap v) (suc now) s3.gap.until s3.gap.value
  pub same : s3 ≡ record s2 { reading = r; at = now; inc = s3.inc; gap = s3.gap }

pub settled : (net : Net) (c : Course) (v t now r : ℕ) (bs : List Letter) (s1 s2 s3 : Sleeper) → HasHeard net c v t now r bs s1 → IsSettled c v now r s1 s2 s3 → IsAsleep net c v (suc t) s3
settled net c v t now r bs s1 s2 s3 h is =
    let p : NodeParams = params_of net v in
    let e = h.now_is in
    let done : part_of s2 r ≡ part_at net c (suc t) v =
    is.ticked
    ∙ ap (λ (q : NodeParams). ticks_alone q now (nat_le s1.gap.value (now - s1.ticked)) (part_of s1 r)) h.told
    ∙ ap (λ (x : Bool). ticks_alone p now x (part_of s1 r)) (ticks_as net c v t now r bs s1 h)
    ∙ ap (ticks_alone p now (ticks net c v (suc t))) h.part
    ∙ ap (λ (n : ℕ). ticks_alone p n (ticks net c v (suc t)) (part_heard net c t v (letters_by (suc t) bs))) e
    ∙ sym h.turn.is in
    let reading : s3.reading ≡ r = ap (λ (s : Sleeper). s.reading) is.same in
    let at : s3.at ≡ now = ap (λ (s : Sleeper). s.at) is.same in
    let none : suc t - s3.at ≡ 0 = omega (arith, at, e) in
    let product : s3.inc.value * 0 ≡ 0 = omega arith in
    let here : reading_at s3 (suc t) ≡ r = ap (λ (k : ℕ). s3.reading + s3.inc.value * k) none ∙ omega (arith, product, reading) in
    record {
      told = ap (λ (s : Sleeper). s.core.params) is.same ∙ is.set.told ∙ h.told;
      is = ap (part_of s3) here ∙ ap (λ (s : Sleeper). part_of s r) is.same ∙ done;
      at = omega (arith, at, e);
      inc = subst (λ (k : ℕ). Lasts (c.inc v) (suc k) s3.inc.until s3.inc.value) e is.inc;
      gap = subst (λ (k : ℕ). Lasts (c.gap v) (suc k) s3.gap.until s3.gap.value) e is.gap;
    }
