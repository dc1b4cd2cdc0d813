-- A replay is made one event at a time.
use Rattle.std.proofs.Common.{◌≡◌, ◌∙◌, ap, refl, ℕ, ◌+◌, arith, List, [], ◌∷◌, ◌++◌, length, Option, Some, None}
use Rattle.gs_core.specs.Node.{Node}
use Rattle.gs_core.specs.Steps.{Reply, Replayed, Whole, Stopped, fault_of, after, reply_of, answering, unless_fault, replay}
use Rattle.gs_core.specs.Replays.{ReplayGoesOn, StoppedStays}
use Rattle.gs_core.specs.declared.reply.CoreFault.{CoreFault}

-- one reply goes before those of a replay that goes on with one more event
answering-unless : (reply : Reply) (fault : Option CoreFault) (i : ℕ) (n : Node) (replies : List Reply)
    → answering reply (unless_fault fault i (Whole n replies)) ≡ unless_fault fault i (Whole n (reply ∷ replies))
answering-unless reply (Some fault) i n replies = refl
answering-unless reply None i n replies = refl

-- what goes on behind the first event goes on behind all
first_goes_on : (first : Option CoreFault) (reply : Reply) (i k : ℕ) (old new : Replayed) (m m' : Node) (replies : List Reply)
    (fault : Option CoreFault) (last : Reply)
    → ((rest : List Reply) → old ≡ Whole m rest → new ≡ unless_fault fault k (Whole m' (rest ++ last ∷ [])))
    → unless_fault first i (answering reply old) ≡ Whole m replies
    → unless_fault first i (answering reply new) ≡ unless_fault fault k (Whole m' (replies ++ last ∷ []))
first_goes_on (Some f) reply i k old new m m' replies fault last rest whole = absurd (cc)
first_goes_on None reply i k (Stopped place f) new m m' replies fault last rest whole = absurd (cc)
first_goes_on None reply i k (Whole n told) new m m' replies fault last rest whole =
    let same : n ≡ m = cc in
    let told_is : reply ∷ told ≡ replies = cc in
    ap (answering reply) (rest told (ap (λ x. Whole x told) same)) ∙ (answering-unless reply fault k m' (told ++ last ∷ []) ∙ ap (λ x. unless_fault fault k (Whole m' (x ++ last ∷ []))) told_is)

-- a whole replay goes on with one more event as the node that it left does
pub replay_goes_on : ReplayGoesOn
replay_goes_on p i n m [] replies e whole =
    let same : n ≡ m = cc in
    let none : [] ≡ replies = cc in
    let place : i + 0 ≡ i = omega arith in
    rw (place, ← same, ← none) refl
replay_goes_on p i n m (x ∷ es) replies e whole =
    let place : i + 1 + length es ≡ i + length (x ∷ es) = omega arith in
    first_goes_on (fault_of p n x) (reply_of p n x) i (i + length (x ∷ es)) (replay p (i + 1) (after p n x) es) (replay p (i + 1) (after p n x) (es ++ e ∷ []))
    m (after p m e) replies (fault_of p m e) (reply_of p m e)
    (λ rest is. rw place at (replay_goes_on p (i + 1) (after p n x) m es rest e is)) whole

-- what has stopped behind the first event stays so behind all
first_stays : (first : Option CoreFault) (reply : Reply) (i : ℕ) (old new : Replayed) (place : ℕ) (fault : CoreFault)
    → ((at : ℕ) (f : CoreFault) → old ≡ Stopped at f → new ≡ Stopped at f)
    → unless_fault first i (answering reply old) ≡ Stopped place fault → unless_fault first i (answering reply new) ≡ Stopped place fault
first_stays (Some f) reply i old new place fault rest stopped = stopped
first_stays None reply i (Whole n told) new place fault rest stopped = absurd (cc)
first_stays None reply i (Stopped at f) new place fault rest stopped = ap (answering reply) (rest at f refl) ∙ stopped

-- a replay that has stopped stays so, whatever comes later
pub stopped_stays : StoppedStays
stopped_stays p i n [] later place fault stopped = absurd (cc)
stopped_stays p i n (x ∷ es) later place fault stopped =
    first_stays (fault_of p n x) (reply_of p n x) i (replay p (i + 1) (after p n x) es) (replay p (i + 1) (after p n x) (es ++ later)) place fault
    (λ at f is. stopped_stays p (i + 1) (after p n x) es later at f is) stopped
