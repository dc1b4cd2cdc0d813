-- What is true of the fields of a feed after each step, and what it has left.
use Rattle.std.proofs.Common.{◌≡◌, ℕ, suc, ◌+◌, ◌-◌, ◌++◌, ◌<◌, ap, sym, ◌∙◌, subst, arith, List, [], ◌∷◌, length}
use Rattle.gs_core.specs.declared.event.Event.{Event}
use Rattle.gs_core.specs.declared.event.Event.TheVariants.{Quantum, Tick, Deliver}
use Rattle.gs_run.specs.Net.{Net}
use Rattle.gs_calendar.specs.Due.{Key}
use Rattle.gs_calendar.specs.Calendar.{Turn}
use Rattle.gs_calendar.specs.Course.{Course}
use Rattle.gs_calendar.specs.Calendar.{first_turn}
use Rattle.gs_calendar.specs.Events.{events_from, events_of, incs_at}
use Rattle.gs_calendar.specs.inside.Feeds.{AllSent, AreTurns, Grows, IsFeed, NoneIsDue, Takes, deliveries_left, left_of, ticks_left, turn_in, waiting}
use Rattle.gs_calendar.proofs.Beginning.{begun_feed, end_left, kept_feed, start_feed}
use Rattle.gs_calendar.proofs.Feeding.{none_left, takes_feed, takes_left, tick_feed, tick_left}
use Rattle.gs_calendar.proofs.Ticking.{ticks_end}
use Rattle.gs_calendar.proofs.Waiting.{AreSlow}

-- with the count of nodes that is kept
pub starts : (net : Net) (c : Course) (n : ℕ) (turns next : List Turn) (lists : List (List Key)) → n ≡ net.nodes → length turns ≡ n → length next ≡ n → length lists ≡ n
    → ((v : ℕ) → v < n → turn_in turns v ≡ first_turn) → ((v : ℕ) → v < n → waiting lists v ≡ [])
    → IsFeed net c 0 n n turns next lists × (left_of net c 0 n n turns lists ≡ events_of net c)
starts net c n turns next lists e a b d first empty =
    let got = start_feed net c turns next lists (a ∙ e) (b ∙ e) (d ∙ e) (λ v below. first v (omega (arith, e, below))) (λ v below. empty v (omega (arith, e, below))) in
    let P : ℕ → Type 0 = λ k. IsFeed net c 0 k k turns next lists × (left_of net c 0 k k turns lists ≡ events_of net c) in
    subst P (sym e) got

-- no delivery is left: all receivers are done
pub served : (net : Net) (c : Course) (t to at n : ℕ) (turns next : List Turn) (lists : List (List Key)) → n ≡ net.nodes → IsFeed net c t to at turns next lists → NoneIsDue t to lists
    → IsFeed net c t n at turns next lists × (left_of net c t to at turns lists ≡ left_of net c t n at turns lists)
served net c t to at n turns next lists e feed none =
    let P : ℕ → Type 0 = λ k. IsFeed net c t k at turns next lists × (left_of net c t to at turns lists ≡ left_of net c t k at turns lists) in
    subst P (sym e) (none_left net c t to at turns next lists feed none)

-- a tick is given
pub ticked_one : (net : Net) (c : Course) (t at n v : ℕ) (turns next : List Turn) (lists : List (List Key)) → n ≡ net.nodes → IsFeed net c t n at turns next lists → v < length turns → ticks_left t turns at ≡ Tick v ∷ ticks_left t turns (v + 1)
    → IsFeed net c t n (v + 1) turns next lists × (left_of net c t n at turns lists ≡ Tick v ∷ left_of net c t n (v + 1) turns lists)
ticked_one net c t at n v turns next lists e feed inside ticks =
    let count = feed.turn_count in
    let P : ℕ → Type 0 = λ k. left_of net c t k at turns lists ≡ Tick v ∷ left_of net c t k (v + 1) turns lists in
    let Q : ℕ → Type 0 = λ k. IsFeed net c t k at turns next lists in (
      tick_feed net c t n at (v + 1) turns next lists feed (omega (arith, count, inside)),
      subst P (sym e) (tick_left net c t at v turns next lists (subst Q e feed) ticks),
    )

-- no tick is left: all nodes are done
pub ticked_all : (net : Net) (c : Course) (t at n : ℕ) (turns next : List Turn) (lists : List (List Key)) → n ≡ net.nodes → IsFeed net c t n at turns next lists → ticks_left t turns at ≡ []
    → IsFeed net c t n n turns next lists × (left_of net c t n at turns lists ≡ left_of net c t n n turns lists)
ticked_all net c t at n turns next lists e feed none =
    let count = feed.turn_count in
    let last : ticks_left t turns n ≡ [] = ticks_end t turns n (omega (arith, count, e)) in (
      tick_feed net c t n at n turns next lists feed (omega (arith, e)),
      ap (λ (es : List Event). (deliveries_left t lists n ++ es) ++ events_from net c t (c.quanta - t)) (none ∙ sym last),
    )

-- the next quantum could not begin
pub kept : (net : Net) (c : Course) (t at n : ℕ) (turns next next_after : List Turn) (lists after : List (List Key)) → n ≡ net.nodes → IsFeed net c t n at turns next lists → Grows net c t lists after → length next_after ≡ length next
    → IsFeed net c t n at turns next_after after × (left_of net c t n at turns after ≡ left_of net c t n at turns lists)
kept net c t at n turns next next_after lists after e feed grows count =
    let P : ℕ → Type 0 = λ k. IsFeed net c t k at turns next_after after × (left_of net c t k at turns after ≡ left_of net c t k at turns lists) in
    let Q : ℕ → Type 0 = λ k. IsFeed net c t k at turns next lists in
    subst P (sym e) (kept_feed net c t at turns next next_after lists after (subst Q e feed) grows count)

-- the next quantum begins
pub begun : (net : Net) (c : Course) (t n : ℕ) (turns next next_after : List Turn) (lists after : List (List Key)) (incs : List ℕ) → n ≡ net.nodes → ((v : ℕ) → v < net.nodes → AreSlow net c v)
    → IsFeed net c t n n turns next lists → t < c.quanta → Grows net c t lists after → length next_after ≡ length next → AreTurns net c (suc t) next_after → AllSent net c (suc t) after → incs ≡ incs_at net c (t + 1)
    → IsFeed net c (t + 1) 0 0 next_after turns after × (left_of net c t n n turns lists ≡ Quantum incs ∷ left_of net c (t + 1) 0 0 next_after after)
begun net c t n turns next next_after lists after incs e slow_ feed less grows count are sent is =
    let Q : ℕ → Type 0 = λ k. IsFeed net c t k k turns next lists in
    let got = begun_feed net c t turns next next_after lists after slow_ (subst Q e feed) less grows count are sent in
    (got.0, ap (λ (k : ℕ). left_of net c t k k turns lists) e ∙ got.1 ∙ ap (λ (xs : List ℕ). Quantum xs ∷ left_of net c (t + 1) 0 0 next_after after) (sym is))

-- all is given
pub ended : (net : Net) (c : Course) (t n : ℕ) (turns next : List Turn) (lists : List (List Key)) → n ≡ net.nodes → IsFeed net c t n n turns next lists → t ≡ c.quanta → left_of net c t n n turns lists ≡ []
ended net c t n turns next lists e feed all =
    let Q : ℕ → Type 0 = λ k. IsFeed net c t k k turns next lists in
    ap (λ (k : ℕ). left_of net c t k k turns lists) e ∙ end_left net c t turns next lists (subst Q e feed) all

-- ---- the steps as the code takes them: what its calls were given is what the fields were, and the fields are what they gave back
pub delivered_one : (net : Net) (c : Course) (t to at : ℕ) (turns next : List Turn) (lists old : List (List Key)) (v : ℕ) (k : Key) (new last : List (List Key)) → old ≡ lists → last ≡ new → IsFeed net c t to at turns next lists → Takes t to old v k new
    → IsFeed net c t v at turns next last × (left_of net c t to at turns lists ≡ Deliver k.from v k.seq ∷ left_of net c t v at turns last)
delivered_one net c t to at turns next lists old v k new last e f feed is =
    let P : List (List Key) → Type 0 = λ l. Takes t to l v k new in
    let Q : List (List Key) → Type 0 = λ l. IsFeed net c t v at turns next l × (left_of net c t to at turns lists ≡ Deliver k.from v k.seq ∷ left_of net c t v at turns l) in
    let takes : Takes t to lists v k new = subst P e is in
    subst Q (sym f) (takes_feed net c t to at turns next lists v k new feed takes, takes_left net c t to at turns lists v k new takes)

pub none_due : (net : Net) (c : Course) (t to at n : ℕ) (turns next : List Turn) (lists old new last : List (List Key)) → old ≡ lists → last ≡ new → n ≡ net.nodes → IsFeed net c t to at turns next lists → (new ≡ old) × NoneIsDue t to old
    → IsFeed net c t n at turns next last × (left_of net c t to at turns lists ≡ left_of net c t n at turns last)
none_due net c t to at n turns next lists old new last e f count feed is =
    let P : List (List Key) → Type 0 = λ l. IsFeed net c t to at turns next l in
    let Q : List (List Key) → Type 0 = λ l. NoneIsDue t to l in
    let same : last ≡ lists = f ∙ is.0 ∙ e in
    let got = served net c t to at n turns next last count (subst P (sym same) feed) (subst Q (sym (f ∙ is.0)) is.1) in
    (got.0, ap (λ (l : List (List Key)). left_of net c t to at turns l) (sym same) ∙ got.1)

pub tick_one : (net : Net) (c : Course) (t to at n v : ℕ) (turns seen next : List Turn) (lists old new last : List (List Key)) → old ≡ lists → last ≡ new → seen ≡ turns → n ≡ net.nodes → IsFeed net c t to at turns next lists
    → (new ≡ old) × NoneIsDue t to old → (v < length seen) × (ticks_left t seen at ≡ Tick v ∷ ticks_left t seen (v + 1))
    → IsFeed net c t n (v + 1) turns next last × (left_of net c t to at turns lists ≡ Tick v ∷ left_of net c t n (v + 1) turns last)
tick_one net c t to at n v turns seen next lists old new last e f g count feed none is =
    let before = none_due net c t to at n turns next lists old new last e f count feed none in
    let P : List Turn → Type 0 = λ l. (v < length l) × (ticks_left t l at ≡ Tick v ∷ ticks_left t l (v + 1)) in
    let tick = subst P g is in
    let got = ticked_one net c t at n v turns next last count before.0 tick.0 tick.1 in
    (got.0, before.1 ∙ got.1)

pub idle : (net : Net) (c : Course) (t to at n : ℕ) (turns seen next : List Turn) (lists old new last : List (List Key)) → old ≡ lists → last ≡ new → seen ≡ turns → n ≡ net.nodes → IsFeed net c t to at turns next lists
    → (new ≡ old) × NoneIsDue t to old → ticks_left t seen at ≡ []
    → IsFeed net c t n n turns next last × (left_of net c t to at turns lists ≡ left_of net c t n n turns last)
idle net c t to at n turns seen next lists old new last e f g count feed none end =
    let before = none_due net c t to at n turns next lists old new last e f count feed none in
    let P : List Turn → Type 0 = λ l. ticks_left t l at ≡ [] in
    let got = ticked_all net c t at n turns next last count before.0 (subst P g end) in
    (got.0, before.1 ∙ got.1)

pub kept_one : (net : Net) (c : Course) (t at n : ℕ) (turns next next_last : List Turn) (lists old new last : List (List Key)) → old ≡ lists → last ≡ new → n ≡ net.nodes → IsFeed net c t n at turns next lists → Grows net c t old new → length next_last ≡ length next
    → IsFeed net c t n at turns next_last last × (left_of net c t n at turns last ≡ left_of net c t n at turns lists)
kept_one net c t at n turns next next_last lists old new last e f count feed grows same =
    let P : List (List Key) → Type 0 = λ l. Grows net c t l new in
    let Q : List (List Key) → Type 0 = λ l. Grows net c t lists l in
    kept net c t at n turns next next_last lists last count feed (subst Q (sym f) (subst P e grows)) same

pub begun_one : (net : Net) (c : Course) (t n : ℕ) (turns turns_last next next_new next_last : List Turn) (lists old new last : List (List Key)) (incs : List ℕ) → old ≡ lists → last ≡ new → turns_last ≡ next_new → next_last ≡ turns → n ≡ net.nodes
    → ((v : ℕ) → v < net.nodes → AreSlow net c v) → IsFeed net c t n n turns next lists → (t ≡ c.quanta → ⊥) → Grows net c t old new → length next_new ≡ length next
    → AreTurns net c (suc t) next_new → AllSent net c (suc t) new → incs ≡ incs_at net c (t + 1)
    → IsFeed net c (t + 1) 0 0 turns_last next_last last × (left_of net c t n n turns lists ≡ Quantum incs ∷ left_of net c (t + 1) 0 0 turns_last last)
begun_one net c t n turns turns_last next next_new next_last lists old new last incs e f g h count slow_ feed more grows same are sent is =
    let P : List (List Key) → Type 0 = λ l. Grows net c t l new in
    let got = begun net c t n turns next next_new lists new incs count slow_ feed (let by = feed.by in omega (arith, more, by)) (subst P e grows) same are sent is in
    let Q : List Turn → List Turn → List (List Key) → Type 0 = λ a b l. IsFeed net c (t + 1) 0 0 a b l × (left_of net c t n n turns lists ≡ Quantum incs ∷ left_of net c (t + 1) 0 0 a l) in
    subst (λ (a : List Turn). Q a next_last last) (sym g) (subst (λ (b : List Turn). Q next_new b last) (sym h) (subst (λ (l : List (List Key)). Q next_new turns l) (sym f) got))
