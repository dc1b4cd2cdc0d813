-- The nodes of a piece through a quantum, one after another.
use Rattle.std.proofs.Common.{◌≡◌, ◌==◌, ℕ, suc, ◌+◌, ◌-◌, ◌<◌, ◌≤◌, arith, ap, sym, refl, ◌∙◌, subst, inl, inr, ◌⊎◌, List, [], ◌∷◌, ◌++◌, not, length, length-append, length-set, get_or-set_same, get_or-set_other, nat_lt, Bool, true, false, slice_index, slice_index_or, slice_set, if◌then◌else◌}
use Rattle.std.proofs.lemmas.Bool.{cases_eq, cases_lt, eq-eqb, false≢true, le-ltb, lt-ltb, ne_eqb, not-false}
use Rattle.std.proofs.Math.Seq.{get_or-append_seam}
use Rattle.std.proofs.lemmas.List.{get_or_append_left}
use Rattle.gs_run.specs.Accepted.{AreNumbers}
use Rattle.gs_run.specs.Fast.{is_fast}
use Rattle.gs_run.specs.Net.{Net}
use Rattle.gs_calendar.specs.Course.{Course}
use Rattle.gs_calendar.proofs.Fitting.{IsCourse}
use Rattle.gs_seat.specs.Held.{AreSentIn, IsWindow, handed}
use Rattle.gs_run.specs.World.{Sent}
use Rattle.std.proofs.lemmas.Option.{none-some}
use Rattle.gs_seat.specs.Seats.{IsSeatAt, IsSeatIn, has_sent, mode_of, step_of, wake_of}
use Rattle.gs_seat.specs.declared.seat.Seat.{Seat}
use Rattle.gs_piece.specs.Senders.{IsFirstSender, NoneSends}
use Rattle.gs_piece.proofs.Clocks.{some_seat}
use Rattle.gs_seat.proofs.Windows.{seat_as, sleeps_on}
use Rattle.gs_piece.specs.Nodes.{AddsSeat, AllHanded, AreNodes, AreWith, Ending, IsSeen, SetsSeat, handed_to, midway, none_handed}
use Rattle.gs_piece.specs.declared.nodes.Nodes.{Nodes}

-- ---- how far each node is

pub midway_done : (t u i : ℕ) → i < u → midway t u i ≡ suc t
midway_done t u i less = ap (λ (b : Bool). if b then suc t else t) (lt-ltb i u less)

pub midway_left : (t u i : ℕ) → u ≤ i → midway t u i ≡ t
midway_left t u i le = ap (λ (b : Bool). if b then suc t else t) (le-ltb i u le)

pub midway_next : (t u i : ℕ) → (i ≡ u → ⊥) → midway t (suc u) i ≡ midway t u i
midway_next t u i other = elim (cases_lt i u) [
  | inl less ↦ midway_done t (suc u) i (omega (arith, less)) ∙ sym (midway_done t u i less)
  | inr le ↦ elim (cases_eq i u) [
    | inl same ↦ absurd (other same)
    | inr more ↦ midway_left t (suc u) i (omega (arith, le, more)) ∙ sym (midway_left t u i le)
  ]
]

-- ---- a node that had its turn

seen_own : (a b i : ℕ) (s : Seat) (old new : Nodes) (d : Seat) → a + i < b → a + length old.seats.items ≡ b → a + length old.steps.items ≡ b → a + length old.wake.items ≡ b → a + length old.fast.items ≡ b
    → SetsSeat i s old new → IsSeen (slice_index_or new.seats.items i d) (slice_index new.steps.items i) (slice_index new.wake.items i) (slice_index_or new.fast.items i false)
seen_own a b i s old new d h seats steps wake fast sets =
    let seat : slice_index_or new.seats.items i d ≡ s = ap (λ (xs : List Seat). slice_index_or xs i d) sets.seats ∙ get_or-set_same old.seats.items i s d (omega (arith, h, seats)) in
    record {
      step = ap (λ (xs : List ℕ). slice_index xs i) sets.steps ∙ get_or-set_same old.steps.items i (step_of s) 0 (omega (arith, h, steps)) ∙ ap step_of (sym seat);
      wake = ap (λ (xs : List ℕ). slice_index xs i) sets.wake ∙ get_or-set_same old.wake.items i (wake_of s) 0 (omega (arith, h, wake)) ∙ ap wake_of (sym seat);
      fast = ap (λ (xs : List Bool). slice_index_or xs i false) sets.fast ∙ get_or-set_same old.fast.items i (is_fast (mode_of s)) false (omega (arith, h, fast)) ∙ ap (λ (x : Seat). is_fast (mode_of x)) (sym seat);
    }

seen_other : (i k : ℕ) (s : Seat) (old new : Nodes) (d : Seat) → (k ≡ i → ⊥) → SetsSeat i s old new
    → IsSeen (slice_index_or old.seats.items k d) (slice_index old.steps.items k) (slice_index old.wake.items k) (slice_index_or old.fast.items k false)
    → IsSeen (slice_index_or new.seats.items k d) (slice_index new.steps.items k) (slice_index new.wake.items k) (slice_index_or new.fast.items k false)
seen_other i k s old new d other sets is =
    let seat : slice_index_or new.seats.items k d ≡ slice_index_or old.seats.items k d = ap (λ (xs : List Seat). slice_index_or xs k d) sets.seats ∙ get_or-set_other old.seats.items i k s d other in
    record {
      step = ap (λ (xs : List ℕ). slice_index xs k) sets.steps ∙ get_or-set_other old.steps.items i k (step_of s) 0 other ∙ is.step ∙ ap step_of (sym seat);
      wake = ap (λ (xs : List ℕ). slice_index xs k) sets.wake ∙ get_or-set_other old.wake.items i k (wake_of s) 0 other ∙ is.wake ∙ ap wake_of (sym seat);
      fast = ap (λ (xs : List Bool). slice_index_or xs k false) sets.fast ∙ get_or-set_other old.fast.items i k (is_fast (mode_of s)) false other ∙ is.fast ∙ ap (λ (x : Seat). is_fast (mode_of x)) (sym seat);
    }

-- the columns are looked at anew once a seat has changed
pub sets_of : (i : ℕ) (s : Seat) (old new : Nodes) → i < length old.seats.items → new.first ≡ old.first → new.seats.items ≡ slice_set old.seats.items i s
    → ((d : Seat) → new.steps.items ≡ slice_set old.steps.items i (step_of (slice_index_or (slice_set old.seats.items i s) i d)))
    → ((d : Seat) → new.wake.items ≡ slice_set old.wake.items i (wake_of (slice_index_or (slice_set old.seats.items i s) i d)))
    → ((d : Seat) → new.fast.items ≡ slice_set old.fast.items i (is_fast (mode_of (slice_index_or (slice_set old.seats.items i s) i d))))
    → ((d : Seat) → new.sends.items ≡ slice_set old.sends.items i (has_sent (slice_index_or (slice_set old.seats.items i s) i d)))
    → SetsSeat i s old new
sets_of i s old new here first seats steps wake fast sends =
    let own : slice_index_or (slice_set old.seats.items i s) i s ≡ s = get_or-set_same old.seats.items i s s here in
    record {
      first = first;
      seats = seats;
      steps = steps s ∙ ap (λ (x : Seat). slice_set old.steps.items i (step_of x)) own;
      wake = wake s ∙ ap (λ (x : Seat). slice_set old.wake.items i (wake_of x)) own;
      fast = fast s ∙ ap (λ (x : Seat). slice_set old.fast.items i (is_fast (mode_of x))) own;
      sends = sends s ∙ ap (λ (x : Seat). slice_set old.sends.items i (has_sent x)) own;
    }

set_count : {A : Type 0} (a b i : ℕ) (x : A) (old new : List A) → new ≡ slice_set old i x → a + length old ≡ b → a + length new ≡ b
set_count a b i x old new is count = ap (λ (n : ℕ). a + n) (ap length is ∙ length-set old i x) ∙ count

-- one seat changes: what is known of it afterwards, and of the others
pub nodes_set : (nodes a b i : ℕ) (Old New : ℕ → Seat → Type 0) (old new : Nodes) (s : Seat) → a + i < b → SetsSeat i s old new → New i s
    → ((k : ℕ) (x : Seat) → (k ≡ i → ⊥) → a + k < b → Old k x → New k x)
    → AreWith nodes a b Old old → AreWith nodes a b New new
nodes_set nodes a b i Old New old new s h sets own others is = record {
  first = sets.first ∙ is.first;
  inside = is.inside;
  seats = set_count a b i s old.seats.items new.seats.items sets.seats is.seats;
  steps = set_count a b i (step_of s) old.steps.items new.steps.items sets.steps is.steps;
  wake = set_count a b i (wake_of s) old.wake.items new.wake.items sets.wake is.wake;
  fast = set_count a b i (is_fast (mode_of s)) old.fast.items new.fast.items sets.fast is.fast;
  sends = set_count a b i (has_sent s) old.sends.items new.sends.items sets.sends is.sends;
  seat = λ k d hk. elim (cases_eq k i) [
    | inl same ↦ (let p = is.seats in
        let seat : slice_index_or new.seats.items k d ≡ s = ap (λ (xs : List Seat). slice_index_or xs k d) sets.seats ∙ ap (λ (j : ℕ). slice_index_or (slice_set old.seats.items i s) j d) same ∙ get_or-set_same old.seats.items i s d (omega (arith, h, p)) in
        subst (New k) (sym seat) (subst (λ (j : ℕ). New j s) (sym same) own))
    | inr other ↦ (let seat : slice_index_or new.seats.items k d ≡ slice_index_or old.seats.items k d = ap (λ (xs : List Seat). slice_index_or xs k d) sets.seats ∙ get_or-set_other old.seats.items i k s d other in
        subst (New k) (sym seat) (others k (slice_index_or old.seats.items k d) other hk (is.seat k d hk)))
  ];
  seen = λ k d hk. elim (cases_eq k i) [
    | inl same ↦ subst (λ (j : ℕ). IsSeen (slice_index_or new.seats.items j d) (slice_index new.steps.items j) (slice_index new.wake.items j) (slice_index_or new.fast.items j false)) (sym same)
        (seen_own a b i s old new d h is.seats is.steps is.wake is.fast sets)
    | inr other ↦ seen_other i k s old new d other sets (is.seen k d hk)
  ];
  sender = λ k d hk. ap (λ (xs : List Bool). slice_index_or xs k false) sets.sends ∙ elim (cases_eq k i) [
    | inl same ↦ (let p = is.seats in
        let q = is.sends in
        ap (λ (j : ℕ). slice_index_or (slice_set old.sends.items i (has_sent s)) j false) same ∙ get_or-set_same old.sends.items i (has_sent s) false (omega (arith, h, q))
        ∙ ap has_sent (sym (ap (λ (xs : List Seat). slice_index_or xs k d) sets.seats ∙ ap (λ (j : ℕ). slice_index_or (slice_set old.seats.items i s) j d) same ∙ get_or-set_same old.seats.items i s d (omega (arith, h, p)))))
    | inr other ↦ get_or-set_other old.sends.items i k (has_sent s) false other ∙ is.sender k d hk
        ∙ ap has_sent (sym (ap (λ (xs : List Seat). slice_index_or xs k d) sets.seats ∙ get_or-set_other old.seats.items i k s d other))
  ];
}

-- no seat changes, but what is known of each
pub nodes_map : (nodes a b : ℕ) (Old New : ℕ → Seat → Type 0) (x : Nodes) → ((k : ℕ) (d : Seat) → a + k < b → Old k (slice_index_or x.seats.items k d) → New k (slice_index_or x.seats.items k d))
    → AreWith nodes a b Old x → AreWith nodes a b New x
nodes_map nodes a b Old New x each is = record {
  first = is.first;
  inside = is.inside;
  seats = is.seats;
  steps = is.steps;
  wake = is.wake;
  fast = is.fast;
  seat = λ k d hk. each k d hk (is.seat k d hk);
  seen = is.seen;
  sends = is.sends;
  sender = is.sender;
}

-- the node at place i had its turn
pub nodes_turned : (net : Net) (c : Course) (a b m t i : ℕ) (old new : Nodes) (s : Seat) → a + i < b → SetsSeat i s old new → IsSeatIn net c (a + i) m (suc t) s
    → AreNodes net c (none_handed m) a b m (midway t i) old → AreNodes net c (none_handed m) a b m (midway t (suc i)) new
nodes_turned net c a b m t i old new s h sets own is =
    nodes_set net.nodes a b i (λ k x. IsSeatAt net c (a + k) (λ y. m) m (midway t i k) x) (λ k x. IsSeatAt net c (a + k) (λ y. m) m (midway t (suc i) k) x) old new s h sets
    (subst (λ (n : ℕ). IsSeatAt net c (a + i) (λ x. m) m n s) (sym (midway_done t (suc i) i (omega arith))) own)
    (λ k x other hk. subst (λ (n : ℕ). IsSeatAt net c (a + k) (λ y. m) m n x) (sym (midway_next t i k other)))
    is

-- ---- the hand-over

pub ending_done : (m t u i : ℕ) → i < u → (if nat_lt i u then t else m) ≡ t
ending_done m t u i less = ap (λ (b : Bool). if b then t else m) (lt-ltb i u less)

pub ending_left : (m t u i : ℕ) → u ≤ i → (if nat_lt i u then t else m) ≡ m
ending_left m t u i le = ap (λ (b : Bool). if b then t else m) (le-ltb i u le)

pub ending_next : (m t u i : ℕ) → (i ≡ u → ⊥) → (if nat_lt i (suc u) then t else m) ≡ (if nat_lt i u then t else m)
ending_next m t u i other = elim (cases_lt i u) [
  | inl less ↦ ending_done m t (suc u) i (omega (arith, less)) ∙ sym (ending_done m t u i less)
  | inr le ↦ elim (cases_eq i u) [
    | inl same ↦ absurd (other same)
    | inr more ↦ ending_left m t (suc u) i (omega (arith, le, more)) ∙ sym (ending_left m t u i le)
  ]
]

pub no_items : {A : Type 0} (xs : List A) → (length xs == 0) ≡ true → xs ≡ []
no_items [] e = refl
no_items (x ∷ xs) e = absurd (false≢true (sym (ne_eqb (length (x ∷ xs)) 0 (λ z. omega (arith, z))) ∙ e))

-- where nothing was sent, nothing is kept
sent_empty : (net : Net) (c : Course) (v m t : ℕ) (xs : List Sent) → AreSentIn net c v m t [] → AreSentIn net c v m t xs → xs ≡ []
sent_empty net c v m t [] none are = refl
sent_empty net c v m t (x ∷ xs) none are =
    let by = are.0.was.by in
    absurd (none-some x.beacon.seq (sym (none x.quantum are.0.after (omega (arith, by))) ∙ are.0.was.sent))

seat_rests : (net : Net) (c : Course) (v m t : ℕ) (s : Seat) → AreSentIn net c v m t [] → IsSeatAt net c v (λ x. t) m t s → IsSeatIn net c v t t s
seat_rests net c v m t s none is = record {
  node = is.node;
  held = is.held;
  carried = is.carried;
  sent = subst (AreSentIn net c v t t) (sym (sent_empty net c v m t s.sent.items none is.sent)) (λ q after before. absurd (omega (arith, after, before)));
  within = λ x. (omega arith, omega arith);
  room = is.room;
  ways = is.ways;
}

pub handed_to_own : (by : ℕ → ℕ → ℕ) (to from q v : ℕ) → v ≡ to → handed_to by to from q v ≡ handed (by v) from q
handed_to_own by to from q v same = ap (λ (b : Bool). if b then handed (by v) from q else by v) (eq-eqb v to same)

pub handed_to_other : (by : ℕ → ℕ → ℕ) (to from q v : ℕ) → (v ≡ to → ⊥) → handed_to by to from q v ≡ by v
handed_to_other by to from q v other = ap (λ (b : Bool). if b then handed (by v) from q else by v) (ne_eqb v to other)

-- the node at place i has taken over what `from` sent
pub nodes_took : (net : Net) (c : Course) (by : ℕ → ℕ → ℕ) (a b m t i from to : ℕ) (old new : Nodes) (s : Seat) → a + i ≡ to → to < b → SetsSeat i s old new → IsSeatAt net c to (handed (by to) from t) m t s
    → AreNodes net c by a b m (λ j. t) old → AreNodes net c (handed_to by to from t) a b m (λ j. t) new
nodes_took net c by a b m t i from to old new s place h sets own is =
    nodes_set net.nodes a b i (λ k x. IsSeatAt net c (a + k) (by (a + k)) m t x) (λ k x. IsSeatAt net c (a + k) (handed_to by to from t (a + k)) m t x) old new s (omega (arith, place, h)) sets
    (subst (λ (f : ℕ → ℕ). IsSeatAt net c (a + i) f m t s) (sym (handed_to_own by to from t (a + i) place)) (subst (λ (v : ℕ). IsSeatAt net c v (handed (by v) from t) m t s) (sym place) own))
    (λ k x other hk. subst (λ (f : ℕ → ℕ). IsSeatAt net c (a + k) f m t x) (sym (handed_to_other by to from t (a + k) (λ e. other (omega (arith, e, place))))))
    is

pub nodes_ending : (net : Net) (c : Course) (by : ℕ → ℕ → ℕ) (a b m t : ℕ) (x : Nodes) → AllHanded net by a b t → AreNodes net c by a b m (λ j. t) x → AreWith net.nodes a b (Ending net c a m t 0) x
nodes_ending net c by a b m t x all is = nodes_map net.nodes a b (λ k s. IsSeatAt net c (a + k) (by (a + k)) m t s) (Ending net c a m t 0) x
    (λ k d hk old. subst (λ (n : ℕ). IsSeatAt net c (a + k) (λ y. t) n t (slice_index_or x.seats.items k d)) (sym (ending_left m t 0 k (omega arith)))
    (seat_as net c (a + k) m t (by (a + k)) (λ y. t) (slice_index_or x.seats.items k d) (λ y has. all (a + k) y (omega arith) hk has)
    (λ y. (let w = old.within y in let low = w.0 in let high = w.1 in omega (arith, low, high), omega arith)) old)) is

-- the seat at place u begins the next window
pub nodes_rested : (net : Net) (c : Course) (a b m t u : ℕ) (old new : Nodes) (s : Seat) → a + u < b → SetsSeat u s old new → IsSeatIn net c (a + u) t t s
    → AreWith net.nodes a b (Ending net c a m t u) old → AreWith net.nodes a b (Ending net c a m t (suc u)) new
nodes_rested net c a b m t u old new s h sets own is =
    nodes_set net.nodes a b u (Ending net c a m t u) (Ending net c a m t (suc u)) old new s h sets
    (subst (λ (n : ℕ). IsSeatAt net c (a + u) (λ x. t) n t s) (sym (ending_done m t (suc u) u (omega arith))) own)
    (λ k x other hk. subst (λ (n : ℕ). IsSeatAt net c (a + k) (λ y. t) n t x) (sym (ending_next m t u k other)))
    is

-- one that did not send sent nothing
pub none_sent : (net : Net) (c : Course) (v : ℕ) (by : ℕ → ℕ) (m t : ℕ) (s : Seat) → has_sent s ≡ false → IsSeatAt net c v by m t s → AreSentIn net c v m t []
none_sent net c v by m t s silent is = subst (AreSentIn net c v m t) (no_items s.sent.items (not-false (length s.sent.items == 0) silent)) is.sent

-- and one that sent, something
pub some_sent : (net : Net) (c : Course) (v : ℕ) (by : ℕ → ℕ) (m t : ℕ) (s : Seat) → has_sent s ≡ true → IsSeatAt net c v by m t s → AreSentIn net c v m t [] → ⊥
some_sent net c v by m t s sends is none =
    false≢true (sym (ap (λ (n : ℕ). not (n == 0)) (ap length (sent_empty net c v m t s.sent.items none is.sent))) ∙ sends)

-- the node at place i is the first from u on that sent anything
pub first_sends : (net : Net) (c : Course) (by : ℕ → ℕ → ℕ) (a b m t u i : ℕ) (x : Nodes) → a + i < b → u ≤ a + i → slice_index_or x.sends.items i false ≡ true
    → ((k : ℕ) → u ≤ a + k → k < i → slice_index_or x.sends.items k false ≡ false) → AreNodes net c by a b m (λ j. t) x → IsFirstSender net c u a b m t (a + i)
first_sends net c by a b m t u i x h from sends silent is =
    let d : Seat = some_seat x.seats.items (let n = is.seats in omega (arith, h, n)) in
    record {
      from = from;
      low = omega arith;
      high = h;
      none = λ v after low less.
          let k : ℕ = v - a in
          let place : a + k ≡ v = omega (arith, low) in
          let hk : a + k < b = omega (arith, place, less, h) in
          subst (λ (w : ℕ). AreSentIn net c w m t []) place
          (none_sent net c (a + k) (by (a + k)) m t (slice_index_or x.seats.items k d) (sym (is.sender k d hk) ∙ silent k (omega (arith, place, after)) (omega (arith, place, less))) (is.seat k d hk));
      some = some_sent net c (a + i) (by (a + i)) m t (slice_index_or x.seats.items i d) (sym (is.sender i d h) ∙ sends) (is.seat i d h);
    }

-- no node from u on did
pub none_sends : (net : Net) (c : Course) (by : ℕ → ℕ → ℕ) (a b m t u : ℕ) (x : Nodes) → ((k : ℕ) → u ≤ a + k → a + k < b → slice_index_or x.sends.items k false ≡ false)
    → AreNodes net c by a b m (λ j. t) x → NoneSends net c u a b m t
none_sends net c by a b m t u x silent is v after low less =
    let k : ℕ = v - a in
    let place : a + k ≡ v = omega (arith, low) in
    let hk : a + k < b = omega (arith, place, less) in
    let d : Seat = some_seat x.seats.items (let n = is.seats in omega (arith, hk, n)) in
    subst (λ (w : ℕ). AreSentIn net c w m t []) place
    (none_sent net c (a + k) (by (a + k)) m t (slice_index_or x.seats.items k d) (sym (is.sender k d hk) ∙ silent k (omega (arith, place, after)) hk) (is.seat k d hk))

-- seats that sent nothing begin it as they are
pub nodes_idle : (net : Net) (c : Course) (a b m t u i : ℕ) (x : Nodes) → u ≤ i → ((k : ℕ) → u ≤ k → k < i → a + k < b → slice_index_or x.sends.items k false ≡ false)
    → AreWith net.nodes a b (Ending net c a m t u) x → AreWith net.nodes a b (Ending net c a m t i) x
nodes_idle net c a b m t u i x le silent is = nodes_map net.nodes a b (Ending net c a m t u) (Ending net c a m t i) x
    (λ k d hk old.
    let s : Seat = slice_index_or x.seats.items k d in
    elim (cases_lt k u) [
      | inl done ↦ subst (λ (n : ℕ). IsSeatAt net c (a + k) (λ y. t) n t s) (ending_done m t u k done ∙ sym (ending_done m t i k (omega (arith, done, le)))) old
      | inr left ↦ (let own : IsSeatAt net c (a + k) (λ y. t) m t s = subst (λ (n : ℕ). IsSeatAt net c (a + k) (λ y. t) n t s) (ending_left m t u k left) old in
          elim (cases_lt k i) [
            | inl idle ↦ subst (λ (n : ℕ). IsSeatAt net c (a + k) (λ y. t) n t s) (sym (ending_done m t i k idle))
                (seat_rests net c (a + k) m t s (none_sent net c (a + k) (λ y. t) m t s (sym (is.sender k d hk) ∙ silent k left idle hk) own) own)
            | inr more ↦ subst (λ (n : ℕ). IsSeatAt net c (a + k) (λ y. t) n t s) (sym (ending_left m t i k more)) own
          ])
    ]) is

pub nodes_ended_all : (net : Net) (c : Course) (a b m t u : ℕ) (x : Nodes) → b ≤ a + u → AreWith net.nodes a b (Ending net c a m t u) x → AreNodes net c (none_handed t) a b t (λ j. t) x
nodes_ended_all net c a b m t u x end is = nodes_map net.nodes a b (Ending net c a m t u) (λ k s. IsSeatAt net c (a + k) (λ y. t) t t s) x
    (λ k d hk old. subst (λ (n : ℕ). IsSeatAt net c (a + k) (λ y. t) n t (slice_index_or x.seats.items k d)) (ending_done m t u k (omega (arith, hk, end))) old) is

-- ---- nodes that sleep on

pub nodes_slept : (net : Net) (c : Course) (a b m t u i : ℕ) (x : Nodes) → AreNumbers net → IsCourse net c → IsWindow net m (suc t) → u ≤ i
    → ((k : ℕ) → u ≤ k → k < i → a + k < b → suc t < slice_index x.wake.items k)
    → AreNodes net c (none_handed m) a b m (midway t u) x → AreNodes net c (none_handed m) a b m (midway t i) x
nodes_slept net c a b m t u i x numbers course window le asleep is =
    nodes_map net.nodes a b (λ k s. IsSeatAt net c (a + k) (λ y. m) m (midway t u k) s) (λ k s. IsSeatAt net c (a + k) (λ y. m) m (midway t i k) s) x (λ k d hk here.
    let s : Seat = slice_index_or x.seats.items k d in
    elim (cases_lt k u) [
      | inl done ↦ subst (λ (n : ℕ). IsSeatAt net c (a + k) (λ y. m) m n s) (midway_done t u k done ∙ sym (midway_done t i k (omega (arith, done, le)))) here
      | inr left ↦ elim (cases_lt k i) [
        | inl slept ↦ (let wakes = (is.seen k d hk).wake in
            let later = asleep k left slept hk in
            let inside = is.inside in
            subst (λ (n : ℕ). IsSeatAt net c (a + k) (λ y. m) m n s) (sym (midway_done t i k slept))
            (sleeps_on net c (a + k) m t s numbers course (omega (arith, hk, inside)) window (omega (arith, later, wakes))
            (subst (λ (n : ℕ). IsSeatAt net c (a + k) (λ y. m) m n s) (midway_left t u k left) here)))
        | inr more ↦ subst (λ (n : ℕ). IsSeatAt net c (a + k) (λ y. m) m n s) (midway_left t u k left ∙ sym (midway_left t i k more)) here
      ]
    ]) is

-- all nodes have a moment of their own
pub nodes_as : (net : Net) (c : Course) (by : ℕ → ℕ → ℕ) (a b m : ℕ) (time next : ℕ → ℕ) (x : Nodes) → ((i : ℕ) → a + i < b → time i ≡ next i) → AreNodes net c by a b m time x → AreNodes net c by a b m next x
nodes_as net c by a b m time next x same is =
    nodes_map net.nodes a b (λ k s. IsSeatAt net c (a + k) (by (a + k)) m (time k) s) (λ k s. IsSeatAt net c (a + k) (by (a + k)) m (next k) s) x
    (λ k d hk. subst (λ (n : ℕ). IsSeatAt net c (a + k) (by (a + k)) m n (slice_index_or x.seats.items k d)) (same k hk)) is

-- ---- one node more

at_end : {A : Type 0} (xs : List A) (x d : A) (k : ℕ) → k ≡ length xs → slice_index_or (xs ++ x ∷ []) k d ≡ x
at_end xs x d k e = ap (λ (n : ℕ). slice_index_or (xs ++ x ∷ []) n d) e ∙ get_or-append_seam xs x [] d

before_end : {A : Type 0} (xs : List A) (x d : A) (k : ℕ) → k < length xs → slice_index_or (xs ++ x ∷ []) k d ≡ slice_index_or xs k d
before_end xs x d k h = get_or_append_left xs (x ∷ []) d k h

add_count : {A : Type 0} (a b : ℕ) (x : A) (old new : List A) → new ≡ old ++ x ∷ [] → a + length old ≡ b → a + length new ≡ suc b
add_count a b x old new is count = let n = ap length is ∙ length-append old (x ∷ []) in omega (arith, n, count)

pub nodes_added : (net : Net) (c : Course) (a b : ℕ) (old new : Nodes) (s : Seat) → b < net.nodes → AddsSeat s old new → IsSeatIn net c b 0 0 s
    → AreNodes net c (none_handed 0) a b 0 (λ i. 0) old → AreNodes net c (none_handed 0) a (suc b) 0 (λ i. 0) new
nodes_added net c a b old new s hb adds own is =
    let seats = is.seats in
    let steps = is.steps in
    let wakes = is.wake in
    let fasts = is.fast in
    let sends = is.sends in
    let pick : (k : ℕ) → a + k < suc b → (k < length old.seats.items) ⊎ (k ≡ length old.seats.items) = λ k hk. elim (cases_lt k (length old.seats.items)) [
      | inl less ↦ inl less
      | inr more ↦ inr (omega (arith, hk, more, seats))
    ] in
    record {
      first = adds.first ∙ is.first;
      inside = omega (arith, hb);
      seats = add_count a b s old.seats.items new.seats.items adds.seats is.seats;
      steps = add_count a b (step_of s) old.steps.items new.steps.items adds.steps is.steps;
      wake = add_count a b (wake_of s) old.wake.items new.wake.items adds.wake is.wake;
      fast = add_count a b (is_fast (mode_of s)) old.fast.items new.fast.items adds.fast is.fast;
      sends = add_count a b (has_sent s) old.sends.items new.sends.items adds.sends is.sends;
      sender = λ k d hk. ap (λ (xs : List Bool). slice_index_or xs k false) adds.sends ∙ elim (pick k hk) [
        | inl less ↦ before_end old.sends.items (has_sent s) false k (omega (arith, less, seats, sends)) ∙ is.sender k d (omega (arith, less, seats))
            ∙ ap has_sent (sym (ap (λ (xs : List Seat). slice_index_or xs k d) adds.seats ∙ before_end old.seats.items s d k less))
        | inr last ↦ at_end old.sends.items (has_sent s) false k (omega (arith, last, seats, sends))
            ∙ ap has_sent (sym (ap (λ (xs : List Seat). slice_index_or xs k d) adds.seats ∙ at_end old.seats.items s d k last))
      ];
      seat = λ k d hk. elim (pick k hk) [
        | inl less ↦ subst (IsSeatAt net c (a + k) (λ x. 0) 0 0) (sym (ap (λ (xs : List Seat). slice_index_or xs k d) adds.seats ∙ before_end old.seats.items s d k less)) (is.seat k d (omega (arith, less, seats)))
        | inr last ↦ (let v : b ≡ a + k = omega (arith, last, seats) in
            subst (IsSeatAt net c (a + k) (λ x. 0) 0 0) (sym (ap (λ (xs : List Seat). slice_index_or xs k d) adds.seats ∙ at_end old.seats.items s d k last))
            (subst (λ (n : ℕ). IsSeatAt net c n (λ x. 0) 0 0 s) v own))
      ];
      seen = λ k d hk. elim (pick k hk) [
        | inl less ↦ (let was = is.seen k d (omega (arith, less, seats)) in
            let seat : slice_index_or new.seats.items k d ≡ slice_index_or old.seats.items k d = ap (λ (xs : List Seat). slice_index_or xs k d) adds.seats ∙ before_end old.seats.items s d k less in
            record {
              step = ap (λ (xs : List ℕ). slice_index xs k) adds.steps ∙ before_end old.steps.items (step_of s) 0 k (omega (arith, less, seats, steps)) ∙ was.step ∙ ap step_of (sym seat);
              wake = ap (λ (xs : List ℕ). slice_index xs k) adds.wake ∙ before_end old.wake.items (wake_of s) 0 k (omega (arith, less, seats, wakes)) ∙ was.wake ∙ ap wake_of (sym seat);
              fast = ap (λ (xs : List Bool). slice_index_or xs k false) adds.fast ∙ before_end old.fast.items (is_fast (mode_of s)) false k (omega (arith, less, seats, fasts)) ∙ was.fast ∙ ap (λ (x : Seat). is_fast (mode_of x)) (sym seat);
            })
        | inr last ↦ (let seat : slice_index_or new.seats.items k d ≡ s = ap (λ (xs : List Seat). slice_index_or xs k d) adds.seats ∙ at_end old.seats.items s d k last in
            record {
              step = ap (λ (xs : List ℕ). slice_index xs k) adds.steps ∙ at_end old.steps.items (step_of s) 0 k (omega (arith, last, seats, steps)) ∙ ap step_of (sym seat);
              wake = ap (λ (xs : List ℕ). slice_index xs k) adds.wake ∙ at_end old.wake.items (wake_of s) 0 k (omega (arith, last, seats, wakes)) ∙ ap wake_of (sym seat);
              fast = ap (λ (xs : List Bool). slice_index_or xs k false) adds.fast ∙ at_end old.fast.items (is_fast (mode_of s)) false k (omega (arith, last, seats, fasts)) ∙ ap (λ (x : Seat). is_fast (mode_of x)) (sym seat);
            })
      ];
    }

-- where all of the rest sleep on, the quantum is over
pub nodes_ended : (net : Net) (c : Course) (a b m t u : ℕ) (x : Nodes) → AreNumbers net → IsCourse net c → IsWindow net m (suc t)
    → ((k : ℕ) → u ≤ k → k < length x.wake.items → suc t < slice_index x.wake.items k)
    → AreNodes net c (none_handed m) a b m (midway t u) x → AreNodes net c (none_handed m) a b m (λ i. suc t) x
nodes_ended net c a b m t u x numbers course window asleep is =
    let n = is.wake in
    let end : ℕ = u + b in
    nodes_as net c (none_handed m) a b m (midway t end) (λ i. suc t) x (λ i h. midway_done t end i (omega (arith, h)))
    (nodes_slept net c a b m t u end x numbers course window (omega arith) (λ k low high hk. asleep k low (omega (arith, hk, n))) is)
