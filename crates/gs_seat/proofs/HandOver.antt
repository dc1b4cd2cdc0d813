-- A seat takes over what one of its neighbours sent in a window, letter by letter.
use Rattle.std.proofs.Common.{◌≡◌, ℕ, suc, ◌+◌, ◌<◌, ◌≤◌, inl, inr, arith, ap, sym, refl, ◌∙◌, subst, List, [], ◌∷◌, length, drop, slice_index_or}
use Rattle.std.proofs.lemmas.Bool.{cases_eq}
use Rattle.std.proofs.lemmas.List.{drop_more}
use Rattle.gs_run.specs.Net.{Net}
use Rattle.gs_run.specs.World.{Sent}
use Rattle.gs_calendar.specs.Course.{Course}
use Rattle.gs_seat.specs.Held.{AreSentIn, IsNext, SendsNone, handed}
use Rattle.gs_seat.specs.Seats.{IsSeatAt}
use Rattle.gs_seat.specs.declared.seat.Seat.{Seat}
use Rattle.gs_seat.proofs.Held.{handed_other, handed_own}
use Rattle.gs_seat.proofs.Windows.{all_handed, handed_within, seat_as}

handed_same : (by : ℕ → ℕ) (x y : ℕ) → by y ≡ handed by x (by x) y
handed_same by x y = elim (cases_eq y x) [
  | inl own ↦ ap by own ∙ sym (handed_own by x (by x) y own)
  | inr other ↦ sym (handed_other by x (by x) y other)
]

handed_twice : (by : ℕ → ℕ) (x q r y : ℕ) → handed (handed by x q) x r y ≡ handed by x r y
handed_twice by x q r y = elim (cases_eq y x) [
  | inl own ↦ handed_own (handed by x q) x r y own ∙ sym (handed_own by x r y own)
  | inr other ↦ handed_other (handed by x q) x r y other ∙ handed_other by x q y other ∙ sym (handed_other by x r y other)
]

-- it has taken over what x sent by some quantum, and these are left
pub record IsHandingOver (net : Net) (c : Course) (x v : ℕ) (by : ℕ → ℕ) (m t : ℕ) (left : List Sent) (s : Seat) : Type 0 where
  pub quantum : ℕ
  pub since : m ≤ quantum
  pub sent : AreSentIn net c x quantum t left
  pub seat : IsSeatAt net c v (handed by x quantum) m t s

pub hands_first : (net : Net) (c : Course) (x v m t : ℕ) (by : ℕ → ℕ) (xs : List Sent) (s : Seat) → AreSentIn net c x (by x) t xs → IsSeatAt net c v by m t s → IsHandingOver net c x v by m t xs s
hands_first net c x v m t by xs s sent is = record {
  quantum = by x;
  since = (is.within x).0;
  sent = sent;
  seat = seat_as net c v m t by (handed by x (by x)) s (λ y near. handed_same by x y) (handed_within by x (by x) m t is.within (is.within x).0 (is.within x).1) is;
}

-- one of these is next
pub hands_at : (net : Net) (c : Course) (x v m t i : ℕ) (by : ℕ → ℕ) (xs : List Sent) (y : Sent) (s : Seat) → i < length xs → y ≡ slice_index_or xs i y → IsHandingOver net c x v by m t (drop i xs) s
    → IsHandingOver net c x v by m t (y ∷ drop (i + 1) xs) s
hands_at net c x v m t i by xs y s inside here is =
    subst (λ (ys : List Sent). IsHandingOver net c x v by m t ys s) (drop_more xs i y inside ∙ ap (λ (z : Sent). z ∷ drop (i + 1) xs) (sym here)) is

pub hands_next : (net : Net) (c : Course) (x v m t : ℕ) (by : ℕ → ℕ) (y : Sent) (ys : List Sent) (s : Seat) → (is : IsHandingOver net c x v by m t (y ∷ ys) s) → IsNext net c x (handed by x is.quantum x) t y
hands_next net c x v m t by y ys s is = subst (λ (q : ℕ). IsNext net c x q t y) (sym (handed_own by x is.quantum x refl)) is.sent.0

pub hands_more : (net : Net) (c : Course) (x v m t : ℕ) (by : ℕ → ℕ) (y : Sent) (ys : List Sent) (old new : Seat) → (is : IsHandingOver net c x v by m t (y ∷ ys) old)
    → IsSeatAt net c v (handed (handed by x is.quantum) x y.quantum) m t new → IsHandingOver net c x v by m t ys new
hands_more net c x v m t by y ys old new is seat =
    let after = is.sent.0.after in
    let since = is.since in
    record {
      quantum = y.quantum;
      since = omega (arith, after, since);
      sent = is.sent.1;
      seat = seat_as net c v m t (handed (handed by x is.quantum) x y.quantum) (handed by x y.quantum) new (λ z near. handed_twice by x is.quantum y.quantum z)
          (λ z. subst (λ (q : ℕ). (m ≤ q) × (q ≤ t)) (handed_twice by x is.quantum y.quantum z) (seat.within z)) seat;
    }

-- none is left
pub hands_last : (net : Net) (c : Course) (x v m t : ℕ) (by : ℕ → ℕ) (s : Seat) → IsHandingOver net c x v by m t [] s → IsSeatAt net c v (handed by x t) m t s
hands_last net c x v m t by s is =
    let q = handed_own by x is.quantum x refl in
    let none : SendsNone net c x (handed by x is.quantum x) (suc t) = subst (λ (n : ℕ). SendsNone net c x n (suc t)) (sym q) is.sent in
    let all = all_handed net c x v m t (handed by x is.quantum) s none is.seat in
    seat_as net c v m t (handed (handed by x is.quantum) x t) (handed by x t) s (λ z near. handed_twice by x is.quantum t z)
    (λ z. subst (λ (n : ℕ). (m ≤ n) × (n ≤ t)) (handed_twice by x is.quantum t z) (all.within z)) all
