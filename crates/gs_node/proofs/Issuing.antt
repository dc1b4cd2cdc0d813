-- The seats of a board, issued one by one along its links.
use Rattle.std.proofs.Common.{◌≡◌, ◌∙◌, ℕ, zero, suc, ◌+◌, ◌<◌, inl, inr, All, List, [], ◌∷◌, ◌++◌, length, map, take, get_or, slice_index, slice_index_or, Option, Some, None, Contains, refl, sym, ap, subst, arith, length-take}
use mathlib.Core.List.{map-map}
use Rattle.std.specs.List.Sorted.{IsStrictlyIncreasing}
use Rattle.std.proofs.lemmas.Bool.{cases_lt}
use Rattle.std.proofs.lemmas.List.{length-map, get_or-map, get_or-take, take_more, map-append}
use Rattle.std.proofs.lemmas.List.Elements.{All-cons, All-nil}
use Rattle.gs_units.specs.declared.params.Link.{Link}
use Rattle.gs_trace.specs.declared.start.NodeStart.{NodeStart}
use Rattle.gs_core.specs.State.{State}
use Rattle.gs_board.specs.Ledger.{Ledger}
use Rattle.gs_board.specs.Slips.{Slip, new_slip}
use Rattle.gs_node.specs.inside.Begun.{IsNewSeat}

-- numbers that ascend step by step ascend
ascends : (xs : List ℕ) → IsStrictlyIncreasing xs → (i j : ℕ) → i < j → j < length xs → slice_index xs i < slice_index xs j
ascends xs up i zero lt below = absurd (omega (arith, lt))
ascends xs up i (suc j) lt below =
    let more : j + 1 < length xs = omega (arith, below) in
    let step = up j more in
    let same : j + 1 ≡ suc j = omega arith in
    subst (λ (z : ℕ). slice_index xs i < slice_index xs z) same (elim (cases_lt i j) [
      | inl less ↦ (let before = ascends xs up i j less (omega (arith, below)) in omega (arith, before, step))
      | inr past ↦ (let e : j ≡ i = omega (arith, past, lt) in subst (λ (z : ℕ). slice_index xs z < slice_index xs (j + 1)) e step)
    ])

-- a neighbour's seat is not among those of the neighbours before it
pub not_yet : (links : List Link) (i : ℕ) (link d : Link) → IsStrictlyIncreasing (map (λ l. l.node) links) → i < length links → link ≡ slice_index_or links i d
    → Contains (None ∷ map (λ x. Some x) (map (λ l. l.node) (take i links))) (Some link.node) → ⊥
not_yet links i link d up lt is (zero, _, e) = absurd (cc)
not_yet links i link d up lt is (suc k, below, e) =
    let ns = map (λ (l : Link). l.node) links in
    let a : length (map (λ (x : ℕ). Some x) (map (λ (l : Link). l.node) (take i links))) ≡ length (take i links) = simp (length-map, length-map) in
    let n : length ns ≡ length links = simp length-map in
    let m = length-take i links in
    let short : k < length (take i links) = omega arith in
    let ki : k < i = omega arith in
    let kl : k < length links = omega arith in
    let front : length (map (λ (l : Link). l.node) (take i links)) ≡ length (take i links) = simp length-map in
    let at : get_or (map (λ (x : ℕ). Some x) (map (λ (l : Link). l.node) (take i links))) k (Some link.node) ≡ Some (get_or (map (λ (l : Link). l.node) (take i links)) k 0) = get_or-map (λ (x : ℕ). Some x) (map (λ (l : Link). l.node) (take i links)) k 0 (Some link.node) (omega (arith, front, short)) in
    let same : get_or (map (λ (l : Link). l.node) (take i links)) k 0 ≡ link.node = (let s : Some (get_or (map (λ (l : Link). l.node) (take i links)) k 0) ≡ Some link.node = sym at ∙ e in cc) in
    let there : get_or (take i links) k d ≡ get_or links k d = get_or-take i links k d ki in
    let left : slice_index ns k ≡ link.node = get_or-map (λ (l : Link). l.node) links k d 0 kl ∙ (ap (λ (l : Link). l.node) (sym there) ∙ (sym (get_or-map (λ (l : Link). l.node) (take i links) k d 0 short) ∙ same)) in
    let right : slice_index ns i ≡ link.node = get_or-map (λ (l : Link). l.node) links i d 0 lt ∙ ap (λ (l : Link). l.node) (sym is) in
    let less : slice_index ns k < slice_index ns i = ascends ns up k i ki (omega (arith, n, lt)) in
    omega (arith, left, right, less)

mapped_more : {A : Type 0} (f : Link → A) (links : List Link) (i : ℕ) (link d : Link) → i < length links → link ≡ slice_index_or links i d
    → map f (take (i + 1) links) ≡ map f (take i links) ++ f link ∷ []
mapped_more f links i link d lt is = ap (map f) (take_more links i d lt) ∙ (map-append f (take i links) (slice_index_or links i d ∷ []) ∙ ap (λ (l : Link). map f (take i links) ++ f l ∷ []) (sym is))

-- the seats, and whose were issued, with one more
pub seats_more : (t : Ledger) (links : List Link) (i : ℕ) (link d : Link) (ss : List Slip) → i < length links → link ≡ slice_index_or links i d
    → ss ≡ map (λ l. new_slip t (Some l.node)) (take i links) → ss ++ new_slip t (Some link.node) ∷ [] ≡ map (λ l. new_slip t (Some l.node)) (take (i + 1) links)
seats_more t links i link d ss lt is e =
    ap (λ (z : List Slip). z ++ new_slip t (Some link.node) ∷ []) e ∙ sym (mapped_more (λ (l : Link). new_slip t (Some l.node)) links i link d lt is)

pub issued_more : (t u first : Ledger) (links : List Link) (i : ℕ) (link d : Link) → i < length links → link ≡ slice_index_or links i d
    → t ≡ record first { issued = None ∷ map (λ x. Some x) (map (λ l. l.node) (take i links)) } → u ≡ record t { issued = t.issued ++ Some link.node ∷ [] }
    → u ≡ record first { issued = None ∷ map (λ x. Some x) (map (λ l. l.node) (take (i + 1) links)) }
issued_more t u first links i link d lt is e h =
    let all = take i links in
    let more : map (λ (x : ℕ). Some x) (map (λ (l : Link). l.node) (take (i + 1) links)) ≡ map (λ (x : ℕ). Some x) (map (λ (l : Link). l.node) all) ++ Some link.node ∷ [] =
    ap (map (λ (x : ℕ). Some x)) (mapped_more (λ (l : Link). l.node) links i link d lt is) ∙ map-append (λ (x : ℕ). Some x) (map (λ (l : Link). l.node) all) (link.node ∷ []) in
    h ∙ (ap (λ (z : Ledger). record z { issued = z.issued ++ Some link.node ∷ [] }) e ∙ ap (λ (z : List (Option ℕ)). record first { issued = None ∷ z }) (sym more))

-- the seats of neighbours, as they are issued
pub all_new : (t : Ledger) (links : List Link) → All IsNewSeat (map (λ link. new_slip t (Some link.node)) links)
all_new t [] = All-nil IsNewSeat
all_new t (link ∷ links) = All-cons IsNewSeat (new_slip t (Some link.node)) (map (λ l. new_slip t (Some l.node)) links) (record { empty = refl; others = refl }) (all_new t links)

pub new_whose : (t : Ledger) (links : List Link) (ss : List Slip) → ss ≡ map (λ link. new_slip t (Some link.node)) links → map (λ s. s.whose) ss ≡ map (λ x. Some x) (map (λ link. link.node) links)
new_whose t links ss e = ap (map (λ (s : Slip). s.whose)) e ∙ (map-map (λ (s : Slip). s.whose) (λ (link : Link). new_slip t (Some link.node)) links ∙ sym (map-map (λ (x : ℕ). Some x) (λ (link : Link). link.node) links))

pub as_many_seats : (t : Ledger) (links : List Link) (ss : List Slip) → ss ≡ map (λ link. new_slip t (Some link.node)) links → length ss ≡ length links
as_many_seats t links ss e = (let q : length ss ≡ length (map (λ (link : Link). new_slip t (Some link.node)) links) = ap length e in simp length-map at q)

-- seats are issued alike by ledgers of one core and start
pub same_slip : (t u : Ledger) (w : Option ℕ) → u.core ≡ t.core → u.begun ≡ t.begun → new_slip t w ≡ new_slip u w
same_slip t u w e f = sym (ap (λ (s : State). slip s t.begun) e) ∙ sym (ap (λ (b : NodeStart). slip u.core b) f)
  where
    slip : State → NodeStart → Slip
    slip s b = record { whose = w; params = s.params; begun = b; told = []; room = 0 }

pub same_slips : (t u : Ledger) (links : List Link) → u.core ≡ t.core → u.begun ≡ t.begun → map (λ link. new_slip t (Some link.node)) links ≡ map (λ link. new_slip u (Some link.node)) links
same_slips t u [] e f = refl
same_slips t u (link ∷ links) e f = ap (λ (s : Slip). s ∷ map (λ (l : Link). new_slip t (Some l.node)) links) (same_slip t u (Some link.node) e f) ∙ ap (λ (ss : List Slip). new_slip u (Some link.node) ∷ ss) (same_slips t u links e f)
