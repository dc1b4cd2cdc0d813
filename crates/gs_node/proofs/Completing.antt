-- What an end is where nothing failed.
use Rattle.std.proofs.Common.{◌≡◌, ◌∙◌, ◌⊎◌, inl, inr, ℕ, ◌+◌, ◌<◌, ◌≤◌, All, List, [], ◌∷◌, ◌++◌, length, take, slice_index_or, Some, sym, refl, ap, subst, arith}
use Rattle.std.specs.List.{slice_get}
use Rattle.std.proofs.lemmas.Bool.{cases_lt}
use Rattle.std.proofs.lemmas.List.{take_all, take_more}
use Rattle.std.proofs.lemmas.Option.{slice_get_past, slice_get-get_or}
use Rattle.gs_io.specs.Causes.{Rose}
use Rattle.gs_board.specs.Ledger.{Ledger}
use Rattle.gs_board.specs.Slips.{Slip}
use Rattle.gs_board.specs.Torn.{IsWhole, IsTorn}
use Rattle.gs_board.specs.declared.told.Told.{Told}
use Rattle.gs_board.specs.declared.faults.Torn.{Torn}
use Rattle.gs_board.specs.declared.faults.Torn.TheVariants.{Frame, Entry}
use Rattle.gs_node.specs.declared.ends.End.{End}
use Rattle.gs_node.specs.declared.ends.End.TheVariants as end
use Rattle.gs_node.specs.Ends.{IsComplete, IsFirstTorn, Shows}
use Rattle.gs_node.proofs.Starting.{all_push}

some_same : {A : Type 0} (a b : A) → Some a ≡ Some b → a ≡ b
some_same a b e = cc

-- what holds of all holds of the one at a place
at_place : {A : Type 0} (P : A → Type 0) (xs : List A) (k : ℕ) (x : A) → All P xs → slice_get xs k ≡ Some x → P x
at_place P xs k x h e = elim (cases_lt k (length xs)) [
  | inl lt ↦ subst P (some_same _ _ (sym (slice_get-get_or xs k x lt) ∙ e)) (h k x lt)
  | inr past ↦ (let none = slice_get_past xs k past in absurd (cc))
]

-- a whole seat does not differ
not_torn : (t : Ledger) (s : Slip) (torn : Torn) → IsWhole t s → IsTorn t s torn → ⊥
not_torn t s Frame w d = d w.frame
not_torn t s (Entry index told kept) w d = d.1.differ (sym d.1.told_is ∙ (ap (λ (ks : List Told). slice_get ks index) w.told ∙ d.1.kept_is))

-- where a seat differs not all are whole
pub not_whole : (t : Ledger) (seats : List Slip) (torn : Torn) → IsFirstTorn t seats torn → All (IsWhole t) seats → ⊥
not_whole t seats torn s whole = not_torn t s.1 torn (at_place (IsWhole t) seats s.0 s.1 whole s.2) s.4

-- an end where nothing failed is that of a run that was done, or had no memory
pub complete : IsComplete
complete t seats n a b why h quiet clock links none few whole = by why h.shows
  where
    by : (why : End) → Shows t seats n (Rose a b) why → (why ≡ end.Done) ⊎ (why ≡ end.OutOfMemory)
    by (end.Torn torn) s = absurd (not_whole t seats torn s whole)
    by end.NoThread s = absurd (quiet s)
    by (end.ClockFault x) s = elim s [
      | inl p ↦ (let e = p.0 in absurd (cc))
      | inr p ↦ (let q = p.2 in absurd (omega (arith, q, clock)))
    ]
    by end.ClockEnd s = absurd (cc)
    by end.JournalEnd s = absurd (omega (arith, s, few))
    by end.LinkFault s = absurd (omega (arith, s, links))
    by end.OutOfMemory s = inr refl
    by end.Done s = inl refl

-- a seat that differs, where all before it are whole, is the first that does
pub first_of : (t : Ledger) (seats : List Slip) (k : ℕ) (s : Slip) (torn : Torn) → k < length seats → s ≡ slice_index_or seats k s → All (IsWhole t) (take k seats) → IsTorn t s torn → IsFirstTorn t seats torn
first_of t seats k s torn lt is before differs = (k, s, slice_get-get_or seats k s lt ∙ ap (λ (z : Slip). Some z) (sym is), before, differs)

-- one whole seat more
pub whole_more : (t : Ledger) (seats : List Slip) (k : ℕ) (s : Slip) → k < length seats → s ≡ slice_index_or seats k s → All (IsWhole t) (take k seats) → IsWhole t s → All (IsWhole t) (take (k + 1) seats)
whole_more t seats k s lt is before whole = all_push (take k seats) (take (k + 1) seats) s (take_more seats k s lt ∙ ap (λ (z : Slip). take k seats ++ z ∷ []) (sym is)) (IsWhole t) before whole

pub all_whole : (t : Ledger) (seats : List Slip) (k : ℕ) → length seats ≤ k → All (IsWhole t) (take k seats) → All (IsWhole t) seats
all_whole t seats k le h = subst (λ (z : List Slip). All (IsWhole t) z) (take_all k seats le) h
