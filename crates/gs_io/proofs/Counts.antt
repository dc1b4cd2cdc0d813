-- Failed reads that are counted.
use Rattle.std.proofs.Common.{◌≡◌, ◌≢◌, ℕ, ◌+◌, ◌≤◌, ◌⊎◌, List, [], ◌∷◌, ◌++◌, true, false, cond, inl, inr, arith, refl}
use Rattle.std.specs.List.{count_by}
use Rattle.std.specs.Str.{bytes_eq}
use Rattle.std.proofs.lemmas.Bool.{false_from_ne_true}
use Rattle.std.proofs.lemmas.List.Sums.{sum_by-append}
use Rattle.std.proofs.lemmas.Slice.Eq.{bytes_eq-Decides}
use Rattle.gs_io.specs.Causes.{Rose}
use Rattle.gs_io.specs.Held.{Shelf, after_failed_read, after_unrecorded_read, failures}

-- a failed read of a name raises the count of that name
pub raised : (old new : Shelf) (name : List ℕ) → (new ≡ after_failed_read old name) ⊎ (new ≡ after_unrecorded_read old) → Rose (failures old name) (failures new name)
raised old new name (inl is) =
    let itself : bytes_eq name name ≡ true = grind (arith, bytes_eq-Decides name name) in
    let more : count_by (bytes_eq name) (old.failed ++ name ∷ []) ≡ count_by (bytes_eq name) old.failed + 1 =
    rw (sum_by-append (λ x. cond (bytes_eq name x) 1 0) old.failed (name ∷ []), itself) refl in
    rw is (inl (omega (arith, more)))
raised old new name (inr is) = rw is (grind arith)

-- and of no other name
pub unraised : (old new : Shelf) (name other : List ℕ) → new ≡ after_failed_read old name → other ≢ name → failures new other ≡ failures old other
unraised old new name other is apart =
    let differ : bytes_eq other name ≡ false = false_from_ne_true (bytes_eq other name) (λ same. apart ((bytes_eq-Decides other name).0 same)) in
    let same : count_by (bytes_eq other) (old.failed ++ name ∷ []) ≡ count_by (bytes_eq other) old.failed =
    rw (sum_by-append (λ x. cond (bytes_eq other x) 1 0) old.failed (name ∷ []), differ) (omega arith) in
    rw (is, same) refl

-- but where the name finds no memory
pub alone : (old new : Shelf) (name other : List ℕ) → (new ≡ after_failed_read old name) ⊎ (new ≡ after_unrecorded_read old) → other ≢ name
    → (failures new other ≡ failures old other) ⊎ (new ≡ after_unrecorded_read old)
alone old new name other (inl is) apart = inl (unraised old new name other is apart)
alone old new name other (inr is) apart = inr is

-- and no count falls
pub later : (old new : Shelf) (name other : List ℕ) → (new ≡ after_failed_read old name) ⊎ (new ≡ after_unrecorded_read old) → old.unrecorded ≤ new.unrecorded
    → failures old other ≤ failures new other
later old new name other (inl is) more =
    let least : count_by (bytes_eq other) old.failed ≤ count_by (bytes_eq other) (old.failed ++ name ∷ []) =
    rw (sum_by-append (λ x. cond (bytes_eq other x) 1 0) old.failed (name ∷ [])) (omega arith) in
    rw is (omega (arith, least))
later old new name other (inr is) more =
    let same : count_by (bytes_eq other) new.failed ≡ count_by (bytes_eq other) old.failed = rw is refl in
    omega (arith, more, same)
