-- The pieces at the start.
use Rattle.std.proofs.Common.{◌≡◌, ℕ, ◌+◌, ◌<◌, arith, ap, sym, ◌∙◌, subst, inl, inr, List, [], ◌∷◌, ◌++◌, length, slice_index_or}
use Rattle.std.proofs.Math.Seq.{get_or-append_seam}
use Rattle.std.proofs.lemmas.Bool.{cases_lt}
use Rattle.std.proofs.lemmas.List.{get_or_append_left}

-- one more behind those that are so
pub each_pushed : {A : Type 0} (Is : ℕ → A → Type 0) (old new : List A) (x : A) → new ≡ old ++ x ∷ [] → Is (length old) x
    → ((k : ℕ) (d : A) → k < length old → Is k (slice_index_or old k d)) → (k : ℕ) (d : A) → k < length old + 1 → Is k (slice_index_or new k d)
each_pushed Is old new x pushed own each k d h = elim (cases_lt k (length old)) [
  | inl less ↦ subst (Is k) (sym (ap (λ xs. slice_index_or xs k d) pushed ∙ get_or_append_left old (x ∷ []) d k less)) (each k d less)
  | inr more ↦ (let e : length old ≡ k = omega (arith, h, more) in
      subst (Is k) (sym (ap (λ xs. slice_index_or xs k d) pushed ∙ ap (λ (n : ℕ). slice_index_or (old ++ x ∷ []) n d) (sym e) ∙ get_or-append_seam old x [] d)) (subst (λ (n : ℕ). Is n x) e own))
]
