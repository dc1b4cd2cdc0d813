-- The faults of edges, edge by edge: the steps of the loop over them.
use Rattle.std.proofs.Common.{◌≡◌, ℕ, ◌+◌, ◌*◌, ◌<◌, ◌≤◌, ◌||◌, ◌&&◌, ◌==◌, ◌⊎◌, inl, inr, sym, refl, ◌∙◌, List, length, take, drop, get_or, Bool, true, false, Some, None}
use Rattle.std.proofs.lemmas.List.{drop_all, drop_more, take_more}
use Rattle.std.proofs.lemmas.List.Folds.{list_any_more}
use Rattle.std.proofs.lemmas.Bool.{cases_eq, eq-eqb, ne_eqb, or_right, or_left, and_left, and_right, or_from, and_from}
use Rattle.gs_topo.specs.declared.fault.TopoFault.{TopoFault}
use Rattle.gs_topo.specs.Faults.{edge_fault, edges_fault}
use Rattle.gs_topo.specs.Graph.{joined, joins}
use Rattle.gs_topo.specs.inside.Kept.{HasFlags, flag_at}

pub edges_fault-end : (n i : ℕ) (es : List (ℕ × ℕ)) → length es ≤ i → edges_fault n (take i es) i (drop i es) ≡ None
unfolding edges_fault
edges_fault-end n i es h = rw (drop_all i es h)

pub edges_fault-stop : (n i : ℕ) (es : List (ℕ × ℕ)) (e : ℕ × ℕ) (f : TopoFault) → i < length es → edge_fault n (take i es) i (get_or es i e) ≡ Some f → edges_fault n (take i es) i (drop i es) ≡ Some f
unfolding edges_fault
edges_fault-stop n i es e f h is = rw (drop_more es i e h, is)

pub edges_fault-more : (n i : ℕ) (es : List (ℕ × ℕ)) (e : ℕ × ℕ) → i < length es → edge_fault n (take i es) i (get_or es i e) ≡ None
    → edges_fault n (take i es) i (drop i es) ≡ edges_fault n (take (i + 1) es) (i + 1) (drop (i + 1) es)
unfolding edges_fault
edges_fault-more n i es e h is = rw (drop_more es i e h, is, ← take_more es i e h)

-- an edge joins its own ends, and no others
joins-own : (v w : ℕ) → joins (v, w) v w ≡ true
joins-own v w = or_left _ _ (and_from (v == v) (w == w) (eq-eqb v v refl) (eq-eqb w w refl))

joins-own_turned : (v w : ℕ) → joins (v, w) w v ≡ true
joins-own_turned v w = or_right _ _ (and_from (v == v) (w == w) (eq-eqb v v refl) (eq-eqb w w refl))

not_both : (v w a b : ℕ) → ((a ≡ v) × (b ≡ w) → ⊥) → ((v == a) && (w == b)) ≡ false
not_both v w a b other = elim (cases_eq a v) [
  | inr differs ↦ and_left _ _ (ne_eqb v a (λ e. differs (sym e)))
  | inl same ↦ and_right _ _ (ne_eqb w b (λ e. other (same, sym e)))
]

not_both_turned : (v w a b : ℕ) → ((a ≡ w) × (b ≡ v) → ⊥) → ((v == b) && (w == a)) ≡ false
not_both_turned v w a b other = elim (cases_eq a w) [
  | inr differs ↦ and_right _ _ (ne_eqb w a (λ e. differs (sym e)))
  | inl same ↦ and_left _ _ (ne_eqb v b (λ e. other (same, sym e)))
]

both_or_not : (a b v w : ℕ) → ((a ≡ v) × (b ≡ w)) ⊎ ((a ≡ v) × (b ≡ w) → ⊥)
both_or_not a b v w = elim (cases_eq a v) [
  | inr differs ↦ inr (λ both. differs both.0)
  | inl same ↦ elim (cases_eq b w) [ inl too ↦ inl (same, too) | inr differs ↦ inr (λ both. differs both.1) ]
]

or_false : (x y : Bool) → y ≡ false → (x || y) ≡ x
or_false true y h = refl
or_false false y h = h

-- Two writes of a flag add an edge to the test.
pub flags_more : (n v w : ℕ) (old mid new : List Bool) → v < n → w < n → length new ≡ n * n
    → flag_at mid n v w ≡ true → ((a b : ℕ) → a < n → b < n → ((a ≡ v) × (b ≡ w) → ⊥) → flag_at mid n a b ≡ flag_at old n a b)
    → flag_at new n w v ≡ true → ((a b : ℕ) → a < n → b < n → ((a ≡ w) × (b ≡ v) → ⊥) → flag_at new n a b ≡ flag_at mid n a b)
    → (test : ℕ → ℕ → Bool) → HasFlags n test old → HasFlags n (λ a b. test a b || joins (v, w) a b) new
flags_more n v w old mid new hv hw count here others there more test had = record {
  count = count;
  each = λ a b ha hb. elim (both_or_not a b w v) [
    | inl turned ↦ rw (turned.0, turned.1) (there ∙ sym (or_right (test w v) (joins (v, w) w v) (joins-own_turned v w)))
    | inr not_turned ↦ more a b ha hb not_turned ∙ (elim (both_or_not a b v w) [
      | inl same ↦ rw (same.0, same.1) (here ∙ sym (or_right (test v w) (joins (v, w) v w) (joins-own v w)))
      | inr not_same ↦ others a b ha hb not_same ∙ had.each a b ha hb
          ∙ sym (or_false (test a b) (joins (v, w) a b) (or_from _ _ (not_both v w a b not_same) (not_both_turned v w a b not_turned)))
    ])
  ];
}

-- the flags of one more edge
pub joined_more : (n i : ℕ) (es : List (ℕ × ℕ)) (e : ℕ × ℕ) (flags : List Bool) → i < length es
    → HasFlags n (λ a b. joined (take i es) a b || joins (get_or es i e) a b) flags → HasFlags n (joined (take (i + 1) es)) flags
joined_more n i es e flags h has = record {
  count = has.count;
  each = λ a b ha hb. has.each a b ha hb ∙ sym (list_any_more (λ x. joins x a b) es i e h);
}
