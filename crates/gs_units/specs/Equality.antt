-- Links are equal where all their fields are, and parameters where theirs are. Below, that this is an equivalence.
use Rattle.std.specs.Prelude.{◌≡◌, ℕ, Bool, true, false, List, ◌==◌, ◌&&◌}
use Rattle.std.specs.Bool.{Decides}
use Rattle.std.specs.Cmp.{IsEquivalence}
use Rattle.std.specs.Cmp.Lexicographic.{pointwise}
use Rattle.std.proofs.Common.{refl, sym, ap, subst, rules}
use Rattle.std.proofs.Props.{props}
use Rattle.std.proofs.lemmas.Bool.Decides.{Decides-eqb}
use Rattle.std.proofs.lemmas.Slice.Eq.{slice_eq-Decides}
use Rattle.gs_units.specs.Accepted.{IsRate}
use Rattle.gs_units.specs.declared.params.Link.{Link}
use Rattle.gs_units.specs.declared.params.NodeParams.{NodeParams}
use Rattle.gs_units.specs.declared.rate.Rate.{Rate}

abbrev pub same_link : Link → Link → Bool
same_link a b = (a.node == b.node) && (a.comp == b.comp) && (a.jump == b.jump) && (a.kappa == b.kappa) && (a.delta == b.delta)

abbrev pub same_links : List Link → List Link → Bool
same_links = pointwise same_link

abbrev pub same_rate : Rate → Rate → Bool
same_rate a b = (a.lo == b.lo) && (a.hi == b.hi) && (a.mu == b.mu)

abbrev pub same_params : NodeParams → NodeParams → Bool
same_params a b =
    (a.cluster == b.cluster) && (a.node == b.node) && same_links a.links b.links && same_rate a.rate b.rate
    && (a.iota == b.iota) && (a.every == b.every)

-- a test that decides whether two values are equal is an equivalence
same-symm : (a b : Bool) → (a ≡ true → b ≡ true) → (b ≡ true → a ≡ true) → a ≡ b
same-symm true b there back = sym (there refl)
same-symm false true there back = back refl
same-symm false false there back = refl

equivalence-from_Decides : {X : Type 0} (E : X → X → Bool) → ((a b : X) → Decides (E a b) (a ≡ b)) → IsEquivalence E
equivalence-from_Decides E is = record {
  refl = λ x. (is x x).1 refl;
  symm = λ x y. same-symm (E x y) (E y x) (λ h. (is y x).1 (sym ((is x y).0 h))) (λ h. (is x y).1 (sym ((is y x).0 h)));
  congr = λ x y z h. ap (λ w. E w z) ((is x y).0 h);
}

same_link-Decides : (a b : Link) → Decides (same_link a b) (a ≡ b)
same_link-Decides a b = search (rules, Decides-eqb)

pub same_links-Decides : (a b : List Link) → Decides (same_links a b) (a ≡ b)
same_links-Decides a b = slice_eq-Decides same_link-Decides a b (same_links a b) refl

pub same_links-laws : IsEquivalence same_links
same_links-laws = equivalence-from_Decides same_links same_links-Decides

-- a rate is its three numbers: that they are accepted has one proof
IsRate-prop : (lo hi mu : ℕ) → IsProp (IsRate lo hi mu)
IsRate-prop lo hi mu = hlevel props

rated : (lo hi mu : ℕ) → IsRate lo hi mu → Rate
rated low high boost are = record { lo = low; hi = high; mu = boost; accepted = are }

rate-same : (a b : Rate) → a.lo ≡ b.lo → a.hi ≡ b.hi → a.mu ≡ b.mu → a ≡ b
unfolding rated
rate-same a b lo hi mu =
    let here : (are : IsRate a.lo a.hi a.mu) → a ≡ rated a.lo a.hi a.mu are = λ are. ap (rated a.lo a.hi a.mu) (IsRate-prop a.lo a.hi a.mu a.accepted are) in
    let boost = subst (λ x. (are : IsRate a.lo a.hi x) → a ≡ rated a.lo a.hi x are) mu here in
    let high = subst (λ x. (are : IsRate a.lo x b.mu) → a ≡ rated a.lo x b.mu are) hi boost in
    subst (λ x. (are : IsRate x b.hi b.mu) → a ≡ rated x b.hi b.mu are) lo high b.accepted

same_rate-Decides : (a b : Rate) → Decides (same_rate a b) (a ≡ b)
same_rate-Decides a b = search (rules, Decides-eqb, rate-same)

pub same_params-Decides : (a b : NodeParams) → Decides (same_params a b) (a ≡ b)
same_params-Decides a b = search (rules, Decides-eqb, same_links-Decides, same_rate-Decides)

pub same_params-laws : IsEquivalence same_params
same_params-laws = equivalence-from_Decides same_params same_params-Decides
