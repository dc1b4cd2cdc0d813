-- A search for least sums that tries a pending node of the least sum next.
use Rattle.std.proofs.Common.{◌≡◌, ℕ, ◌+◌, ◌*◌, ◌<◌, ◌≤◌, arith, ap, ◌∙◌, List, [], ◌∷◌, All, Bool, length, slice_index, slice_index_or, get_or, sum}
use Rattle.std.specs.List.Sorted.{IsPermutation}
use Rattle.std.specs.List.{swap_remove}
use Rattle.std.proofs.lemmas.List.{get_or_read}
use Rattle.std.proofs.lemmas.List.Elements.{All-contains, All-head}
use Rattle.std.proofs.lemmas.List.Sorted.{Contains-permutation, IsPermutation-swap_remove, IsPermutation-sym, length_permutation}
use Rattle.gs_topo.specs.inside.Search.{Trial, AreInside, AreSteps, all_tried, far_sum}
use Rattle.gs_topo.specs.declared.steps.Step.{Step}
use Rattle.gs_topo.proofs.Members.{tail_member}
use Rattle.gs_topo.proofs.Relaxing.{IsTried, IsOrdered, are_tried}
use Rattle.gs_topo.proofs.Searching.{IsSettled, IsUnderWay, IsWithin, all_by, goes_on, order_of, settled_in, stays_settled, stays_within, under_way_in, within_in}

-- what is read of the tables at such a node
pub record IsPick (all : List (List Step)) (sums pending : List ℕ) (place node here : ℕ) (steps : List Step) : Type 0 where
  pub within : IsWithin (length all) far_sum (record { sums = sums; pending = pending })
  pub settled : IsSettled far_sum (record { sums = sums; pending = pending })
  pub all_inside : All (AreInside (length all)) all
  pub inside : place < length pending
  pub least : All (λ x. slice_index sums (slice_index pending place) ≤ slice_index sums x) pending
  pub node_read : node ≡ get_or pending place node
  pub here_read : here ≡ get_or sums node here
  pub steps_read : steps ≡ get_or all node steps

pub pick_inside : (n : ℕ) (sums pending : List ℕ) (place node : ℕ) → IsWithin n far_sum (record { sums = sums; pending = pending }) → place < length pending → node ≡ get_or pending place node
    → (node < n) × (node < length sums)
pick_inside n sums pending place node w inside is =
    let order = IsPermutation-swap_remove pending place node inside is in
    let h = All-head (λ x. x < n) node (swap_remove pending place node) (within_in n far_sum sums pending (node ∷ swap_remove pending place node) order w).inside in
    (h, (let c = w.count in omega (arith, h, c)))

pub here_small : (n : ℕ) (sums pending : List ℕ) (node here : ℕ) → IsWithin n far_sum (record { sums = sums; pending = pending }) → node < n → here ≡ get_or sums node here
    → (here ≡ slice_index sums node) × (here ≤ far_sum)
here_small n sums pending node here within inside is =
    let small = within.small node in
    let read : here ≡ slice_index sums node = get_or_read sums node here (let c = within.count in omega (arith, inside, c)) is 0 in
    (read, rw read small)

-- What a trial of it leaves, and that less is left to do.
pub record IsPicked (all : List (List Step)) (sums pending : List ℕ) (node here : ℕ) (new : Trial) : Type 0 where
  pub rest : List ℕ
  pub steps : List Step
  pub are : steps ≡ slice_index_or all node []
  pub node_inside : node < length all
  pub sum_is : here ≡ slice_index sums node
  pub order : IsPermutation pending (node ∷ rest)
  pub tried : IsTried here steps (record { sums = sums; pending = rest }) new
  pub within : IsWithin (length all) far_sum new
  pub settled : IsSettled far_sum new
  pub less : 2 * sum new.sums + length new.pending < 2 * sum sums + length pending

pub picked : (all : List (List Step)) (sums pending : List ℕ) (place node here : ℕ) (steps : List Step) (new : Trial) → IsPick all sums pending place node here steps
    → new ≡ all_tried here (record { sums = sums; pending = swap_remove pending place node }) steps → IsPicked all sums pending node here new
picked all sums pending place node here steps new p is =
    let n = length all in
    let rest : List ℕ = swap_remove pending place node in
    let old : Trial = record { sums = sums; pending = rest } in
    let order = IsPermutation-swap_remove pending place node p.inside p.node_read in
    let at = (pick_inside n sums pending place node p.within p.inside p.node_read).0 in
    let sum_is = (here_small n sums pending node here p.within at p.here_read).0 in
    let read : steps ≡ slice_index_or all node [] = get_or_read all node steps at p.steps_read [] in
    let inside : AreInside n steps = rw read (p.all_inside node [] at) in
    let w = within_in n far_sum sums pending (node ∷ rest) order p.within in
    let ordered : IsOrdered far_sum here old = rw sum_is (order_of far_sum node sums rest p.within.small (settled_in far_sum sums pending (node ∷ rest) order p.settled)) in
    let tried : IsTried here steps old new = rw is (are_tried here steps old (rw p.within.count inside) ordered) in
    let here_is : here ≡ slice_index sums (slice_index pending place) = sum_is ∙ ap (λ i. slice_index sums i) (get_or_read pending place node p.inside p.node_read 0) in
    let least : All (λ x. here ≤ slice_index sums x) rest = all_by (λ x. here ≤ slice_index sums x) rest (λ x h.
    rw here_is (All-contains (λ x. slice_index sums (slice_index pending place) ≤ slice_index sums x) pending x p.least
    (Contains-permutation (node ∷ rest) pending x (IsPermutation-sym pending (node ∷ rest) order) (tail_member node x rest h)))) in
    record {
      rest = rest;
      steps = steps;
      are = read;
      node_inside = at;
      sum_is = sum_is;
      order = order;
      tried = tried;
      within = stays_within n far_sum here node steps sums rest new inside tried w;
      settled = stays_settled far_sum here steps sums rest new tried ordered least;
      less = let l = length_permutation pending (node ∷ rest) order in let work = tried.work in omega (arith, work, l);
    }

pub pick_goes_on : (adj : ℕ → ℕ → Bool) (k : ℕ → ℕ → ℕ) (all : List (List Step)) (source : ℕ) (sums pending : List ℕ) (node here : ℕ) (new : Trial) → AreSteps (length all) adj k all
    → IsPicked all sums pending node here new → IsUnderWay (length all) adj k far_sum source (record { sums = sums; pending = pending }) → IsUnderWay (length all) adj k far_sum source new
pick_goes_on adj k all source sums pending node here new steps p w =
    goes_on (length all) adj k far_sum source node sums p.rest p.steps new p.node_inside (p.are ∙ steps.each node p.node_inside) (rw p.sum_is at p.tried)
    (under_way_in (length all) adj k far_sum source sums pending (node ∷ p.rest) p.order w)
