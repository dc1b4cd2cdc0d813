-- A search for least sums, by steps that are tried: what it keeps, how it begins, goes on and ends.
use Rattle.std.proofs.Common.{◌≡◌, ℕ, ◌+◌, ◌<◌, ◌≤◌, ◌⊎◌, inl, inr, arith, ap, sym, refl, ◌∙◌, List, [], ◌∷◌, ◌++◌, length, Bool, IsTrue, slice_index, get_or, All, filter, replicate, get_or-set_same, get_or-set_other}
use Rattle.std.specs.List.{Contains, range_with_len}
use Rattle.std.proofs.Math.ListN.{length-set, length-replicate, set}
use Rattle.std.proofs.lemmas.List.{get_or_default, get_or_past, get_or-replicate}
use Rattle.std.proofs.lemmas.List.Elements.{All-map, All-filter, All-contains, filter_passes}
use Rattle.std.specs.List.Sorted.{IsPermutation}
use Rattle.std.proofs.lemmas.List.Sorted.{Contains-permutation, IsPermutation-sym}
use Rattle.std.proofs.lemmas.Bool.{cases_eq, cases_lt}
use Rattle.gs_topo.specs.Walks.{IsWalk, length_of}
use Rattle.gs_topo.specs.inside.Search.{Trial, steps_over, AreSums, AreInside}
use Rattle.gs_topo.specs.declared.steps.Step.{Step}
use Rattle.gs_topo.proofs.Walks.{walk_append, length_of-append}
use Rattle.gs_topo.proofs.Relaxing.{IsTried, IsOrdered, still_ordered}
use Rattle.gs_topo.proofs.Members.{Contains-filter, Contains-map, Contains-range, range_below, none, only, member_cases, head_member, tail_member}

-- what keeps each read of the search within its tables
pub record IsWithin (n far : ℕ) (t : Trial) : Type 0 where
  pub count : length t.sums ≡ n
  pub small : (x : ℕ) → slice_index t.sums x ≤ far
  pub inside : All (λ x. x < n) t.pending

-- What a search keeps: each known sum is that of a walk, and each step was tried or is still to be tried.
pub record IsUnderWay (n : ℕ) (adj : ℕ → ℕ → Bool) (k : ℕ → ℕ → ℕ) (far source : ℕ) (t : Trial) : Type 0 where
  pub start : slice_index t.sums source ≡ 0
  pub known : (w : ℕ) → w < n → slice_index t.sums w < far → (xs : List ℕ) × IsWalk (λ a b. IsTrue (adj a b)) n source xs w × (length_of k source xs ≡ slice_index t.sums w)
  pub near : (u x : ℕ) → u < n → x < n → IsTrue (adj u x) → (slice_index t.sums x ≤ slice_index t.sums u + k u x) ⊎ Contains t.pending u

-- what each member is, all are
pub all_by : {X : Type 0} (P : X → Type 0) (xs : List X) → ((x : X) → Contains xs x → P x) → All P xs
all_by P xs each i d h = each (get_or xs i d) (i, h, get_or_default xs i (get_or xs i d) d h)

-- a trial of the steps of one node keeps the reads within
pub stays_within : (n far here u : ℕ) (steps : List Step) (sums pending : List ℕ) (new : Trial) → AreInside n steps → IsTried here steps (record { sums = sums; pending = pending }) new
    → IsWithin n far (record { sums = sums; pending = u ∷ pending }) → IsWithin n far new
stays_within n far here u steps sums pending new inside t w = record {
  count = t.count ∙ w.count;
  small = λ x. let a = t.lower x in let b = w.small x in omega (arith, a, b);
  inside = all_by (λ x. x < n) new.pending (λ x h. elim (t.others x h) [
    | inl before ↦ All-contains (λ x. x < n) (u ∷ pending) x w.inside (tail_member u x pending before)
    | inr late ↦ rw (← late.2) (All-contains (λ s. s.to < n) steps late.0 inside late.1)
  ]);
}

-- a step that the steps of u have
pub has_step : (n : ℕ) (adj : ℕ → ℕ → Bool) (k : ℕ → ℕ → ℕ) (u x : ℕ) → x < n → IsTrue (adj u x) → Contains (steps_over (k u) (filter (adj u) (range_with_len 0 n))) (record { to = x; length = k u x })
has_step n adj k u x hx next =
    let f : ℕ → Step = λ y. record { to = y; length = k u y } in
    Contains-map f (filter (adj u) (range_with_len 0 n)) x (Contains-filter (adj u) (range_with_len 0 n) x next (Contains-range 0 n x (omega arith) (omega arith)))

-- and what each of them is
pub each_step : (n : ℕ) (adj : ℕ → ℕ → Bool) (k : ℕ → ℕ → ℕ) (u : ℕ) → All (λ s. IsTrue (adj u s.to) × (s.to < n) × (s.length ≡ k u s.to)) (steps_over (k u) (filter (adj u) (range_with_len 0 n)))
each_step n adj k u =
    let f : ℕ → Step = λ y. record { to = y; length = k u y } in
    All-map (λ (s : Step). IsTrue (adj u s.to) × (s.to < n) × (s.length ≡ k u s.to)) f (filter (adj u) (range_with_len 0 n))
    (λ i d h. (filter_passes (adj u) (range_with_len 0 n) i d h, (let r = All-filter (adj u) (λ x. (0 ≤ x) × (x < 0 + n)) (range_with_len 0 n) (range_below 0 n) i d h in omega (arith, r)), refl))

-- the walk to u and one more step
one_more : (n : ℕ) (adj : ℕ → ℕ → Bool) (k : ℕ → ℕ → ℕ) (source u x : ℕ) (xs : List ℕ) → x < n → IsTrue (adj u x) → IsWalk (λ a b. IsTrue (adj a b)) n source xs u
    → (ys : List ℕ) × IsWalk (λ a b. IsTrue (adj a b)) n source ys x × (length_of k source ys ≡ length_of k source xs + k u x)
one_more n adj k source u x xs hx next walk =
    let sum = length_of-append (λ a b. IsTrue (adj a b)) n k source u xs (x ∷ []) walk in
    (xs ++ x ∷ [], walk_append (λ a b. IsTrue (adj a b)) n source u x xs (x ∷ []) walk (next, hx, refl), omega (arith, sum))

-- A trial of the steps of one node keeps the search under way, with that node no longer pending.
pub goes_on : (n : ℕ) (adj : ℕ → ℕ → Bool) (k : ℕ → ℕ → ℕ) (far source u : ℕ) (sums pending : List ℕ) (steps : List Step) (new : Trial) → u < n
    → steps ≡ steps_over (k u) (filter (adj u) (range_with_len 0 n)) → IsTried (slice_index sums u) steps (record { sums = sums; pending = pending }) new
    → IsUnderWay n adj k far source (record { sums = sums; pending = u ∷ pending }) → IsUnderWay n adj k far source new
goes_on n adj k far source u sums pending steps new hu are t w =
    let here : ℕ = slice_index sums u in
    let each : All (λ s. IsTrue (adj u s.to) × (s.to < n) × (s.length ≡ k u s.to)) steps = rw are (each_step n adj k u) in
    record {
      start = let a = t.lower source in omega (arith, a, w.start);
      known = λ x hx short. elim (t.changed x) [
        | inl same ↦ let o = w.known x hx (rw same at short) in (o.0, o.1, o.2 ∙ sym same)
        | inr late ↦
            let s : Step = late.1.0 in
            let is = All-contains (λ s. IsTrue (adj u s.to) × (s.to < n) × (s.length ≡ k u s.to)) steps s each late.1.1 in
            let at : s.to ≡ x = late.1.2 in
            let next : IsTrue (adj u x) = rw at at is.0 in
            let long : s.length ≡ k u x = is.2 ∙ ap (k u) at in
            let sum : slice_index new.sums x ≡ here + s.length = late.1.3 in
            let o = w.known u hu (omega (arith, sum, short)) in
            let more = one_more n adj k source u x o.0 hx next o.1 in
            (more.0, more.1, omega (arith, more.2, o.2, sum, long))
      ];
      near = λ a x ha hx next. elim (t.changed a) [
        | inr late ↦ inr late.0
        | inl same ↦ elim (w.near a x ha hx next) [
          | inl le ↦ inl (let l = t.lower x in omega (arith, l, le, same))
          | inr was ↦ elim (member_cases u a pending was) [
            | inr still ↦ inr (t.still a still)
            | inl now ↦
                let s : Step = record { to = x; length = k u x } in
                let found : Contains steps s = rw are (has_step n adj k u x hx (rw (← now) at next)) in
                let le : slice_index new.sums x ≤ here + k u x = t.near s found in
                let me : slice_index new.sums u ≡ here = rw (← now) at same in
                inl (rw (← now) (omega (arith, le, me)))
          ]
        ]
      ];
    }

-- the start: only the source is known, and pending
pub begins : (n : ℕ) (adj : ℕ → ℕ → Bool) (k : ℕ → ℕ → ℕ) (far source : ℕ) → source < n → IsUnderWay n adj k far source (record { sums = set (replicate n far) source 0; pending = source ∷ [] })
begins n adj k far source hs =
    let inside : source < length (replicate n far) = rw (length-replicate n far) hs in
    let zero_there : slice_index (set (replicate n far) source 0) source ≡ 0 = get_or-set_same (replicate n far) source 0 0 inside in
    let others : (x : ℕ) → x < n → (x ≡ source → ⊥) → slice_index (set (replicate n far) source 0) x ≡ far = λ x hx other. get_or-set_other (replicate n far) source x 0 0 other ∙ get_or-replicate n x far 0 hx in
    record {
      start = zero_there;
      known = λ w hw short. elim (cases_eq w source) [
        | inl e ↦ ([], sym e, rw e (sym zero_there))
        | inr other ↦ let e = others w hw other in absurd (omega (arith, e, short))
      ];
      near = λ u x hu hx next. elim (cases_eq u source) [
        | inl e ↦ inr (rw e (head_member source []))
        | inr other ↦ inl (let e = others u hu other in elim (cases_eq x source) [
          | inl f ↦ rw f (rw zero_there (omega arith))
          | inr elsewhere ↦ let f = others x hx elsewhere in omega (arith, e, f)
        ])
      ];
    }

-- a node of a known sum is pending where that of some pending node is less
pub IsSettled : ℕ → Trial → Type 0
IsSettled far t = (x y : ℕ) → slice_index t.sums y < slice_index t.sums x → slice_index t.sums x < far → Contains t.pending y → Contains t.pending x

pub begins_settled : (n far source : ℕ) → source < n → IsSettled far (record { sums = set (replicate n far) source 0; pending = source ∷ [] })
unfolding IsSettled
begins_settled n far source hs x y less known py = elim (cases_eq x source) [
  | inl e ↦ rw e (head_member source [])
  | inr other ↦ elim (cases_lt x n) [
    | inl below ↦ let e = get_or-set_other (replicate n far) source x 0 0 other ∙ get_or-replicate n x far 0 below in absurd (omega (arith, e, known))
    | inr past ↦ let e = get_or-set_other (replicate n far) source x 0 0 other ∙ get_or_past (replicate n far) x 0 (rw (length-replicate n far) past) in absurd (omega (arith, e, less))
  ]
]

-- where the node whose steps were tried had the least sum of those that were pending
pub order_of : (far u : ℕ) (sums pending : List ℕ) → ((x : ℕ) → slice_index sums x ≤ far) → IsSettled far (record { sums = sums; pending = u ∷ pending })
    → IsOrdered far (slice_index sums u) (record { sums = sums; pending = pending })
unfolding IsSettled
order_of far u sums pending small settled = record {
  small = small;
  above = λ x more known. elim (member_cases u x pending (settled x u more known (head_member u pending))) [
    | inl same ↦ absurd (let e = ap (λ i. slice_index sums i) same in omega (arith, e, more))
    | inr later ↦ later
  ];
}

pub stays_settled : (far here : ℕ) (steps : List Step) (sums pending : List ℕ) (new : Trial) → IsTried here steps (record { sums = sums; pending = pending }) new
    → IsOrdered far here (record { sums = sums; pending = pending }) → All (λ x. here ≤ slice_index sums x) pending → IsSettled far new
unfolding IsSettled
stays_settled far here steps sums pending new t order least x y less known py =
    let low : here ≤ slice_index new.sums y = elim (t.others y py) [
      | inl before ↦ elim (t.changed y) [
        | inl same ↦ (let l = All-contains (λ x. here ≤ slice_index sums x) pending y least before in omega (arith, same, l))
        | inr late ↦ (let e = late.1.3 in omega (arith, e))
      ]
      | inr late ↦ late.3
    ] in
    (still_ordered far here steps (record { sums = sums; pending = pending }) new t order).above x (omega (arith, low, less)) known

-- the same for what is pending in another order
pub within_in : (n far : ℕ) (sums xs ys : List ℕ) → IsPermutation xs ys → IsWithin n far (record { sums = sums; pending = xs }) → IsWithin n far (record { sums = sums; pending = ys })
within_in n far sums xs ys order w = record {
  count = w.count;
  small = w.small;
  inside = all_by (λ x. x < n) ys (λ x h. All-contains (λ x. x < n) xs x w.inside (Contains-permutation ys xs x (IsPermutation-sym xs ys order) h));
}

pub under_way_in : (n : ℕ) (adj : ℕ → ℕ → Bool) (k : ℕ → ℕ → ℕ) (far source : ℕ) (sums xs ys : List ℕ) → IsPermutation xs ys
    → IsUnderWay n adj k far source (record { sums = sums; pending = xs }) → IsUnderWay n adj k far source (record { sums = sums; pending = ys })
under_way_in n adj k far source sums xs ys order w = record {
  start = w.start;
  known = w.known;
  near = λ u x hu hx next. elim (w.near u x hu hx next) [ inl le ↦ inl le | inr was ↦ inr (Contains-permutation xs ys u order was) ];
}

pub settled_in : (far : ℕ) (sums xs ys : List ℕ) → IsPermutation xs ys → IsSettled far (record { sums = sums; pending = xs }) → IsSettled far (record { sums = sums; pending = ys })
unfolding IsSettled
settled_in far sums xs ys order settled x y less known py =
    Contains-permutation xs ys x order (settled x y less known (Contains-permutation ys xs y (IsPermutation-sym xs ys order) py))

pub begins_within : (n far source : ℕ) → source < n → IsWithin n far (record { sums = set (replicate n far) source 0; pending = source ∷ [] })
begins_within n far source hs =
    let inside : source < length (replicate n far) = rw (length-replicate n far) hs in
    record {
      count = length-set (replicate n far) source 0 ∙ length-replicate n far;
      small = λ x. elim (cases_eq x source) [
        | inl e ↦ rw e (rw (get_or-set_same (replicate n far) source 0 0 inside) (omega arith))
        | inr other ↦ rw (get_or-set_other (replicate n far) source x 0 0 other) (elim (cases_lt x n) [
          | inl below ↦ rw (get_or-replicate n x far 0 below) (omega arith)
          | inr past ↦ rw (get_or_past (replicate n far) x 0 (rw (length-replicate n far) past)) (omega arith)
        ])
      ];
      inside = all_by (λ x. x < n) (source ∷ []) (λ x h. rw (← only source x h) hs);
    }

-- at the end, with nothing pending
pub ends : (n : ℕ) (adj : ℕ → ℕ → Bool) (k : ℕ → ℕ → ℕ) (far source : ℕ) (sums : List ℕ) → IsWithin n far (record { sums = sums; pending = [] })
    → IsUnderWay n adj k far source (record { sums = sums; pending = [] }) → AreSums n adj k far source sums
ends n adj k far source sums within w = record {
  count = within.count;
  start = w.start;
  small = within.small;
  known = w.known;
  near = λ u x hu hx next. elim (w.near u x hu hx next) [ inl le ↦ le | inr was ↦ absurd (none u was) ];
}
