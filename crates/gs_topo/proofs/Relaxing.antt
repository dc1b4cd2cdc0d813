-- What the tries of a search leave.
use Rattle.std.proofs.Common.{◌≡◌, ℕ, ◌+◌, ◌*◌, ◌<◌, ◌≤◌, ◌⊎◌, ◌==◌, inl, inr, arith, ap, sym, refl, ◌∙◌, List, [], ◌∷◌, ◌++◌, length, drop, All, Bool, true, false, slice_index, slice_set, get_or-set_same, get_or-set_other, sum, ltb, if◌then◌else◌}
use Rattle.std.specs.List.{Contains}
use Rattle.std.proofs.Math.ListN.{length-set}
use Rattle.std.proofs.lemmas.List.Sums.{sum_by-set}
use Rattle.std.proofs.lemmas.List.Elements.{All-head, All-tail, Contains-append_left, Contains-append_right, Contains-append_cases, Contains-push}
use Rattle.std.proofs.lemmas.List.{drop-append-le, length_push}
use Rattle.std.proofs.lemmas.Bool.{eq-eqb, ltb-true, ltb-false, cases_eq}
use Rattle.gs_topo.proofs.Members.{none, only}
use Rattle.gs_topo.specs.inside.Search.{Trial, reached, all_reached, tried, all_tried, far_sum, steps_over, AreInside}
use Rattle.gs_topo.specs.declared.steps.Step.{Step}

-- After a trial of steps from a node of the sum `here` no sum has risen, what became less is pending, and each sum is the old
-- one or that of a step.
pub record IsTried (here : ℕ) (steps : List Step) (old new : Trial) : Type 0 where
  pub count : length new.sums ≡ length old.sums
  pub lower : (x : ℕ) → slice_index new.sums x ≤ slice_index old.sums x
  pub still : (x : ℕ) → Contains old.pending x → Contains new.pending x
  pub others : (x : ℕ) → Contains new.pending x → Contains old.pending x ⊎ ((s : Step) × Contains steps s × (s.to ≡ x) × (here ≤ slice_index new.sums x))
  pub changed : (x : ℕ) → (slice_index new.sums x ≡ slice_index old.sums x) ⊎ (Contains new.pending x × ((s : Step) × Contains steps s × (s.to ≡ x) × (slice_index new.sums x ≡ here + s.length)))
  pub near : (s : Step) → Contains steps s → slice_index new.sums s.to ≤ here + s.length
  pub work : 2 * sum new.sums + length new.pending ≤ 2 * sum old.sums + length old.pending

-- What a node's becoming pending leaves: it is pending with those before, and no other.
pub record IsJoined (x : ℕ) (old new : List ℕ) : Type 0 where
  pub here : Contains new x
  pub still : (y : ℕ) → Contains old y → Contains new y
  pub others : (y : ℕ) → Contains new y → Contains old y ⊎ (x ≡ y)
  pub longer : length new ≤ length old + 1

pub pushed : (x : ℕ) (old : List ℕ) → IsJoined x old (old ++ x ∷ [])
pushed x old = record {
  here = Contains-push old x;
  still = λ y h. Contains-append_left old (x ∷ []) y h;
  others = λ y h. elim (Contains-append_cases old (x ∷ []) y h) [ inl before ↦ inl before | inr now ↦ inr (only x y now) ];
  longer = let l = length_push old x in omega (arith, l);
}

-- a step that makes a sum less
pub one_less : (here : ℕ) (s : Step) (old : Trial) (pending : List ℕ) → s.to < length old.sums → here + s.length < slice_index old.sums s.to → IsJoined s.to old.pending pending
    → IsTried here (s ∷ []) old (record { sums = slice_set old.sums s.to (here + s.length); pending = pending })
one_less here s old pending inside lt join =
    let there : slice_index (slice_set old.sums s.to (here + s.length)) s.to ≡ here + s.length = get_or-set_same old.sums s.to (here + s.length) 0 inside in
    let total = sum_by-set (λ x. x) old.sums s.to (here + s.length) 0 inside in
    record {
      count = length-set old.sums s.to (here + s.length);
      lower = λ x. elim (cases_eq x s.to) [
        | inl e ↦ rw (e, there) (omega (arith, lt))
        | inr other ↦ rw (get_or-set_other old.sums s.to x (here + s.length) 0 other) (omega arith)
      ];
      still = join.still;
      others = λ x h. elim (join.others x h) [ inl before ↦ inl before | inr same ↦ inr (s, Contains-push [] s, same, rw (← same, there) (omega arith)) ];
      changed = λ x. elim (cases_eq x s.to) [
        | inl e ↦ inr (rw e join.here, (s, Contains-push [] s, sym e, rw e there))
        | inr other ↦ inl (get_or-set_other old.sums s.to x (here + s.length) 0 other)
      ];
      near = λ t h. rw (← only s t h) (rw there (omega arith));
      work = let l = join.longer in omega (arith, total, lt, l);
    }

-- and one that makes none less
pub none_less : (here : ℕ) (s : Step) (old : Trial) → slice_index old.sums s.to ≤ here + s.length → IsTried here (s ∷ []) old old
none_less here s old le = record {
  count = refl;
  lower = λ x. omega arith;
  still = λ x h. h;
  others = λ x h. inl h;
  changed = λ x. inl refl;
  near = λ t h. rw (← only s t h) le;
  work = omega arith;
}

-- steps and then more
then_more : (here : ℕ) (s : Step) (steps : List Step) (old mid new : Trial) → IsTried here (s ∷ []) old mid → IsTried here steps mid new → IsTried here (s ∷ steps) old new
then_more here s steps old mid new a b = record {
  count = b.count ∙ a.count;
  lower = λ x. let p = a.lower x in let q = b.lower x in omega (arith, p, q);
  still = λ x h. b.still x (a.still x h);
  others = λ x h. elim (b.others x h) [
    | inr late ↦ inr (late.0, Contains-append_right (s ∷ []) steps late.0 late.1, late.2, late.3)
    | inl before ↦ elim (a.others x before) [
      | inl first ↦ inl first
      | inr early ↦ inr (
        early.0,
        Contains-append_left (s ∷ []) steps early.0 early.1,
        early.2,
        elim (b.changed x) [
          | inl same ↦ (let l = early.3 in omega (arith, same, l))
          | inr late ↦ (let e = late.1.3 in omega (arith, e))
        ],
      )
    ]
  ];
  changed = λ x. elim (b.changed x) [
    | inl same ↦ elim (a.changed x) [
      | inl too ↦ inl (same ∙ too)
      | inr early ↦ inr (b.still x early.0, (early.1.0, Contains-append_left (s ∷ []) steps early.1.0 early.1.1, early.1.2, same ∙ early.1.3))
    ]
    | inr late ↦ inr (late.0, (late.1.0, Contains-append_right (s ∷ []) steps late.1.0 late.1.1, late.1.2, late.1.3))
  ];
  near = λ t h. elim (Contains-append_cases (s ∷ []) steps t h) [
    | inl first ↦ let p = a.near t first in let q = b.lower t.to in omega (arith, p, q)
    | inr rest ↦ b.near t rest
  ];
  work = omega (arith, a.work, b.work);
}

-- no steps
nothing : (here : ℕ) (old : Trial) → IsTried here [] old old
nothing here old = record {
  count = refl;
  lower = λ x. omega arith;
  still = λ x h. h;
  others = λ x h. inl h;
  changed = λ x. inl refl;
  near = λ t h. absurd (none t h);
  work = omega arith;
}

-- nodes that are reached from one of the level before
one_reached : (here x : ℕ) (old : Trial) → x < length old.sums → (b : Bool) → ltb (here + 1) (slice_index old.sums x) ≡ b
    → IsTried here (record { to = x; length = 1 } ∷ []) old (if b then record { sums = slice_set old.sums x (here + 1); pending = old.pending ++ x ∷ [] } else old)
one_reached here x old inside true less = one_less here (record { to = x; length = 1 }) old (old.pending ++ x ∷ []) inside (ltb-true _ _ less) (pushed x old.pending)
one_reached here x old inside false more = none_less here (record { to = x; length = 1 }) old (ltb-false _ _ more)

pub are_reached : (here : ℕ) (nodes : List ℕ) (old : Trial) → All (λ x. x < length old.sums) nodes → IsTried here (steps_over (λ _. 1) nodes) old (all_reached (here + 1) old nodes)
are_reached here [] old inside = nothing here old
are_reached here (x ∷ nodes) old inside =
    let first = one_reached here x old (All-head (λ x. x < length old.sums) x nodes inside) (ltb (here + 1) (slice_index old.sums x)) refl in
    let mid = reached (here + 1) old x in
    let rest : All (λ x. x < length mid.sums) nodes = rw first.count (All-tail (λ x. x < length old.sums) x nodes inside) in
    then_more here (record { to = x; length = 1 }) (steps_over (λ _. 1) nodes) old mid (all_reached (here + 1) mid nodes) first (are_reached here nodes mid rest)

-- what is left of a queue after its first j, with what came into it
abbrev pub rest_of : ℕ → Trial → Trial
rest_of j t = record { sums = t.sums; pending = drop j t.pending }

one_behind : (level j x : ℕ) (t : Trial) → j ≤ length t.pending → (b : Bool)
    → (rest_of j (if b then record { sums = slice_set t.sums x level; pending = t.pending ++ x ∷ [] } else t)
    ≡ (if b then record { sums = slice_set t.sums x level; pending = drop j t.pending ++ x ∷ [] } else rest_of j t))
    × (j ≤ length (if b then record { sums = slice_set t.sums x level; pending = t.pending ++ x ∷ [] } else t).pending)
one_behind level j x t done true = (rw (drop-append-le j t.pending (x ∷ []) done) refl, (let l = length_push t.pending x in omega (arith, l, done)))
one_behind level j x t done false = (refl, done)

pub all_behind : (level j : ℕ) (nodes : List ℕ) (t : Trial) → j ≤ length t.pending → rest_of j (all_reached level t nodes) ≡ all_reached level (rest_of j t) nodes
all_behind level j [] t done = refl
all_behind level j (x ∷ nodes) t done =
    let first = one_behind level j x t done (ltb level (slice_index t.sums x)) in
    all_behind level j nodes (reached level t x) first.1 ∙ ap (λ (m : Trial). all_reached level m nodes) first.0

-- each node whose sum is known and above `here` is pending
pub record IsOrdered (far here : ℕ) (t : Trial) : Type 0 where
  pub small : (x : ℕ) → slice_index t.sums x ≤ far
  pub above : (x : ℕ) → here < slice_index t.sums x → slice_index t.sums x < far → Contains t.pending x

pub still_ordered : (far here : ℕ) (steps : List Step) (old new : Trial) → IsTried here steps old new → IsOrdered far here old → IsOrdered far here new
still_ordered far here steps old new t order = record {
  small = λ x. let a = t.lower x in let b = order.small x in omega (arith, a, b);
  above = λ x more known. elim (t.changed x) [
    | inl same ↦ t.still x (order.above x (rw same at more) (rw same at known))
    | inr late ↦ late.0
  ];
}

joined_once : (x : ℕ) (old : List ℕ) (b : Bool) → (b ≡ false → Contains old x) → IsJoined x old (if b then old ++ x ∷ [] else old)
joined_once x old true was = pushed x old
joined_once x old false was = record { here = was refl; still = λ y h. h; others = λ y h. inl h; longer = omega arith }

known_below : (a far : ℕ) → a ≤ far → (a == far) ≡ false → a < far
known_below a far le other = elim (cases_eq a far) [
  | inl same ↦ (let clash : true ≡ false = sym (eq-eqb a far same) ∙ other in cc)
  | inr differ ↦ omega (arith, le, differ)
]

-- steps from a node of this sum
one_tried : (here : ℕ) (s : Step) (old : Trial) → s.to < length old.sums → IsOrdered far_sum here old → (b : Bool) → ltb (here + s.length) (slice_index old.sums s.to) ≡ b
    → IsTried here (s ∷ []) old (if b then record { sums = slice_set old.sums s.to (here + s.length); pending = if slice_index old.sums s.to == far_sum then old.pending ++ s.to ∷ [] else old.pending } else old)
one_tried here s old inside order true less =
    let lt : here + s.length < slice_index old.sums s.to = ltb-true _ _ less in
    one_less here s old (if slice_index old.sums s.to == far_sum then old.pending ++ s.to ∷ [] else old.pending) inside lt
    (joined_once s.to old.pending (slice_index old.sums s.to == far_sum) (λ other. order.above s.to (omega (arith, lt)) (known_below (slice_index old.sums s.to) far_sum (order.small s.to) other)))
one_tried here s old inside order false more = none_less here s old (ltb-false _ _ more)

pub are_tried : (here : ℕ) (steps : List Step) (old : Trial) → AreInside (length old.sums) steps → IsOrdered far_sum here old → IsTried here steps old (all_tried here old steps)
are_tried here [] old inside order = nothing here old
are_tried here (s ∷ steps) old inside order =
    let first = one_tried here s old (All-head (λ t. t.to < length old.sums) s steps inside) order (ltb (here + s.length) (slice_index old.sums s.to)) refl in
    let mid = tried here old s in
    let rest : AreInside (length mid.sums) steps = rw first.count (All-tail (λ t. t.to < length old.sums) s steps inside) in
    then_more here s steps old mid (all_tried here mid steps) first (are_tried here steps mid rest (still_ordered far_sum here (s ∷ []) old mid first order))
