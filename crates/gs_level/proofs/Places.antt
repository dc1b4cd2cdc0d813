-- The first row with the greatest value, and what a tally knows after one more row.
use Rattle.std.proofs.Common.{◌≡◌, ℕ, ◌+◌, ◌-◌, ◌<◌, ◌≤◌, ◌==◌, max, inl, inr, arith, ap, sym, refl, ◌∙◌, List, [], ◌∷◌, ◌++◌, All, Bool, true, false, None, length, get_or}
use Rattle.std.specs.List.{find, position_or_len}
use Rattle.std.proofs.lemmas.Bool.{cases_lt, eq-eqb, eqb-true, ne_eqb, le-ltb, lt-ltb}
use Rattle.std.proofs.lemmas.List.{get_or-append-add, get_or_append_left, length-append}
use Rattle.std.proofs.lemmas.List.Elements.{All-head}
use Rattle.std.proofs.lemmas.List.Folds.{position_or_len_push}
use Rattle.std.proofs.lemmas.List.Sums.{fails_before_first, passes_at_first, position_or_len_is}
use Rattle.gs_topo.specs.Graph.{Graph}
use Rattle.gs_level.specs.declared.tally.Tally.{Tally}
use Rattle.gs_level.specs.Reports.{first_edge}
use Rattle.gs_level.specs.inside.Running.{added, raised_global, raised_near}
use Rattle.gs_skew.specs.Skews.{edge_skew, global_skew, greatest_over, neighbour_skew}
use Rattle.gs_level.specs.Tallies.{tally_of}
use Rattle.gs_skew.proofs.Finding.{find_none}
use Rattle.gs_skew.proofs.Greatest.{at_most_greatest, greatest_at_most, greatest_push, has_greatest}

-- the place of the first row with the greatest value, where there is one
abbrev place : {X : Type 0} → (X → ℕ) → List X → ℕ
place f xs = position_or_len (λ x. f x == greatest_over f xs) xs

inside : {X : Type 0} (f : X → ℕ) (x : X) (xs : List X) → place f (x ∷ xs) < length (x ∷ xs)
inside f x xs =
    let some = has_greatest f x xs x in
    elim (cases_lt some.0 (place f (x ∷ xs))) [
      | inl before ↦
          let no = fails_before_first (λ y. f y == greatest_over f (x ∷ xs)) (x ∷ xs) some.0 x before in
          let yes = eq-eqb (f (get_or (x ∷ xs) some.0 x)) (greatest_over f (x ∷ xs)) some.2 in
          let clash : true ≡ false = sym yes ∙ no in cc
      | inr le ↦ let h = some.1 in omega (arith, le, h)
    ]

-- the last of one more
get_or-last : {X : Type 0} (xs : List X) (x d : X) → get_or (xs ++ x ∷ []) (length xs) d ≡ x
get_or-last xs x d =
    let e : length xs + 0 ≡ length xs = omega arith in
    rw e at (get_or-append-add xs (x ∷ []) 0 d)

-- one more item at the end, with a greater value
place_new : {X : Type 0} (f : X → ℕ) (xs : List X) (x : X) → greatest_over f xs < f x → place f (xs ++ x ∷ []) ≡ length xs
place_new f xs x less =
    let value : greatest_over f (xs ++ x ∷ []) ≡ f x = (let p = greatest_push f xs x in omega (arith, p, less)) in
    let count = length-append xs (x ∷ []) in
    position_or_len_is (λ y. f y == greatest_over f (xs ++ x ∷ [])) (xs ++ x ∷ []) (length xs) x (omega (arith, count))
    (λ k hk. rw (get_or_append_left xs (x ∷ []) x k hk) (ne_eqb (f (get_or xs k x)) (greatest_over f (xs ++ x ∷ [])) (λ e. let low = at_most_greatest f xs k x hk in omega (arith, low, less, value, e))))
    (λ h. rw (get_or-last xs x x) (eq-eqb (f x) (greatest_over f (xs ++ x ∷ [])) (sym value)))

new_value : {X : Type 0} (f : X → ℕ) (xs : List X) (x : X) → greatest_over f xs < f x → greatest_over f (xs ++ x ∷ []) ≡ f x
new_value f xs x less = let p = greatest_push f xs x in omega (arith, p, less)

-- or with no greater one
value_old : {X : Type 0} (f : X → ℕ) (xs : List X) (x : X) → f x ≤ greatest_over f xs → greatest_over f (xs ++ x ∷ []) ≡ greatest_over f xs
value_old f xs x more = let p = greatest_push f xs x in omega (arith, p, more)

place_of_one : {X : Type 0} (f : X → ℕ) (x : X) → place f (x ∷ []) ≡ 0
place_of_one f x = let e : (f x == max (f x) 0) ≡ true = eq-eqb (f x) (max (f x) 0) (omega arith) in rw e refl

place_old : {X : Type 0} (f : X → ℕ) (xs : List X) (x : X) → f x ≤ greatest_over f xs → place f (xs ++ x ∷ []) ≡ place f xs
place_old f [] x more = place_of_one f x
place_old f (y ∷ ys) x more =
    let xs = y ∷ ys in
    let low = inside f y ys in
    let push = position_or_len_push (λ z. f z == greatest_over f (y ∷ ys)) (y ∷ ys) x in
    let no : (place f (y ∷ ys) == length (y ∷ ys)) ≡ false = ne_eqb (place f (y ∷ ys)) (length (y ∷ ys)) (λ e. omega (arith, low, e)) in
    ap (λ (m : ℕ). position_or_len (λ z. f z == m) ((y ∷ ys) ++ x ∷ [])) (value_old f (y ∷ ys) x more) ∙ (rw no at push)

-- two tests that all items pass find the same
find_both : {X : Type 0} (p q : X → Bool) (xs : List X) → All (λ x. p x ≡ true) xs → All (λ x. q x ≡ true) xs → find p xs ≡ find q xs
find_both p q [] a b = refl
find_both p q (x ∷ xs) a b = rw (All-head (λ x. p x ≡ true) x xs a, All-head (λ x. q x ≡ true) x xs b) refl

same_find : (edges : List (ℕ × ℕ)) (a b : List ℕ) (m n : ℕ) → a ≡ b → m ≡ n → find (λ e. edge_skew a e == m) edges ≡ find (λ e. edge_skew b e == n) edges
same_find edges a b m n same value =
    ap (λ (c : List ℕ). find (λ e. edge_skew c e == m) edges) same ∙ ap (λ (k : ℕ). find (λ e. edge_skew b e == k) edges) value

-- the row of the greatest neighbour skew
abbrev row_at : List (ℕ × ℕ) → List (List ℕ) → List ℕ
row_at edges rows = get_or rows (place (neighbour_skew edges) rows) []

edge_new : (edges : List (ℕ × ℕ)) (rows : List (List ℕ)) (row : List ℕ) → greatest_over (neighbour_skew edges) rows < neighbour_skew edges row
    → first_edge edges (rows ++ row ∷ []) ≡ find (λ e. edge_skew row e == neighbour_skew edges row) edges
edge_new edges rows row less =
    let f : List ℕ → ℕ = neighbour_skew edges in
    let value : greatest_over f (rows ++ row ∷ []) ≡ f row = (let p = greatest_push f rows row in omega (arith, p, less)) in
    same_find edges (row_at edges (rows ++ row ∷ [])) row (greatest_over f (rows ++ row ∷ [])) (f row)
    (ap (λ (k : ℕ). get_or (rows ++ row ∷ []) k []) (place_new f rows row less) ∙ get_or-last rows row []) value

edge_old : (edges : List (ℕ × ℕ)) (rows : List (List ℕ)) (row : List ℕ) → neighbour_skew edges row ≤ greatest_over (neighbour_skew edges) rows → first_edge edges (rows ++ row ∷ []) ≡ first_edge edges rows
edge_old edges [] row more =
    let f : List ℕ → ℕ = neighbour_skew edges in
    same_find edges (row_at edges (row ∷ [])) row (greatest_over f (row ∷ [])) 0 (ap (λ (k : ℕ). get_or (row ∷ []) k []) (place_of_one f row)) (omega (arith, more))
    ∙ find_both (λ e. edge_skew row e == 0) (λ e. edge_skew [] e == 0) edges
    (λ k d h. eq-eqb (edge_skew row (get_or edges k d)) 0 (let low = at_most_greatest (edge_skew row) edges k d h in omega (arith, low, more)))
    (λ k d h. eq-eqb (edge_skew [] (get_or edges k d)) 0 (omega arith))
edge_old edges (r ∷ rs) row more =
    let f : List ℕ → ℕ = neighbour_skew edges in
    same_find edges (row_at edges ((r ∷ rs) ++ row ∷ [])) (row_at edges (r ∷ rs)) (greatest_over f ((r ∷ rs) ++ row ∷ [])) (greatest_over f (r ∷ rs))
    (ap (λ (k : ℕ). get_or ((r ∷ rs) ++ row ∷ []) k []) (place_old f (r ∷ rs) row more) ∙ get_or_append_left (r ∷ rs) (row ∷ []) [] (place f (r ∷ rs)) (inside f r rs))
    (value_old f (r ∷ rs) row more)

same_tallies : (a b : Tally) → a.rows ≡ b.rows → a.global ≡ b.global → a.global_at ≡ b.global_at → a.near ≡ b.near → a.near_at ≡ b.near_at → a.near_edge ≡ b.near_edge → a ≡ b
same_tallies a b rows global global_at near near_at near_edge =
    λ i. record { rows = rows i; global = global i; global_at = global_at i; near = near i; near_at = near_at i; near_edge = near_edge i }

-- one more row makes one more row of the tally
pub tally_push : (g : Graph) (rows : List (List ℕ)) (row : List ℕ) → tally_of g (rows ++ row ∷ []) ≡ added g (tally_of g rows) row
unfolding added raised_global raised_near
tally_push g rows row = elim (cases_lt (greatest_over global_skew rows) (global_skew row)) [
  | inl wider ↦ elim (cases_lt (greatest_over (neighbour_skew g.edges) rows) (neighbour_skew g.edges row)) [
    | inl steeper ↦ rw (lt-ltb (greatest_over global_skew rows) (global_skew row) wider, lt-ltb (greatest_over (neighbour_skew g.edges) rows) (neighbour_skew g.edges row) steeper)
        (same_tallies (tally_of g (rows ++ row ∷ [])) _ count (new_value global_skew rows row wider) (place_new global_skew rows row wider)
        (new_value (neighbour_skew g.edges) rows row steeper) (place_new (neighbour_skew g.edges) rows row steeper) (edge_new g.edges rows row steeper))
    | inr level ↦ rw (lt-ltb (greatest_over global_skew rows) (global_skew row) wider, le-ltb (greatest_over (neighbour_skew g.edges) rows) (neighbour_skew g.edges row) level)
        (same_tallies (tally_of g (rows ++ row ∷ [])) _ count (new_value global_skew rows row wider) (place_new global_skew rows row wider)
        (value_old (neighbour_skew g.edges) rows row level) (place_old (neighbour_skew g.edges) rows row level) (edge_old g.edges rows row level))
  ]
  | inr within ↦ elim (cases_lt (greatest_over (neighbour_skew g.edges) rows) (neighbour_skew g.edges row)) [
    | inl steeper ↦ rw (le-ltb (greatest_over global_skew rows) (global_skew row) within, lt-ltb (greatest_over (neighbour_skew g.edges) rows) (neighbour_skew g.edges row) steeper)
        (same_tallies (tally_of g (rows ++ row ∷ [])) _ count (value_old global_skew rows row within) (place_old global_skew rows row within)
        (new_value (neighbour_skew g.edges) rows row steeper) (place_new (neighbour_skew g.edges) rows row steeper) (edge_new g.edges rows row steeper))
    | inr level ↦ rw (le-ltb (greatest_over global_skew rows) (global_skew row) within, le-ltb (greatest_over (neighbour_skew g.edges) rows) (neighbour_skew g.edges row) level)
        (same_tallies (tally_of g (rows ++ row ∷ [])) _ count (value_old global_skew rows row within) (place_old global_skew rows row within)
        (value_old (neighbour_skew g.edges) rows row level) (place_old (neighbour_skew g.edges) rows row level) (edge_old g.edges rows row level))
  ]
] where
  count : length (rows ++ row ∷ []) ≡ length rows + 1
  count = length-append rows (row ∷ [])

-- the row of the greatest neighbour skew has it
row_has_greatest : (edges : List (ℕ × ℕ)) (rows : List (List ℕ)) → neighbour_skew edges (row_at edges rows) ≡ greatest_over (neighbour_skew edges) rows
row_has_greatest edges [] =
    let most = greatest_at_most (edge_skew []) edges 0 (λ k d h. omega arith) in
    omega (arith, most)
row_has_greatest edges (r ∷ rs) =
    let f : List ℕ → ℕ = neighbour_skew edges in
    eqb-true (f (row_at edges (r ∷ rs))) (greatest_over f (r ∷ rs)) (passes_at_first (λ row. f row == greatest_over f (r ∷ rs)) (r ∷ rs) [] (inside f r rs))

-- an edge is named exactly where there is one
pub edge_named : (edges : List (ℕ × ℕ)) (rows : List (List ℕ)) → first_edge edges rows ≡ None → edges ≡ []
edge_named [] rows none = refl
edge_named (e ∷ es) rows none =
    let some = has_greatest (edge_skew (row_at (e ∷ es) rows)) e es e in
    let value = row_has_greatest (e ∷ es) rows in
    let yes : (edge_skew (row_at (e ∷ es) rows) (get_or (e ∷ es) some.0 e) == greatest_over (neighbour_skew (e ∷ es)) rows) ≡ true =
    eq-eqb (edge_skew (row_at (e ∷ es) rows) (get_or (e ∷ es) some.0 e)) (greatest_over (neighbour_skew (e ∷ es)) rows) (some.2 ∙ value) in
    let no = find_none (λ x. edge_skew (row_at (e ∷ es) rows) x == greatest_over (neighbour_skew (e ∷ es)) rows) (e ∷ es) some.0 e some.1 none in
    let clash : true ≡ false = sym yes ∙ no in
    cc
