-- Rows of clocks and counts of fast nodes, from parts.
use Rattle.std.proofs.Common.{◌≡◌, ℕ, zero, suc, ◌+◌, ◌-◌, ◌<◌, ◌≤◌, arith, ap, sym, refl, ◌∙◌, List, [], ◌∷◌, ◌++◌, length, map, slice_index, Bool, cond}
use Rattle.std.specs.List.{count_by, fold, range_with_len}
use Rattle.std.proofs.lemmas.Grind.{same_number_lists}
use Rattle.std.proofs.lemmas.List.{get_or_default, length-map, map-append, same_lists}
use Rattle.std.proofs.lemmas.List.FromFn.{get_or-map-range_with_len, length-map-range_with_len}
use Rattle.std.proofs.lemmas.List.Sums.{length-filter, sum_by-append}
use Rattle.gs_core.specs.Node.{clock_of}
use Rattle.gs_run.specs.Fast.{fast_in, is_fast}
use Rattle.gs_run.specs.Net.{Net}
use Rattle.gs_run.specs.World.{Member, World, clocks_in, member, nobody}
use Rattle.gs_run.proofs.Theorems.{clock_at as clock_in_row}
use Rattle.gs_calendar.specs.Course.{Course}
use Rattle.gs_seat.specs.Worlds.{world_of}
use Rattle.gs_seat.proofs.Turning.{world_agrees}
use Rattle.gs_piece.specs.Columns.{clock_at}
use Rattle.gs_piece.specs.Pieces.{fast_among}

-- ---- two parts

range_cut : (s a n : ℕ) → range_with_len s (a + n) ≡ range_with_len s a ++ range_with_len (s + a) n
range_cut s zero n = let e : zero + n ≡ n = omega arith in let f : s + zero ≡ s = omega arith in rw (e, f) refl
range_cut s (suc a) n =
    let e : suc a + n ≡ suc (a + n) = omega arith in
    let f : s + suc a ≡ s + 1 + a = omega arith in
    rw (e, f) (ap (λ (l : List ℕ). s ∷ l) (range_cut (s + 1) a n))

-- the numbers below b are those below a and those from a on
below_cut : (a b : ℕ) → a ≤ b → range_with_len 0 b ≡ range_with_len 0 a ++ range_with_len a (b - a)
below_cut a b le = let e : b ≡ a + (b - a) = omega (arith, le) in let z : 0 + a ≡ a = omega arith in
    ap (range_with_len 0) e ∙ range_cut 0 a (b - a) ∙ ap (λ (x : ℕ). range_with_len 0 a ++ range_with_len x (b - a)) z

-- a row, from that of the nodes below a and that of the nodes a to b - 1
pub row_more : (f : ℕ → ℕ) (a b : ℕ) (row part : List ℕ) → a + length part ≡ b → row ≡ map f (range_with_len 0 a)
    → ((i : ℕ) → a + i < b → slice_index part i ≡ f (a + i)) → row ++ part ≡ map f (range_with_len 0 b)
row_more f a b row part count is each =
    let le : a ≤ b = omega (arith, count) in
    let long : length part ≡ b - a = omega (arith, count) in
    let is_part : part ≡ map f (range_with_len a (b - a)) =
    same_number_lists part (map f (range_with_len a (b - a))) (long ∙ sym (length-map-range_with_len f a (b - a)))
    (λ k h. each k (omega (arith, h, count)) ∙ sym (get_or-map-range_with_len f a (b - a) k (a + k) 0 (omega (arith, h, long)) (omega arith))) in
    rw (is, is_part) (sym (map-append f (range_with_len 0 a) (range_with_len a (b - a))) ∙ ap (map f) (sym (below_cut a b le)))

-- so with the count of the fast ones
pub fast_more : (net : Net) (c : Course) (a b t : ℕ) → a ≤ b → fast_among net c 0 a t + fast_among net c a b t ≡ fast_among net c 0 b t
fast_more net c a b t le =
    let p : ℕ → Bool = λ v. is_fast (member (world_of net c t) v).node.mode in
    let za : a - 0 ≡ a = omega arith in
    let zb : b - 0 ≡ b = omega arith in
    rw (za, zb) (sym (ap (count_by p) (below_cut a b le) ∙ count-append p (range_with_len 0 a) (range_with_len a (b - a))))
  where
    count-append : (p : ℕ → Bool) (xs ys : List ℕ) → count_by p (xs ++ ys) ≡ count_by p xs + count_by p ys
    count-append p xs ys = sum_by-append _ xs ys

-- ---- all nodes

-- the clocks of all nodes
pub row_of_all : (net : Net) (c : Course) (t : ℕ) → map (clock_at net c t) (range_with_len 0 net.nodes) ≡ clocks_in net (world_of net c t)
row_of_all net c t =
    let w : World = world_of net c t in
    let count = (world_agrees net c t).count in
    let long : length (clocks_in net w) ≡ net.nodes = length-map w.members (λ m. clock_of net.rate m.node m.reading) ∙ count in
    let made = length-map-range_with_len (clock_at net c t) 0 net.nodes in
    same_number_lists (map (clock_at net c t) (range_with_len 0 net.nodes)) (clocks_in net w) (made ∙ sym long)
    (λ k h. get_or-map-range_with_len (clock_at net c t) 0 net.nodes k k 0 (omega (arith, h, made)) (omega arith)
    ∙ sym (clock_in_row net w k (omega (arith, h, made, count))))

-- the fast ones of all nodes
pub fast_of_all : (net : Net) (c : Course) (t : ℕ) → fast_among net c 0 net.nodes t ≡ fast_in (world_of net c t)
fast_of_all net c t =
    let w : World = world_of net c t in
    let count = (world_agrees net c t).count in
    let made = length-map-range_with_len (member w) 0 net.nodes in
    let all : map (member w) (range_with_len 0 net.nodes) ≡ w.members =
    same_lists (map (member w) (range_with_len 0 net.nodes)) w.members (made ∙ sym count)
    (λ k d h. get_or-map-range_with_len (member w) 0 net.nodes k k d (omega (arith, h, made)) (omega arith)
    ∙ get_or_default w.members k nobody d (omega (arith, h, made, count))) in
    let z : net.nodes - 0 ≡ net.nodes = omega arith in
    ap (λ k. count_by (λ v. fast (member w v)) (range_with_len 0 k)) z ∙ count_map fast (member w) (range_with_len 0 net.nodes) ∙ ap (count_by fast) all ∙ sym (length-filter fast w.members)
  where
    fast : Member → Bool
    fast m = is_fast m.node.mode

    fold_map : {X Y : Type 0} (g : ℕ → Y → ℕ) (f : X → Y) (n : ℕ) (xs : List X) → fold (λ k x. g k (f x)) n xs ≡ fold g n (map f xs)
    fold_map g f n [] = refl
    fold_map g f n (x ∷ xs) = fold_map g f (g n (f x)) xs

    count_map : {X Y : Type 0} (p : Y → Bool) (f : X → Y) (xs : List X) → count_by (λ x. p (f x)) xs ≡ count_by p (map f xs)
    count_map p f xs = fold_map (λ n y. n + cond (p y) 1 0) f 0 xs
