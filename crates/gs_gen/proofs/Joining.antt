-- Lists of bytes, one piece after another.
use Rattle.std.proofs.Common.{◌≡◌, ℕ, zero, suc, ◌+◌, ◌≤◌, List, [], ◌∷◌, ◌++◌, drop, length, arith, ap, ◌∙◌, sym}
use Rattle.std.proofs.Math.ListN.{drop_of_length-le}
use Rattle.std.proofs.lemmas.List.{append_assoc, append-nil}
use Rattle.std.specs.List.{flat_map, range_with_len}
use Rattle.gs_gen.specs.declared.draws.Draws.{Draws}
use Rattle.gs_gen.specs.Draws.{draws_of}
use Rattle.gs_gen.specs.Texts.{field_of, node_records, nodes_records, record_of}

-- the piece of one number more
pub piece_more : (f : ℕ → List ℕ) (a n : ℕ)
    → flat_map f (range_with_len a (suc n)) ≡ flat_map f (range_with_len a n) ++ f (a + n)
piece_more f a zero = let e : a + 0 ≡ a = omega arith in rw e (append-nil (f a))
piece_more f a (suc n) =
    let e : a + suc n ≡ a + 1 + n = omega arith in
    rw e (ap (λ (rest : List ℕ). f a ++ rest) (piece_more f (a + 1) n) ∙ sym (append_assoc (f a) (flat_map f (range_with_len (a + 1) n)) (f (a + 1 + n))))

-- three pieces, appended one by one
pub three_pieces : (text a b c : List ℕ) → text ++ a ++ b ++ c ≡ text ++ (a ++ b ++ c)
three_pieces text a b c = append_assoc (text ++ a) b c ∙ append_assoc text a (b ++ c) ∙ ap (λ (rest : List ℕ). text ++ rest) (sym (append_assoc a b c))

-- a record whose numbers all stand there
pub record_whole : (text word so_far numbers : List ℕ) (i : ℕ) → length numbers ≤ i
    → so_far ++ flat_map field_of (drop i numbers) ≡ text ++ word ++ flat_map field_of numbers
    → so_far ++ 10 ∷ [] ≡ text ++ record_of word numbers
unfolding record_of
record_whole text word so_far numbers i done is =
    let none : drop i numbers ≡ [] = drop_of_length-le numbers done in
    let all : so_far ≡ text ++ word ++ flat_map field_of numbers =
    sym (append-nil so_far) ∙ ap (λ (rest : List ℕ). so_far ++ flat_map field_of rest) (sym none) ∙ is in
    ap (λ (front : List ℕ). front ++ 10 ∷ []) all
    ∙ ap (λ (front : List ℕ). front ++ 10 ∷ []) (append_assoc text word (flat_map field_of numbers))
    ∙ append_assoc text (word ++ flat_map field_of numbers) (10 ∷ [])

-- the records of one node more
pub nodes_more : (number size v : ℕ) (text so_far longer : List ℕ) (draws : Draws)
    → so_far ≡ text ++ nodes_records number size v → draws ≡ draws_of number v
    → longer ≡ so_far ++ node_records size v draws → longer ≡ text ++ nodes_records number size (v + 1)
unfolding nodes_records
nodes_more number size v text so_far longer draws front own is =
    let one : v + 1 ≡ suc v = omega arith in
    let place : 0 + v ≡ v = omega arith in
    let f = λ (u : ℕ). node_records size u (draws_of number u) in
    let piece : longer ≡ text ++ flat_map f (range_with_len 0 v) ++ f v =
    is ∙ ap (λ (d : Draws). so_far ++ node_records size v d) own ∙ ap (λ (before : List ℕ). before ++ f v) front in
    piece ∙ append_assoc text (flat_map f (range_with_len 0 v)) (f v)
    ∙ ap (λ (rest : List ℕ). text ++ rest) (sym (piece_more f 0 v ∙ ap (λ (u : ℕ). flat_map f (range_with_len 0 v) ++ f u) place))
    ∙ ap (λ (n : ℕ). text ++ flat_map f (range_with_len 0 n)) (sym one)
