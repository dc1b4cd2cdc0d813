-- Time requests and answers are read back from their bytes.
use Rattle.std.proofs.Common.{◌≡◌, ℕ, ◌<◌, ◌^◌, Bool, true, false, not, cond, eqb, List, [], ◌++◌, length, take, drop, Option, Some, None, refl, sym, subst, ap, ◌∙◌, append-nil, arith, rules}
use Rattle.std.proofs.lemmas.Bool.{eqb-true}
use Rattle.std.proofs.lemmas.List.{take_all}
use Rattle.std.proofs.Math.Seq.{take-add}
use Rattle.byteorder.specs.Endian.{big_bytes}
use Rattle.gs_beacon.specs.Numbers.{number_at}
use Rattle.gs_beacon.proofs.Digits.{number_at-behind, big_bytes-number_at}
use Rattle.gs_respond.specs.TimeRequests.{Tells, request_magic, answer_magic, request_bytes, answer_bytes, node_in, asked_in, clock_in}
use Rattle.gs_respond.specs.TimeLaws.{RequestsAsk, RequestsHaveOneSpelling, AnswersTell, AnswersDiffer}

-- where a test passes, what comes behind it is answered
passed : (b : Bool) (y : Option ℕ) (n : ℕ) → cond (not b) None y ≡ Some n → (b ≡ true) × (y ≡ Some n)
passed true y n e = (refl, e)
passed false y n e = absurd (cc)

some-same : (a b : ℕ) → Some a ≡ Some b → a ≡ b
some-same a b e = search rules

-- the fields of a request
pub requests-ask : RequestsAsk
unfolding request_bytes
requests-ask id fits =
    let first : List ℕ = big_bytes 4 request_magic in
    let gap : List ℕ = big_bytes 4 0 in
    let last : List ℕ = big_bytes 8 id in
    let at_id : first ++ (gap ++ last) ≡ (first ++ gap) ++ (last ++ []) = simp append-nil in
    let tag : number_at 0 4 (first ++ (gap ++ last)) ≡ request_magic = number_at-behind 4 request_magic 0 [] (gap ++ last) refl (omega arith) in
    let zeros : number_at 4 4 (first ++ (gap ++ last)) ≡ 0 = number_at-behind 4 0 4 first last refl (omega arith) in
    let number : number_at 8 8 (first ++ (gap ++ last)) ≡ id = rw at_id (number_at-behind 8 id 8 (first ++ gap) [] refl (omega (arith, fits))) in
    rw (tag, zeros, number) refl

-- 16 bytes are their first 4, the next 4 and the last 8
in-parts : (bytes : List ℕ) → length bytes ≡ 16 → bytes ≡ (take 4 bytes ++ take 4 (drop 4 bytes)) ++ take 8 (drop 8 bytes)
in-parts bytes count =
    sym (take_all 16 bytes (omega (arith, count)))
    ∙ take-add 8 8 bytes
    ∙ ap (λ (xs : List ℕ). xs ++ take 8 (drop 8 bytes)) (take-add 4 4 bytes)

pub one-spelling : RequestsHaveOneSpelling
unfolding request_bytes
one-spelling id bytes are asks =
    let count = passed (eqb (length bytes) 16) _ id asks in
    let tag = passed (eqb (number_at 0 4 bytes) request_magic) _ id count.1 in
    let zeros = passed (eqb (number_at 4 4 bytes) 0) _ id tag.1 in
    let long : length bytes ≡ 16 = eqb-true _ _ count.0 in
    let number : number_at 8 8 bytes ≡ id = some-same _ _ zeros.1 in
    let first : take 4 bytes ≡ big_bytes 4 request_magic = sym (big_bytes-number_at 0 4 bytes are (omega (arith, long))) ∙ ap (big_bytes 4) (eqb-true _ _ tag.0) in
    let gap : take 4 (drop 4 bytes) ≡ big_bytes 4 0 = sym (big_bytes-number_at 4 4 bytes are (omega (arith, long))) ∙ ap (big_bytes 4) (eqb-true _ _ zeros.0) in
    let last : take 8 (drop 8 bytes) ≡ big_bytes 8 id = sym (big_bytes-number_at 8 8 bytes are (omega (arith, long))) ∙ ap (big_bytes 8) number in
    in-parts bytes long ∙ (λ i. (first i ++ gap i) ++ last i)

-- the fields of an answer
pub answers-tell : AnswersTell
unfolding answer_bytes
answers-tell node id clock fits =
    let first : List ℕ = big_bytes 4 answer_magic in
    let whose : List ℕ = big_bytes 4 node in
    let asked : List ℕ = big_bytes 8 id in
    let told : List ℕ = big_bytes 8 clock in
    let at_told : first ++ (whose ++ (asked ++ told)) ≡ (first ++ (whose ++ asked)) ++ (told ++ []) = simp append-nil in
    let is_node : number_at 4 4 (first ++ (whose ++ (asked ++ told))) ≡ node = number_at-behind 4 node 4 first (asked ++ told) refl (omega (arith, fits.0)) in
    let is_id : number_at 8 8 (first ++ (whose ++ (asked ++ told))) ≡ id = number_at-behind 8 id 8 (first ++ whose) told refl (omega (arith, fits.1)) in
    let is_clock : number_at 16 8 (first ++ (whose ++ (asked ++ told))) ≡ clock = rw at_told (number_at-behind 8 clock 16 (first ++ (whose ++ asked)) [] refl (omega (arith, fits.2))) in
    record { node_is = is_node; asked_is = is_id; clock_is = is_clock }

-- the same for bytes that are known by an equation
pub answers_tell : (node id clock : ℕ) (bytes : List ℕ) → node < 2 ^ 32 → id < 2 ^ 64 → clock < 2 ^ 64 → bytes ≡ answer_bytes node id clock → Tells node id clock bytes
answers_tell node id clock bytes whose asked told is = subst (λ (z : List ℕ). Tells node id clock z) (sym is) (answers-tell node id clock (whose, asked, told))

pub answers-differ : AnswersDiffer
answers-differ node id clock node2 id2 clock2 fits fits2 same =
    let one = answers-tell node id clock fits in
    let two = answers-tell node2 id2 clock2 fits2 in
    (sym one.node_is ∙ ap node_in same ∙ two.node_is, sym one.asked_is ∙ ap asked_in same ∙ two.asked_is, sym one.clock_is ∙ ap clock_in same ∙ two.clock_is)
