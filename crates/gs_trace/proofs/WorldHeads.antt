-- The head of a world's trace is read as it is written.
use Rattle.std.proofs.Common.{◌≡◌, ℕ, ◌+◌, ◌*◌, ◌^◌, ◌<◌, ◌≤◌, Bool, true, false, eqb, List, [], ◌∷◌, ◌++◌, length, take, drop, None, refl, sym, ap, ◌∙◌, arith}
use Rattle.std.specs.Prelude.{◌||◌, not, nat_lt}
use Rattle.std.specs.Bool.{then_some}
use Rattle.std.specs.List.{AllByRecursion, list_any}
use Rattle.std.proofs.Math.Seq.{take-add}
use Rattle.std.proofs.lemmas.Bool.{eqb-true, eq-eqb, ltb-false, le-ltb}
use Rattle.std.proofs.lemmas.List.{length-append, length-drop}
use Rattle.std.proofs.lemmas.List.Elements.{All-from_recursion, recursion_from_All}
use Rattle.byteorder.specs.Endian.{big_bytes, big_number}
use Rattle.gs_units.proofs.FirstFault.{first_fails}
use Rattle.gs_units.specs.FirstFault.{first_some}
use Rattle.gs_beacon.specs.Numbers.{AreBytes, number_at}
use Rattle.gs_beacon.proofs.Digits.{number_at-behind, big_bytes-number_at}
use Rattle.gs_beacon.proofs.Faults.{is_not}
use Rattle.gs_trace.specs.Numbers.{spelled, numbers_at}
use Rattle.gs_trace.specs.Starts.{FitsWorld}
use Rattle.gs_trace.specs.Worlds.{head_bytes, head_fault, head_length, is_far, start_at, tag}
use Rattle.gs_trace.specs.declared.fault.TraceFault.TheVariants.{Header, Plan}
use Rattle.gs_trace.specs.declared.start.WorldStart.{WorldStart}
use Rattle.gs_trace.proofs.Choices.{neither}
use Rattle.gs_trace.proofs.Traces.{Head, IsHead}
use Rattle.gs_trace.proofs.Spelled.{AreBytes-drop, length-numbers, length-spelled, numbers-spelled, spelled-numbers}

-- ---- tests

-- none is too far
near-all : (xs : List ℕ) → list_any is_far xs ≡ false → AllByRecursion (λ x. x ≤ 2 ^ 61) xs
near-all [] e = tt
near-all (x ∷ xs) e = let parts = neither (is_far x) (list_any is_far xs) e in (ltb-false (2 ^ 61) x parts.0, near-all xs parts.1)

all-near : (xs : List ℕ) → AllByRecursion (λ x. x ≤ 2 ^ 61) xs → list_any is_far xs ≡ false
all-near [] h = refl
all-near (x ∷ xs) h = let near : nat_lt (2 ^ 61) x ≡ false = le-ltb (2 ^ 61) x h.0 in rw near (all-near xs h.1)

small-all : (xs : List ℕ) → AllByRecursion (λ x. x ≤ 2 ^ 61) xs → AllByRecursion (λ x. x < 256 ^ 8) xs
small-all [] h = tt
small-all (x ∷ xs) h = (let near = h.0 in omega (arith, near), small-all xs h.1)

-- ---- what is read was written so

-- what is known of a head without a fault
record IsWorldHead (cluster nodes : ℕ) (bytes : List ℕ) : Type 0 where
  pub tagged : number_at 0 8 bytes ≡ big_number 8 tag
  pub of_cluster : number_at 8 4 bytes ≡ cluster
  pub of_nodes : number_at 12 4 bytes ≡ nodes
  pub long : head_length nodes ≤ length bytes
  pub clock : number_at 16 8 bytes ≤ 2 ^ 61
  pub readings : AllByRecursion (λ x. x ≤ 2 ^ 61) (numbers_at 8 nodes (drop 24 bytes))

head-is : (cluster nodes : ℕ) (bytes : List ℕ) → head_fault cluster nodes bytes ≡ None → IsWorldHead cluster nodes bytes
head-is cluster nodes bytes none =
    let a = first_fails (nat_lt (length bytes) 16 || not (eqb (number_at 0 8 bytes) (big_number 8 tag))) Header _ none in
    let tagged = neither _ _ a.0 in
    let b = first_fails (not (eqb (number_at 8 4 bytes) cluster) || not (eqb (number_at 12 4 bytes) nodes)) Plan _ a.1 in
    let planned = neither _ _ b.0 in
    let c = first_fails (nat_lt (length bytes) (head_length nodes)) Header _ b.1 in
    let d = first_fails (is_far (number_at 16 8 bytes) || list_any is_far (numbers_at 8 nodes (drop 24 bytes))) Header _ c.1 in
    let near = neither _ _ d.0 in
    record {
      tagged = eqb-true _ _ (is_not _ tagged.1);
      of_cluster = eqb-true _ _ (is_not _ planned.0);
      of_nodes = eqb-true _ _ (is_not _ planned.1);
      long = ltb-false _ _ c.0;
      clock = ltb-false (2 ^ 61) (number_at 16 8 bytes) near.0;
      readings = near-all (numbers_at 8 nodes (drop 24 bytes)) near.1;
    }

pub five_parts : (n : ℕ) (bs : List ℕ) → take (24 + n) bs ≡ (((take 8 bs ++ take 4 (drop 8 bs)) ++ take 4 (drop 12 bs)) ++ take 8 (drop 16 bs)) ++ take n (drop 24 bs)
five_parts n bs =
    take-add 24 n bs
    ∙ ap (λ (xs : List ℕ). xs ++ take n (drop 24 bs)) (take-add 16 8 bs)
    ∙ ap (λ (xs : List ℕ). (xs ++ take 8 (drop 16 bs)) ++ take n (drop 24 bs)) (take-add 12 4 bs)
    ∙ ap (λ (xs : List ℕ). ((xs ++ take 4 (drop 12 bs)) ++ take 8 (drop 16 bs)) ++ take n (drop 24 bs)) (take-add 8 4 bs)

head-read : (cluster nodes : ℕ) (bytes : List ℕ) → AreBytes bytes → IsWorldHead cluster nodes bytes → head_bytes cluster nodes (start_at nodes bytes) ≡ take (head_length nodes) bytes
head-read cluster nodes bytes fits h =
    let long = h.long in
    let a : tag ≡ take 8 bytes = ap (big_bytes 8) (sym h.tagged) ∙ big_bytes-number_at 0 8 bytes fits (omega (arith, long)) in
    let b : big_bytes 4 cluster ≡ take 4 (drop 8 bytes) = ap (big_bytes 4) (sym h.of_cluster) ∙ big_bytes-number_at 8 4 bytes fits (omega (arith, long)) in
    let c : big_bytes 4 nodes ≡ take 4 (drop 12 bytes) = ap (big_bytes 4) (sym h.of_nodes) ∙ big_bytes-number_at 12 4 bytes fits (omega (arith, long)) in
    let d : big_bytes 8 (number_at 16 8 bytes) ≡ take 8 (drop 16 bytes) = big_bytes-number_at 16 8 bytes fits (omega (arith, long)) in
    let rest = length-drop 24 bytes in
    let e : spelled 8 (numbers_at 8 nodes (drop 24 bytes)) ≡ take (8 * nodes) (drop 24 bytes) = spelled-numbers 8 nodes (drop 24 bytes) (AreBytes-drop 24 bytes fits) (omega (arith, long, rest)) in
    let joined : head_bytes cluster nodes (start_at nodes bytes) ≡ (((take 8 bytes ++ take 4 (drop 8 bytes)) ++ take 4 (drop 12 bytes)) ++ take 8 (drop 16 bytes)) ++ take (8 * nodes) (drop 24 bytes) =
    λ i. (((a i ++ b i) ++ c i) ++ d i) ++ e i in
    joined ∙ sym (five_parts (8 * nodes) bytes)

head-fits : (cluster nodes : ℕ) (bytes : List ℕ) → IsWorldHead cluster nodes bytes → FitsWorld nodes (start_at nodes bytes)
head-fits cluster nodes bytes h = record {
  count = length-numbers 8 nodes (drop 24 bytes);
  clock = h.clock;
  readings = All-from_recursion (λ reading. reading ≤ 2 ^ 61) (numbers_at 8 nodes (drop 24 bytes)) h.readings;
}

-- ---- what was written is read

length-head : (cluster nodes : ℕ) (s : WorldStart) → FitsWorld nodes s → length (head_bytes cluster nodes s) ≡ head_length nodes
length-head cluster nodes s fits =
    let first : List ℕ = tag ++ big_bytes 4 cluster ++ big_bytes 4 nodes ++ big_bytes 8 s.l0 in
    let all = length-append first (spelled 8 s.hw) in
    let count : length first ≡ 24 = refl in
    let readings = length-spelled 8 s.hw in
    let nodes_are = fits.count in
    omega (arith, all, count, readings, nodes_are)

start-back : (cluster nodes : ℕ) (s : WorldStart) (rest : List ℕ) → cluster < 2 ^ 32 → nodes < 2 ^ 32 → FitsWorld nodes s
    → start_at nodes (head_bytes cluster nodes s ++ rest) ≡ s
start-back cluster nodes s rest small few fits =
    let clock = fits.clock in
    let four : List ℕ = tag ++ big_bytes 4 cluster ++ big_bytes 4 nodes in
    let l0 : number_at 16 8 (head_bytes cluster nodes s ++ rest) ≡ s.l0 = number_at-behind 8 s.l0 16 four (spelled 8 s.hw ++ rest) refl (omega (arith, clock)) in
    let near = small-all s.hw (recursion_from_All (λ x. x ≤ 2 ^ 61) s.hw fits.readings) in
    let hw : numbers_at 8 nodes (spelled 8 s.hw ++ rest) ≡ s.hw = ap (λ (k : ℕ). numbers_at 8 k (spelled 8 s.hw ++ rest)) (sym fits.count) ∙ numbers-spelled 8 s.hw rest near in
    λ i. record { l0 = l0 i; hw = hw i }

head-back : (cluster nodes : ℕ) (s : WorldStart) (rest : List ℕ) → cluster < 2 ^ 32 → nodes < 2 ^ 32 → FitsWorld nodes s
    → head_fault cluster nodes (head_bytes cluster nodes s ++ rest) ≡ None
head-back cluster nodes s rest small few fits =
    let bytes : List ℕ = head_bytes cluster nodes s ++ rest in
    let count = length-head cluster nodes s fits in
    let all = length-append (head_bytes cluster nodes s) rest in
    let start = start-back cluster nodes s rest small few fits in
    let tail : List ℕ = big_bytes 4 cluster ++ (big_bytes 4 nodes ++ (big_bytes 8 s.l0 ++ (spelled 8 s.hw ++ rest))) in
    let tagged : number_at 0 8 bytes ≡ big_number 8 tag = number_at-behind 8 (big_number 8 tag) 0 [] tail refl (omega arith) in
    let of_cluster : number_at 8 4 bytes ≡ cluster = number_at-behind 4 cluster 8 tag (big_bytes 4 nodes ++ (big_bytes 8 s.l0 ++ (spelled 8 s.hw ++ rest))) refl small in
    let of_nodes : number_at 12 4 bytes ≡ nodes = number_at-behind 4 nodes 12 (tag ++ big_bytes 4 cluster) (big_bytes 8 s.l0 ++ (spelled 8 s.hw ++ rest)) refl few in
    let long : nat_lt (length bytes) 16 ≡ false = le-ltb _ _ (omega (arith, count, all)) in
    let whole : nat_lt (length bytes) (head_length nodes) ≡ false = le-ltb _ _ (omega (arith, count, all)) in
    let clock : is_far (number_at 16 8 bytes) ≡ false = ap (λ (x : WorldStart). is_far x.l0) start ∙ le-ltb (2 ^ 61) s.l0 fits.clock in
    let readings : list_any is_far (numbers_at 8 nodes (drop 24 bytes)) ≡ false = ap (λ (x : WorldStart). list_any is_far x.hw) start ∙ all-near s.hw (recursion_from_All (λ x. x ≤ 2 ^ 61) s.hw fits.readings) in
    let a : eqb (number_at 0 8 bytes) (big_number 8 tag) ≡ true = eq-eqb _ _ tagged in
    let b : eqb (number_at 8 4 bytes) cluster ≡ true = eq-eqb _ _ of_cluster in
    let c : eqb (number_at 12 4 bytes) nodes ≡ true = eq-eqb _ _ of_nodes in
    no_fault (nat_lt (length bytes) 16) (eqb (number_at 0 8 bytes) (big_number 8 tag)) (eqb (number_at 8 4 bytes) cluster) (eqb (number_at 12 4 bytes) nodes) (nat_lt (length bytes) (head_length nodes)) (is_far (number_at 16 8 bytes)) (list_any is_far (numbers_at 8 nodes (drop 24 bytes)))
    long a b c whole clock readings
  where
    no_fault : (short tagged of_cluster of_nodes cut far any : Bool) → short ≡ false → tagged ≡ true → of_cluster ≡ true → of_nodes ≡ true → cut ≡ false → far ≡ false → any ≡ false
        → first_some (then_some (short || not tagged) Header ∷ then_some (not of_cluster || not of_nodes) Plan ∷ then_some cut Header ∷ then_some (far || any) Header ∷ []) ≡ None
    no_fault short tagged of_cluster of_nodes cut far any a b c d e f g = rw (a, b, c, d, e, f, g) refl

-- ---- the head of a world of so many nodes of a cluster

abbrev pub world_head : ℕ → ℕ → Head WorldStart
world_head cluster nodes = record {
  long = head_length nodes;
  fault = head_fault cluster nodes;
  start_at = start_at nodes;
  bytes_of = head_bytes cluster nodes;
}

pub world_is_head : (cluster nodes : ℕ) → cluster < 2 ^ 32 → nodes < 2 ^ 32 → IsHead (world_head cluster nodes) (FitsWorld nodes)
world_is_head cluster nodes small few = record {
  read = λ bytes are none. head-read cluster nodes bytes are (head-is cluster nodes bytes none);
  fits = λ bytes none. head-fits cluster nodes bytes (head-is cluster nodes bytes none);
  count = length-head cluster nodes;
  back = λ s rest fits. start-back cluster nodes s rest small few fits;
  allowed = λ s rest fits. head-back cluster nodes s rest small few fits;
}
