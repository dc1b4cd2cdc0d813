-- The head of a node's trace is read as it is written.
use Rattle.std.proofs.Common.{◌≡◌, ℕ, ◌^◌, ◌<◌, ◌≤◌, Bool, true, false, eqb, List, [], ◌∷◌, ◌++◌, length, take, drop, None, refl, sym, ap, ◌∙◌, arith}
use Rattle.std.specs.Prelude.{◌||◌, not, nat_lt, nat_le}
use Rattle.std.specs.Bool.{then_some}
use Rattle.std.proofs.lemmas.Bool.{eqb-true, eq-eqb, ltb-false, le-ltb, leb-false, lt-leb}
use Rattle.std.proofs.lemmas.List.{length-append}
use Rattle.byteorder.specs.Endian.{big_bytes, big_number}
use Rattle.gs_units.proofs.FirstFault.{first_fails}
use Rattle.gs_units.specs.FirstFault.{first_some}
use Rattle.gs_beacon.specs.Numbers.{AreBytes, number_at}
use Rattle.gs_beacon.proofs.Digits.{number_at-behind, big_bytes-number_at}
use Rattle.gs_beacon.proofs.Faults.{is_not}
use Rattle.gs_trace.specs.Starts.{FitsNode}
use Rattle.gs_trace.specs.Nodes.{head_bytes, head_fault, start_at, tag}
use Rattle.gs_trace.specs.declared.fault.TraceFault.TheVariants.{Header, Plan}
use Rattle.gs_trace.specs.declared.start.NodeStart.{NodeStart}
use Rattle.gs_trace.proofs.Choices.{neither}
use Rattle.gs_trace.proofs.Traces.{Head, IsHead}
use Rattle.gs_trace.proofs.WorldHeads.{five_parts}

-- ---- what is read was written so

-- what is known of a head without a fault
record IsNodeHead (cluster node : ℕ) (bytes : List ℕ) : Type 0 where
  pub tagged : number_at 0 8 bytes ≡ big_number 8 tag
  pub of_cluster : number_at 8 4 bytes ≡ cluster
  pub of_node : number_at 12 4 bytes ≡ node
  pub long : 32 ≤ length bytes
  pub clock : number_at 16 8 bytes < 2 ^ 62
  pub reading : number_at 24 8 bytes < 2 ^ 62

head-is : (cluster node : ℕ) (bytes : List ℕ) → head_fault cluster node bytes ≡ None → IsNodeHead cluster node bytes
head-is cluster node bytes none =
    let a = first_fails (nat_lt (length bytes) 32 || not (eqb (number_at 0 8 bytes) (big_number 8 tag))) Header _ none in
    let tagged = neither _ _ a.0 in
    let b = first_fails (nat_le (2 ^ 62) (number_at 16 8 bytes) || nat_le (2 ^ 62) (number_at 24 8 bytes)) Header _ a.1 in
    let near = neither _ _ b.0 in
    let c = first_fails (not (eqb (number_at 8 4 bytes) cluster) || not (eqb (number_at 12 4 bytes) node)) Plan _ b.1 in
    let planned = neither _ _ c.0 in
    record {
      tagged = eqb-true _ _ (is_not _ tagged.1);
      of_cluster = eqb-true _ _ (is_not _ planned.0);
      of_node = eqb-true _ _ (is_not _ planned.1);
      long = ltb-false _ _ tagged.0;
      clock = leb-false (2 ^ 62) (number_at 16 8 bytes) near.0;
      reading = leb-false (2 ^ 62) (number_at 24 8 bytes) near.1;
    }

head-read : (cluster node : ℕ) (bytes : List ℕ) → AreBytes bytes → IsNodeHead cluster node bytes → head_bytes cluster node (start_at bytes) ≡ take 32 bytes
head-read cluster node bytes fits h =
    let long = h.long in
    let a : tag ≡ take 8 bytes = ap (big_bytes 8) (sym h.tagged) ∙ big_bytes-number_at 0 8 bytes fits (omega (arith, long)) in
    let b : big_bytes 4 cluster ≡ take 4 (drop 8 bytes) = ap (big_bytes 4) (sym h.of_cluster) ∙ big_bytes-number_at 8 4 bytes fits (omega (arith, long)) in
    let c : big_bytes 4 node ≡ take 4 (drop 12 bytes) = ap (big_bytes 4) (sym h.of_node) ∙ big_bytes-number_at 12 4 bytes fits (omega (arith, long)) in
    let d : big_bytes 8 (number_at 16 8 bytes) ≡ take 8 (drop 16 bytes) = big_bytes-number_at 16 8 bytes fits (omega (arith, long)) in
    let e : big_bytes 8 (number_at 24 8 bytes) ≡ take 8 (drop 24 bytes) = big_bytes-number_at 24 8 bytes fits (omega (arith, long)) in
    let joined : head_bytes cluster node (start_at bytes) ≡ (((take 8 bytes ++ take 4 (drop 8 bytes)) ++ take 4 (drop 12 bytes)) ++ take 8 (drop 16 bytes)) ++ take 8 (drop 24 bytes) =
    λ i. (((a i ++ b i) ++ c i) ++ d i) ++ e i in
    joined ∙ sym (five_parts 8 bytes)

head-fits : (cluster node : ℕ) (bytes : List ℕ) → IsNodeHead cluster node bytes → FitsNode (start_at bytes)
head-fits cluster node bytes h = record { clock = h.clock; reading = h.reading }

-- ---- what was written is read

length-head : (cluster node : ℕ) (s : NodeStart) → length (head_bytes cluster node s) ≡ 32
length-head cluster node s = refl

start-back : (cluster node : ℕ) (s : NodeStart) (rest : List ℕ) → cluster < 2 ^ 32 → node < 2 ^ 32 → FitsNode s
    → start_at (head_bytes cluster node s ++ rest) ≡ s
start-back cluster node s rest small few fits =
    let clock = fits.clock in
    let reading = fits.reading in
    let four : List ℕ = tag ++ big_bytes 4 cluster ++ big_bytes 4 node in
    let l0 : number_at 16 8 (head_bytes cluster node s ++ rest) ≡ s.l0 = number_at-behind 8 s.l0 16 four (big_bytes 8 s.hw ++ rest) refl (omega (arith, clock)) in
    let hw : number_at 24 8 (head_bytes cluster node s ++ rest) ≡ s.hw = number_at-behind 8 s.hw 24 (four ++ big_bytes 8 s.l0) rest refl (omega (arith, reading)) in
    λ i. record { l0 = l0 i; hw = hw i }

head-back : (cluster node : ℕ) (s : NodeStart) (rest : List ℕ) → cluster < 2 ^ 32 → node < 2 ^ 32 → FitsNode s
    → head_fault cluster node (head_bytes cluster node s ++ rest) ≡ None
head-back cluster node s rest small few fits =
    let bytes : List ℕ = head_bytes cluster node s ++ rest in
    let all = length-append (head_bytes cluster node s) rest in
    let start = start-back cluster node s rest small few fits in
    let tail : List ℕ = big_bytes 4 cluster ++ (big_bytes 4 node ++ (big_bytes 8 s.l0 ++ (big_bytes 8 s.hw ++ rest))) in
    let tagged : number_at 0 8 bytes ≡ big_number 8 tag = number_at-behind 8 (big_number 8 tag) 0 [] tail refl (omega arith) in
    let of_cluster : number_at 8 4 bytes ≡ cluster = number_at-behind 4 cluster 8 tag (big_bytes 4 node ++ (big_bytes 8 s.l0 ++ (big_bytes 8 s.hw ++ rest))) refl small in
    let of_node : number_at 12 4 bytes ≡ node = number_at-behind 4 node 12 (tag ++ big_bytes 4 cluster) (big_bytes 8 s.l0 ++ (big_bytes 8 s.hw ++ rest)) refl few in
    let long : nat_lt (length bytes) 32 ≡ false = le-ltb _ _ (omega (arith, all)) in
    let clock : nat_le (2 ^ 62) (number_at 16 8 bytes) ≡ false = ap (λ (x : NodeStart). nat_le (2 ^ 62) x.l0) start ∙ lt-leb (2 ^ 62) s.l0 fits.clock in
    let reading : nat_le (2 ^ 62) (number_at 24 8 bytes) ≡ false = ap (λ (x : NodeStart). nat_le (2 ^ 62) x.hw) start ∙ lt-leb (2 ^ 62) s.hw fits.reading in
    let a : eqb (number_at 0 8 bytes) (big_number 8 tag) ≡ true = eq-eqb _ _ tagged in
    let b : eqb (number_at 8 4 bytes) cluster ≡ true = eq-eqb _ _ of_cluster in
    let c : eqb (number_at 12 4 bytes) node ≡ true = eq-eqb _ _ of_node in
    no_fault (nat_lt (length bytes) 32) (eqb (number_at 0 8 bytes) (big_number 8 tag)) (nat_le (2 ^ 62) (number_at 16 8 bytes)) (nat_le (2 ^ 62) (number_at 24 8 bytes)) (eqb (number_at 8 4 bytes) cluster) (eqb (number_at 12 4 bytes) node)
    long a clock reading b c
  where
    no_fault : (short tagged clock reading of_cluster of_node : Bool) → short ≡ false → tagged ≡ true → clock ≡ false → reading ≡ false → of_cluster ≡ true → of_node ≡ true
        → first_some (then_some (short || not tagged) Header ∷ then_some (clock || reading) Header ∷ then_some (not of_cluster || not of_node) Plan ∷ []) ≡ None
    no_fault short tagged clock reading of_cluster of_node a b c d e f = rw (a, b, c, d, e, f) refl

-- ---- the head of a node of a cluster

abbrev pub node_head : ℕ → ℕ → Head NodeStart
node_head cluster node = record {
  long = 32;
  fault = head_fault cluster node;
  start_at = start_at;
  bytes_of = head_bytes cluster node;
}

pub node_is_head : (cluster node : ℕ) → cluster < 2 ^ 32 → node < 2 ^ 32 → IsHead (node_head cluster node) FitsNode
node_is_head cluster node small few = record {
  read = λ bytes are none. head-read cluster node bytes are (head-is cluster node bytes none);
  fits = λ bytes none. head-fits cluster node bytes (head-is cluster node bytes none);
  count = λ s fits. length-head cluster node s;
  back = λ s rest fits. start-back cluster node s rest small few fits;
  allowed = λ s rest fits. head-back cluster node s rest small few fits;
}
