-- What holds of the document that is written: it nests no deeper than a document may, and has no wrong date.
use Rattle.std.proofs.Common.{Ordering, Less, Equal, Greater, nat_cmp, arith, ◌≡◌, ◌≤◌, ◌==◌, refl, ℕ, pos, List, [], ◌∷◌, map, length, Bool, true, false, Option, Some, None}
use Rattle.std.specs.Prelude.{if◌then◌else◌}
use Rattle.std.proofs.lemmas.Bool.{and_from, and_parts}
use Rattle.std.specs.Cmp.Lexicographic.{slice_cmp}
use Rattle.std.specs.Ordering.{match_ordering}
use Rattle.toml.specs.View.{items_of}
use Rattle.toml.specs.Data.{Data, depth, items_depth, members_depth, has_valid_dates, items_have_valid_dates, members_have_valid_dates, Members, no_members, member, integer, string}
use Rattle.gs_planfile.specs.declared.key.Key.{Key}
use Rattle.gs_planfile.specs.declared.key.Key.TheVariants as key
use Rattle.gs_planfile.specs.declared.text.EdgeSpan.{EdgeSpan}
use Rattle.gs_planfile.specs.declared.text.PlanText.{PlanText}
use Rattle.gs_planfile.specs.declared.text.Shape.{Shape}
use Rattle.gs_planfile.specs.declared.text.Shape.TheVariants as shape
use Rattle.gs_planfile.specs.Keys.{key_name}
use Rattle.gs_planfile.specs.Writing.{edge_data, edges_data, insert_member, kappa_items, put, put_kappa, put_number, put_shape, put_spans, span_data, spans_data, written}

-- P holds of no members, and still where a value of which Q holds is set; Q holds of all values that are written
record IsKept (P : Members → Type 0) (Q : Data → Type 0) : Type 0 where
  none : P no_members
  set : (k : List ℕ) (d : Data) (ms : Members) → Q d → P ms → P (insert_member k d ms)
  number : (n : ℕ) → Q (integer (pos n))
  name : (s : List ℕ) → Q (string s)
  edges : (es : List (ℕ × ℕ)) → Q (edges_data es)
  spans : (ss : List EdgeSpan) → Q (spans_data ss)

module _ (P : Members → Type 0) (Q : Data → Type 0) (kept : IsKept P Q) where
  number : (k : Key) (n : ℕ) (ms : Members) → P ms → P (put_number k n ms)
  number k n ms h = kept.set (key_name k) (integer (pos n)) ms (kept.number n) h

  kappa : (o : Option ℕ) (ms : Members) → P ms → P (put_kappa o ms)
  unfolding put_kappa
  kappa None ms h = h
  kappa (Some n) ms h = number key.Kappa n ms h

  shapes : (s : Shape) (ms : Members) → P ms → P (put_shape s ms)
  unfolding put_shape
  shapes (shape.Line n) ms h = number key.Nodes n _ (kept.set _ _ ms (kept.name _) h)
  shapes (shape.Ring n) ms h = number key.Nodes n _ (kept.set _ _ ms (kept.name _) h)
  shapes (shape.Grid r q) ms h = number key.Cols q _ (number key.Rows r _ (kept.set _ _ ms (kept.name _) h))
  shapes (shape.Edges n es) ms h = kept.set _ _ _ (kept.edges es) (number key.Nodes n _ (kept.set _ _ ms (kept.name _) h))

  spans : (ss : List EdgeSpan) (ms : Members) → P ms → P (put_spans ss ms)
  unfolding put_spans
  spans ss ms h = by (length ss == 0)
    where
      by : (b : Bool) → P (if b then ms else put key.Spans (spans_data ss) ms)
      by true = h
      by false = kept.set (key_name key.Spans) (spans_data ss) ms (kept.spans ss) h

  all : (t : PlanText) → P (written t)
  all t =
      spans t.spans _ (number key.Port _ _ (number key.Levels _ _ (kappa t.kappa _
      (number key.Age _ _ (number key.Losses _ _ (number key.Every _ _ (number key.DelayMax _ _ (number key.DelayMin _ _ (number key.Tick _ _
      (number key.Mu _ _ (number key.Hi _ _ (number key.Lo _ _ (shapes t.shape _ (number key.Cluster _ _ (number key.Version 2 no_members kept.none)))))))))))))))

-- no deeper than a document may be
abbrev IsFlat : Members → Type 0
IsFlat ms = members_depth ms ≤ 80

-- a flat value may be put
flat : (k : List ℕ) (d : Data) (ms : Members) → depth d ≤ 80 → IsFlat ms → IsFlat (insert_member k d ms)
unfolding insert_member
flat k d no_members a b = omega (arith, a)
flat k d (member m e ms) a b = by (slice_cmp nat_cmp k m) (flat k d ms a)
  where
    by : (o : Ordering) → (IsFlat ms → IsFlat (insert_member k d ms)) → IsFlat (match_ordering o (member k d (member m e ms)) (member m d ms) (member m e (insert_member k d ms)))
    by Less ih = omega (arith, a, b)
    by Equal ih = omega (arith, a, b)
    by Greater ih = let low : IsFlat ms = omega (arith, b) in omega (arith, b, ih low)

-- an edge is one array deep, and a span as well
edges_shallow : (es : List (ℕ × ℕ)) → items_depth (items_of (map edge_data es)) ≤ 1
edges_shallow [] = omega arith
edges_shallow (e ∷ es) = omega (arith, edges_shallow es)

fifth_shallow : (o : Option ℕ) → items_depth (kappa_items o) ≤ 0
fifth_shallow None = omega arith
fifth_shallow (Some n) = omega arith

spans_shallow : (ss : List EdgeSpan) → items_depth (items_of (map span_data ss)) ≤ 1
spans_shallow [] = omega arith
spans_shallow (s ∷ ss) = omega (arith, spans_shallow ss, fifth_shallow s.kappa)

-- what was written nests no deeper than a document may
pub shallow : (t : PlanText) → members_depth (written t) ≤ 80
shallow t = all IsFlat (λ d. depth d ≤ 80) (record {
  none = omega arith;
  set = flat;
  number = λ n. omega arith;
  name = λ s. omega arith;
  edges = λ es. omega (arith, edges_shallow es);
  spans = λ ss. omega (arith, spans_shallow ss);
}) t

-- each date is valid
abbrev AreDated : Members → Type 0
AreDated ms = members_have_valid_dates ms ≡ true

dated : (k : List ℕ) (d : Data) (ms : Members) → has_valid_dates d ≡ true → AreDated ms → AreDated (insert_member k d ms)
unfolding insert_member
dated k d no_members a b = rw a refl
dated k d (member m e ms) a b = by (slice_cmp nat_cmp k m) (dated k d ms a) (and_parts (has_valid_dates e) (members_have_valid_dates ms) b)
  where
    by : (o : Ordering) → (AreDated ms → AreDated (insert_member k d ms)) → (has_valid_dates e ≡ true) × AreDated ms
        → AreDated (match_ordering o (member k d (member m e ms)) (member m d ms) (member m e (insert_member k d ms)))
    by Less ih p = and_from (has_valid_dates d) (members_have_valid_dates (member m e ms)) a b
    by Equal ih p = and_from (has_valid_dates d) (members_have_valid_dates ms) a p.1
    by Greater ih p = and_from (has_valid_dates e) (members_have_valid_dates (insert_member k d ms)) p.0 (ih p.1)

edges_dated : (es : List (ℕ × ℕ)) → items_have_valid_dates (items_of (map edge_data es)) ≡ true
edges_dated [] = refl
edges_dated (e ∷ es) = edges_dated es

fifth_dated : (o : Option ℕ) → items_have_valid_dates (kappa_items o) ≡ true
fifth_dated None = refl
fifth_dated (Some n) = refl

spans_dated : (ss : List EdgeSpan) → items_have_valid_dates (items_of (map span_data ss)) ≡ true
spans_dated [] = refl
spans_dated (s ∷ ss) = and_from _ _ (fifth_dated s.kappa) (spans_dated ss)

-- no date is written, and so no wrong one
pub no_wrong_date : (t : PlanText) → members_have_valid_dates (written t) ≡ true
no_wrong_date t = all AreDated (λ d. has_valid_dates d ≡ true) (record {
  none = refl;
  set = dated;
  number = λ n. refl;
  name = λ s. refl;
  edges = edges_dated;
  spans = spans_dated;
}) t
