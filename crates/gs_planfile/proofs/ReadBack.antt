-- What a plan that was written is read back as.
use Rattle.std.proofs.Common.{arith, ◌≡◌, ◌<◌, ◌^◌, ◌==◌, refl, ℕ, pos, List, [], ◌∷◌, map, length, Bool, true, false, not, Option, Some, None, Ok}
use Rattle.std.specs.Prelude.{codes, if◌then◌else◌, IfSome}
use Rattle.std.proofs.lemmas.Bool.{lt-ltb}
use Rattle.std.specs.List.{list_all, AllByRecursion}
use Rattle.toml.specs.View.{items_of}
use Rattle.toml.specs.Data.{Data, Members, no_members, get_item, get_member, integer, same_key}
use Rattle.gs_planfile.specs.declared.key.Key.{Key}
use Rattle.gs_planfile.specs.declared.key.Key.TheVariants as key
use Rattle.gs_planfile.specs.declared.text.EdgeSpan.{EdgeSpan}
use Rattle.gs_planfile.specs.declared.text.PlanText.{PlanText}
use Rattle.gs_planfile.specs.declared.text.Shape.{Shape}
use Rattle.gs_planfile.specs.declared.text.Shape.TheVariants as shape
use Rattle.gs_planfile.specs.declared.text.Version.TheVariants as version
use Rattle.gs_planfile.specs.Extra.{has_extra, is_allowed}
use Rattle.gs_planfile.specs.Keys.{key_name}
use Rattle.gs_planfile.specs.Lists.{each, edge_of, is_edge, is_span, span_of, spans_at, values}
use Rattle.gs_planfile.specs.Meaning.{plan_in}
use Rattle.gs_planfile.specs.Shapes.{shape_at}
use Rattle.gs_planfile.specs.Texts.{newest}
use Rattle.gs_planfile.specs.Values.{kappa_at, number_at, number_or, optional_kappa, value_at, version_at}
use Rattle.gs_planfile.specs.Writing.{EdgeFits, Fits, ShapeFits, SpanFits, edge_data, edges_data, insert_member, kappa_items, put, put_kappa, put_number, put_rates, put_shape, put_spans, put_times, span_data, spans_data, written}
use Rattle.gs_planfile.proofs.Inserted.{get-insert, any-insert}

-- what is the same where a key has another name
unless : (b : Bool) {x y : Option Data} → (b ≡ false → x ≡ y) → x ≡ (if b then x else y)
unless true h = refl
unless false h = h refl

-- what a key of another name holds once a kappa was put
get-put_kappa : (k : List ℕ) (o : Option ℕ) (ms : Members)
    → get_member k (put_kappa o ms) ≡ (if same_key k (codes "kappa") then get_member k (put_kappa o ms) else get_member k ms)
unfolding put_kappa
get-put_kappa k None ms = unless (same_key k (codes "kappa")) (λ other. refl)
get-put_kappa k (Some n) ms = unless (same_key k (codes "kappa")) (λ other. rw (get-insert, other))

-- what a key of another name holds once spans were put
get-put_spans : (k : List ℕ) (spans : List EdgeSpan) (ms : Members)
    → get_member k (put_spans spans ms) ≡ (if same_key k (codes "spans") then get_member k (put_spans spans ms) else get_member k ms)
unfolding put_spans
get-put_spans k spans ms = unless (same_key k (codes "spans")) (λ other. by (length spans == 0) other)
  where
    by : (b : Bool) → same_key k (codes "spans") ≡ false → get_member k (if b then ms else put key.Spans (spans_data spans) ms) ≡ get_member k ms
    by true other = refl
    by false other = rw (get-insert, other)

-- what a key that is none of a shape's holds once a shape was put
get-put_shape : (k : List ℕ) (s : Shape) (ms : Members) → get_member k (put_shape s ms)
    ≡ (if same_key k (codes "topology") then get_member k (put_shape s ms) else if same_key k (codes "nodes") then get_member k (put_shape s ms)
    else if same_key k (codes "rows") then get_member k (put_shape s ms) else if same_key k (codes "cols") then get_member k (put_shape s ms)
    else if same_key k (codes "edges") then get_member k (put_shape s ms) else get_member k ms)
unfolding put_shape
get-put_shape k s ms = unless _ (λ a. unless _ (λ b. unless _ (λ c. unless _ (λ d. unless _ (λ e. past s a b c d e)))))
  where
    past : (s : Shape) → same_key k (codes "topology") ≡ false → same_key k (codes "nodes") ≡ false → same_key k (codes "rows") ≡ false
        → same_key k (codes "cols") ≡ false → same_key k (codes "edges") ≡ false → get_member k (put_shape s ms) ≡ get_member k ms
    past (shape.Line n) a b c d e = simp (get-insert, a, b)
    past (shape.Ring n) a b c d e = simp (get-insert, a, b)
    past (shape.Grid r q) a b c d e = simp (get-insert, a, c, d)
    past (shape.Edges n es) a b c d e = simp (get-insert, a, b, e)

ruleset gets = (get-insert, get-put_kappa, get-put_spans, get-put_shape)

-- a number that was put is read
number_back : (k : Key) (n : ℕ) (ms : Members) → value_at k ms ≡ Some (integer (pos n)) → n < 2 ^ 32 → number_at k ms ≡ Ok n
number_back k n ms there fits = rw (there, lt-ltb n (2 ^ 32) fits)

-- the same where the key may be left out
number_or_back : (otherwise : ℕ) (k : Key) (n : ℕ) (ms : Members) → value_at k ms ≡ Some (integer (pos n)) → n < 2 ^ 32 → number_or otherwise k ms ≡ Ok n
number_or_back otherwise k n ms there fits = rw (there, lt-ltb n (2 ^ 32) fits)

-- each key of the written table says what the text says
version_back : (t : PlanText) → version_at (written t) ≡ Ok version.Two
version_back t = simp gets

cluster_back : (t : PlanText) → Fits t → number_at key.Cluster (written t) ≡ Ok t.cluster
cluster_back t h = number_back key.Cluster t.cluster (written t) (simp gets) h.cluster

lo_back : (t : PlanText) → Fits t → number_at key.Lo (written t) ≡ Ok t.lo
lo_back t h = number_back key.Lo t.lo (written t) (simp gets) h.rates.0

hi_back : (t : PlanText) → Fits t → number_at key.Hi (written t) ≡ Ok t.hi
hi_back t h = number_back key.Hi t.hi (written t) (simp gets) h.rates.1

mu_back : (t : PlanText) → Fits t → number_at key.Mu (written t) ≡ Ok t.mu
mu_back t h = number_back key.Mu t.mu (written t) (simp gets) h.rates.2

tick_back : (t : PlanText) → Fits t → number_at key.Tick (written t) ≡ Ok t.tick
tick_back t h = number_back key.Tick t.tick (written t) (simp gets) h.times.0

delay_min_back : (t : PlanText) → Fits t → number_at key.DelayMin (written t) ≡ Ok t.delay_min
delay_min_back t h = number_back key.DelayMin t.delay_min (written t) (simp gets) h.times.1

delay_max_back : (t : PlanText) → Fits t → number_at key.DelayMax (written t) ≡ Ok t.delay_max
delay_max_back t h = number_back key.DelayMax t.delay_max (written t) (simp gets) h.times.2

every_back : (t : PlanText) → Fits t → number_at key.Every (written t) ≡ Ok t.every
every_back t h = number_back key.Every t.every (written t) (simp gets) h.times.3

losses_back : (t : PlanText) → Fits t → number_at key.Losses (written t) ≡ Ok t.losses
losses_back t h = number_back key.Losses t.losses (written t) (simp gets) h.times.4

age_back : (t : PlanText) → Fits t → number_at key.Age (written t) ≡ Ok t.age
age_back t h = number_back key.Age t.age (written t) (simp gets) h.times.5

levels_back : (t : PlanText) → Fits t → number_or 4 key.Levels (written t) ≡ Ok t.levels
levels_back t h = number_or_back 4 key.Levels t.levels (written t) (simp gets) h.levels

port_back : (t : PlanText) → Fits t → number_or 40000 key.Port (written t) ≡ Ok t.port
port_back t h = number_or_back 40000 key.Port t.port (written t) (simp gets) h.port

-- a kappa is read where it was put, and none where it was left out
kappa_from : (o : Option ℕ) (ms : Members) → IfSome o (λ kappa. kappa < 2 ^ 62) → get_member (codes "kappa") ms ≡ None → kappa_at (put_kappa o ms) ≡ Ok o
unfolding put_kappa
kappa_from None ms h none = rw none
kappa_from (Some kappa) ms h none = simp (get-insert, lt-ltb _ _ h)

kappa_back : (t : PlanText) → Fits t → kappa_at (written t) ≡ Ok t.kappa
kappa_back t h =
    let none : get_member (codes "kappa") (put_times t (put_rates t (put_shape t.shape (put_number key.Cluster t.cluster (put_number key.Version 2 no_members))))) ≡ None = simp (get-insert, get-put_shape) in
    simp (get-insert, get-put_spans) (kappa_from t.kappa _ h.kappa none)

-- every written edge has its form
edges_formed : (es : List (ℕ × ℕ)) → list_all is_edge (values (items_of (map edge_data es))) ≡ true
edges_formed [] = refl
edges_formed (e ∷ es) = edges_formed es

-- and each reads back
each_edge_back : (es : List (ℕ × ℕ)) → AllByRecursion EdgeFits es → each edge_of (values (items_of (map edge_data es))) ≡ Ok es
each_edge_back [] h = refl
each_edge_back (e ∷ es) h = rw (lt-ltb _ _ h.0.0, lt-ltb _ _ h.0.1, each_edge_back es h.1)

-- a written span has its form
span_formed : (s : EdgeSpan) → is_span (span_data s) ≡ true
span_formed s = by s.kappa
  where
    by : (o : Option ℕ) → is_span (span_data (record s { kappa = o })) ≡ true
    by None = refl
    by (Some kappa) = refl

-- its fifth integer reads back, or its absence
fifth_back : (o : Option ℕ) → IfSome o (λ kappa. kappa < 2 ^ 62) → optional_kappa key.Spans (get_item 0 (kappa_items o)) ≡ Ok o
fifth_back None h = refl
fifth_back (Some kappa) h = rw (lt-ltb _ _ h)

-- a written span reads back
span_back : (s : EdgeSpan) → SpanFits s → span_of (span_data s) ≡ Ok s
unfolding span_of
span_back s h = rw (lt-ltb _ _ h.0, lt-ltb _ _ h.1, lt-ltb _ _ h.2, lt-ltb _ _ h.3, fifth_back s.kappa h.4)

-- every written span has its form
spans_formed : (ss : List EdgeSpan) → list_all is_span (values (items_of (map span_data ss))) ≡ true
spans_formed [] = refl
spans_formed (s ∷ ss) = rw (span_formed s) (spans_formed ss)

-- and each reads back
each_span_back : (ss : List EdgeSpan) → AllByRecursion SpanFits ss → each span_of (values (items_of (map span_data ss))) ≡ Ok ss
each_span_back [] h = refl
each_span_back (s ∷ ss) h = rw (span_back s h.0, each_span_back ss h.1)

-- a list with an item is not empty
filled : (s : EdgeSpan) (ss : List EdgeSpan) → (length (s ∷ ss) == 0) ≡ false
filled s ss = grind arith

-- spans are read where they were put, and none where they were left out
spans_from : (ss : List EdgeSpan) (ms : Members) → AllByRecursion SpanFits ss → get_member (codes "spans") ms ≡ None
    → spans_at version.Two (put_spans ss ms) ≡ Ok ss
unfolding put_spans
spans_from [] ms h none = rw none
spans_from (s ∷ ss) ms h none = simp (filled s ss, get-insert, spans_formed (s ∷ ss), each_span_back (s ∷ ss) h)

spans_back : (t : PlanText) → Fits t → spans_at version.Two (written t) ≡ Ok t.spans
spans_back t h = spans_from t.spans _ h.spans (simp (get-insert, get-put_kappa, get-put_shape))

-- a shape read through the keys above it
shape_from : (s : Shape) (below all : Members) → ShapeFits s
    → get_member (codes "topology") all ≡ get_member (codes "topology") (put_shape s below)
    → get_member (codes "nodes") all ≡ get_member (codes "nodes") (put_shape s below)
    → get_member (codes "rows") all ≡ get_member (codes "rows") (put_shape s below)
    → get_member (codes "cols") all ≡ get_member (codes "cols") (put_shape s below)
    → get_member (codes "edges") all ≡ get_member (codes "edges") (put_shape s below)
    → shape_at all ≡ Ok s
unfolding put_shape
shape_from (shape.Line n) below all h t a b c d = simp (t, a, get-insert, lt-ltb _ _ h)
shape_from (shape.Ring n) below all h t a b c d = simp (t, a, get-insert, lt-ltb _ _ h)
shape_from (shape.Grid r q) below all h t a b c d = simp (t, b, c, get-insert, lt-ltb _ _ h.0, lt-ltb _ _ h.1)
shape_from (shape.Edges n es) below all h t a b c d = simp (t, a, d, get-insert, lt-ltb _ _ h.0, edges_formed es, each_edge_back es h.1)

ruleset above_shape = (get-insert, get-put_kappa, get-put_spans)

shape_back : (t : PlanText) → Fits t → shape_at (written t) ≡ Ok t.shape
shape_back t h =
    shape_from t.shape (put_number key.Cluster t.cluster (put_number key.Version 2 no_members)) (written t) h.shape
    (simp above_shape) (simp above_shape) (simp above_shape) (simp above_shape) (simp above_shape)

-- a name that this shape does not take in version 2
abbrev refused : Shape → List ℕ → Bool
refused s name = not (is_allowed version.Two s name)

-- no key stands there that the shape does not take
abbrev NoExtra : Shape → Members → Type 0
NoExtra s ms = has_extra version.Two s ms ≡ false

-- a key that the shape takes may be put
add : (s : Shape) (k : Key) (d : Data) (ms : Members) → refused s (key_name k) ≡ false → NoExtra s ms → NoExtra s (put k d ms)
add s k d ms a h = any-insert (refused s) (key_name k) d ms a h

add_kappa : (s : Shape) (o : Option ℕ) (ms : Members) → NoExtra s ms → NoExtra s (put_kappa o ms)
unfolding put_kappa is_allowed
add_kappa s None ms h = h
add_kappa s (Some n) ms h = add s key.Kappa _ ms refl h

add_spans : (s : Shape) (ss : List EdgeSpan) (ms : Members) → NoExtra s ms → NoExtra s (put_spans ss ms)
unfolding put_spans is_allowed
add_spans s ss ms h = by (length ss == 0)
  where
    by : (b : Bool) → NoExtra s (if b then ms else put key.Spans (spans_data ss) ms)
    by true = h
    by false = add s key.Spans _ ms refl h

add_shape : (s : Shape) (ms : Members) → NoExtra s ms → NoExtra s (put_shape s ms)
unfolding put_shape is_allowed
add_shape (shape.Line n) ms h = add (shape.Line n) key.Nodes _ _ refl (add (shape.Line n) key.Topology _ _ refl h)
add_shape (shape.Ring n) ms h = add (shape.Ring n) key.Nodes _ _ refl (add (shape.Ring n) key.Topology _ _ refl h)
add_shape (shape.Grid r q) ms h =
    add (shape.Grid r q) key.Cols _ _ refl (add (shape.Grid r q) key.Rows _ _ refl (add (shape.Grid r q) key.Topology _ _ refl h))
add_shape (shape.Edges n es) ms h =
    add (shape.Edges n es) key.Edges _ _ refl (add (shape.Edges n es) key.Nodes _ _ refl (add (shape.Edges n es) key.Topology _ _ refl h))

add_rates : (s : Shape) (t : PlanText) (ms : Members) → NoExtra s ms → NoExtra s (put_rates t ms)
unfolding is_allowed
add_rates s t ms h = add s key.Mu _ _ refl (add s key.Hi _ _ refl (add s key.Lo _ _ refl h))

add_times : (s : Shape) (t : PlanText) (ms : Members) → NoExtra s ms → NoExtra s (put_times t ms)
unfolding is_allowed
add_times s t ms h =
    add s key.Age _ _ refl (add s key.Losses _ _ refl (add s key.Every _ _ refl
    (add s key.DelayMax _ _ refl (add s key.DelayMin _ _ refl (add s key.Tick _ _ refl h)))))

-- every key that was put is one that the shape takes in version 2
extra_back : (t : PlanText) → NoExtra t.shape (written t)
unfolding is_allowed
extra_back t =
    let s = t.shape in
    add_spans s t.spans _ (add s key.Port _ _ refl (add s key.Levels _ _ refl
    (add_kappa s t.kappa _ (add_times s t _ (add_rates s t _ (add_shape s _
    (add s key.Cluster _ _ refl (add s key.Version _ no_members refl refl))))))))

-- what was written says the text, in version 2
pub plan_back : (t : PlanText) → Fits t → plan_in (written t) ≡ Ok (newest t)
unfolding plan_in
plan_back t h =
    rw (
      version_back t,
      cluster_back t h,
      shape_back t h,
      lo_back t h,
      hi_back t h,
      mu_back t h,
      tick_back t h,
      delay_min_back t h,
      delay_max_back t h,
      every_back t h,
      losses_back t h,
      age_back t h,
      kappa_back t h,
      levels_back t h,
      port_back t h,
      spans_back t h,
      extra_back t,
    )
