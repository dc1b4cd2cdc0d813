-- Tests of the values of an array, on its view.
use Rattle.std.proofs.Common.{ℕ, suc, ◌+◌, ◌<◌, ◌≤◌, ◌≡◌, ap, sym, refl, true, false, Bool, ◌&&◌, ◌||◌, ◌==◌, List, [], ◌∷◌, ◌++◌, map, drop, length, get_or, append_assoc, Result, Ok, Err, String, string_bytes, Global, Vec}
use Rattle.std.specs.Prelude.{IsUtf8}
use Rattle.std.specs.List.{list_all, list_any}
use Rattle.std.specs.Map.{keys_of}
use Rattle.std.specs.Str.{is_utf8}
use Rattle.std.proofs.lemmas.List.{append-nil, drop_all, drop_more}
pub use Rattle.std.proofs.lemmas.List.Folds.{list_all-map}
use Rattle.std.proofs.lemmas.Str.{is_utf8-from_IsUtf8, IsUtf8-from_is_utf8}
use Rattle.toml.specs.Data.{Data}
use Rattle.toml.specs.View.{items_view, members_view, view}
use Rattle.toml.specs.declared.value.Value.{Value, Array}
use Rattle.toml.proofs.Views.{view-Array}
use Rattle.gs_planfile.specs.declared.key.Key.TheVariants as key
use Rattle.gs_planfile.specs.declared.key.PlanFileFault.{PlanFileFault}
use Rattle.gs_planfile.specs.Extra.{names}
use Rattle.gs_planfile.specs.Lists.{each, edge_of, edges_of, is_edge, is_integer, is_span, list_of, span_of, spans_of, values}
use Rattle.gs_planfile.specs.Values.{◌>>=◌}

-- the values of an array's view
values-view : (vs : List Value) → values (items_view vs) ≡ map view vs
values-view [] = refl
values-view (v ∷ vs) = ap (λ ds. view v ∷ ds) (values-view vs)

-- a test of every value of an array's view
all-view : (p : Data → Bool) (vs : List Value) → list_all p (values (items_view vs)) ≡ list_all (λ v. p (view v)) vs
all-view p vs = rw values-view (list_all-map p view vs)

-- the length of an array's view
length-view : (vs : List Value) → length (values (items_view vs)) ≡ length vs
length-view [] = refl
length-view (v ∷ vs) = ap (λ n. suc n) (length-view vs)

-- an edge's form, in the code's values
pub is_edge-array : (v : Vec Value Global) → is_edge (view (Array v)) ≡ ((length v.items == 2) && list_all (λ x. is_integer (view x)) v.items)
is_edge-array v = rw (view-Array, length-view, all-view is_integer v.items)

-- a span's form, in the code's values
pub is_span-array : (v : Vec Value Global) → is_span (view (Array v)) ≡ (((length v.items == 4) || (length v.items == 5)) && list_all (λ x. is_integer (view x)) v.items)
is_span-array v = rw (view-Array, length-view, all-view is_integer v.items)

-- a list of edges, in the code's values
pub edges_of-array : (v : Vec Value Global) → edges_of (view (Array v)) ≡ list_of key.Edges is_edge edge_of (map view v.items)
edges_of-array v = rw (view-Array, values-view)

-- a list of spans, in the code's values
pub spans_of-array : (v : Vec Value Global) → spans_of (view (Array v)) ≡ list_of key.Spans is_span span_of (map view v.items)
spans_of-array v = rw (view-Array, values-view)

pub ruleset arrays = (is_edge-array, is_span-array, edges_of-array, spans_of-array)

pub ruleset tests = (list_all-map)

-- what has been read, before what is read of the rest
abbrev pub after : {A : Type 0} → List A → Result (List A) PlanFileFault → Result (List A) PlanFileFault
after done (Ok xs) = Ok (done ++ xs)
after done (Err e) = Err e

-- before the first value
after-nil : {A : Type 0} (r : Result (List A) PlanFileFault) → r ≡ after [] r
after-nil (Ok xs) = refl
after-nil (Err e) = refl

-- one value more
after-more : {A : Type 0} (done : List A) (x : A) (r : Result (List A) PlanFileFault) → after done (r >>= (λ xs. Ok (x ∷ xs))) ≡ after (done ++ x ∷ []) r
after-more done x (Ok xs) = ap (λ ys. Ok ys) (sym (append_assoc done (x ∷ []) xs))
after-more done x (Err e) = refl

-- nothing has been read
pub each-start : {A : Type 0} (read : Data → Result A PlanFileFault) (vs : List Value) → each read (map view vs) ≡ after [] (each read (map view vs))
each-start read vs = after-nil (each read (map view vs))

-- all has been read
pub each-end : {A : Type 0} (read : Data → Result A PlanFileFault) (i : ℕ) (vs : List Value) (done : List A) → length vs ≤ i
    → after done (each read (map view (drop i vs))) ≡ Ok done
each-end read i vs done h = rw (drop_all i vs h, append-nil done)

-- the next value is at fault
pub each-stop : {A : Type 0} (read : Data → Result A PlanFileFault) (i : ℕ) (vs : List Value) (v : Value) (done : List A) (e : PlanFileFault) → i < length vs
    → read (view (get_or vs i v)) ≡ Err e → after done (each read (map view (drop i vs))) ≡ Err e
each-stop read i vs v done e h f = rw (drop_more vs i v h, f)

-- the next value has been read
pub each-more : {A : Type 0} (read : Data → Result A PlanFileFault) (i : ℕ) (vs : List Value) (v : Value) (done : List A) (x : A) → i < length vs
    → read (view (get_or vs i v)) ≡ Ok x → after done (each read (map view (drop i vs))) ≡ after (done ++ x ∷ []) (each read (map view (drop (i + 1) vs)))
each-more read i vs v done x h f = rw (drop_more vs i v h, f) (after-more done x _)

pub ruleset steps = (each-start, each-end, each-stop, each-more)

-- a test of the keys of a table
pub any-view : (p : List ℕ → Bool) (es : List (String Global × Value)) → list_any p (names (members_view es)) ≡ list_any (λ k. p (string_bytes k)) (keys_of es)
any-view p [] = refl
any-view p (e ∷ es) = ap (λ b. p (string_bytes e.0) || b) (any-view p es)

pub ruleset keys = (any-view)

-- what is not true is false
false_of : (b : Bool) → ¬ (b ≡ true) → b ≡ false
false_of true h = absurd (h refl)
false_of false h = refl

-- the test fails where the bytes are not UTF-8
pub is_utf8-false : (bs : List ℕ) → ¬ IsUtf8 bs → is_utf8 bs ≡ false
is_utf8-false bs h = false_of (is_utf8 bs) (λ e. h (IsUtf8-from_is_utf8 bs e))

pub ruleset utf8_tests = (is_utf8-from_IsUtf8, is_utf8-false)
