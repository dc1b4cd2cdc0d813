-- Each fault of a reading is one of the value at its key.
use Rattle.std.proofs.Common.{◌≡◌, ◌≢◌, ◌∙◌, ap, sym, subst, refl, ℕ, pos, negsuc, List, [], ◌∷◌, ◌++◌, ◌^◌, ◌==◌, Bool, true, false, nat_lt, is_some, Option, Some, None, Result, Ok, Err}
use Rattle.std.specs.Prelude.{codes, IfErr, MatchResult, ⊤, if◌then◌else◌}
use Rattle.std.specs.List.{AllByRecursion, list_all}
use Rattle.std.specs.Str.{bytes_eq}
use Rattle.std.proofs.lemmas.Slice.Eq.{bytes_eq-Decides}
use Rattle.toml.specs.Data.{Data, Members, array, at, integer, string}
use Rattle.gs_planfile.specs.declared.key.Key.{Key}
use Rattle.gs_planfile.specs.declared.key.Key.TheVariants as key
use Rattle.gs_planfile.specs.declared.key.PlanFileFault.{PlanFileFault}
use Rattle.gs_planfile.specs.declared.key.PlanFileFault.TheVariants.{Kind, Range, Extra, OutOfMemory}
use Rattle.gs_planfile.specs.declared.text.Shape.{Shape}
use Rattle.gs_planfile.specs.declared.text.Shape.TheVariants as shape
use Rattle.gs_planfile.specs.declared.text.Version.{Version}
use Rattle.gs_planfile.specs.declared.text.Version.TheVariants.{One, Two}
use Rattle.gs_planfile.specs.Extra.{has_extra, no_extra}
use Rattle.gs_planfile.specs.Keys.{every_key}
use Rattle.gs_planfile.specs.Lists.{each, edge_of, edges_at, edges_of, is_edge, is_span, item_number, number_in, span_of, spans_at, spans_of, values}
use Rattle.gs_planfile.specs.Meaning.{plan_in}
use Rattle.gs_planfile.specs.Refusals.{FaultsAreAtKeys, IsFaultOf, IsNeeded, IsThere, NoneIsMissing, is_needed, keys_before, text_in}
use Rattle.gs_planfile.specs.Shapes.{grid_at, line_at, listed_at, ring_at, shape_at, shape_of}
use Rattle.gs_planfile.specs.Values.{◌>>=◌, kappa_at, kappa_of, needed, number_at, number_of, number_or, optional, optional_kappa, value_at, version_at, version_of}

-- a fault of the value at a key
abbrev IsOfValue : Key → PlanFileFault → Type 0
IsOfValue k (Kind q) = q ≡ k
IsOfValue k (Range q) = q ≡ k
IsOfValue k _ = ⊥

-- every fault of this reading is one of the value at a key
abbrev AtValue : {A : Type 0} → Key → Result A PlanFileFault → Type 0
AtValue k r = IfErr r (IsOfValue k)

-- two steps
chain : {A B : Type 0} (k : Key) (r : Result A PlanFileFault) (next : A → Result B PlanFileFault) → AtValue k r → ((x : A) → AtValue k (next x)) → AtValue k (r >>= next)
chain k (Ok x) next a b = b x
chain k (Err e) next a b = a

-- a test
choice : {A : Type 0} (k : Key) (b : Bool) (r s : Result A PlanFileFault) → AtValue k r → AtValue k s → AtValue k (if b then r else s)
choice k true r s a b = a
choice k false r s a b = b

-- each reading of a value
number_of-faults : (k : Key) (d : Data) → AtValue k (number_of k d)
number_of-faults k (integer (pos n)) = choice k (nat_lt n (2 ^ 32)) (Ok n) (Err (Range k)) tt refl
number_of-faults k (integer (negsuc n)) = refl
number_of-faults k _ = refl

kappa_of-faults : (k : Key) (d : Data) → AtValue k (kappa_of k d)
kappa_of-faults k (integer (pos n)) = choice k (nat_lt n (2 ^ 62)) (Ok n) (Err (Range k)) tt refl
kappa_of-faults k (integer (negsuc n)) = refl
kappa_of-faults k _ = refl

version_of-faults : (d : Data) → AtValue key.Version (version_of d)
version_of-faults (integer (pos n)) =
    choice key.Version (n == 1) (Ok One) _ tt (choice key.Version (n == 2) (Ok Two) (Err (Range key.Version)) tt refl)
version_of-faults (integer (negsuc n)) = refl
version_of-faults _ = refl

optional_kappa-faults : (k : Key) (o : Option Data) → AtValue k (optional_kappa k o)
optional_kappa-faults k None = tt
optional_kappa-faults k (Some d) = chain k (kappa_of k d) (λ kappa. Ok (Some kappa)) (kappa_of-faults k d) (λ kappa. tt)

item_number-faults : (k : Key) (o : Option Data) → AtValue k (item_number k o)
item_number-faults k None = refl
item_number-faults k (Some d) = number_of-faults k d

edge_of-faults : (d : Data) → AtValue key.Edges (edge_of d)
edge_of-faults d =
    chain key.Edges (number_in key.Edges 0 d) _ (item_number-faults key.Edges (at 0 d)) (λ a.
    chain key.Edges (number_in key.Edges 1 d) _ (item_number-faults key.Edges (at 1 d)) (λ b. tt))

span_of-faults : (d : Data) → AtValue key.Spans (span_of d)
unfolding span_of
span_of-faults d =
    chain key.Spans (number_in key.Spans 0 d) _ (item_number-faults key.Spans (at 0 d)) (λ a.
    chain key.Spans (number_in key.Spans 1 d) _ (item_number-faults key.Spans (at 1 d)) (λ b.
    chain key.Spans (number_in key.Spans 2 d) _ (item_number-faults key.Spans (at 2 d)) (λ delay_min.
    chain key.Spans (number_in key.Spans 3 d) _ (item_number-faults key.Spans (at 3 d)) (λ delay_max.
    chain key.Spans (optional_kappa key.Spans (at 4 d)) _ (optional_kappa-faults key.Spans (at 4 d)) (λ kappa. tt)))))

each-faults : {A : Type 0} (k : Key) (read : Data → Result A PlanFileFault) (ds : List Data) → ((d : Data) → AtValue k (read d)) → AtValue k (each read ds)
each-faults k read [] h = tt
each-faults k read (d ∷ ds) h = chain k (read d) _ (h d) (λ x. chain k (each read ds) _ (each-faults k read ds h) (λ xs. tt))

edges_of-faults : (d : Data) → AtValue key.Edges (edges_of d)
edges_of-faults (array ds) =
    choice key.Edges (list_all is_edge (values ds)) (each edge_of (values ds)) _ (each-faults key.Edges edge_of (values ds) edge_of-faults) refl
edges_of-faults _ = refl

spans_of-faults : (d : Data) → AtValue key.Spans (spans_of d)
spans_of-faults (array ds) =
    choice key.Spans (list_all is_span (values ds)) (each span_of (values ds)) _ (each-faults key.Spans span_of (values ds) span_of-faults) refl
spans_of-faults _ = refl

-- every fault of this reading is one of the document's keys, and where it has none, P holds
abbrev Reads : {A : Type 0} → Members → Type 0 → Result A PlanFileFault → Type 0
Reads ms P r = MatchResult r (λ _. P) (IsFaultOf ms)

-- two steps
steps : {A B : Type 0} (ms : Members) (P Q : Type 0) (r : Result A PlanFileFault) (next : A → Result B PlanFileFault)
    → Reads ms P r → (P → (x : A) → Reads ms Q (next x)) → Reads ms Q (r >>= next)
steps ms P Q (Ok x) next a b = b a x
steps ms P Q (Err e) next a b = a

-- a fault of the value at a key that is there
of_value : {A : Type 0} (ms : Members) (k : Key) (P : Type 0) (r : Result A PlanFileFault) → IsThere ms k → NoneIsMissing ms (keys_before k) → P → AtValue k r → Reads ms P r
of_value ms k P (Ok x) there before p h = p
of_value ms k P (Err (Kind q)) there before p h = subst (λ q. IsFaultOf ms (Kind q)) (sym h) (there, before)
of_value ms k P (Err (Range q)) there before p h = subst (λ q. IsFaultOf ms (Range q)) (sym h) (there, before)
of_value ms k P (Err _) there before p h = absurd h

-- one key more
more : (P : Key → Type 0) (ks : List Key) (k : Key) → AllByRecursion P ks → P k → AllByRecursion P (ks ++ k ∷ [])
more P [] k h p = (p, tt)
more P (q ∷ ks) k h p = (h.0, more P ks k h.1 p)

abbrev upto : Key → List Key
upto k = keys_before k ++ k ∷ []

after : (ms : Members) (k : Key) → NoneIsMissing ms (keys_before k) → (IsNeeded ms k → IsThere ms k) → NoneIsMissing ms (upto k)
after ms k before h = more (λ q. IsNeeded ms q → IsThere ms q) (keys_before k) k before h

-- a key that is needed
needed-reads : {A : Type 0} (ms : Members) (k : Key) (read : Data → Result A PlanFileFault) → IsNeeded ms k → NoneIsMissing ms (keys_before k)
    → ((d : Data) → AtValue k (read d)) → Reads ms (NoneIsMissing ms (upto k)) (needed k read (value_at k ms))
needed-reads ms k read need before h = by (value_at k ms) refl
  where
    by : (o : Option Data) → value_at k ms ≡ o → Reads ms (NoneIsMissing ms (upto k)) (needed k read o)
    by None is = (need, is, before)
    by (Some d) is =
        let there : IsThere ms k = ap is_some is in
        of_value ms k (NoneIsMissing ms (upto k)) (read d) there before (after ms k before (λ _. there)) (h d)

number-reads : (ms : Members) (k : Key) → IsNeeded ms k → NoneIsMissing ms (keys_before k) → Reads ms (NoneIsMissing ms (upto k)) (number_at k ms)
number-reads ms k need before = needed-reads ms k (number_of k) need before (number_of-faults k)

-- a key that may be left out
optional-reads : {A : Type 0} (ms : Members) (k : Key) (x : A) (read : Data → Result A PlanFileFault) → (IsNeeded ms k → ⊥) → NoneIsMissing ms (keys_before k)
    → ((d : Data) → AtValue k (read d)) → Reads ms (NoneIsMissing ms (upto k)) (optional x read (value_at k ms))
optional-reads ms k x read free before h = by (value_at k ms) refl
  where
    next : NoneIsMissing ms (upto k)
    next = after ms k before (λ need. absurd (free need))

    by : (o : Option Data) → value_at k ms ≡ o → Reads ms (NoneIsMissing ms (upto k)) (optional x read o)
    by None is = next
    by (Some d) is = of_value ms k (NoneIsMissing ms (upto k)) (read d) (ap is_some is) before next (h d)

kappa-reads : (ms : Members) → NoneIsMissing ms (keys_before key.Kappa) → Reads ms (NoneIsMissing ms (keys_before key.Levels)) (kappa_at ms)
kappa-reads ms before = by (value_at key.Kappa ms) refl
  where
    next : NoneIsMissing ms (upto key.Kappa)
    next = after ms key.Kappa before (λ need. cc)

    by : (o : Option Data) → value_at key.Kappa ms ≡ o → Reads ms (NoneIsMissing ms (keys_before key.Levels)) (optional_kappa key.Kappa o)
    by None is = next
    by (Some d) is =
        of_value ms key.Kappa (NoneIsMissing ms (keys_before key.Levels)) (optional_kappa key.Kappa (Some d)) (ap is_some is) before next (optional_kappa-faults key.Kappa (Some d))

spans-reads : (v : Version) (ms : Members) → NoneIsMissing ms (keys_before key.Spans) → Reads ms (NoneIsMissing ms every_key) (spans_at v ms)
spans-reads One ms before = after ms key.Spans before (λ need. cc)
spans-reads Two ms before = optional-reads ms key.Spans [] spans_of (λ need. cc) before spans_of-faults

-- a key that the topology does not need
unneeded : (ms : Members) (k : Key) (o : Option Data) → value_at key.Topology ms ≡ o → is_needed (text_in o) k ≡ false → IsNeeded ms k → IsThere ms k
unneeded ms k o is free need =
    let wrong : false ≡ true = sym free ∙ sym (ap (λ t. is_needed (text_in t) k) is) ∙ need in
    cc wrong

-- the shape of each topology
nodes-reads : (ms : Members) (name : List ℕ) (make : ℕ → Shape) → value_at key.Topology ms ≡ Some (string name) → is_needed name key.Nodes ≡ true → is_needed name key.Rows ≡ false
    → is_needed name key.Cols ≡ false → is_needed name key.Edges ≡ false → NoneIsMissing ms (keys_before key.Nodes)
    → Reads ms (NoneIsMissing ms (keys_before key.Lo)) (number_at key.Nodes ms >>= (λ n. Ok (make n)))
nodes-reads ms name make is need rows cols edges before =
    steps ms _ _ (number_at key.Nodes ms) _ (number-reads ms key.Nodes (ap (λ o. is_needed (text_in o) key.Nodes) is ∙ need) before) (λ nodes n.
    after ms key.Edges (after ms key.Cols (after ms key.Rows nodes (unneeded ms key.Rows _ is rows)) (unneeded ms key.Cols _ is cols)) (unneeded ms key.Edges _ is edges))

grid-reads : (ms : Members) → value_at key.Topology ms ≡ Some (string (codes "grid")) → NoneIsMissing ms (keys_before key.Nodes)
    → Reads ms (NoneIsMissing ms (keys_before key.Lo)) (grid_at ms)
grid-reads ms is before =
    steps ms _ _ (number_at key.Rows ms) _ (number-reads ms key.Rows (ap (λ o. is_needed (text_in o) key.Rows) is) (after ms key.Nodes before (unneeded ms key.Nodes _ is refl))) (λ rows r.
    steps ms _ _ (number_at key.Cols ms) _ (number-reads ms key.Cols (ap (λ o. is_needed (text_in o) key.Cols) is) rows) (λ cols c.
    after ms key.Edges cols (unneeded ms key.Edges _ is refl)))

listed-reads : (ms : Members) → value_at key.Topology ms ≡ Some (string (codes "edges")) → NoneIsMissing ms (keys_before key.Nodes)
    → Reads ms (NoneIsMissing ms (keys_before key.Lo)) (listed_at ms)
listed-reads ms is before =
    steps ms _ _ (number_at key.Nodes ms) _ (number-reads ms key.Nodes (ap (λ o. is_needed (text_in o) key.Nodes) is) before) (λ nodes n.
    let grid = after ms key.Cols (after ms key.Rows nodes (unneeded ms key.Rows _ is refl)) (unneeded ms key.Cols _ is refl) in
    steps ms _ _ (edges_at ms) _ (needed-reads ms key.Edges edges_of (ap (λ o. is_needed (text_in o) key.Edges) is) grid edges_of-faults) (λ edges es. edges))

-- a test of a topology's name
named : {A : Type 0} (ms : Members) (P : Type 0) (name word : List ℕ) (r s : Result A PlanFileFault)
    → value_at key.Topology ms ≡ Some (string name) → (value_at key.Topology ms ≡ Some (string word) → Reads ms P r) → Reads ms P s → Reads ms P (if bytes_eq name word then r else s)
named ms P name word r s is a b = by (bytes_eq name word) refl
  where
    by : (t : Bool) → bytes_eq name word ≡ t → Reads ms P (if t then r else s)
    by true e = a (is ∙ ap (λ (n : List ℕ). Some (string n)) ((bytes_eq-Decides name word).0 e))
    by false e = b

shape-reads : (ms : Members) → NoneIsMissing ms (keys_before key.Topology) → Reads ms (NoneIsMissing ms (keys_before key.Lo)) (shape_at ms)
shape-reads ms before = by (value_at key.Topology ms) refl
  where
    by : (o : Option Data) → value_at key.Topology ms ≡ o → Reads ms (NoneIsMissing ms (keys_before key.Lo)) (shape_of o ms)
    by None is = (refl, is, before)
    by (Some (string name)) is =
        let there : IsThere ms key.Topology = ap is_some is in
        let next : NoneIsMissing ms (keys_before key.Nodes) = after ms key.Topology before (λ _. there) in
        named ms _ name (codes "line") (line_at ms) _ is (λ line. nodes-reads ms (codes "line") shape.Line line refl refl refl refl next)
        (named ms _ name (codes "ring") (ring_at ms) _ is (λ ring. nodes-reads ms (codes "ring") shape.Ring ring refl refl refl refl next)
        (named ms _ name (codes "grid") (grid_at ms) _ is (λ grid. grid-reads ms grid next)
        (named ms _ name (codes "edges") (listed_at ms) _ is (λ edges. listed-reads ms edges next) (there, before))))
    by (Some d) is = (ap is_some is, before)

-- a key too many, where none that is needed is missing
refused : {A : Type 0} (ms : Members) (b : Bool) (r : Result A PlanFileFault) → NoneIsMissing ms every_key → Reads ms ⊤ r → Reads ms ⊤ (if b then Err Extra else r)
refused ms true r all h = all
refused ms false r all h = h

no_extra-reads : (v : Version) (s : Shape) (ms : Members) → NoneIsMissing ms every_key → Reads ms ⊤ (no_extra v s ms)
no_extra-reads v s ms all = refused ms (has_extra v s ms) (Ok tt) all tt

-- what a document's keys are refused for
pub plan_in-reads : (ms : Members) → Reads ms ⊤ (plan_in ms)
unfolding plan_in
plan_in-reads ms =
    steps ms _ _ (version_at ms) _ (needed-reads ms key.Version version_of refl tt version_of-faults) (λ a version.
    steps ms _ _ (number_at key.Cluster ms) _ (number-reads ms key.Cluster refl a) (λ b cluster.
    steps ms _ _ (shape_at ms) _ (shape-reads ms b) (λ c shape.
    steps ms _ _ (number_at key.Lo ms) _ (number-reads ms key.Lo refl c) (λ d lo.
    steps ms _ _ (number_at key.Hi ms) _ (number-reads ms key.Hi refl d) (λ e hi.
    steps ms _ _ (number_at key.Mu ms) _ (number-reads ms key.Mu refl e) (λ f mu.
    steps ms _ _ (number_at key.Tick ms) _ (number-reads ms key.Tick refl f) (λ g tick.
    steps ms _ _ (number_at key.DelayMin ms) _ (number-reads ms key.DelayMin refl g) (λ h delay_min.
    steps ms _ _ (number_at key.DelayMax ms) _ (number-reads ms key.DelayMax refl h) (λ i delay_max.
    steps ms _ _ (number_at key.Every ms) _ (number-reads ms key.Every refl i) (λ j every.
    steps ms _ _ (number_at key.Losses ms) _ (number-reads ms key.Losses refl j) (λ k losses.
    steps ms _ _ (number_at key.Age ms) _ (number-reads ms key.Age refl k) (λ l age.
    steps ms _ _ (kappa_at ms) _ (kappa-reads ms l) (λ m kappa.
    steps ms _ _ (number_or 4 key.Levels ms) _ (optional-reads ms key.Levels 4 (number_of key.Levels) (λ need. cc) m (number_of-faults key.Levels)) (λ n levels.
    steps ms _ _ (number_or 40000 key.Port ms) _ (optional-reads ms key.Port 40000 (number_of key.Port) (λ need. cc) n (number_of-faults key.Port)) (λ o port.
    steps ms _ _ (spans_at version ms) _ (spans-reads version ms o) (λ p spans.
    steps ms _ _ (no_extra version shape ms) _ (no_extra-reads version shape ms p) (λ q extra. tt)))))))))))))))))

pub faults_at_keys : FaultsAreAtKeys
faults_at_keys ms fault is = rw is at (plan_in-reads ms)

-- so a reader of the keys, whose faults are those or `OutOfMemory`, never answers a fault of the text
pub not_of_text : {A : Type 0} (f : PlanFileFault) (r : Result A PlanFileFault) (ms : Members) → (IsFaultOf ms f → ⊥) → f ≢ OutOfMemory
    → IfErr r (λ e. e ≢ OutOfMemory → plan_in ms ≡ Err e) → r ≢ Err f
not_of_text f r ms other free exact q = other (faults_at_keys ms f ((rw q at exact) free))
