-- The beacons of a quantum are put on their way, receiver by receiver and sender by sender.
use Rattle.std.proofs.Common.{◌≡◌, ℕ, suc, ◌+◌, ◌<◌, ◌≤◌, ◌^◌, Bool, true, false, cond, inl, inr, arith, ap, sym, ◌∙◌, subst, List, [], ◌∷◌, length, slice_index, slice_index_or, slice_set, Some}
use Rattle.std.specs.List.{range_with_len}
use Rattle.std.proofs.lemmas.Bool.{cases_eq}
use Rattle.std.specs.BTreeSet.{insert_key}
use Rattle.gs_topo.specs.Graph.{Graph, neighbours_of}
use Rattle.gs_topo.specs.Graph as graph
use Rattle.gs_topo.proofs.Distances.{both_ways}
use Rattle.gs_plan.specs.declared.plan.Plan.{Plan}
use Rattle.gs_plan.specs.Plans.{text_of, graph_of}
use Rattle.gs_plan.specs.Shapes.{graph_of_text}
use Rattle.gs_script.specs.Script.{Said, delay_of}
use Rattle.gs_run.specs.Net.{Net, Adjacent, neighbours}
use Rattle.gs_run.specs.Nets.{net_of}
use Rattle.gs_calendar.specs.Due.{Key}
use Rattle.gs_calendar.specs.Course.{Course, course_of}
use Rattle.gs_calendar.specs.Calendar.{sent_at}
use Rattle.gs_calendar.specs.Due.{key_cmp}
use Rattle.gs_calendar.specs.Transits.{Has}
use Rattle.gs_calendar.specs.inside.Feeds.{waiting, Grows, HasSent, HasSentAll, sent_to}
use Rattle.gs_calendar.specs.Scripts.{IsReadFor}
use Rattle.gs_calendar.proofs.Fitting.{IsCourse, adjacent_said, fits, near, same_nodes}
use Rattle.gs_calendar.proofs.Growing.{grows_on, grows_put, grows_refl, lost_sent, none_sent, put_sent, sent_stays, sent_transit}
use Rattle.gs_calendar.proofs.Turns.{other_sends, same_sends, turn_next, turn_within}
use Rattle.gs_calendar.proofs.Lists.{filter_has, has_at, has_filter, has_range, range_has}

-- ---- neighbours by their places
pub at_has : {X : Type 0} (xs : List X) (x d : X) → Has x xs → (i : ℕ) × (i < length xs) × (slice_index_or xs i d ≡ x)
unfolding Has
at_has [] x d h = absurd h
at_has (y ∷ xs) x d h = elim h [
  | inl same ↦ (0, omega arith, same)
  | inr rest ↦ let r = at_has xs x d rest in let less = r.1 in (suc r.0, omega arith, r.2)
]

pub neighbour_is : (net : Net) (v u : ℕ) → Has u (neighbours net v) → (u < net.nodes) × Adjacent net v u
neighbour_is net v u h =
    let is = has_filter (net.adjacent v) (range_with_len 0 net.nodes) u h in
    let r = has_range 0 net.nodes u is.0 in
    let high = r.1 in
    (omega arith, is.1)

pub is_neighbour : (net : Net) (v u : ℕ) → u < net.nodes → Adjacent net v u → Has u (neighbours net v)
is_neighbour net v u below next = filter_has (net.adjacent v) (range_with_len 0 net.nodes) u (range_has 0 net.nodes u (omega arith) (omega arith)) next

-- a beacon over an edge can be sent: its ends are nodes of the script, and it is due soon
pub record MaySend (s : Said) (net : Net) (from to t : ℕ) : Type 0 where
  pub sender : from < (graph_of_text s.text).nodes
  pub receiver : to < (graph_of_text s.text).nodes
  pub node : to < net.nodes
  pub next : graph.Adjacent (graph_of_text s.text) from to
  pub soon : (t + 1) + delay_of s from to (t + 1) < 2 ^ 32
  pub later : 1 ≤ delay_of s from to (suc t)
  pub among : Has from (neighbours net to)

pub may_send : (p : Plan) (s : Said) (from to t : ℕ) → IsReadFor (text_of p) s → from < (net_of p).nodes → t < s.quanta → Has to (neighbours (net_of p) from) → MaySend s (net_of p) from to t
may_send p s from to t read below before among =
    let is = neighbour_is (net_of p) from to among in
    let c : IsCourse (net_of p) (course_of s) = fits p s read.text read.bounds in
    let same = same_nodes p s read.text in
    let node = is.0 in
    let few = read.bounds.quanta in
    let high = c.delay_high from to (t + 1) is.1 in
    let most = near p from to is.1 in
    record {
      sender = omega (arith, same, below);
      receiver = omega (arith, same, node);
      node = node;
      next = adjacent_said p s from to read.text is.1;
      soon = omega (arith, high, most, few, before);
      later = c.delay_some from to (suc t) is.1;
      among = is_neighbour (net_of p) to from below (both_ways (graph_of p) from to is.1);
    }

-- ---- one receiver more
one_sent : (net : Net) (c : Course) (from to t now seq : ℕ) (lost : Bool) (old new : List (List Key)) → c.lost from to (suc t) ≡ lost → now ≡ suc t → to < length old → sent_at net c from (suc t) ≡ Some seq
    → 1 ≤ c.delay from to (suc t) → Has from (neighbours net to)
    → new ≡ cond lost old (slice_set old to (insert_key key_cmp (waiting old to) (record { due = now + c.delay from to now; from = from; seq = seq })))
    → Grows net c t old new × HasSent net c (suc t) from to new
one_sent net c from to t now seq true old new is e inside sent later among new_is = (
  (let P : List (List Key) → Type 0 = λ l. Grows net c t old l in subst P (sym new_is) (grows_refl net c t old)),
  lost_sent net c from to (suc t) new is,
)
one_sent net c from to t now seq false old new is e inside sent later among new_is =
    let due : now + c.delay from to now ≡ suc t + c.delay from to (suc t) = ap (λ (n : ℕ). n + c.delay from to n) e in
    let P : List (List Key) → Type 0 = λ l. Grows net c t old l × HasSent net c (suc t) from to l in
    subst P (sym new_is) (
      grows_put net c t old to (record { due = now + c.delay from to now; from = from; seq = seq }) inside (sent_transit net c from to t seq (now + c.delay from to now) sent is due later among),
      put_sent net c from to t seq (now + c.delay from to now) old inside sent due,
    )

pub sends_one : (p : Plan) (s : Said) (from to t seq i : ℕ) (first old new : List (List Key)) → IsReadFor (text_of p) s → from < (net_of p).nodes → t < s.quanta → sent_at (net_of p) (course_of s) from (suc t) ≡ Some seq
    → length old ≡ (net_of p).nodes → Has to (neighbours (net_of p) from) → slice_index (neighbours (net_of p) from) i ≡ to
    → Grows (net_of p) (course_of s) t first old
    → ((j : ℕ) → j < i → HasSent (net_of p) (course_of s) (suc t) from (slice_index (neighbours (net_of p) from) j) old)
    → new ≡ sent_to (course_of s) from to (t + 1) seq old
    → Grows (net_of p) (course_of s) t first new
    × ((j : ℕ) → j < i + 1 → HasSent (net_of p) (course_of s) (suc t) from (slice_index (neighbours (net_of p) from) j) new)
sends_one p s from to t seq i first old new read below before sent count among at grows done new_is =
    let net = net_of p in
    let c = course_of s in
    let may = may_send p s from to t read below before among in
    let now : t + 1 ≡ suc t = omega arith in
    let lost : c.lost from to (suc t) ≡ c.lost from to (t + 1) = ap (λ (n : ℕ). c.lost from to n) (sym now) in
    let node = may.node in
    let one = one_sent net c from to t (t + 1) seq (c.lost from to (t + 1)) old new lost now (omega (arith, count, node)) sent may.later may.among new_is in (
      grows_on net c t first old new grows one.0,
      (λ j less. elim (cases_eq j i) [
        | inl same ↦ (let P : ℕ → Type 0 = λ u. HasSent net c (suc t) from u new in subst P (sym (ap (λ (n : ℕ). slice_index (neighbours net from) n) same ∙ at)) one.1)
        | inr other ↦ sent_stays net c from (slice_index (neighbours net from) j) t (suc t) old new one.0 (done j (omega arith))
      ]),
    )

-- all receivers
pub sends_all : (p : Plan) (c : Course) (from t : ℕ) (lists : List (List Key)) → ((j : ℕ) → j < length (neighbours (net_of p) from) → HasSent (net_of p) c t from (slice_index (neighbours (net_of p) from) j) lists)
    → HasSentAll (net_of p) c t from lists
sends_all p c from t lists done = λ to below among.
    let net = net_of p in
    let is = neighbour_is net to from among in
    let place = at_has (neighbours net from) to 0 (is_neighbour net from to below (both_ways (graph_of p) to from is.1)) in
    let P : ℕ → Type 0 = λ u. HasSent net c t from u lists in
    subst P place.2 (done place.0 place.1)

-- a receiver by its place among the neighbours
pub item_is : (p : Plan) (g : Graph) (from i : ℕ) (items : List ℕ) → items ≡ neighbours_of g from → g ≡ graph_of p → i < length items
    → Has (slice_index_or items i 0) (neighbours (net_of p) from) × (slice_index (neighbours (net_of p) from) i ≡ slice_index_or items i 0)
item_is p g from i items is same inside =
    let all : items ≡ neighbours (net_of p) from = is ∙ ap (λ (h : Graph). neighbours_of h from) same in
    (subst (λ (l : List ℕ). Has (slice_index_or items i 0) l) all (has_at items i 0 inside), ap (λ (l : List ℕ). slice_index l i) (sym all))

-- a node of the net is a node of the script
pub said_node : (p : Plan) (s : Said) (v : ℕ) → IsReadFor (text_of p) s → v < (net_of p).nodes → v < (graph_of_text s.text).nodes
said_node p s v read below = let same = same_nodes p s read.text in omega (arith, same, below)

-- what the search wants of turns, and of a turn that gives a beacon or none
pub ruleset turns = (turn_next, turn_within, said_node)

pub ruleset giving = (same_sends, other_sends, grows_refl, none_sent)
