-- A feed goes on to the next quantum, or fails on the way there and has changed nothing that is seen.
use Rattle.std.proofs.Common.{◌≡◌, ℕ, zero, suc, ◌+◌, ◌-◌, ◌<◌, ◌≤◌, ◌==◌, Bool, cond, arith, refl, ap, sym, ◌∙◌, subst, List, [], ◌∷◌, ◌++◌, filter, length, map, Some, None}
use Rattle.std.specs.List.{flat_map, range_with_len}
use Rattle.std.proofs.lemmas.List.FromFn.{map-range_with_len_more}
use Rattle.gs_core.specs.declared.event.Event.{Event}
use Rattle.gs_core.specs.declared.event.Event.TheVariants.{Quantum, Tick}
use Rattle.gs_plan.specs.declared.plan.Plan.{Plan}
use Rattle.gs_plan.specs.Plans.{text_of, graph_of}
use Rattle.gs_script.specs.Script.{Said}
use Rattle.gs_topo.proofs.Distances.{both_ways}
use Rattle.gs_run.specs.Net.{Net}
use Rattle.gs_run.specs.Nets.{net_of}
use Rattle.gs_calendar.specs.Due.{Key}
use Rattle.gs_calendar.specs.Calendar.{Turn}
use Rattle.gs_calendar.specs.Course.{Course, course_of}
use Rattle.gs_calendar.specs.Calendar.{first_turn, sent_at, ticks}
use Rattle.gs_calendar.specs.Due.{due_by, due_after}
use Rattle.gs_calendar.specs.Events.{deliveries_to, events_from, events_of, incs_at, nodes_of, ticks_at}
use Rattle.gs_calendar.specs.Transits.{Has, AreInOrder, IsCovering}
use Rattle.gs_calendar.specs.inside.Feeds.{AllSent, AreTurns, Grows, IsFeed, deliver_all, deliveries_left, left_of, ticks_left, turn_in, waiting}
use Rattle.gs_calendar.specs.Scripts.{IsReadFor}
use Rattle.gs_calendar.proofs.Feeding.{all_left, covers_later, deliveries_end, flat_same, none_after}
use Rattle.gs_calendar.proofs.Fitting.{IsCourse, fits}
use Rattle.gs_calendar.proofs.Growing.{AreCovering, all_sent, grows_covers}
use Rattle.gs_calendar.proofs.OnTheWay.{neighbour_is, said_node}
use Rattle.gs_calendar.proofs.Ticking.{ticks_end}
use Rattle.gs_calendar.proofs.Turns.{ticks_is}
use Rattle.gs_calendar.proofs.Waiting.{AreSlow, IsTransit, next_deliveries, transit_covers, transit_rest}

-- what the hardware clocks of the first n nodes add in quantum t
unfoldable pub incs_below : Course → ℕ → ℕ → List ℕ
incs_below c t n = map (λ v. c.inc v t) (range_with_len 0 n)

-- the increments, node by node
pub incs_none : (c : Course) (t : ℕ) → incs_below c t 0 ≡ []
unfolding incs_below
incs_none c t = refl

pub incs_more : (c : Course) (t n : ℕ) → incs_below c t (n + 1) ≡ incs_below c t n ++ c.inc n t ∷ []
unfolding incs_below
incs_more c t n = map-range_with_len_more (λ v. c.inc v t) 0 n n (omega arith)

pub incs_all : (net : Net) (c : Course) (t : ℕ) → incs_below c t net.nodes ≡ incs_at net c t
unfolding incs_below
incs_all net c t = refl

-- beacons take time
pub slow : (p : Plan) (s : Said) (v : ℕ) → IsReadFor (text_of p) s → AreSlow (net_of p) (course_of s) v
slow p s v read = λ from t among.
    let c : IsCourse (net_of p) (course_of s) = fits p s read.text read.bounds in
    c.delay_some from v t (both_ways (graph_of p) v from (neighbour_is (net_of p) v from among).1)

-- ---- at the start
start_covers : (net : Net) (c : Course) (v : ℕ) → IsCovering net c v 0 []
unfolding Has AreInOrder
start_covers net c v = record {
  order = tt;
  only = λ k h. absurd h;
  all = λ k it.
      let never : it.when ≡ 0 = (let by = it.by in omega arith) in
      let none : None ≡ Some k.seq = ap (λ (n : ℕ). sent_at net c k.from n) (sym never) ∙ it.is.sent in
      absurd (cc);
}

pub start_feed : (net : Net) (c : Course) (turns next : List Turn) (lists : List (List Key)) → length turns ≡ net.nodes → length next ≡ net.nodes → length lists ≡ net.nodes
    → ((v : ℕ) → v < net.nodes → turn_in turns v ≡ first_turn) → ((v : ℕ) → v < net.nodes → waiting lists v ≡ [])
    → IsFeed net c 0 net.nodes net.nodes turns next lists × (left_of net c 0 net.nodes net.nodes turns lists ≡ events_of net c)
start_feed net c turns next lists a b d first empty = (
  record {
    by = omega arith;
    receivers = omega arith;
    ticking = omega arith;
    turn_count = a;
    next_count = b;
    list_count = d;
    told = first;
    covers = λ v below. (let P : List Key → Type 0 = λ ks. IsCovering net c v 0 (due_after 0 ks) in subst P (sym (empty v below)) (start_covers net c v));
    done = λ v below. rw (empty v below);
  },
  (let all : c.quanta - 0 ≡ c.quanta = omega arith in
      rw (deliveries_end 0 net.nodes lists (omega (arith, d)), ticks_end 0 turns net.nodes (omega (arith, a)), all) (all_left net c)),
)

-- ---- the next quantum could not begin
pub kept_feed : (net : Net) (c : Course) (t at : ℕ) (turns next next_after : List Turn) (lists after : List (List Key)) → IsFeed net c t net.nodes at turns next lists → Grows net c t lists after → length next_after ≡ length next
    → IsFeed net c t net.nodes at turns next_after after × (left_of net c t net.nodes at turns after ≡ left_of net c t net.nodes at turns lists)
kept_feed net c t at turns next next_after lists after feed grows count =
    let before : AreCovering net c t lists = λ v below. subst (λ (ks : List Key). IsCovering net c v t ks) (none_after t (waiting lists v) (feed.done v below)) (feed.covers v below) in
    let covers : AreCovering net c t after = grows_covers net c t lists after grows before in
    let same : length after ≡ net.nodes = grows.same ∙ feed.list_count in
    let old = feed.list_count in (
      record {
        by = feed.by;
        receivers = feed.receivers;
        ticking = feed.ticking;
        turn_count = feed.turn_count;
        next_count = count ∙ feed.next_count;
        list_count = same;
        told = feed.told;
        covers = λ v below. subst (λ (ks : List Key). IsCovering net c v t ks) (sym (covers_later net c v t (waiting after v) (covers v below)).1) (covers v below);
        done = λ v below. (covers_later net c v t (waiting after v) (covers v below)).0;
      },
      ap (λ (es : List Event). (es ++ ticks_left t turns at) ++ events_from net c t (c.quanta - t)) (deliveries_end t net.nodes after (omega (arith, same)) ∙ sym (deliveries_end t net.nodes lists (omega (arith, old)))),
    )

-- ---- the next quantum begins
filter_same : (p q : ℕ → Bool) (a n : ℕ) → ((v : ℕ) → a ≤ v → v < a + n → p v ≡ q v) → filter p (range_with_len a n) ≡ filter q (range_with_len a n)
filter_same p q a zero h = refl
filter_same p q a (suc n) h = rw (h a (omega arith) (omega arith)) (ap (λ (us : List ℕ). cond (q a) (a ∷ us) us) (filter_same p q (a + 1) n (λ v low high. h v (omega arith) (omega arith))))

begun_deliveries : (net : Net) (c : Course) (t : ℕ) (lists : List (List Key)) → length lists ≡ net.nodes → ((v : ℕ) → v < net.nodes → AreSlow net c v) → ((v : ℕ) → v < net.nodes → IsTransit net c v (suc t) t (waiting lists v))
    → deliveries_left (suc t) lists 0 ≡ flat_map (deliveries_to net c (suc t)) (nodes_of net)
begun_deliveries net c t lists count slow_ is =
    let all : length lists - 0 ≡ net.nodes = omega (arith, count) in
    ap (λ (n : ℕ). flat_map (λ v. deliver_all v (due_by (suc t) (waiting lists v))) (range_with_len 0 n)) all
    ∙ flat_same (λ v. deliver_all v (due_by (suc t) (waiting lists v))) (deliveries_to net c (suc t)) 0 net.nodes (λ v low high.
    let below : v < net.nodes = omega arith in
    next_deliveries net c v t (waiting lists v) (slow_ v below) (is v below))

begun_ticks : (net : Net) (c : Course) (t : ℕ) (turns : List Turn) → length turns ≡ net.nodes → AreTurns net c (suc t) turns → ticks_left (suc t) turns 0 ≡ ticks_at net c (suc t)
begun_ticks net c t turns count are =
    let all : length turns - 0 ≡ net.nodes = omega (arith, count) in
    ap (λ (n : ℕ). map Tick (filter (λ v. (turn_in turns v).last == suc t) (range_with_len 0 n))) all
    ∙ ap (λ (us : List ℕ). map Tick us) (filter_same (λ v. (turn_in turns v).last == suc t) (λ v. ticks net c v (suc t)) 0 net.nodes (λ v low high.
    ap (λ (u : Turn). u.last == suc t) (are v (omega arith)) ∙ ticks_is net c v t))

pub begun_feed : (net : Net) (c : Course) (t : ℕ) (turns next next_after : List Turn) (lists after : List (List Key)) → ((v : ℕ) → v < net.nodes → AreSlow net c v)
    → IsFeed net c t net.nodes net.nodes turns next lists → t < c.quanta → Grows net c t lists after → length next_after ≡ length next → AreTurns net c (suc t) next_after → AllSent net c (suc t) after
    → IsFeed net c (t + 1) 0 0 next_after turns after × (left_of net c t net.nodes net.nodes turns lists ≡ Quantum (incs_at net c (t + 1)) ∷ left_of net c (t + 1) 0 0 next_after after)
begun_feed net c t turns next next_after lists after slow_ feed less grows count are sent =
    let before : AreCovering net c t lists = λ v below. subst (λ (ks : List Key). IsCovering net c v t ks) (none_after t (waiting lists v) (feed.done v below)) (feed.covers v below) in
    let covers : AreCovering net c t after = grows_covers net c t lists after grows before in
    let transit : (v : ℕ) → v < net.nodes → IsTransit net c v (suc t) t (waiting after v) = λ v below. all_sent net c t v after below covers (λ from among. (neighbour_is net v from among).0) sent in
    let same : length after ≡ net.nodes = grows.same ∙ feed.list_count in
    let counted : length next_after ≡ net.nodes = count ∙ feed.next_count in
    let now : t + 1 ≡ suc t = omega arith in
    let n_lists = feed.list_count in
    let n_turns = feed.turn_count in
    rw now (
      record {
        by = omega arith;
        receivers = omega arith;
        ticking = omega arith;
        turn_count = counted;
        next_count = feed.turn_count;
        list_count = same;
        told = are;
        covers = λ v below. transit_covers net c v (suc t) _ (transit_rest net c v (suc t) t (suc t) (waiting after v) (omega arith) (transit v below));
        done = λ v below. absurd (omega arith);
      },
      (let rest : c.quanta - t ≡ suc (c.quanta - suc t) = omega arith in
          let deliveries = begun_deliveries net c t after same slow_ transit in
          let ticking = begun_ticks net c t next_after counted are in
          let later = events_from net c (suc t) (c.quanta - suc t) in
          rw (deliveries_end t net.nodes lists (omega (arith, n_lists)), ticks_end t turns net.nodes (omega (arith, n_turns)), rest)
          (ap (λ (es : List Event). Quantum (incs_at net c (suc t)) ∷ (es ++ later)) (ap (λ (es : List Event). es ++ ticks_at net c (suc t)) (sym deliveries) ∙ ap (λ (es : List Event). deliveries_left (suc t) after 0 ++ es) (sym ticking)))),
    )

-- ---- all is given
pub end_left : (net : Net) (c : Course) (t : ℕ) (turns next : List Turn) (lists : List (List Key)) → IsFeed net c t net.nodes net.nodes turns next lists → t ≡ c.quanta → left_of net c t net.nodes net.nodes turns lists ≡ []
end_left net c t turns next lists feed e =
    let n_lists = feed.list_count in
    let n_turns = feed.turn_count in
    let rest : c.quanta - t ≡ 0 = omega arith in
    rw (deliveries_end t net.nodes lists (omega (arith, n_lists)), ticks_end t turns net.nodes (omega (arith, n_turns)), rest)

pub ruleset increments = (said_node, incs_none, incs_more, incs_all)
