-- Seats of a script that was read for a plan.
use Rattle.std.proofs.Common.{◌≡◌, ℕ, suc, ◌+◌, ◌<◌, ◌≤◌, ◌^◌, arith, ap, sym, ◌∙◌, List, length, position, nat_eq, Option, None, Some}
use Rattle.std.specs.List.{range_with_len}
use Rattle.std.specs.Vec.{vec_capacity}
use Rattle.std.proofs.lemmas.List.FromFn.{length-range_with_len}
use Rattle.std.proofs.lemmas.List.Sums.{count_by-le-length, length-filter}
use Rattle.std.proofs.lemmas.Option.{none-some}
use Rattle.gs_topo.specs.Graph.{Graph, neighbours_of}
use Rattle.gs_topo.specs.Graph as graph
use Rattle.gs_plan.specs.Plans.{text_of, graph_of}
use Rattle.gs_plan.specs.Shapes.{graph_of_text}
use Rattle.gs_plan.specs.declared.plan.Plan.{Plan}
use Rattle.gs_plan.proofs.Telling.{plan_is_graph}
use Rattle.gs_script.specs.Script.{Said, delay_of}
use Rattle.gs_run.specs.Accepted.{AreNumbers}
use Rattle.gs_run.specs.Net.{Net, neighbours, place_of}
use Rattle.gs_run.specs.Nets.{net_of}
use Rattle.gs_run.specs.World.{Sent}
use Rattle.gs_run.proofs.PlanNumbers.{plan_has_numbers}
use Rattle.gs_calendar.specs.Course.{Course, course_of}
use Rattle.gs_calendar.specs.Scripts.{IsReadFor}
use Rattle.gs_calendar.specs.Transits.{Has}
use Rattle.gs_calendar.proofs.Arrivals.{neighbour_has_place, place_is_inside}
use Rattle.gs_calendar.proofs.Fitting.{IsCourse, adjacent_said, fits, near}
use Rattle.gs_calendar.proofs.OnTheWay.{neighbour_is, said_node}
use Rattle.gs_seat.specs.Held.{IsWindow}
use Rattle.gs_seat.specs.Letters.{Letter, letters_by}
use Rattle.gs_seat.specs.Seats.{IsSeatIn, wake_of}
use Rattle.gs_seat.specs.Worlds.{Plays}
use Rattle.gs_seat.specs.inside.Turns.{IsTurn}
use Rattle.gs_seat.specs.declared.seat.Seat.{Seat}
use Rattle.gs_seat.proofs.Turning.{turn_is}
use Rattle.gs_seat.proofs.Windows.{letter_of, seat_begun, seat_ready, sent_few, sleeps_on}

pub course_is : (p : Plan) (s : Said) → IsReadFor (text_of p) s → IsCourse (net_of p) (course_of s)
course_is p s read = fits p s read.text read.bounds

-- a seat may have its turn
pub turn_may : (p : Plan) (s : Said) (v t : ℕ) (seat : Seat) → Plays p s v (suc t) → (m : ℕ) × IsWindow (net_of p) m (suc t) × IsSeatIn (net_of p) (course_of s) v m t seat
    → IsTurn (net_of p) (course_of s) t v (letters_by (suc t) seat.waiting)
turn_may p s v t seat plays is =
    let numbers : AreNumbers (net_of p) = plan_has_numbers p in
    let course = course_is p s plays.read in
    let few = plays.read.bounds.quanta in
    let end = plays.end in
    turn_is (net_of p) (course_of s) v t (λ x. is.0) seat.waiting numbers course plays.calm (omega (arith, few, end)) plays.node (seat_ready (net_of p) (course_of s) v is.0 t seat numbers course is.1 is.2)

-- or sleep on
pub sleep_may : (p : Plan) (s : Said) (v m t : ℕ) (seat : Seat) → Plays p s v (suc t) → IsWindow (net_of p) m (suc t) → suc t < wake_of seat → IsSeatIn (net_of p) (course_of s) v m t seat
    → IsSeatIn (net_of p) (course_of s) v m (suc t) seat
sleep_may p s v m t seat plays window less is = sleeps_on (net_of p) (course_of s) v m t seat (plan_has_numbers p) (course_is p s plays.read) plays.node window less is

-- there is room for what it sends
pub has_room : (net : Net) (c : Course) (v t : ℕ) (seat : Seat) → (m : ℕ) × IsWindow net m (suc t) × IsSeatIn net c v m t seat → length seat.sent.items < vec_capacity seat.sent
has_room net c v t seat is =
    let few = sent_few net c v is.0 t seat.sent.items (seat_begun net c v is.0 t (λ x. is.0) seat is.2) is.2.sent in
    let short = is.1.few in
    let room = is.2.room in
    omega (arith, few, short, room)

-- ---- a letter from a neighbour

pub said_receiver : (p : Plan) (s : Said) (from to : ℕ) → IsReadFor (text_of p) s → Has to (neighbours (net_of p) from) → to < (graph_of_text s.text).nodes
said_receiver p s from to read near = said_node p s to read (neighbour_is (net_of p) from to near).0

pub said_near : (p : Plan) (s : Said) (from to : ℕ) → IsReadFor (text_of p) s → Has to (neighbours (net_of p) from) → graph.Adjacent (graph_of_text s.text) from to
said_near p s from to read near = adjacent_said p s from to read.text (neighbour_is (net_of p) from to near).1

-- it is due long before numbers end
pub due_soon : (p : Plan) (s : Said) (from to q delay : ℕ) → IsReadFor (text_of p) s → Has to (neighbours (net_of p) from) → q ≤ s.quanta → delay_of s from to q ≡ delay → q + delay < 2 ^ 32
due_soon p s from to q delay read among by is =
    let adjacent = (neighbour_is (net_of p) from to among).1 in
    let high = (course_is p s read).delay_high from to q adjacent in
    let most = near p from to adjacent in
    let few = read.bounds.quanta in
    omega (arith, by, is, high, most, few)

-- the place of its sender, as it is looked up
pub place_read : (p : Plan) (to from : ℕ) (g : Graph) (xs : List ℕ) (o : Option ℕ) → g ≡ graph_of p → xs ≡ neighbours_of g to → o ≡ position (λ y. nat_eq y from) xs → place_of (net_of p) to from ≡ o
place_read p to from g xs o same is found = sym (found ∙ ap (position (λ y. nat_eq y from)) (is ∙ ap (λ (x : Graph). neighbours_of x to) same))

pub has_place : (p : Plan) (from to : ℕ) → from < (net_of p).nodes → Has to (neighbours (net_of p) from) → place_of (net_of p) to from ≡ None → ⊥
has_place p from to hx among none =
    let place = neighbour_has_place (net_of p) to from hx ((plan_has_numbers p).both_ways from to (neighbour_is (net_of p) from to among).1) in
    none-some place.0 (sym none ∙ place.1)

-- a node has at most 512 neighbours
pub few_places : (p : Plan) (to from i : ℕ) → place_of (net_of p) to from ≡ Some i → i < 512
few_places p to from i at =
    let net = net_of p in
    let filtered = length-filter (net.adjacent to) (range_with_len 0 net.nodes) in
    let most = count_by-le-length (net.adjacent to) (range_with_len 0 net.nodes) in
    let count = length-range_with_len 0 net.nodes in
    let few = (plan_is_graph p.text p.topo p.accepted p.graph).few in
    let inside = (place_is_inside net to from i at).0 in
    omega (arith, filtered, most, count, few, inside)

-- the letter that the code makes of it
pub letter_is : (c : Course) (x v place q delay : ℕ) (s : Sent) (b : Letter) → q ≡ s.quantum → c.delay x v q ≡ delay → b ≡ record { due = q + delay; place = place; sent = s } → b ≡ letter_of c x v place s
letter_is c x v place q delay s b e d is = is ∙ (λ i. record { due = e i + (sym d ∙ ap (c.delay x v) e) i; place = place; sent = s })
