-- The rows of a script from any clocks: where it begins, how it goes on, and where it ends.
use Rattle.std.proofs.Common.{◌≡◌, ℕ, zero, suc, ◌+◌, ◌<◌, ◌^◌, arith, ap, refl, ◌∙◌, sym, List, [], ◌∷◌, ◌++◌, length, map, Some, None, append_assoc, length-append, All, get_or, slice_index}
use Rattle.std.proofs.Math.Seq.{get_or-append_seam}
use Rattle.std.specs.List.{AllByRecursion, range_with_len}
use Rattle.std.proofs.lemmas.List.{get_or-map, length-map}
use Rattle.std.proofs.lemmas.List.Elements.{All-from_get_or}
use Rattle.std.proofs.lemmas.List.FromFn.{length-map-range_with_len}
use Rattle.gs_core.specs.Node.{clock_of}
use Rattle.gs_core.specs.declared.event.Event.{Event}
use Rattle.gs_core.specs.declared.event.Event.TheVariants.{Quantum, Tick, Deliver}
use Rattle.gs_core.specs.inside.Events.{IsNoQuantum}
use Rattle.gs_plan.specs.declared.plan.Plan.{Plan}
use Rattle.gs_plan.specs.Plans.{text_of}
use Rattle.gs_script.specs.Script.{Said, IsScript}
use Rattle.gs_run.specs.Net.{Net}
use Rattle.gs_run.specs.Nets.{net_of}
use Rattle.gs_run.specs.Run.{later_ends}
use Rattle.gs_run.specs.World.{World, clocks_in, effect, member_at_start, nobody, world_from}
use Rattle.gs_run.specs.Accepted.{AreNumbers}
use Rattle.gs_run.specs.Reach.{IsReachable}
use Rattle.gs_run.proofs.Reaching.{reachable_is_known}
use Rattle.gs_run.proofs.PlanNumbers.{plan_has_numbers}
use Rattle.gs_calendar.specs.Breach.{first_breach}
use Rattle.gs_calendar.specs.Calm.{Calm}
use Rattle.gs_calendar.specs.Course.{Course, course_of}
use Rattle.gs_calendar.specs.Events.{events_of, events_upto, nodes_of, quantum_at, ticks_at}
use Rattle.gs_calendar.specs.Scripts.{start_of}
use Rattle.gs_calendar.specs.Scripts.{breach_of_script}
use Rattle.gs_calendar.proofs.Agree.{start_is_calendar}
use Rattle.gs_calendar.proofs.Calm.{calm_upto}
use Rattle.gs_calendar.proofs.Fitting.{IsCourse, fits}
use Rattle.gs_calendar.proofs.Hearing.{start_is_heard}
use Rattle.gs_calendar.proofs.NoQuanta.{rest_is_no_quantum}
use Rattle.gs_calendar.proofs.OneSeat.{all_deliveries}
use Rattle.gs_calendar.proofs.Staleness.{breach_is, script_breach_is}
use Rattle.gs_rows.specs.inside.Onward.{GoesOn, left_of}
use Rattle.gs_rows.specs.Row.{Row, row_at, rows_after, rows_from, start_from, zeros_of}
use Rattle.gs_rows.specs.inside.Seen.{IsOn}

-- ---- events and their breach are the same from whatever clocks

pub calm_from : (net : Net) (c : Course) (l0s : List ℕ) → AreNumbers net → IsCourse net c → Calm net (start_from net l0s) (events_of net c)
calm_from net c l0s numbers course =
    let short = course.short in
    calm_upto net c (start_from net l0s) numbers course
    (start_is_calendar net c (slice_index (map (λ v. 0) (nodes_of net))) (slice_index l0s)) c.quanta (omega (arith, short))

pub same_breach : (p : Plan) (s : Said) (l0s : List ℕ) → s.text ≡ text_of p → IsScript s
    → first_breach (net_of p) (start_from (net_of p) l0s) (events_of (net_of p) (course_of s)) ≡ breach_of_script p s
same_breach p s l0s read is =
    let net : Net = net_of p in
    let c : Course = course_of s in
    let numbers : AreNumbers net = plan_has_numbers p in
    let course : IsCourse net c = fits p s read is in
    let short = course.short in
    let readings : ℕ → ℕ = slice_index (map (λ v. 0) (nodes_of net)) in
    breach_is net c (start_from net l0s) numbers course (start_is_calendar net c readings (slice_index l0s))
    (start_is_heard net c readings (slice_index l0s)) c.quanta (omega (arith, short))
    ∙ sym (script_breach_is net c numbers course)

-- ---- the start

start_count : (net : Net) (l0s : List ℕ) → length (start_from net l0s).members ≡ net.nodes
start_count net l0s = length-map-range_with_len
    (λ v. member_at_start net v (slice_index (map (λ u. 0) (nodes_of net)) v) (slice_index l0s v)) 0 net.nodes

pub begins : (p : Plan) (s : Said) (l0s : List ℕ) (w : World) → s.text ≡ text_of p → IsScript s
    → w ≡ start_from (net_of p) l0s
    → IsOn (net_of p) (start_from (net_of p) l0s) (events_of (net_of p) (course_of s)) w
    (events_of (net_of p) (course_of s)) 0
begins p s l0s w read is start =
    let net : Net = net_of p in
    rw start (record {
      calm = calm_from net (course_of s) l0s (plan_has_numbers p) (fits p s read is);
      breach = refl;
      before = [];
      rows = refl;
      number = refl;
      members = start_count net l0s;
    })

-- with nothing held and all events in the feed
pub begins_at : (p : Plan) (s : Said) (l0s : List ℕ) (w : World) (feed : List Event) → s.text ≡ text_of p → IsScript s
    → w ≡ start_from (net_of p) l0s → feed ≡ events_of (net_of p) (course_of s)
    → IsOn (net_of p) (start_from (net_of p) l0s) (events_of (net_of p) (course_of s)) w (left_of None feed) 0
begins_at p s l0s w feed read is start all = rw all (begins p s l0s w read is start)

-- ---- on

-- a quantum is passed
pub passes : (net : Net) (start w z : World) (all left rest : List Event) (last fast : ℕ)
    → IsOn net start all w left last → GoesOn net w left (Some fast) z rest → IsOn net start all z rest fast
passes net start w z all left rest last fast h g =
    let number = h.number in
    let quanta = g.quanta in
    let now : Row = record { clocks = clocks_in net w; fast = last } in
    record {
      calm = g.calm;
      breach = h.breach ∙ g.breach;
      before = h.before ++ now ∷ [];
      rows = h.rows ∙ ap (λ (xs : List Row). h.before ++ now ∷ xs) g.rows
          ∙ sym (append_assoc h.before (now ∷ []) (record { clocks = clocks_in net z; fast = fast } ∷ rows_after net z rest));
      number = length-append h.before (now ∷ []) ∙ omega (arith, number, quanta);
      members = g.members;
    }

-- events are taken, and none of them is a quantum
pub stays : (net : Net) (start w z : World) (all left rest : List Event) (last : ℕ)
    → IsOn net start all w left last → GoesOn net w left None z rest → IsOn net start all z rest last
stays net start w z all left rest last h g =
    let number = h.number in
    let quanta = g.quanta in
    record {
      calm = g.calm;
      breach = h.breach ∙ g.breach;
      before = h.before;
      rows = h.rows
          ∙ ap (λ (xs : List Row). h.before ++ record { clocks = clocks_in net w; fast = last } ∷ xs) g.rows
          ∙ ap (λ (l : List ℕ). h.before ++ record { clocks = l; fast = last } ∷ rows_after net z rest) (sym g.clocks);
      number = omega (arith, number, quanta);
      members = g.members;
    }

-- the row of now is that of its place
pub row_is : (net : Net) (start w : World) (all left : List Event) (last : ℕ) → IsOn net start all w left last
    → row_at (rows_from net start all) w.quanta ≡ record { clocks = clocks_in net w; fast = last }
row_is net start w all left last h =
    let now : Row = record { clocks = clocks_in net w; fast = last } in
    ap (λ (rows : List Row). row_at rows w.quanta) h.rows
    ∙ ap (λ (n : ℕ). row_at (h.before ++ now ∷ rows_after net w left) n) (let n = h.number in omega (arith, n))
    ∙ get_or-append_seam h.before now (rows_after net w left) (record { clocks = []; fast = 0 })

-- ---- as many rows as quanta

abbrev quanta_in : List Event → ℕ
quanta_in [] = 0
quanta_in (Quantum incs ∷ es) = suc (quanta_in es)
quanta_in (Tick v ∷ es) = quanta_in es
quanta_in (Deliver from to seq ∷ es) = quanta_in es

rows_count : (net : Net) (w : World) (es : List Event) → length (rows_after net w es) ≡ quanta_in es
rows_count net w [] = refl
rows_count net w (Quantum incs ∷ es) = let h = rows_count net (effect net w (Quantum incs)) es in omega (arith, h)
rows_count net w (Tick v ∷ es) = rows_count net (effect net w (Tick v)) es
rows_count net w (Deliver from to seq ∷ es) = rows_count net (effect net w (Deliver from to seq)) es

quanta_more : (xs ys : List Event) → quanta_in (xs ++ ys) ≡ quanta_in xs + quanta_in ys
quanta_more [] ys = omega arith
quanta_more (Quantum incs ∷ xs) ys = let h = quanta_more xs ys in omega (arith, h)
quanta_more (Tick v ∷ xs) ys = quanta_more xs ys
quanta_more (Deliver from to seq ∷ xs) ys = quanta_more xs ys

no_quanta : (es : List Event) → AllByRecursion IsNoQuantum es → quanta_in es ≡ 0
no_quanta [] h = refl
no_quanta (Quantum incs ∷ es) h = absurd h.0
no_quanta (Tick v ∷ es) h = no_quanta es h.1
no_quanta (Deliver from to seq ∷ es) h = no_quanta es h.1

one_quantum : (net : Net) (c : Course) (t : ℕ) → quanta_in (quantum_at net c t) ≡ 1
one_quantum net c t =
    let rest = no_quanta (all_deliveries net c t ++ ticks_at net c t) (rest_is_no_quantum net c t) in
    omega (arith, rest)

quanta_upto : (net : Net) (c : Course) (t : ℕ) → quanta_in (events_upto net c t) ≡ t
quanta_upto net c zero = refl
quanta_upto net c (suc t) =
    let more = quanta_more (events_upto net c t) (quantum_at net c (suc t)) in
    let before = quanta_upto net c t in
    let one = one_quantum net c (suc t) in
    omega (arith, more, before, one)

-- a script has as many rows after the start as quanta
pub rows_long : (net : Net) (c : Course) (w : World) → c.quanta ≡ length (rows_after net w (events_of net c))
rows_long net c w = sym (rows_count net w (events_of net c) ∙ quanta_upto net c c.quanta)

-- The quanta that are played and those that are left are all quanta of the script.
pub counted : (net : Net) (c : Course) (start w : World) (left : List Event) (last : ℕ)
    → IsOn net start (events_of net c) w left last → w.quanta + length (rows_after net w left) ≡ c.quanta
counted net c start w left last h =
    let number = h.number in
    let all = rows_count net start (events_of net c) ∙ quanta_upto net c c.quanta in
    let long = ap (λ (xs : List Row). length xs) h.rows
    ∙ length-append h.before (record { clocks = clocks_in net w; fast = last } ∷ rows_after net w left) in
    omega (arith, number, all, long)

-- ---- clocks are far from the end

pub clocks_below : (p : Plan) (w : World) → IsReachable (net_of p) w → All (λ clock. clock < 2 ^ 62) (clocks_in (net_of p) w)
clocks_below p w r =
    let net : Net = net_of p in
    let known = reachable_is_known net w (plan_has_numbers p) r in
    let count = length-map w.members (λ m. clock_of net.rate m.node m.reading) in
    All-from_get_or (λ clock. clock < 2 ^ 62) (clocks_in net w) 0 (λ v h.
    let inside : v < length w.members = omega (arith, count, h) in
    let is = get_or-map (λ m. clock_of net.rate m.node m.reading) w.members v nobody 0 inside in
    let members = known.members in
    let short = (known.short v (omega (arith, members, inside))).clock in
    omega (arith, is, short))

-- the same of the clocks that a world of plan q answers
pub answered_below : (q : Plan) (w : World) (clocks : List ℕ) → IsReachable (net_of q) w → clocks ≡ clocks_in (net_of q) w
    → All (λ clock. clock < 2 ^ 62) clocks
answered_below q w clocks r is = rw is (clocks_below q w r)

-- ---- the start where all clocks are 0

zero_at : (xs : List ℕ) (v : ℕ) → slice_index (map (λ x. 0) xs) v ≡ 0
zero_at [] zero = refl
zero_at [] (suc v) = refl
zero_at (x ∷ xs) zero = refl
zero_at (x ∷ xs) (suc v) = zero_at xs v

-- it is the start of scripts
pub start_is : (net : Net) → start_from net (zeros_of net) ≡ start_of net
start_is net =
    let zero : slice_index (zeros_of net) ≡ (λ v. 0) = λ i v. zero_at (nodes_of net) v i in
    ap (λ (l0s : ℕ → ℕ). world_from net (slice_index (zeros_of net)) l0s) zero

pub zero_clock : (net : Net) (v : ℕ) → slice_index (zeros_of net) v ≡ 0
zero_clock net v = zero_at (nodes_of net) v

-- a script has as many ends of quanta as quanta
ends_long : (net : Net) (w : World) (es : List Event) → length (later_ends net w es) ≡ quanta_in es
ends_long net w [] = refl
ends_long net w (Quantum incs ∷ es) = let h = ends_long net (effect net w (Quantum incs)) es in omega (arith, h)
ends_long net w (Tick v ∷ es) = ends_long net (effect net w (Tick v)) es
ends_long net w (Deliver from to seq ∷ es) = ends_long net (effect net w (Deliver from to seq)) es

pub ends_count : (net : Net) (c : Course) (w : World) → length (later_ends net w (events_of net c)) ≡ c.quanta
ends_count net c w = ends_long net w (events_of net c) ∙ quanta_upto net c c.quanta
