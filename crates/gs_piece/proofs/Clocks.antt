-- The clocks of the nodes of a piece, one quantum more.
use Rattle.std.proofs.Common.{◌≡◌, ℕ, suc, ◌+◌, ◌-◌, ◌<◌, ◌^◌, arith, ap, sym, refl, ◌∙◌, List, [], ◌∷◌, length, Bool, true, false, cond, None, slice_index, slice_index_or}
use Rattle.std.specs.List.{count_by, range_with_len}
use Rattle.std.proofs.lemmas.Bool.{false≢true}
use Rattle.std.proofs.lemmas.List.Sums.{sum_by-cons}
use Rattle.gs_units.specs.declared.rate.Mode.{Mode}
use Rattle.gs_units.specs.declared.rate.Mode.TheVariants.{Slow, Fast}
use Rattle.gs_plan.specs.Plans.{text_of}
use Rattle.gs_plan.specs.declared.plan.Plan.{Plan}
use Rattle.gs_script.specs.Script.{Said}
use Rattle.gs_run.specs.Nets.{net_of}
use Rattle.gs_run.proofs.PlanNumbers.{plan_has_numbers}
use Rattle.gs_run.proofs.Reaching.{IsKnown}
use Rattle.gs_calendar.specs.Scripts.{IsReadFor}
use Rattle.gs_run.specs.Fast.{is_fast}
use Rattle.gs_run.specs.Net.{Net}
use Rattle.gs_run.specs.World.{Member, member}
use Rattle.gs_calendar.specs.Course.{Course, course_of}
use Rattle.gs_calendar.specs.Stale.{breach_upto}
use Rattle.gs_seat.specs.Seats.{IsSeatAt, mode_of, step_of}
use Rattle.gs_seat.specs.Worlds.{Plays, part_at, world_of}
use Rattle.gs_seat.specs.declared.seat.Seat.{Seat}
use Rattle.gs_seat.proofs.Aging.{none_before}
use Rattle.gs_seat.proofs.Clocks.{next_slow}
use Rattle.gs_seat.proofs.Reading.{course_is}
use Rattle.gs_seat.proofs.Turning.{can_read_next, known_at}
use Rattle.gs_piece.specs.Columns.{AreSeats, clock_at}
use Rattle.gs_piece.specs.Nodes.{AreNodes, none_handed}
use Rattle.gs_piece.specs.Pieces.{AreClocks, fast_among}
use Rattle.gs_piece.specs.declared.nodes.Nodes.{Nodes}

-- quantum t + 1 of a script is no breach
pub record IsCalmQuantum (p : Plan) (s : Said) (t : ℕ) : Type 0 where
  pub read : IsReadFor (text_of p) s
  pub end : t < s.quanta
  pub calm : breach_upto (net_of p) (course_of s) (suc t) ≡ None

plays : (p : Plan) (s : Said) (v t : ℕ) → IsCalmQuantum p s t → v < (net_of p).nodes → Plays p s v (suc t)
plays p s v t q hv = record { read = q.read; node = hv; end = (let end = q.end in omega (arith, end)); calm = q.calm }

few_quanta : (p : Plan) (s : Said) (t : ℕ) → IsCalmQuantum p s t → t < 2 ^ 24
few_quanta p s t q =
    let few = q.read.bounds.quanta in
    let end = q.end in
    omega (arith, few, end)

known_now : (p : Plan) (s : Said) (t : ℕ) → IsCalmQuantum p s t → IsKnown (net_of p) (world_of (net_of p) (course_of s) t)
known_now p s t q =
    let few = few_quanta p s t q in
    known_at (net_of p) (course_of s) t (plan_has_numbers p) (course_is p s q.read) (omega (arith, few)) (none_before (net_of p) (course_of s) t q.calm)

slow_mode : (mode : Mode) → is_fast mode ≡ false → mode ≡ Slow
slow_mode Slow e = refl
slow_mode Fast e = absurd (false≢true (sym e))

-- the seats of the nodes are seats in a row
pub seats_of : (p : Plan) (s : Said) (a b m t : ℕ) (x : Nodes) → IsCalmQuantum p s t → AreNodes (net_of p) (course_of s) (none_handed m) a b m (λ i. t) x → AreSeats p s (none_handed m) a m t x.seats.items
seats_of p s a b m t x q is i d h =
    let n = is.seats in
    let inside = is.inside in
    (plays p s (a + i) t q (omega (arith, h, n, inside)), is.seat i d (omega (arith, h, n)))

-- what a slow clock adds
slow_next : (p : Plan) (s : Said) (v m t : ℕ) (seat : Seat) → IsCalmQuantum p s t → v < (net_of p).nodes → IsSeatAt (net_of p) (course_of s) v (λ x. m) m t seat → is_fast (mode_of seat) ≡ false
    → clock_at (net_of p) (course_of s) (suc t) v ≡ clock_at (net_of p) (course_of s) t v + step_of seat
slow_next p s v m t seat q hv is slow =
    let net : Net = net_of p in
    let c : Course = course_of s in
    let mode : (part_at net c t v).node.mode ≡ Slow = sym (ap (λ (x : Member). x.node.mode) is.node.is) ∙ slow_mode (mode_of seat) slow in
    next_slow net c t v hv mode ((known_now p s t q).at v hv)
    ∙ ap (λ (h : ℕ). clock_at net c t v + h) (is.node.inc.same (suc t) (omega arith) is.node.inc.here)

-- any seat of some
pub some_seat : (xs : List Seat) → 0 < length xs → Seat
some_seat [] h = absurd (omega (arith, h))
some_seat (x ∷ xs) h = x

-- no sum is too great
pub steps_fit : (p : Plan) (s : Said) (a b m t : ℕ) (x : Nodes) (clocks : List ℕ) → IsCalmQuantum p s t → AreNodes (net_of p) (course_of s) (none_handed m) a b m (λ i. t) x → AreClocks (net_of p) (course_of s) a b t clocks
    → (i : ℕ) → i < length clocks → slice_index clocks i + slice_index x.steps.items i < 2 ^ 64
steps_fit p s a b m t x clocks q is are i h =
    let net : Net = net_of p in
    let c : Course = course_of s in
    let count = are.count in
    let inside = is.inside in
    let here : a + i < b = omega (arith, h, count) in
    let hv : a + i < net.nodes = omega (arith, here, inside) in
    let short = ((known_now p s t q).short (a + i) hv).clock in
    let clock = are.clock i here in
    let n = is.seats in
    let d : Seat = some_seat x.seats.items (omega (arith, here, n)) in
    let seat = is.seat i d here in
    let step = (is.seen i d here).step in
    let inc : c.inc (a + i) (suc t) ≡ step_of (slice_index_or x.seats.items i d) = seat.node.inc.same (suc t) (omega arith) seat.node.inc.here in
    let read = (can_read_next net c t (a + i) (plan_has_numbers p) (course_is p s q.read) (few_quanta p s t q) q.calm hv).few in
    omega (arith, short, clock, step, inc, read)

-- each clock at the end of the quantum
pub clocks_next : (p : Plan) (s : Said) (a b m t : ℕ) (x : Nodes) (old new : List ℕ) → IsCalmQuantum p s t → AreNodes (net_of p) (course_of s) (none_handed m) a b m (λ i. t) x → AreClocks (net_of p) (course_of s) a b t old
    → ((i : ℕ) → i < length x.fast.items → slice_index_or x.fast.items i false ≡ false → slice_index new i ≡ slice_index old i + slice_index x.steps.items i)
    → ((i : ℕ) → i < length x.fast.items → slice_index_or x.fast.items i false ≡ true → slice_index new i ≡ clock_at (net_of p) (course_of s) (suc t) (a + i))
    → (i : ℕ) → a + i < b → slice_index new i ≡ clock_at (net_of p) (course_of s) (suc t) (a + i)
clocks_next p s a b m t x old new q is clocks slow fast i h =
    let n = is.fast in
    let here : i < length x.fast.items = omega (arith, h, n) in
    let inside = is.inside in
    let k = is.seats in
    let d : Seat = some_seat x.seats.items (omega (arith, h, k)) in
    let seat : Seat = slice_index_or x.seats.items i d in
    let seen = is.seen i d h in
    let slow_is : slice_index_or x.fast.items i false ≡ false → slice_index new i ≡ clock_at (net_of p) (course_of s) (suc t) (a + i) = λ e.
    slow i here e
    ∙ (let step = seen.step in let clock = clocks.clock i h in omega (arith, step, clock))
    ∙ sym (slow_next p s (a + i) m t seat q (omega (arith, h, inside)) (is.seat i d h) (sym seen.fast ∙ e)) in
    pick (slice_index_or x.fast.items i false) (fast i here) slow_is where
      pick : {A : Type 0} (f : Bool) → (f ≡ true → A) → (f ≡ false → A) → A
      pick true here other = here refl
      pick false here other = other refl

-- ---- how many nodes are fast

count_flags : (P : ℕ → Bool) (a : ℕ) (bs : List Bool) → ((i : ℕ) → i < length bs → slice_index_or bs i false ≡ P (a + i)) → count_by (λ b. b) bs ≡ count_by P (range_with_len a (length bs))
count_flags P a [] h = refl
count_flags P a (b ∷ bs) h =
    let first : b ≡ P a = h 0 (omega arith) ∙ ap P (omega arith) in
    let rest : count_by (λ x. x) bs ≡ count_by P (range_with_len (a + 1) (length bs)) = count_flags P (a + 1) bs (λ i hi. h (suc i) (omega (arith, hi)) ∙ ap P (omega arith)) in
    sum_by-cons (λ (x : Bool). cond x 1 0) b bs
    ∙ ap (λ (x : Bool). cond x 1 0 + count_by (λ y. y) bs) first
    ∙ ap (λ (n : ℕ). cond (P a) 1 0 + n) rest
    ∙ sym (sum_by-cons (λ (v : ℕ). cond (P v) 1 0) a (range_with_len (a + 1) (length bs)))

pub fasts_are : (net : Net) (c : Course) (a b m t : ℕ) (x : Nodes) → AreNodes net c (none_handed m) a b m (λ i. t) x → count_by (λ f. f) x.fast.items ≡ fast_among net c a b t
fasts_are net c a b m t x is =
    let n = is.fast in
    let k = is.seats in
    let long : length x.fast.items ≡ b - a = omega (arith, n) in
    let P : ℕ → Bool = λ v. is_fast (member (world_of net c t) v).node.mode in
    count_flags P a x.fast.items (λ i h.
    let here : a + i < b = omega (arith, h, n) in
    let d : Seat = some_seat x.seats.items (omega (arith, here, k)) in
    (is.seen i d here).fast ∙ ap (λ (mem : Member). is_fast mem.node.mode) (is.seat i d here).node.is)
    ∙ ap (λ (l : ℕ). count_by P (range_with_len a l)) long
