-- A seat at the start.
use Rattle.std.proofs.Common.{◌≡◌, ℕ, ◌+◌, ◌-◌, ◌*◌, ◌<◌, ◌≤◌, arith, ap, sym, ◌∙◌, subst, List, [], map, slice_index, Some, length, replicate}
use Rattle.std.proofs.lemmas.List.FromFn.{get_or-map-range_with_len}
use Rattle.std.proofs.lemmas.Option.{none-some}
use Rattle.std.specs.Vec.{vec_capacity}
use Rattle.gs_core.specs.Node.{started}
use Rattle.gs_run.specs.Net.{Net, params_of, neighbours}
use Rattle.gs_run.specs.World.{member_at_start}
use Rattle.gs_script.specs.Lasts.{Lasts}
use Rattle.gs_calendar.specs.Calendar.{sent_at}
use Rattle.gs_calendar.specs.Course.{Course}
use Rattle.gs_calendar.specs.Events.{nodes_of}
use Rattle.gs_calendar.specs.Transits.{Has, AreInOrder}
use Rattle.gs_run.proofs.Start.{start_member}
use Rattle.gs_seat.specs.Alone.{alone, AreCarried}
use Rattle.gs_seat.specs.Held.{IsHeld, AreSentIn}
use Rattle.gs_seat.specs.Letters.{Letter, keys}
use Rattle.gs_seat.specs.Seats.{IsSeatIn}
use Rattle.gs_seat.specs.Sleepers.{IsAsleep, part_of, reading_at}
use Rattle.gs_seat.specs.Worlds.{world_of, part_at}
use Rattle.gs_seat.specs.Ways.{unasked}
use Rattle.gs_seat.proofs.Known.{ways_unasked}
use Rattle.gs_seat.specs.declared.seat.Seat.{Seat}
use Rattle.gs_seat.specs.declared.sleeper.Sleeper.{Sleeper}

-- the part of the world at the start: all readings are 0, and nothing was heard
part_at_start : (net : Net) (c : Course) (v : ℕ) → v < net.nodes → part_at net c 0 v ≡ alone (member_at_start net v 0 0)
part_at_start net c v hv =
    let readings : ℕ → ℕ = slice_index (map (λ u. 0) (nodes_of net)) in
    let none : readings v ≡ 0 = get_or-map-range_with_len (λ u. 0) 0 net.nodes v v 0 hv (omega arith) in
    ap alone (start_member net readings (λ u. 0) v hv) ∙ ap (λ (r : ℕ). alone (member_at_start net v r 0)) none

-- a node as the code starts it
pub record IsStarted (net : Net) (c : Course) (v : ℕ) (s : Sleeper) : Type 0 where
  pub told : s.core.params ≡ params_of net v
  pub node : s.core.node ≡ started (params_of net v) 0 0
  pub heard : s.heard.items ≡ map (λ x. 0) (neighbours net v)
  pub ticked : s.ticked ≡ 0
  pub reading : s.reading ≡ 0
  pub at : s.at ≡ 0
  pub inc : Lasts (c.inc v) 1 s.inc.until s.inc.value
  pub gap : Lasts (c.gap v) 1 s.gap.until s.gap.value

pub starts_asleep : (net : Net) (c : Course) (v : ℕ) (s : Sleeper) → v < net.nodes → IsStarted net c v s → IsAsleep net c v 0 s
starts_asleep net c v s hv is =
    let at = is.at in
    let read = is.reading in
    let none : 0 - s.at ≡ 0 = omega arith in
    let product : s.inc.value * 0 ≡ 0 = omega arith in
    let reading : reading_at s 0 ≡ 0 = ap (λ (k : ℕ). s.reading + s.inc.value * k) none ∙ omega (arith, product, read) in
    record {
      told = is.told;
      is = ap (part_of s) reading ∙ part_is is.node is.ticked is.heard ∙ sym (part_at_start net c v hv);
      at = omega (arith, at);
      inc = is.inc;
      gap = is.gap;
    }
  where
    part_is : s.core.node ≡ started (params_of net v) 0 0 → s.ticked ≡ 0 → s.heard.items ≡ map (λ x. 0) (neighbours net v) → part_of s 0 ≡ alone (member_at_start net v 0 0)
    part_is node ticked heard = λ i. record { reading = 0; node = node i; ticked_at = ticked i; sent = []; heard = heard i }

-- nothing is sent at the start
none_held : (net : Net) (c : Course) (v : ℕ) → IsHeld net c v (λ x. 0) 0 []
unfolding AreInOrder Has
none_held net c v = record {
  order = tt;
  only = λ k has. absurd has;
  all = λ k it.
      let by = it.by in
      let start : it.when ≡ 0 = omega (arith, by) in
      none-some k.seq (subst (λ (n : ℕ). sent_at net c k.from n ≡ Some k.seq) start it.is.sent);
}

pub starts_in : (net : Net) (c : Course) (v : ℕ) (s : Seat) → IsAsleep net c v 0 s.node → s.waiting ≡ [] → s.ways ≡ replicate (length (neighbours net v)) unasked → s.sent.items ≡ [] → 64 ≤ vec_capacity s.sent → IsSeatIn net c v 0 0 s
starts_in net c v s node waiting ways sent room = record {
  node = node;
  held = subst (λ (bs : List Letter). IsHeld net c v (λ x. 0) 0 (keys bs)) (sym waiting) (none_held net c v);
  carried = subst (AreCarried net (world_of net c 0) v) (sym waiting) tt;
  ways = ways_unasked net c v (λ x. 0) s.ways ways;
  sent = subst (AreSentIn net c v 0 0) (sym sent) (λ q after before. absurd (omega (arith, after, before)));
  within = λ x. (omega arith, omega arith);
  room = room;
}
