-- What a node may go on with where an event has no fault.
use Rattle.std.proofs.Common.{◌≡◌, ◌+◌, ◌<◌, ◌≤◌, ◌^◌, ◌==◌, not, nat_lt, false, ℕ, arith, length, Some, None, is_none, rules}
use Rattle.std.proofs.lemmas.Bool.{ltb-false}
use Rattle.gs_units.proofs.FirstFault.{first_fails, none_of}
use Rattle.gs_beacon.specs.declared.beacon.Beacon.{Beacon}
use Rattle.gs_core.specs.Node.{clock_of, maximum_of, link_place, link_at}
use Rattle.gs_core.specs.Steps.{deliver_fault, is_ahead, is_past, reading_fault}
use Rattle.gs_core.specs.State.{State}
use Rattle.gs_core.specs.declared.reply.CoreFault.TheVariants.{Ahead, Backward, Cluster, Far, Stranger}

-- a reading is late enough, and nothing at it has reached the end of all clocks
pub record MayRead (s : State) (now : ℕ) : Type 0 where
  pub later : s.node.last ≤ now
  pub reading : now < 2 ^ 62
  pub clock : clock_of s.params.rate s.node now < 2 ^ 62
  pub maximum : maximum_of s.params.rate s.node now < 2 ^ 62

pub may_read : (s : State) (now : ℕ) → reading_fault s.params s.node now ≡ None → MayRead s now
may_read s now none =
    let backward = first_fails (nat_lt now s.node.last) (Backward s.node.last now) _ none in
    let far = first_fails (is_past s.params s.node now) Far _ backward.1 in
    let near : is_past s.params s.node now ≡ false = far.0 in
    record {
      later = ltb-false now s.node.last backward.0;
      reading = grind (arith, near);
      clock = grind (arith, near);
      maximum = grind (arith, near);
    }

-- so has nothing that a beacon tells, when it is raised for its way over the link at place i
pub record MayHear (s : State) (b : Beacon) (now i : ℕ) : Type 0 where
  pub read : MayRead s now
  pub place : i < length s.params.links
  pub value : b.l + (link_at s.params i).comp < 2 ^ 62
  pub maximum : b.m + (link_at s.params i).jump < 2 ^ 62

pub may_hear : (s : State) (b : Beacon) (now i : ℕ) → link_place s.params b.sender ≡ Some i → deliver_fault s.params s.node b now ≡ None → MayHear s b now i
may_hear s b now i place none =
    let cluster = first_fails (not (b.cluster == s.params.cluster)) Cluster _ none in
    let stranger = first_fails (is_none (link_place s.params b.sender)) (Stranger b.sender) _ cluster.1 in
    let read = none_of (reading_fault s.params s.node now) _ stranger.1 in
    let ahead = first_fails (is_ahead s.params b (link_place s.params b.sender)) Ahead _ read.1 in
    let near : is_ahead s.params b (Some i) ≡ false = rw place at ahead.0 in
    record {
      read = may_read s now read.0;
      place = search rules;
      value = grind (arith, near);
      maximum = grind (arith, near);
    }
