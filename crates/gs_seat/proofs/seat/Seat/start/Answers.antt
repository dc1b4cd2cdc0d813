use Rattle.std.proofs.Common.{◌≡◌, ◌≤◌, ◌∙◌, ℕ, List, ap, length, replicate, rules}
use Rattle.std.specs.Vec.{vec_capacity}
use Rattle.gs_topo.specs.Graph.{Graph, neighbours_of}
use Rattle.gs_run.specs.Net.{neighbours}
use Rattle.gs_run.specs.Nets.{net_of}
use Rattle.gs_calendar.specs.Course.{course_of}
use Rattle.gs_seat.specs.Ways.{unasked}
use Rattle.gs_seat.proofs.Starting.{starts_in}
use Rattle.gs_seat.proofs.seat.Seat.start.Goals as goal

pub returns : goal.returns
returns c =
    let room : 64 ≤ vec_capacity c.in_ok-with_capacity.field-0 = search rules in
    let net = net_of c.args.plan.now in
    let near : c.neighbours.result.now ≡ neighbours net c.args.v = c.neighbours.ensures ∙ ap (λ (g : Graph). neighbours_of g c.args.v) c.topo.ensures in
    let ways : c.in_ok-unasked.field-0 ≡ replicate (length (neighbours net c.args.v)) unasked = c.in_ok-unasked.ensures ∙ ap (λ (xs : List ℕ). replicate (length xs) unasked) near in
    starts_in net (course_of c.args.script.now) c.args.v _ c.in_ok-start.ensures c.new.ensures ways c.in_ok-with_capacity.ensures.items room
