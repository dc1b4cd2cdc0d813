use Rattle.std.proofs.Common.{◌≡◌, ap, ◌∙◌}
use Rattle.gs_topo.specs.Graph.{Graph}
use Rattle.gs_run.specs.Nets.{net_of}
use Rattle.gs_calendar.specs.Course.{course_of}
use Rattle.gs_calendar.proofs.Stepping.{starts}
use Rattle.gs_calendar.proofs.feed.Feed.new.Goals as goal

pub invariant_of-result : goal.invariant_of-result
invariant_of-result c =
    let nodes : c.nodes-nodes.result ≡ (net_of c.args.plan.now).nodes = c.nodes-nodes.ensures.value ∙ ap (λ (g : Graph). g.nodes) c.topo.ensures in
    record {
      read = record { text = c.requires; bounds = c.quanta.ensures.within };
      nodes = nodes;
      quanta = c.quanta.ensures.value;
      ahead = c.in_ok-first_ahead.ensures;
      feed = (starts (net_of c.args.plan.now) (course_of c.args.script.now) c.nodes-nodes.result c.in_ok-first_turns.field-0.items c.in_ok-first_turns-2.field-0.items c.in_ok-none_waiting.field-0.items
          nodes c.in_ok-first_turns.ensures.count c.in_ok-first_turns-2.ensures.count c.in_ok-none_waiting.ensures.count c.in_ok-first_turns.ensures.first c.in_ok-none_waiting.ensures.none).0;
    }

pub returns : goal.returns
returns c =
    let nodes : c.nodes-nodes.result ≡ (net_of c.args.plan.now).nodes = c.nodes-nodes.ensures.value ∙ ap (λ (g : Graph). g.nodes) c.topo.ensures in
    (starts (net_of c.args.plan.now) (course_of c.args.script.now) c.nodes-nodes.result c.in_ok-first_turns.field-0.items c.in_ok-first_turns-2.field-0.items c.in_ok-none_waiting.field-0.items
    nodes c.in_ok-first_turns.ensures.count c.in_ok-first_turns-2.ensures.count c.in_ok-none_waiting.ensures.count c.in_ok-first_turns.ensures.first c.in_ok-none_waiting.ensures.none).1
