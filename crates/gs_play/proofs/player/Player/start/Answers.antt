use Rattle.std.proofs.Common.{◌≡◌, ◌+◌, ◌*◌, ◌<◌, ◌≤◌, arith, ap, sym, refl, subst, length, rules}
use Rattle.std.proofs.lemmas.Grind.{div_ceil_times}
use Rattle.gs_run.specs.Nets.{net_of}
use Rattle.gs_run.proofs.PlanNumbers.{plan_has_numbers}
use Rattle.gs_calendar.specs.Course.{course_of}
use Rattle.gs_seat.specs.inside.Freshness.{AreFresh}
use Rattle.gs_seat.proofs.Aging.{fresh_first}
use Rattle.gs_play.specs.inside.Pieces.{ArePiecesIn}
use Rattle.gs_play.specs.inside.Totals.{AreTotals}
use Rattle.gs_play.proofs.OneWindow.{few_pieces}
use Rattle.gs_play.proofs.player.Player.start.Goals as goal

pub returns : goal.returns
returns c =
    let p = c.args.plan.now in
    let net = net_of p in
    let course = course_of c.args.script.now in
    let size = c.div_ceil-size.result in
    let nodes = c.nodes.result in
    let is : nodes ≡ net.nodes = search rules in
    let one = (plan_has_numbers p).some in
    let enough = (div_ceil_times nodes c.args.workers c.requires.workers.0).0 in
    let ceil = c.div_ceil-size.ensures in
    let all : nodes ≤ size * c.args.workers = subst (λ n. nodes ≤ n * c.args.workers) (sym ceil) enough in
    let short : length c.in_ok-pieces_of.field-0.items * size < net.nodes + size = search rules in
    let most = c.requires.workers.1 in
    let few = few_pieces nodes c.args.workers size (length c.in_ok-pieces_of.field-0.items) (omega (arith, one, is)) all (omega (arith, short, is)) most in
    record {
      read = c.requires.read;
      end = omega arith;
      calm = refl;
      quanta = refl;
      size = few.0;
      few = few.1;
      window = search rules;
      fresh = subst (AreFresh net course 0) (sym (ap (λ t. t.age) c.text.ensures)) (fresh_first net course);
      pieces = (let pieces : ArePiecesIn net course size 0 0 c.in_ok-pieces_of.field-0.items = search rules in pieces);
      totals = (let given = c.in_ok-start.ensures in let totals : AreTotals p course 0 c.in_ok-start.field-0 = search rules in totals);
    }
