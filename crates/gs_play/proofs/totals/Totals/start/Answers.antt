use Rattle.std.proofs.Common.{◌≡◌, ℕ, ap, sym, subst, refl, ◌∙◌, arith, List, [], ◌∷◌, replicate, rules}
use Rattle.gs_plan.specs.Plans.{graph_of}
use Rattle.gs_lookout.specs.Lookouts.{IsLookout}
use Rattle.gs_run.specs.Nets.{net_of}
use Rattle.gs_run.specs.World.{clocks_in}
use Rattle.gs_seat.specs.Worlds.{world_of}
use Rattle.gs_play.proofs.Counted.{first_row}
use Rattle.gs_play.proofs.totals.Totals.start.Goals as goal

pub returns : goal.returns
returns c = λ course.
    let p = c.args.plan.now in
    let net = net_of p in
    let zeros : c.in_ok-row.row.items ≡ replicate {A = ℕ} (graph_of p).nodes 0 = search rules in
    let row : c.in_ok-row.row.items ≡ clocks_in net (world_of net course 0) = zeros ∙ first_row net course in
    record {
      tallied = record {
        before = [];
        rows = refl;
        is = subst (λ (l : List ℕ). IsLookout (graph_of p) [] l c.new.result) (c.deref.ensures.value ∙ row) c.new.ensures;
      };
      row = row;
      fast = omega arith;
      few = omega arith;
    }
