use Rattle.std.proofs.Common.{◌≡◌, ℕ, suc, ◌+◌, ◌*◌, ◌^◌, ◌<◌, ◌≤◌, arith, ap, sym, subst, ◌∙◌, List, [], ◌∷◌, ◌++◌, length, rules}
use Rattle.gs_plan.specs.Plans.{graph_of}
use Rattle.gs_level.specs.Tallies.{rows_in}
use Rattle.gs_lookout.specs.Lookouts.{HasGrown, IsLookout}
use Rattle.gs_run.specs.Fast.{fast_in}
use Rattle.gs_run.specs.Nets.{net_of}
use Rattle.gs_run.specs.RunRows.{rows_of}
use Rattle.gs_run.specs.World.{clocks_in}
use Rattle.gs_calendar.specs.Course.{course_of}
use Rattle.gs_calendar.specs.Events.{events_upto}
use Rattle.gs_calendar.specs.Scripts.{start_of}
use Rattle.gs_seat.specs.Worlds.{world_of}
use Rattle.gs_play.proofs.Counted.{row_count, rows_count, totals_next}
use Rattle.gs_play.proofs.Moving.{grown_row}
use Rattle.gs_play.proofs.totals.Totals.add_row.Goals as goal

pub add-requires-clause-count : goal.add-requires-clause-count
add-requires-clause-count c =
    let net = net_of c.args.plan.now in
    let r = c.requires.rows in
    let course = course_of r.0 in
    let given = c.gather.ensures.clocks net course r.1 r.2 r.3 r.4 r.6 in
    let row : c.gather.new.row.items ≡ clocks_in net (world_of net course (suc (r.2 + c.args.j))) = search rules in
    ap length (c.deref.ensures.value ∙ row) ∙ row_count net course (suc (r.2 + c.args.j))

pub add-requires-clause-room : goal.add-requires-clause-room
add-requires-clause-room c =
    let net = net_of c.args.plan.now in
    let r = c.requires.rows in
    let course = course_of r.0 in
    let rows = ap rows_in r.7.tallied.is.tally ∙ ap length (sym r.7.tallied.rows) ∙ rows_count net course (r.2 + c.args.j) in
    let end = r.5.end in
    let few = r.5.read.bounds.quanta in
    omega (arith, rows, few, end)

pub add-requires-clause-grown : goal.add-requires-clause-grown
add-requires-clause-grown c =
    let p = c.args.plan.now in
    let net = net_of p in
    let r = c.requires.rows in
    let course = course_of r.0 in
    let t : ℕ = r.2 + c.args.j in
    let given = c.gather.ensures.clocks net course r.1 r.2 r.3 r.4 r.6 in
    let row : c.gather.new.row.items ≡ clocks_in net (world_of net course (suc t)) = search rules in
    let counted = c.gather.ensures.fast net course r.1 r.2 r.3 r.4 r.6 in
    let fast : c.in_ok-fast.fast ≡ fast_in (world_of net course t) = search rules in
    (r.7.tallied.before, clocks_in net (world_of net course t), r.7.tallied.is, grown_row p r.0 t c.in_ok-fast.fast c.rate.result.now c.most_apart.result c.deref.result.now r.5 fast c.rate.ensures c.most_apart.ensures (c.deref.ensures.value ∙ row))

pub returns : goal.returns
returns c = λ s size m n less calm have are.
    let p = c.args.plan.now in
    let net = net_of p in
    let g = graph_of p in
    let course = course_of s in
    let t : ℕ = m + c.args.j in
    let given = c.gather.ensures.clocks net course size m n less have in
    let row : c.gather.new.row.items ≡ clocks_in net (world_of net course (suc t)) = search rules in
    let counted = c.gather.ensures.fast net course size m n less have in
    let fast : c.in_ok-fast.fast ≡ fast_in (world_of net course t) = search rules in
    let sum : c.in_ok-fast.fast ≤ 2 ^ 32 * length c.args.pieces.now = search rules in
    let pieces = c.requires.few in
    let now : c.deref.result.now ≡ clocks_in net (world_of net course (suc t)) = c.deref.ensures.value ∙ row in
    let seen : IsLookout g (are.tallied.before ++ clocks_in net (world_of net course t) ∷ []) c.deref.result.now c.add.new.self =
    c.add.ensures are.tallied.before (clocks_in net (world_of net course t)) are.tallied.is (grown_row p s t c.in_ok-fast.fast c.rate.result.now c.most_apart.result c.deref.result.now calm fast c.rate.ensures c.most_apart.ensures now) in
    totals_next p course t c.in_ok-fast.fast c.args.self.now (record { row = c.gather.new.row; lookout = c.add.new.self; fast = c.args.self.now.fast + c.in_ok-fast.fast }) are row
    (subst (λ (l : List ℕ). IsLookout g (are.tallied.before ++ clocks_in net (world_of net course t) ∷ []) l c.add.new.self) now seen) (omega arith) fast (omega (arith, sum, pieces))
