use Rattle.std.proofs.Common.{◌≡◌, ◌+◌, ◌*◌, ◌-◌, ◌<◌, ◌^◌, rules, sym, subst, ap, arith, ℕ, List, length, take, drop}
use Rattle.std.proofs.lemmas.List.{take_rest}
use Rattle.std.proofs.lemmas.List.Elements.{All-from_get_or}
use Rattle.gs_beacon.specs.Numbers.{AreBytes}
use Rattle.gs_core.specs.declared.event.Event.{Event}
use Rattle.gs_trace.specs.Laws.{events_in}
use Rattle.gs_trace.specs.Worlds.{SpellsWorld, world_events, world_format}
use Rattle.gs_trace.specs.declared.start.WorldStart.{WorldStart}
use Rattle.gs_trace.proofs.Scanning.{begins}
use Rattle.gs_trace.proofs.WorldTraces.{world-spelled}
use Rattle.gs_trace.proofs.scan.scan.Goals as goal

pub invariant_of-result : goal.invariant_of-result
invariant_of-result c = record { whole = begins (world_format c.args.nodes) (24 + 8 * c.args.nodes) c.args.bytes.now c.in_ok-admit_events.ensures.ok }

pub returns-clause-ok : goal.returns-clause-ok
returns-clause-ok c =
    let bytes : List ℕ = c.args.bytes.now in
    let head : ℕ = 24 + 8 * c.args.nodes in
    let are : AreBytes bytes = All-from_get_or (λ x. x < 256) bytes 0 (λ k below. omega (arith, c.type_inv.bytes k)) in
    let small : c.args.cluster < 2 ^ 32 = search rules in
    let few : c.args.nodes < 2 ^ 32 = search rules in
    let whole = world-spelled c.args.cluster c.args.nodes bytes are small few c.in_ok-start.ensures.ok c.in_ok-admit_events.ensures.ok in
    let left : events_in c.args.nodes bytes ≡ world_events c.args.nodes (take (length bytes - head) (drop head bytes)) = ap (world_events c.args.nodes) (sym (take_rest bytes head)) in
    let with_start : SpellsWorld c.args.cluster c.args.nodes c.in_ok-start.start (events_in c.args.nodes bytes) bytes =
    subst (λ (s : WorldStart). SpellsWorld c.args.cluster c.args.nodes s (events_in c.args.nodes bytes) bytes) (sym c.in_ok-start.ensures.start) whole in
    subst (λ (es : List Event). SpellsWorld c.args.cluster c.args.nodes c.in_ok-start.start es bytes) left with_start
