use Rattle.std.proofs.Common.{rules, ◌≡◌, ◌^◌, ◌<◌, ℕ, List, Some}
use Rattle.std.specs.Prelude.{◌≢◌, IfErr, IfOk}
use Rattle.gs_core.specs.declared.event.Event.{Event}
use Rattle.gs_plan.specs.Plans.{graph_of, text_of}
use Rattle.gs_trace.specs.Worlds.{SpellsWorld, world_fault}
use Rattle.gs_trace.specs.declared.fault.TraceFault.TheVariants.{OutOfMemory}
use Rattle.gs_trace.specs.declared.start.WorldStart.{WorldStart}
use Rattle.gs_trace.proofs.Answered.{every_fault, every_spelling}
use Rattle.gs_trace.proofs.WorldTraces.{one_world}
use Rattle.gs_trace.proofs.scan.scan_world.Goals as goal

pub returns-clause-every_spelling : goal.returns-clause-every_spelling
returns-clause-every_spelling c =
    let cluster : ℕ = (text_of c.args.plan.now).cluster in
    let nodes : ℕ = (graph_of c.args.plan.now).nodes in
    let bytes = c.args.bytes.now in
    let small : cluster < 2 ^ 32 = search rules in
    let few : nodes < 2 ^ 32 = search rules in
    let ok : IfOk c.scan.result (λ read. SpellsWorld cluster nodes read.0 read.1.events bytes) = search rules in
    let err : IfErr c.scan.result (λ fault. fault ≢ OutOfMemory → world_fault cluster nodes bytes ≡ Some fault) = search rules in
    every_spelling (λ (s : WorldStart) (es : List Event). SpellsWorld cluster nodes s es bytes) (world_fault cluster nodes bytes) (one_world cluster nodes bytes small few)
    (λ read. read.0) (λ read. read.1.events) c.scan.result ok err

pub returns-clause-every_fault : goal.returns-clause-every_fault
returns-clause-every_fault c =
    let cluster : ℕ = (text_of c.args.plan.now).cluster in
    let nodes : ℕ = (graph_of c.args.plan.now).nodes in
    let bytes = c.args.bytes.now in
    let small : cluster < 2 ^ 32 = search rules in
    let few : nodes < 2 ^ 32 = search rules in
    let ok : IfOk c.scan.result (λ read. SpellsWorld cluster nodes read.0 read.1.events bytes) = search rules in
    let err : IfErr c.scan.result (λ fault. fault ≢ OutOfMemory → world_fault cluster nodes bytes ≡ Some fault) = search rules in
    every_fault (λ (s : WorldStart) (es : List Event). SpellsWorld cluster nodes s es bytes) (world_fault cluster nodes bytes) (one_world cluster nodes bytes small few)
    (λ read. read.0) (λ read. read.1.events) c.scan.result ok err
