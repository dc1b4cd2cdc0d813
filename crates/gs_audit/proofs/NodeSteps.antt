-- A replay, one event at a time, and what follows from its verdict.
use Rattle.std.proofs.Common.{◌≡◌, ℕ, ◌+◌, ap, refl, ◌∙◌, subst, List, ◌∷◌, Some, None}
use Rattle.gs_units.specs.declared.params.NodeParams.{NodeParams}
use Rattle.gs_core.specs.Node.{Node}
use Rattle.gs_core.specs.declared.reply.Reply.{Reply}
use Rattle.gs_core.specs.Steps.{Replayed, Whole, Stopped, answering, after, fault_of, replay, reply_of}
use Rattle.gs_core.specs.declared.event.NodeEvent.{NodeEvent}
use Rattle.gs_core.specs.declared.reply.CoreFault.{CoreFault}
use Rattle.gs_plan.specs.declared.plan.Plan.{Plan}
use Rattle.gs_run.specs.Net.{Net, params_of}
use Rattle.gs_run.specs.Nets.{net_of}
use Rattle.gs_run.specs.Run.{run}
use Rattle.gs_run.specs.World.{member}
use Rattle.gs_run.proofs.OneNode.{one_node}
use Rattle.gs_run.proofs.PlanNumbers.{plan_has_numbers}
use Rattle.gs_trace.specs.declared.start.NodeStart.{NodeStart}
use Rattle.gs_audit.specs.NodeVerdicts.{node_verdict_of, verdict_on, verdict_on_node}
use Rattle.gs_audit.specs.inside.NodeRunning.{IsReplaying}
use Rattle.gs_audit.specs.OneNode.{AgreesWithEveryWorld, AllowedRun, IsPartOf, start_of}
use Rattle.gs_audit.specs.declared.replaying.Replaying.{Replaying}
use Rattle.gs_audit.specs.declared.verdict.NodeVerdict.{NodeVerdict}
use Rattle.gs_audit.specs.declared.verdict.NodeVerdict.TheVariants as verdict

-- ---- one event

-- a reply is no part of the verdict
without_reply : (p : NodeParams) (reply : Reply) (x : Replayed) → verdict_on p (answering reply x) ≡ verdict_on p x
without_reply p reply (Whole n replies) = refl
without_reply p reply (Stopped i fault) = refl

-- an event that is not refused leaves the verdict on what comes behind it
pub taken : (p : NodeParams) (i : ℕ) (n : Node) (e : NodeEvent) (left : List NodeEvent) → fault_of p n e ≡ None
    → verdict_on p (replay p i n (e ∷ left)) ≡ verdict_on p (replay p (i + 1) (after p n e) left)
taken p i n e left none = rw none (without_reply p (reply_of p n e) (replay p (i + 1) (after p n e) left))

-- one that is gives it
pub refused : (p : NodeParams) (i : ℕ) (n : Node) (e : NodeEvent) (left : List NodeEvent) (why : CoreFault)
    → fault_of p n e ≡ Some why → verdict_on p (replay p i n (e ∷ left)) ≡ verdict.Refused i why
refused p i n e left why some = rw some refl

-- the same events are left
pub same_events : (p : NodeParams) (s : NodeStart) (all xs ys : List NodeEvent) (r : Replaying) → xs ≡ ys
    → IsReplaying p s all xs r → IsReplaying p s all ys r
same_events p s all xs ys r e h = subst (λ (left : List NodeEvent). IsReplaying p s all left r) e h

-- ---- one node of a world

part_agrees : (p : Plan) (r : AllowedRun p) (v : ℕ) (params : NodeParams) (s : NodeStart) (es : List NodeEvent)
    → IsPartOf p r v params s es
    → node_verdict_of params s es ≡ verdict_on_node params (member (run (net_of p) (start_of p r) r.events) v).node
part_agrees p r v params s es part =
    let net : Net = net_of p in
    let replayed = one_node net r.hw r.clocks v r.events (plan_has_numbers p) r.small part.node r.few r.allowed in
    rw (part.told, part.events, part.clock, part.reading) (ap (verdict_on (params_of net v)) replayed.1)

pub agrees : (params : NodeParams) (s : NodeStart) (es : List NodeEvent) (verdict : NodeVerdict)
    → verdict ≡ node_verdict_of params s es → AgreesWithEveryWorld params s es verdict
agrees params s es verdict is = λ p r v part. is ∙ part_agrees p r v params s es part
