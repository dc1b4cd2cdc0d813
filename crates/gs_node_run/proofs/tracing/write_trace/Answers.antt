use Rattle.std.proofs.Common.{◌≡◌, ◌∙◌, ◌++◌, List, ℕ, OnErr, OnOk, ap, subst}
use Rattle.std.specs.List.{flat_map}
use Rattle.gs_board.specs.Boards.{ledger_in}
use Rattle.gs_core.specs.State.{State}
use Rattle.gs_core.specs.declared.event.NodeEvent.{NodeEvent}
use Rattle.gs_io.specs.Held.{Appends, AppendsFront}
use Rattle.gs_trace.specs.Nodes.{event_bytes, head_bytes}
use Rattle.gs_trace.specs.declared.start.NodeStart.{NodeStart}
use Rattle.gs_units.specs.declared.params.NodeParams.{NodeParams}
use Rattle.gs_node_run.proofs.tracing.write_trace.Goals as goal

pub returns-clause-ok : goal.returns-clause-ok
returns-clause-ok g c =
    let t = ledger_in c.args.board.now in
    let p : c.params.result.now ≡ t.core.params = c.params.ensures ∙ ap (λ (x : State). x.params) c.core.ensures.core in
    let s : c.begun.result ≡ t.begun = c.begun.ensures.begun in
    let head : c.node_head-head.result ≡ head_bytes t.core.params.cluster t.core.params.node t.begun =
    c.node_head-head.ensures ∙ (ap (λ (x : NodeParams). head_bytes x.cluster x.node c.begun.result) p ∙ ap (λ (x : NodeStart). head_bytes t.core.params.cluster t.core.params.node x) s) in
    subst (λ (h : List ℕ). OnOk c.write_all.result (Appends (g.K.Sink.bytes c.args.out.now) (g.K.Sink.bytes c.write_all.new.out) (h ++ flat_map event_bytes t.journal))) head
    (subst (λ (es : List NodeEvent). OnOk c.write_all.result (Appends (g.K.Sink.bytes c.args.out.now) (g.K.Sink.bytes c.write_all.new.out) (c.node_head-head.result ++ flat_map event_bytes es))) c.journal.ensures.journal c.write_all.ensures.ok)

pub returns-clause-err : goal.returns-clause-err
returns-clause-err g c =
    let t = ledger_in c.args.board.now in
    let p : c.params.result.now ≡ t.core.params = c.params.ensures ∙ ap (λ (x : State). x.params) c.core.ensures.core in
    let s : c.begun.result ≡ t.begun = c.begun.ensures.begun in
    let head : c.node_head-head.result ≡ head_bytes t.core.params.cluster t.core.params.node t.begun =
    c.node_head-head.ensures ∙ (ap (λ (x : NodeParams). head_bytes x.cluster x.node c.begun.result) p ∙ ap (λ (x : NodeStart). head_bytes t.core.params.cluster t.core.params.node x) s) in
    subst (λ (h : List ℕ). OnErr c.write_all.result (AppendsFront (g.K.Sink.bytes c.args.out.now) (g.K.Sink.bytes c.write_all.new.out) (h ++ flat_map event_bytes t.journal))) head
    (subst (λ (es : List NodeEvent). OnErr c.write_all.result (AppendsFront (g.K.Sink.bytes c.args.out.now) (g.K.Sink.bytes c.write_all.new.out) (c.node_head-head.result ++ flat_map event_bytes es))) c.journal.ensures.journal c.write_all.ensures.err)
