use Rattle.std.proofs.Common.{◌≡◌, ◌∙◌, List, ℕ, ap, sym, rules, subst, replicate}
use Rattle.std.proofs.lemmas.Result.{err_from_is_err_and}
use Rattle.gs_io.specs.Causes.{Rose}
use Rattle.gs_io.specs.Held.{Appends, AppendsFront}
use Rattle.gs_plan.specs.Plans.{graph_of, text_of}
use Rattle.gs_trace.specs.Starts.{FitsWorld}
use Rattle.gs_trace.specs.Worlds.{head_bytes}
use Rattle.gs_record.specs.Recorded.{head_of}
use Rattle.gs_record.proofs.Recording.{none_is_front, zeros_fit}
use Rattle.gs_record.proofs.record.write_head.Goals as goal

pub world_head-requires : goal.world_head-requires
world_head-requires g c =
    let n : ℕ = (graph_of c.args.plan.now).nodes in
    let zeros : c.from_vec.result ≡ replicate n 0 = c.from_vec.ensures ∙ c.requires in
    subst (λ (hw : List ℕ). FitsWorld n (record { l0 = 0; hw = hw })) (sym zeros) (zeros_fit n)

pub returns-in_err-head-clause-stop : goal.returns-in_err-head-clause-stop
returns-in_err-head-clause-stop g c =
    let answer = err_from_is_err_and c.from_residual.result c.from_residual.ensures.1 in
    rw (answer.1, answer.2) (none_is_front (g.K.Sink.bytes c.args.out.now) (head_of c.args.plan.now))

pub returns-in_err-write-clause-stop : goal.returns-in_err-write-clause-stop
returns-in_err-write-clause-stop g c =
    let p = c.args.plan.now in
    let n : ℕ = (graph_of p).nodes in
    let zeros : c.from_vec.result ≡ replicate n 0 = c.from_vec.ensures ∙ c.requires in
    let is : c.deref.result.now ≡ head_of p =
    c.deref.ensures.value ∙ c.in_ok-head.ensures ∙ ap (λ (hw : List ℕ). head_bytes (text_of p).cluster n (record { l0 = 0; hw = hw })) zeros in
    let answer = err_from_is_err_and c.from_residual-in_err-write.result c.from_residual-in_err-write.ensures.1 in
    let rose : Rose (g.K.Sink.faults c.args.out.now) (g.K.Sink.faults c.write.new.self) = search rules in
    rw (answer.1, answer.2)
    (subst (λ (xs : List ℕ). AppendsFront (g.K.Sink.bytes c.args.out.now) (g.K.Sink.bytes c.write.new.self) xs) is c.in_err-write.ensures.err, rose)

pub returns-clause-written : goal.returns-clause-written
returns-clause-written g c =
    let p = c.args.plan.now in
    let n : ℕ = (graph_of p).nodes in
    let zeros : c.from_vec.result ≡ replicate n 0 = c.from_vec.ensures ∙ c.requires in
    let is : c.deref.result.now ≡ head_of p =
    c.deref.ensures.value ∙ c.in_ok-head.ensures ∙ ap (λ (hw : List ℕ). head_bytes (text_of p).cluster n (record { l0 = 0; hw = hw })) zeros in
    subst (λ (xs : List ℕ). Appends (g.K.Sink.bytes c.args.out.now) (g.K.Sink.bytes c.write.new.self) xs) is c.in_ok-write.ensures.ok
