use Rattle.std.proofs.Common.{◌≡◌, ◌∙◌, [], rules}
use Rattle.std.proofs.lemmas.Result.{err_from_is_err_and}
use Rattle.gs_run.specs.Nets.{net_of}
use Rattle.gs_calendar.specs.Breach.{first_breach}
use Rattle.gs_calendar.specs.Stops.{StopsAt}
use Rattle.gs_rows.specs.inside.Onward.{left_of}
use Rattle.gs_rows.proofs.Fields.{is_over, one_more, passes_quantum, stops}
use Rattle.gs_rows.proofs.rows.Rows.next.Goals as goal

pub returns-in_err-fast-clause-stop : goal.returns-in_err-fast-clause-stop
returns-in_err-fast-clause-stop c =
    let a = c.self.inside in
    let stop = c.in_err-fast.field-0.0 in
    let at : StopsAt (first_breach (net_of a.world.plan) a.world.world (left_of a.held a.feed)) stop = search rules in
    let answer = err_from_is_err_and c.from_residual.result c.from_residual.ensures.1 in
    rw (answer.1, answer.2) (stops a c.args.self.now stop c.self.invariant c.self.view_is at)

pub invariant_of-self-in-Some : goal.invariant_of-self-in-Some
invariant_of-self-in-Some c =
    let h = c.self.invariant in
    record {
      text = h.text;
      within = h.within;
      plan = c.play_on.ensures.plan ∙ h.plan;
      on = passes_quantum _ _ _ _ _ _ _ _ _ _ _ h.plan h.on c.in_ok-fast.ensures.ok c.in-Some.is;
    }

pub returns-in-Some-clause-inside : goal.returns-in-Some-clause-inside
returns-in-Some-clause-inside c = λ _.
    one_more c.self.inside c.args.self.now _ _ _ _ c.self.invariant c.self.view_is c.in_ok-fast.ensures.ok c.in-Some.is

pub returns-in-None-clause-over : goal.returns-in-None-clause-over
returns-in-None-clause-over c = λ _.
    let end : left_of c.play_on.new.held c.play_on.new.feed ≡ [] = search rules in
    is_over c.self.inside c.args.self.now _ _ _ c.self.invariant c.self.view_is c.in_ok-fast.ensures.ok c.in-None.is end
