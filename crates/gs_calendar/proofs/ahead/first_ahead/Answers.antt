use Rattle.std.proofs.Common.{rules, ◌≡◌, ℕ, arith, ap, sym, subst, ◌∙◌, List, [], ◌∷◌, ◌++◌, length, length-append}
use Rattle.gs_run.specs.Nets.{net_of}
use Rattle.gs_calendar.specs.Course.{course_of}
use Rattle.gs_calendar.specs.inside.Coming.{IsAhead}
use Rattle.gs_calendar.specs.declared.ahead.Ahead.{Ahead}
use Rattle.gs_calendar.proofs.Known.{each_pushed}
use Rattle.gs_calendar.proofs.ahead.first_ahead.Goals as goal

pub loop-v-preserved : goal.loop-v-preserved
loop-v-preserved c =
    let x : Ahead = record { inc = c.inc_run.result; gap = c.gap_run.result } in
    let old : List Ahead = c.loop-v.list.items in
    let new : List Ahead = c.push.new.self.items in
    let count = c.loop-v.invariant.count in
    let pushed : new ≡ old ++ x ∷ [] = search rules in
    let Is : ℕ → Ahead → Type 0 = λ k a. IsAhead (course_of c.args.script.now) k 1 a in
    let own : Is c.loop-v.v x = record { inc = c.inc_run.ensures.value; gap = c.gap_run.ensures.value } in
    record {
      count = ap length pushed ∙ (let n = length-append old (x ∷ []) in omega (arith, n, count));
      each = λ k d h. each_pushed Is old new x pushed (subst (λ (n : ℕ). Is n x) (sym count) own) (λ j e less. c.loop-v.invariant.each j e (omega (arith, less, count))) k d (omega (arith, h, count));
    }

pub returns : goal.returns
returns c =
    let stop = c.loop-v-test.false in
    let most = c.loop-v.auto.v-end in
    let count = c.loop-v.invariant.count in
    let nodes : c.nodes-nodes.result ≡ (net_of c.args.plan.now).nodes = search rules in
    record {
      count = omega (arith, stop, most, count, nodes);
      each = λ v d h. c.loop-v.invariant.each v d (omega (arith, stop, most, nodes, h));
    }
