use Rattle.std.proofs.Common.{rules, ◌≡◌, ℕ, arith, ap, sym, ◌∙◌, []}
use Rattle.gs_calendar.proofs.Beginning.{incs_all, incs_below, incs_none}
use Rattle.gs_calendar.proofs.Known.{incs_next}
use Rattle.gs_calendar.proofs.ahead.incs_of.Goals as goal

pub loop-v-init : goal.loop-v-init
loop-v-init c = λ net course t are. (let none : c.in_ok-incs.incs.items ≡ [] = search rules in none ∙ sym (incs_none course t))

pub loop-v-preserved : goal.loop-v-preserved
loop-v-preserved c = λ net course t are.
    incs_next net course t c.loop-v.v c.args.ahead.now _ c.loop-v.incs.items c.push.new.self.items are c.loop-v-test.true (c.loop-v.invariant net course t are) c.in_ok-push.ensures.items

pub returns : goal.returns
returns c = λ net course t are.
    let stop = c.loop-v-test.false in
    let most = c.loop-v.auto.v-end in
    let count = are.count in
    let all : c.loop-v.v ≡ net.nodes = omega (arith, stop, most, count) in
    c.from_vec.ensures ∙ c.loop-v.invariant net course t are ∙ ap (λ (n : ℕ). incs_below course t n) all ∙ incs_all net course t
