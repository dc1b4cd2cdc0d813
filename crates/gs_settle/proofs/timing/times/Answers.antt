use Rattle.std.proofs.Common.{◌≡◌, ◌∙◌, ◌+◌, ◌++◌, ◌∷◌, [], ap, rules}
use Rattle.std.specs.Int.{div_ceil}
use Rattle.gs_units.specs.Rates.{q_of}
use Rattle.gs_units.specs.declared.rate.Rate.{Rate}
use Rattle.gs_plan.specs.Plans.{rate_of}
use Rattle.gs_run.specs.Nets.{net_of}
use Rattle.gs_settle.specs.Times.{level_time}
use Rattle.gs_settle.proofs.Timely.{next_at, times_more}
use Rattle.gs_settle.proofs.timing.times.Goals as goal

pub loop-s-preserved : goal.loop-s-preserved
loop-s-preserved c =
    let p = c.args.plan.now in
    let h = c.loop-s.invariant in
    let q : c.q.result ≡ q_of (rate_of p) = c.q.ensures ∙ ap (λ (x : Rate). q_of x) c.rate-rate.ensures in
    let add : c.from-at.result ≡ div_ceil c.g_level.result c.q.result = search rules in
    let at : c.loop-s.at + c.from-at.result ≡ level_time (net_of p) c.args.gamma (c.loop-s.s + 1) =
    next_at p c.args.gamma c.loop-s.s c.loop-s.at c.from-at.result c.g_level.result c.q.result h.at c.g_level.ensures q add in
    let pushed : c.push-in-loop-s.new.self.items ≡ c.loop-s.times.items ++ (c.loop-s.at + c.from-at.result) ∷ [] = search rules in
    record {
      at = at;
      small = search rules;
      times = times_more (level_time (net_of p) c.args.gamma) (c.loop-s.s + 1) (c.loop-s.at + c.from-at.result) c.loop-s.times.items _ h.times at pushed;
    }
