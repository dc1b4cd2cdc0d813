use Rattle.std.proofs.Common.{◌≡◌, ◌∙◌, rules, sym, true}
use Rattle.gs_steer.specs.Modes.{following_mode}
use Rattle.gs_core.specs.Node.{clock_of, maximum_of}
use Rattle.gs_core.specs.inside.Quiet.{is_quiet}
use Rattle.gs_core.proofs.Quieting.{quiet_mode}
use Rattle.gs_core.proofs.node.Core.decide.Goals as goal

pub returns-then-is_quiet-clause-mode : goal.returns-then-is_quiet-clause-mode
returns-then-is_quiet-clause-mode c =
    let s = c.args.self.now in
    let now = c.args.now in
    let l = clock_of s.params.rate s.node now in
    let m = maximum_of s.params.rate s.node now in
    let quiet : is_quiet l now s.params.links s.node.entries ≡ true = search rules in
    let follows : c.follow_maximum.result ≡ following_mode s.params.iota m l = search rules in
    follows ∙ sym (quiet_mode s.params.iota m l now s.params.links s.node.entries quiet)
