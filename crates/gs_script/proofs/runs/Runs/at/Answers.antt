use Rattle.std.proofs.Common.{◌≡◌, ◌==◌, arith, length, rules, true}
use Rattle.gs_script.proofs.Painting.{no_runs, none_lasts}
use Rattle.gs_script.proofs.runs.Runs.at.Goals as goal

pub returns-then-is_empty : goal.returns-then-is_empty
returns-then-is_empty c =
    let runs = c.args.self.now in
    let empty : (length runs == 0) ≡ true = search rules in
    let none = no_runs runs empty in
    none_lasts c.args.t 4294967295 runs (λ j d there. absurd (omega (arith, there, none))) (omega arith)
