use Rattle.std.proofs.Common.{◌≡◌, ◌+◌, ◌≤◌, All, drop, length, map}
use Rattle.csv.specs.Records.{fields_of}
use Rattle.gs_plan.specs.Plans.{text_of}
use Rattle.gs_script.specs.inside.Kept.{Fits, IsSpan, after}
use Rattle.gs_script.specs.Reading.{lines_from}
use Rattle.gs_script.proofs.read.lines_from.Given as goal

abbrev pub invariant-loop-i : goal.invariant-loop-i
invariant-loop-i l = record {
  read : lines_from (text_of l.plan) l.quanta 2 (map fields_of l.rows)
      ≡ after l.lines.items (lines_from (text_of l.plan) l.quanta (l.i + 2) (map fields_of (drop l.i l.rows)));
  fits : All (Fits (text_of l.plan)) l.lines.items;
  spans : All (λ x. IsSpan x.span) l.lines.items;
  few : length l.lines.items ≤ l.i;
}
