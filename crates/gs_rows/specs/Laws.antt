-- The laws of rows: they are what reports are made of, and those of scripts without a breach keep the plan's bounds.
use Rattle.std.specs.Prelude.{◌≡◌, ℕ, List, None, length, map}
use Rattle.gs_core.specs.declared.event.Event.{Event}
use Rattle.gs_plan.specs.Plans.{text_of}
use Rattle.gs_plan.specs.declared.plan.Plan.{Plan}
use Rattle.gs_script.specs.Script.{Said, IsScript}
use Rattle.gs_run.specs.Net.{Net}
use Rattle.gs_run.specs.Nets.{net_of}
use Rattle.gs_run.specs.RunRows.{fast_of, rows_of}
use Rattle.gs_run.specs.World.{World}
use Rattle.gs_calendar.specs.Scripts.{breach_of_script}
use Rattle.gs_rows.specs.Row.{fast_upto, rows_after, rows_from, rows_of_script, zeros_of}
use Rattle.gs_rows.specs.Steady.{AreSteady}

-- The clocks of the rows are the rows of the run, and over all quanta their counts of fast nodes are the run's.
abbrev pub RowsAreReported : Type 0
RowsAreReported = (net : Net) (w : World) (es : List Event)
    → (map (λ row. row.clocks) (rows_from net w es) ≡ rows_of net w es)
    × (fast_upto (rows_from net w es) (length (rows_after net w es)) ≡ fast_of net w es)

-- The rows of a script that was read for the plan and has no breach, from equal clocks, are steady.
abbrev pub RowsAreSteady : Type 0
RowsAreSteady = (p : Plan) (s : Said) → s.text ≡ text_of p → IsScript s → breach_of_script p s ≡ None
    → AreSteady (net_of p) (rows_of_script p s (zeros_of (net_of p))) s.quanta
