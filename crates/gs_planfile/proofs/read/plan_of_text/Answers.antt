use Rattle.toml.specs.View.{table_view}
use Rattle.gs_planfile.specs.declared.key.PlanFileFault.TheVariants.{Utf8, Toml}
use Rattle.gs_planfile.proofs.Faults.{not_of_text}
use Rattle.gs_planfile.proofs.read.plan_of_text.Goals as goal

pub returns-in-Ok-clause-never_utf8 : goal.returns-in-Ok-clause-never_utf8
returns-in-Ok-clause-never_utf8 c = not_of_text Utf8 c.plan_in.result (table_view c.in-Ok.table) (λ h. h) (λ q. cc q) c.plan_in.ensures.err

pub returns-in-Ok-clause-toml : goal.returns-in-Ok-clause-toml
returns-in-Ok-clause-toml c q = absurd (not_of_text Toml c.plan_in.result (table_view c.in-Ok.table) (λ h. h) (λ e. cc e) c.plan_in.ensures.err q)
