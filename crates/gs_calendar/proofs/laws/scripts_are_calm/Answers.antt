use Rattle.gs_run.specs.Nets.{net_of}
use Rattle.gs_run.proofs.PlanNumbers.{plan_has_numbers}
use Rattle.gs_calendar.specs.Course.{course_of}
use Rattle.gs_calendar.proofs.Breaches.{script_breach_is_first_refusal, unbreached_script_is_allowed}
use Rattle.gs_calendar.proofs.Calm.{scripts_are_calm}
use Rattle.gs_calendar.proofs.Fitting.{fits}
use Rattle.gs_calendar.proofs.Staleness.{script_breach_is}
use Rattle.gs_calendar.proofs.laws.scripts_are_calm.Goals as goal

pub returns-clause-calm : goal.returns-clause-calm
returns-clause-calm c = λ p s read is. scripts_are_calm (net_of p) (course_of s) (plan_has_numbers p) (fits p s read is)

pub returns-clause-allowed : goal.returns-clause-allowed
returns-clause-allowed c = λ p s read is none.
    unbreached_script_is_allowed (net_of p) (course_of s) (plan_has_numbers p) (fits p s read is) none

pub returns-clause-first : goal.returns-clause-first
returns-clause-first c = λ p s b read is some.
    script_breach_is_first_refusal (net_of p) (course_of s) b (plan_has_numbers p) (fits p s read is) some

pub returns-clause-calendar : goal.returns-clause-calendar
returns-clause-calendar c = λ p s read is. script_breach_is (net_of p) (course_of s) (plan_has_numbers p) (fits p s read is)
