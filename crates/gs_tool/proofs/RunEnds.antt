-- A run of `trace` does what its words ask for.
use Rattle.std.proofs.Common.{◌≡◌, ℕ, ◌⊎◌, inl, inr, true, List, Option, Some, refl, sym, ◌∙◌, ap, subst}
use Rattle.gs_cli.specs.Answers.{Answer, Gives}
use Rattle.gs_tool.specs.AuditHeadline.{AuditsKeepBounds}
use Rattle.gs_tool.specs.AuditsComplete.{AuditsComplete}
use Rattle.gs_tool.specs.Commands.{Command, Trace, command_of, is_trace}
use Rattle.gs_tool.specs.Completeness.{Completes}
use Rattle.gs_tool.specs.Headline.{PlaysKeepBounds}
use Rattle.gs_tool.specs.OrdersAgree.{OrdersAgree}
use Rattle.gs_tool.specs.Runs.{IsAnswer, IsCommandAnswer, Runs}
use Rattle.gs_inputs.specs.Sources.{FilesSeen}
use Rattle.gs_tool.specs.Traced.{TraceRuns}
use Rattle.gs_cli.specs.declared.status.Status.{Status}
use Rattle.gs_cli.specs.declared.status.Status.TheVariants as status
use Rattle.gs_tool.proofs.AuditsDone.{audits_complete, audits_keep_bounds}
use Rattle.gs_tool.proofs.Completing.{answers_complete}
use Rattle.gs_tool.proofs.Done.{answers_keep_bounds}
use Rattle.gs_tool.proofs.OrdersDone.{orders_agree}

-- it answers its words
pub trace_runs : (files : FilesSeen) (words : List (List ℕ)) (plan script : List ℕ) (old new : Option (List ℕ)) (before after : ℕ)
    (ended : Status) → command_of words ≡ Some (Trace plan script)
    → TraceRuns files plan script old new before after ended → Runs files words old new before after ended
trace_runs files words plan script old new before after ended is (inl (answer, answers, inl gives)) =
    inl (answer, subst (λ (c : Option Command). IsCommandAnswer files c answer) (sym is) answers, gives)
trace_runs files words plan script old new before after ended is (inl (answer, answers, inr starved)) =
    inr (inr (ap is_trace is, (answer, subst (λ (c : Option Command). IsCommandAnswer files c answer) (sym is) answers, starved)))
trace_runs files words plan script old new before after ended is (inr starved) = inr (inl starved)

-- ---- what holds of every run

-- a run gives the answer to its words, or memory was short
abbrev Ends : FilesSeen → List (List ℕ) → Option (List ℕ) → Option (List ℕ) → ℕ → ℕ → Status → Type 0
Ends files words old new before after ended =
    ((answer : Answer) × IsAnswer files words answer × Gives answer old new before after ended) ⊎ (ended ≡ status.OutOfMemory)

run_ends : (files : FilesSeen) (words : List (List ℕ)) (old new : Option (List ℕ)) (before after : ℕ) (ended : Status)
    → Runs files words old new before after ended → Ends files words old new before after ended
run_ends files words old new before after ended (inl given) = inl given
run_ends files words old new before after ended (inr (inl starved)) = inr starved.0
run_ends files words old new before after ended (inr (inr (is, (answer, answers, starved)))) = inr starved.0

-- it completes
ends_complete : (files : FilesSeen) (words : List (List ℕ)) (old new : Option (List ℕ)) (before after : ℕ) (ended : Status)
    → Ends files words old new before after ended → Completes files words before after ended
ends_complete files words old new before after ended (inl (answer, answers, gives)) =
    answers_complete files words answer old new before after ended answers gives
ends_complete files words old new before after ended (inr short) = record {
  plans = λ word text is has calm. inr short;
  plays = λ plan_word script_word text said is has_plan has_script unbreached calm. inr short;
  slots = λ plan_word script_word reach slot text said is has_plan has_script unbreached unfaulted calm. inr short;
  few_losses = λ plan_word script_word text said is has_plan has_script few calm. inr short;
  generates = λ number size wanted is free calm. inr short;
}

pub runs_complete : (files : FilesSeen) (words : List (List ℕ)) (old new : Option (List ℕ)) (before after : ℕ) (ended : Status)
    → Runs files words old new before after ended → Completes files words before after ended
runs_complete files words old new before after ended runs =
    ends_complete files words old new before after ended (run_ends files words old new before after ended runs)

ends_complete_audits : (files : FilesSeen) (words : List (List ℕ)) (old new : Option (List ℕ)) (before after : ℕ) (ended : Status)
    → Ends files words old new before after ended → AuditsComplete files words before after ended
ends_complete_audits files words old new before after ended (inl (answer, answers, gives)) =
    audits_complete files words answer old new before after ended answers gives
ends_complete_audits files words old new before after ended (inr short) = record {
  audits = λ plan_word trace_word text bytes is has_plan has_trace allowed calm. inr short;
  replays = λ plan_word trace_word v text bytes is has_plan has_trace taken calm. inr short;
}

pub runs_complete_audits : (files : FilesSeen) (words : List (List ℕ)) (old new : Option (List ℕ)) (before after : ℕ) (ended : Status)
    → Runs files words old new before after ended → AuditsComplete files words before after ended
runs_complete_audits files words old new before after ended runs =
    ends_complete_audits files words old new before after ended (run_ends files words old new before after ended runs)

-- what is short of memory is not done
short_of_done : (ended : Status) → ended ≡ status.OutOfMemory → ended ≡ status.Done → ⊥
short_of_done ended short done = let both : status.OutOfMemory ≡ status.Done = sym short ∙ done in cc

-- and keeps what a run that is done keeps
pub runs_keep_bounds : (files : FilesSeen) (words : List (List ℕ)) (old new : Option (List ℕ)) (before after : ℕ) (ended : Status)
    → Runs files words old new before after ended → PlaysKeepBounds files words old new ended
runs_keep_bounds files words old new before after ended runs plan script workers is done =
    elim (run_ends files words old new before after ended runs) [
      | inl given ↦ answers_keep_bounds files words given.0 old new before after ended given.1 given.2 plan script workers is done
      | inr short ↦ absurd (short_of_done ended short done)
    ]

pub runs_agree : (files : FilesSeen) (words : List (List ℕ)) (old new : Option (List ℕ)) (before after : ℕ) (ended : Status)
    → Runs files words old new before after ended → OrdersAgree files words old new ended
runs_agree files words old new before after ended runs plan script every is done =
    elim (run_ends files words old new before after ended runs) [
      | inl given ↦ orders_agree files words given.0 old new before after ended given.1 given.2 plan script every is done
      | inr short ↦ absurd (short_of_done ended short done)
    ]

pub audits_keep : (files : FilesSeen) (words : List (List ℕ)) (old new : Option (List ℕ)) (before after : ℕ) (ended : Status)
    → Runs files words old new before after ended → AuditsKeepBounds files words old new ended
audits_keep files words old new before after ended runs plan trace is done =
    elim (run_ends files words old new before after ended runs) [
      | inl given ↦ audits_keep_bounds files words given.0 old new before after ended given.1 given.2 plan trace is done
      | inr short ↦ absurd (short_of_done ended short done)
    ]
