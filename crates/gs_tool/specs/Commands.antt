-- The commands, and the words that spell them.
use Rattle.std.specs.Prelude.{ℕ, ◌-◌, ◌^◌, ◌≤◌, ◌&&◌, ⊤, Bool, true, false, List, [], ◌∷◌, Option, Some, None, if◌then◌else◌, codes}
use Rattle.std.specs.Prelude.{option_map, option_and_then}
use Rattle.std.specs.Str.{bytes_eq}
use Rattle.gs_cli.specs.Words.{number_within}
use Rattle.gs_tool.specs.declared.command.Part.{Part}
use Rattle.gs_tool.specs.declared.command.Part.TheVariants.{Plan as PlanText, Script as ScriptText, Run}

-- What a command line asks for; the words PLAN, SCRIPT and TRACE as they were written.
pub data Command : Type 0 where
  Plan : List ℕ → Command
  Play : List ℕ → List ℕ → ℕ → Command
  Trace : List ℕ → List ℕ → Command
  Audit : List ℕ → List ℕ → Command
  Replay : List ℕ → ℕ → List ℕ → Command
  Gen : ℕ → ℕ → Part → Command
  Migrate : List ℕ → Command
  Settle : List ℕ → List ℕ → ℕ → Command
  Slots : List ℕ → List ℕ → ℕ → ℕ → Command
  Order : List ℕ → List ℕ → ℕ → Command

-- its numbers are within their bounds
abbrev pub IsInRange : Command → Type 0
IsInRange (Play plan script workers) = (1 ≤ workers) × (workers ≤ 64)
IsInRange (Gen number size part) = (3 ≤ size) × (size ≤ 512)
IsInRange (Settle plan script gamma) = gamma ≤ 2 ^ 61
IsInRange (Order plan script every) = (1 ≤ every) × (every ≤ 1048576)
IsInRange _ = ⊤

-- `trace`, whose answer is written as it comes
abbrev pub is_trace : Option Command → Bool
is_trace (Some (Trace plan script)) = true
is_trace _ = false

-- the part of a generated network that a word names
abbrev pub part_of : List ℕ → Option Part
part_of word =
    if bytes_eq word (codes "plan") then Some PlanText
    else if bytes_eq word (codes "script") then Some ScriptText
    else if bytes_eq word (codes "run") then Some Run
    else None

-- PLAN
abbrev pub plan_args : List (List ℕ) → Option Command
plan_args (plan ∷ []) = Some (Plan plan)
plan_args _ = None

-- PLAN SCRIPT WORKERS
abbrev pub play_args : List (List ℕ) → Option Command
play_args (plan ∷ script ∷ workers ∷ []) = option_map (Play plan script) (number_within 1 64 workers)
play_args _ = None

-- PLAN SCRIPT
abbrev pub trace_args : List (List ℕ) → Option Command
trace_args (plan ∷ script ∷ []) = Some (Trace plan script)
trace_args _ = None

-- PLAN TRACE
abbrev pub audit_args : List (List ℕ) → Option Command
audit_args (plan ∷ trace ∷ []) = Some (Audit plan trace)
audit_args _ = None

-- PLAN NODE TRACE
abbrev pub replay_args : List (List ℕ) → Option Command
replay_args (plan ∷ node ∷ trace ∷ []) = option_map (λ n. Replay plan n trace) (number_within 0 (2 ^ 32 - 1) node)
replay_args _ = None

-- NUMBER SIZE PART
abbrev pub gen_args : List (List ℕ) → Option Command
gen_args (number ∷ size ∷ part ∷ []) =
    option_and_then (λ n. option_and_then (λ s. option_map (Gen n s) (part_of part)) (number_within 3 512 size))
    (number_within 0 (2 ^ 64 - 1) number)
gen_args _ = None

-- PLAN
abbrev pub migrate_args : List (List ℕ) → Option Command
migrate_args (plan ∷ []) = Some (Migrate plan)
migrate_args _ = None

-- PLAN SCRIPT GAMMA
abbrev pub settle_args : List (List ℕ) → Option Command
settle_args (plan ∷ script ∷ gamma ∷ []) = option_map (Settle plan script) (number_within 0 (2 ^ 61) gamma)
settle_args _ = None

-- PLAN SCRIPT REACH SLOT
abbrev pub slots_args : List (List ℕ) → Option Command
slots_args (plan ∷ script ∷ reach ∷ slot ∷ []) =
    option_and_then (λ n. option_map (Slots plan script n) (number_within 0 (2 ^ 64 - 1) slot))
    (number_within 0 (2 ^ 32 - 1) reach)
slots_args _ = None

-- PLAN SCRIPT EVERY
abbrev pub order_args : List (List ℕ) → Option Command
order_args (plan ∷ script ∷ every ∷ []) = option_map (Order plan script) (number_within 1 1048576 every)
order_args _ = None

-- the command of the first word, with the words after it
abbrev pub named : List ℕ → List (List ℕ) → Option Command
named name args =
    if bytes_eq name (codes "plan") then plan_args args
    else if bytes_eq name (codes "play") then play_args args
    else if bytes_eq name (codes "trace") then trace_args args
    else if bytes_eq name (codes "audit") then audit_args args
    else if bytes_eq name (codes "replay") then replay_args args
    else if bytes_eq name (codes "gen") then gen_args args
    else if bytes_eq name (codes "migrate") then migrate_args args
    else if bytes_eq name (codes "settle") then settle_args args
    else if bytes_eq name (codes "slots") then slots_args args
    else if bytes_eq name (codes "order") then order_args args
    else None

-- The command that the words of a command line spell, or none.
abbrev pub command_of : List (List ℕ) → Option Command
command_of [] = None
command_of (name ∷ args) = named name args
