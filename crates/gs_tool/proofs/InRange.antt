-- The numbers of a command are within their bounds.
use Rattle.std.proofs.Common.{◌≡◌, ℕ, ◌-◌, ◌^◌, ◌≤◌, ◌&&◌, Bool, true, false, refl, List, [], ◌∷◌, Option, Some, None, IfSome, nat_le, option_and_then, option_map, if◌then◌else◌}
use Rattle.std.specs.Prelude.{codes, ⊤}
use Rattle.std.specs.Str.{bytes_eq}
use Rattle.std.proofs.lemmas.Bool.{and_parts, leb-true}
use Rattle.gs_text.specs.Numbers.{number_of}
use Rattle.gs_cli.specs.Words.{number_within, within}
use Rattle.gs_tool.specs.Commands.{Command, Gen, IsInRange, Order, Play, Replay, Settle, Slots, command_of, named, part_of}
use Rattle.gs_tool.specs.Commands.{audit_args, gen_args, migrate_args, order_args, plan_args, play_args, replay_args, settle_args, slots_args, trace_args}
use Rattle.gs_tool.specs.declared.command.Part.{Part}

-- ---- numbers

within_bounds : (least most n : ℕ) → IfSome (within least most n) (λ x. (least ≤ x) × (x ≤ most))
within_bounds least most n = pick (nat_le least n && nat_le n most) refl where
  pick : (b : Bool) → (nat_le least n && nat_le n most) ≡ b → IfSome (if b then Some n else None) (λ x. (least ≤ x) × (x ≤ most))
  pick false is = tt
  pick true is = let h = and_parts (nat_le least n) (nat_le n most) is in (leb-true least n h.0, leb-true n most h.1)

number_bounds : (least most : ℕ) (word : List ℕ) → IfSome (number_within least most word) (λ x. (least ≤ x) × (x ≤ most))
number_bounds least most word = pick (number_of word) where
  pick : (o : Option ℕ) → IfSome (option_and_then (within least most) o) (λ x. (least ≤ x) × (x ≤ most))
  pick None = tt
  pick (Some n) = within_bounds least most n

-- a command of a number in its bounds
of_number : (P : ℕ → Type 0) (f : ℕ → Command) (o : Option ℕ) → IfSome o P → ((n : ℕ) → P n → IsInRange (f n))
    → IfSome (option_map f o) IsInRange
of_number P f None is each = tt
of_number P f (Some n) is each = each n is

-- ---- each command

plan_within : (args : List (List ℕ)) → IfSome (plan_args args) IsInRange
plan_within [] = tt
plan_within (plan ∷ []) = tt
plan_within (plan ∷ x ∷ more) = tt

play_within : (args : List (List ℕ)) → IfSome (play_args args) IsInRange
play_within [] = tt
play_within (plan ∷ []) = tt
play_within (plan ∷ script ∷ []) = tt
play_within (plan ∷ script ∷ workers ∷ []) =
    of_number (λ n. (1 ≤ n) × (n ≤ 64)) (Play plan script) (number_within 1 64 workers) (number_bounds 1 64 workers) (λ n is. is)
play_within (plan ∷ script ∷ workers ∷ x ∷ more) = tt

trace_within : (args : List (List ℕ)) → IfSome (trace_args args) IsInRange
trace_within [] = tt
trace_within (plan ∷ []) = tt
trace_within (plan ∷ script ∷ []) = tt
trace_within (plan ∷ script ∷ x ∷ more) = tt

audit_within : (args : List (List ℕ)) → IfSome (audit_args args) IsInRange
audit_within [] = tt
audit_within (plan ∷ []) = tt
audit_within (plan ∷ trace ∷ []) = tt
audit_within (plan ∷ trace ∷ x ∷ more) = tt

replay_within : (args : List (List ℕ)) → IfSome (replay_args args) IsInRange
replay_within [] = tt
replay_within (plan ∷ []) = tt
replay_within (plan ∷ node ∷ []) = tt
replay_within (plan ∷ node ∷ trace ∷ []) =
    of_number (λ n. (0 ≤ n) × (n ≤ 2 ^ 32 - 1)) (λ n. Replay plan n trace) (number_within 0 (2 ^ 32 - 1) node)
    (number_bounds 0 (2 ^ 32 - 1) node) (λ n is. tt)
replay_within (plan ∷ node ∷ trace ∷ x ∷ more) = tt

part_within : (number size : ℕ) (part : Option Part) → (3 ≤ size) × (size ≤ 512)
    → IfSome (option_map (Gen number size) part) IsInRange
part_within number size None is = tt
part_within number size (Some part) is = is

size_within : (number : ℕ) (part : Option Part) (size : Option ℕ) → IfSome size (λ n. (3 ≤ n) × (n ≤ 512))
    → IfSome (option_and_then (λ s. option_map (Gen number s) part) size) IsInRange
size_within number part None is = tt
size_within number part (Some size) is = part_within number size part is

gen_from : (number size : Option ℕ) (part : Option Part) → IfSome size (λ n. (3 ≤ n) × (n ≤ 512))
    → IfSome (option_and_then (λ n. option_and_then (λ s. option_map (Gen n s) part) size) number) IsInRange
gen_from None size part is = tt
gen_from (Some number) size part is = size_within number part size is

gen_within : (args : List (List ℕ)) → IfSome (gen_args args) IsInRange
gen_within [] = tt
gen_within (number ∷ []) = tt
gen_within (number ∷ size ∷ []) = tt
gen_within (number ∷ size ∷ part ∷ []) =
    gen_from (number_within 0 (2 ^ 64 - 1) number) (number_within 3 512 size) (part_of part) (number_bounds 3 512 size)
gen_within (number ∷ size ∷ part ∷ x ∷ more) = tt

migrate_within : (args : List (List ℕ)) → IfSome (migrate_args args) IsInRange
migrate_within [] = tt
migrate_within (plan ∷ []) = tt
migrate_within (plan ∷ x ∷ more) = tt

settle_within : (args : List (List ℕ)) → IfSome (settle_args args) IsInRange
settle_within [] = tt
settle_within (plan ∷ []) = tt
settle_within (plan ∷ script ∷ []) = tt
settle_within (plan ∷ script ∷ gamma ∷ []) =
    of_number (λ n. (0 ≤ n) × (n ≤ 2 ^ 61)) (Settle plan script) (number_within 0 (2 ^ 61) gamma) (number_bounds 0 (2 ^ 61) gamma)
    (λ n is. is.1)
settle_within (plan ∷ script ∷ gamma ∷ x ∷ more) = tt

slots_from : (plan script : List ℕ) (reach slot : Option ℕ)
    → IfSome (option_and_then (λ n. option_map (Slots plan script n) slot) reach) IsInRange
slots_from plan script None slot = tt
slots_from plan script (Some n) None = tt
slots_from plan script (Some n) (Some m) = tt

slots_within : (args : List (List ℕ)) → IfSome (slots_args args) IsInRange
slots_within [] = tt
slots_within (plan ∷ []) = tt
slots_within (plan ∷ script ∷ []) = tt
slots_within (plan ∷ script ∷ reach ∷ []) = tt
slots_within (plan ∷ script ∷ reach ∷ slot ∷ []) =
    slots_from plan script (number_within 0 (2 ^ 32 - 1) reach) (number_within 0 (2 ^ 64 - 1) slot)
slots_within (plan ∷ script ∷ reach ∷ slot ∷ x ∷ more) = tt

order_within : (args : List (List ℕ)) → IfSome (order_args args) IsInRange
order_within [] = tt
order_within (plan ∷ []) = tt
order_within (plan ∷ script ∷ []) = tt
order_within (plan ∷ script ∷ every ∷ []) =
    of_number (λ n. (1 ≤ n) × (n ≤ 1048576)) (Order plan script) (number_within 1 1048576 every) (number_bounds 1 1048576 every)
    (λ n is. is)
order_within (plan ∷ script ∷ every ∷ x ∷ more) = tt

-- ---- all words

either : (b : Bool) (x y : Option Command) → IfSome x IsInRange → IfSome y IsInRange → IfSome (if b then x else y) IsInRange
either true x y first second = first
either false x y first second = second

-- the command of the first choice that holds
abbrev first_of : List (Bool × Option Command) → Option Command
first_of [] = None
first_of (choice ∷ more) = if choice.0 then choice.1 else first_of more

abbrev AllWithin : List (Bool × Option Command) → Type 0
AllWithin [] = ⊤
AllWithin (choice ∷ more) = IfSome choice.1 IsInRange × AllWithin more

first_within : (choices : List (Bool × Option Command)) → AllWithin choices → IfSome (first_of choices) IsInRange
first_within [] all = tt
first_within (choice ∷ more) all = either choice.0 choice.1 (first_of more) all.0 (first_within more all.1)

-- the words after the first, read as each command
abbrev choices_of : List ℕ → List (List ℕ) → List (Bool × Option Command)
choices_of name args =
    (bytes_eq name (codes "plan"), plan_args args) ∷ (bytes_eq name (codes "play"), play_args args)
    ∷ (bytes_eq name (codes "trace"), trace_args args) ∷ (bytes_eq name (codes "audit"), audit_args args)
    ∷ (bytes_eq name (codes "replay"), replay_args args) ∷ (bytes_eq name (codes "gen"), gen_args args)
    ∷ (bytes_eq name (codes "migrate"), migrate_args args) ∷ (bytes_eq name (codes "settle"), settle_args args)
    ∷ (bytes_eq name (codes "slots"), slots_args args) ∷ (bytes_eq name (codes "order"), order_args args) ∷ []

named_within : (name : List ℕ) (args : List (List ℕ)) → IfSome (named name args) IsInRange
named_within name args = first_within (choices_of name args) (
  plan_within args,
  (
    play_within args,
    (
      trace_within args,
      (
        audit_within args,
        (
          replay_within args,
          (
            gen_within args,
            (migrate_within args, (settle_within args, (slots_within args, (order_within args, tt)))),
          ),
        ),
      ),
    ),
  ),
)

commands_within : (words : List (List ℕ)) → IfSome (command_of words) IsInRange
commands_within [] = tt
commands_within (name ∷ args) = named_within name args

-- The command that some words spell.
pub is_in_range : (words : List (List ℕ)) (c : Command) → command_of words ≡ Some c → IsInRange c
is_in_range words c is = rw is at (commands_within words)
