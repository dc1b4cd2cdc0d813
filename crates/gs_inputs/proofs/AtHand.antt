-- What is at hand is read, and a plan at hand is not refused.
use Rattle.std.proofs.Common.{◌≡◌, ℕ, ◌<◌, inl, inr, Bool, true, false, List, length, Option, Some, Ok, Err}
use Rattle.std.proofs.Common.{IfSome, IsSomeAnd, arith, sym, ◌∙◌, ap, subst}
use Rattle.gs_planfile.specs.declared.text.PlanText.{PlanText}
use Rattle.gs_cli.specs.Answers.{Answer}
use Rattle.gs_inputs.specs.AtHand.{HasPlan, IsAtHand}
use Rattle.gs_inputs.specs.Inputs.{IsNoPlan}
use Rattle.gs_inputs.specs.Plans.{plan_in}
use Rattle.gs_inputs.specs.Sources.{FilesSeen, Source, Count, Text, IsRead, IsUnread}
use Rattle.gs_inputs.specs.declared.source.Kind.{Kind}
use Rattle.gs_inputs.specs.declared.source.Kind.TheVariants as kind
use Rattle.gs_inputs.proofs.Results.{no_refusal, one_value}

-- what is at hand is what was read
pub same_source : (files : FilesSeen) (kind : Kind) (word : List ℕ) (here read : Source)
    → IsAtHand files kind word here → IsRead files kind word read → here ≡ read
same_source files kind word (Count n) (Count m) (built, is) (built_too, is_too) = ap Count (is ∙ sym is_too)
same_source files kind word (Count n) (Text bytes) (built, is) (is_file, holds) =
    absurd (let both : true ≡ false = sym built ∙ is_file in cc)
same_source files kind word (Text bytes) (Count n) (told, is_file, tells, has, short, calm) (built, is) =
    absurd (let both : true ≡ false = sym built ∙ is_file in cc)
same_source files kind word (Text bytes) (Text read) (told, is_file, tells, has, short, calm) (is_file_too, (holds, short_too)) =
    let said : told word ≡ Some read =
    subst (λ (c : Option (List ℕ → Option (List ℕ))). IfSome c (λ told. told word ≡ Some read)) tells holds in
    let one : Some bytes ≡ Some read = sym has ∙ said in
    let same : bytes ≡ read = cc in ap Text same

-- what is at hand was read
pub never_unread : (files : FilesSeen) (kind : Kind) (word : List ℕ) (here : Source) (answer : Answer)
    → IsAtHand files kind word here → IsUnread files kind word answer → ⊥
never_unread files kind word (Count n) answer (built, is) (is_file, fault) =
    let both : true ≡ false = sym built ∙ is_file in cc
never_unread files kind word (Text bytes) answer (told, is_file, tells, has, short, calm) (is_file_too, fault) = elim fault [
  | inl long ↦ (
      let longer : IsSomeAnd (told word) (λ held. 1048576 < length held) =
      subst (λ (c : Option (List ℕ → Option (List ℕ))). IfSome c (λ told. IsSomeAnd (told word) (λ held. 1048576 < length held)))
      tells long.0 in
      let over : 1048576 < length bytes = subst (λ (o : Option (List ℕ)). IsSomeAnd o (λ held. 1048576 < length held)) has longer in
      omega arith
      )
  | inr failed ↦ calm failed.0
]

-- a plan at hand has its text
pub same_plan : (files : FilesSeen) (word : List ℕ) (text found : PlanText) (source : Source)
    → HasPlan files word text → IsRead files kind.Plan word source → plan_in source ≡ Ok found → found ≡ text
same_plan files word text found source (here, at_hand, accepted) is_read is =
    let same : here ≡ source = same_source files kind.Plan word here source at_hand is_read in
    one_value (plan_in source) found text is (ap plan_in (sym same) ∙ accepted)

-- and is not refused
pub never_refused : (files : FilesSeen) (word : List ℕ) (text : PlanText) (source : Source) (answer : Answer)
    → HasPlan files word text → IsRead files kind.Plan word source → plan_in source ≡ Err answer → ⊥
never_refused files word text source answer (here, at_hand, accepted) is_read refused =
    let same : here ≡ source = same_source files kind.Plan word here source at_hand is_read in
    no_refusal (plan_in source) text answer (ap plan_in (sym same) ∙ accepted) refused

-- so nothing keeps a command from it
pub never_no_plan : (files : FilesSeen) (word : List ℕ) (text : PlanText) (answer : Answer) → HasPlan files word text → IsNoPlan files word answer → ⊥
never_no_plan files word text answer (here, at_hand, accepted) (inl unread) = never_unread files kind.Plan word here answer at_hand unread
never_no_plan files word text answer has (inr (source, is_read, refused)) = never_refused files word text source answer has is_read refused
