-- The first span at fault, one span after the other.
use Rattle.std.proofs.Common.{◌≡◌, ◌<◌, ◌≤◌, ◌+◌, ◌||◌, ℕ, arith, refl, sym, ◌∙◌, inl, inr, cond, not, nat_lt, Bool, List, [], ◌∷◌, length, take, drop, get_or, true, false, Some, None, is_some, position}
use Rattle.std.specs.List.{list_any, position_or_len}
use Rattle.std.proofs.lemmas.Bool.{cases_lt, le-ltb, lt-ltb}
use Rattle.std.proofs.lemmas.List.{drop_all, drop_more, take_more}
use Rattle.gs_topo.specs.Graph.{Graph}
use Rattle.gs_planfile.specs.declared.text.EdgeSpan.{EdgeSpan}
use Rattle.gs_planfile.specs.declared.text.Version.{Version}
use Rattle.gs_plan.specs.declared.fault.PlanFault.TheVariants.{Span}
use Rattle.gs_plan.specs.Faults.{is_bad_span, span_fault}

-- no span is left
pub spans-end : (version : Version) (g : Graph) (i : ℕ) (ss : List EdgeSpan) → length ss ≤ i → span_fault version g i (take i ss) (drop i ss) ≡ None
unfolding span_fault
spans-end version g i ss h = rw (drop_all i ss h)

-- the next span is at fault
pub spans-stop : (version : Version) (g : Graph) (i : ℕ) (ss : List EdgeSpan) (s : EdgeSpan) → i < length ss → is_bad_span version g (take i ss) (get_or ss i s) ≡ true
    → span_fault version g i (take i ss) (drop i ss) ≡ Some (Span i)
unfolding span_fault
spans-stop version g i ss s h e = rw (drop_more ss i s h, e)

-- the next span is not at fault
pub spans-more : (version : Version) (g : Graph) (i : ℕ) (ss : List EdgeSpan) (s : EdgeSpan) → i < length ss → is_bad_span version g (take i ss) (get_or ss i s) ≡ false
    → span_fault version g i (take i ss) (drop i ss) ≡ span_fault version g (i + 1) (take (i + 1) ss) (drop (i + 1) ss)
unfolding span_fault
spans-more version g i ss s h e = rw (drop_more ss i s h, e, ← take_more ss i s h)

pub ruleset spans = (spans-end, spans-stop, spans-more)

is_some_where : (b : Bool) (n : ℕ) → is_some (cond b (Some n) None) ≡ b
is_some_where true n = refl
is_some_where false n = refl

lt_place : {X : Type 0} (p : X → Bool) (xs : List X) → nat_lt (position_or_len p xs) (length xs) ≡ list_any p xs
lt_place p [] = refl
lt_place p (x ∷ xs) = pick (p x) (lt_place p xs) where
  pick : (b : Bool) → nat_lt (position_or_len p xs) (length xs) ≡ list_any p xs → nat_lt (cond (not b) (1 + position_or_len p xs) 0) (length (x ∷ xs)) ≡ b || list_any p xs
  pick true rest = lt-ltb 0 (length (x ∷ xs)) (omega arith)
  pick false rest = elim (cases_lt (position_or_len p xs) (length xs)) [
    | inl lt ↦ lt-ltb (1 + position_or_len p xs) (length (x ∷ xs)) (omega arith) ∙ sym (lt-ltb (position_or_len p xs) (length xs) lt) ∙ rest
    | inr le ↦ le-ltb (1 + position_or_len p xs) (length (x ∷ xs)) (omega arith) ∙ sym (le-ltb (position_or_len p xs) (length xs) le) ∙ rest
  ]

-- a place is found where some item passes
pub place_found : {X : Type 0} (p : X → Bool) (xs : List X) → is_some (position p xs) ≡ list_any p xs
place_found p xs = is_some_where (nat_lt (position_or_len p xs) (length xs)) (position_or_len p xs) ∙ lt_place p xs
