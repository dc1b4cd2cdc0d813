-- Which stamps a run issues, where the readings are told.
use Rattle.std.proofs.Common.{◌≡◌, ◌⊎◌, inl, inr, ℕ, suc, ◌+◌, ◌-◌, ◌^◌, ◌<◌, ◌≤◌, nat_lt, max, List, [], ◌∷◌, ◌++◌, Option, Some, None, Bool, true, false, refl, sym, ◌∙◌, ap, arith, append_assoc, length-append}
use Rattle.std.proofs.lemmas.Bool.Decides.{nat_tests}
use Rattle.gs_clock.specs.Readings.{Reads, first_of, rest_of}
use Rattle.gs_stamp_run.specs.Lines.{IsCut}
use Rattle.gs_stamp_run.specs.Issued.{AreFirst, issued}
use Rattle.gs_stamp_run.specs.inside.Turns.{Onward}
use Rattle.gs_cli.specs.declared.status.Status.{Status}
use Rattle.gs_cli.specs.declared.status.Status.TheVariants.{Done, StampEnd, WriteFault}

pub reads_told : (old new : Option (List ℕ)) (n : ℕ) (rs : List ℕ) → Reads old new n → old ≡ Some rs → (n ≡ first_of rs) × (new ≡ Some (rest_of rs))
reads_told None new n rs reads is = absurd (cc)
reads_told (Some xs) new n rs reads is =
    let same : xs ≡ rs = cc in
    (reads.0 ∙ ap first_of same, reads.1 ∙ ap (λ l. Some (rest_of l)) same)

-- the first of the stamps
issued_one : (n low s : ℕ) (rs : List ℕ) → s + 1048576 < 2 ^ 62 → s ≡ max low (first_of rs) → issued (suc n) low rs ≡ s ∷ issued n (s + 1) (rest_of rs)
issued_one n low s rs room is = go (nat_lt (max low (first_of rs) + 1048576) (2 ^ 62)) refl
  where
    here : max low (first_of rs) + 1048576 < 2 ^ 62
    here = omega (arith, room, is)

    go : (less : Bool) → nat_lt (max low (first_of rs) + 1048576) (2 ^ 62) ≡ less → issued (suc n) low rs ≡ s ∷ issued n (s + 1) (rest_of rs)
    go true less = rw (less, is) refl
    go false less = absurd (grind (arith, nat_tests, here))

issued_none : (n low : ℕ) (rs : List ℕ) → 2 ^ 62 ≤ max low (first_of rs) + 1048576 → issued (suc n) low rs ≡ []
issued_none n low rs full = go (nat_lt (max low (first_of rs) + 1048576) (2 ^ 62)) refl
  where
    go : (less : Bool) → nat_lt (max low (first_of rs) + 1048576) (2 ^ 62) ≡ less → issued (suc n) low rs ≡ []
    go true less = absurd (grind (arith, nat_tests, full))
    go false less = rw less refl

pub begun_front : (count low : ℕ) (rs : List ℕ) → issued count low rs ≡ [] ++ issued (count - 0) low rs
begun_front count low rs = let same : count - 0 ≡ count = omega arith in ap (λ (k : ℕ). issued k low rs) (sym same)

pub one_onward : (count turn low mid s next : ℕ) (rs stamps : List ℕ) (left after_left : Option (List ℕ)) → turn < count → next ≡ s + 1 → s + 1048576 < 2 ^ 62
    → ((xs : List ℕ) → left ≡ Some xs → (s ≡ max mid (first_of xs)) × (after_left ≡ Some (rest_of xs))) → Onward count turn low mid rs stamps left → Onward count (turn + 1) low next rs (stamps ++ s ∷ []) after_left
one_onward count turn low mid s next rs stamps left after_left inside after room told on =
    let at = told on.later on.told in
    let more : count - turn ≡ suc (count - (turn + 1)) = omega arith in
    let step : issued (count - turn) mid on.later ≡ s ∷ issued (count - (turn + 1)) next (rest_of on.later) =
    ap (λ (k : ℕ). issued k mid on.later) more ∙ issued_one (count - (turn + 1)) mid s on.later room at.0 ∙ ap (λ (k : ℕ). s ∷ issued (count - (turn + 1)) k (rest_of on.later)) (sym after) in
    record {
      later = rest_of on.later;
      told = at.1;
      front = on.front ∙ ap (λ (l : List ℕ). stamps ++ l) step ∙ sym (append_assoc stamps (s ∷ []) (issued (count - (turn + 1)) next (rest_of on.later)));
      turns = length-append stamps (s ∷ []) ∙ omega (arith, on.turns);
    }

pub ends_first : (count turn n low mid : ℕ) (rs stamps others : List ℕ) (left : Option (List ℕ)) (status : Status) → count ≡ turn + (n + 1) → (status ≡ Done → ⊥)
    → (on : Onward count turn low mid rs stamps left) → AreFirst (n + 1) mid on.later others status → AreFirst count low rs (stamps ++ others) status
ends_first count turn n low mid rs stamps others left status parts undone on first =
    let over : count - turn ≡ n + 1 = omega arith in record {
      rest = first.rest;
      front = on.front ∙ ap (λ (k : ℕ). stamps ++ issued k mid on.later) over ∙ ap (λ (l : List ℕ). stamps ++ l) first.front ∙ sym (append_assoc stamps others first.rest);
      done = λ is. absurd (undone is);
      ended = λ is. ((first.ended is).0, omega (arith, length-append stamps others, (first.ended is).1, on.turns));
    }

pub all_first : (count turn low next : ℕ) (rs stamps : List ℕ) (left : Option (List ℕ)) → turn ≡ count → Onward count turn low next rs stamps left → AreFirst count low rs stamps Done
all_first count turn low next rs stamps left all on =
    let over : count - turn ≡ 0 = omega arith in record {
      rest = [];
      front = on.front ∙ ap (λ (k : ℕ). stamps ++ issued k next on.later) over;
      done = λ is. (refl, on.turns ∙ all);
      ended = λ is. absurd (cc);
    }

pub none_first : (n low : ℕ) (rs : List ℕ) (halt status : Status) → (halt ≡ Done → ⊥) → (status ≡ halt) ⊎ (status ≡ WriteFault) → (halt ≡ StampEnd → 2 ^ 62 ≤ max low (first_of rs) + 1048576) → AreFirst (n + 1) low rs [] status
none_first n low rs halt status undone either full = record {
  rest = issued (n + 1) low rs;
  front = refl;
  done = λ is. absurd (not_done either is);
  ended = λ is. (ended_is either is, omega arith);
}
  where
    not_done : (status ≡ halt) ⊎ (status ≡ WriteFault) → status ≡ Done → ⊥
    not_done (inl same) is = undone (sym same ∙ is)
    not_done (inr failed) is = cc

    ended_is : (status ≡ halt) ⊎ (status ≡ WriteFault) → status ≡ StampEnd → issued (n + 1) low rs ≡ []
    ended_is (inl same) is = let more : n + 1 ≡ suc n = omega arith in ap (λ (k : ℕ). issued k low rs) more ∙ issued_none n low rs (full (sym same ∙ is))
    ended_is (inr failed) is = absurd (cc)

pub one_first : (n low s : ℕ) (rs : List ℕ) (status : Status) → s + 1048576 < 2 ^ 62 → s ≡ max low (first_of rs) → IsCut status → AreFirst (n + 1) low rs (s ∷ []) status
one_first n low s rs status room is cut =
    let more : n + 1 ≡ suc n = omega arith in record {
      rest = issued n (s + 1) (rest_of rs);
      front = ap (λ (k : ℕ). issued k low rs) more ∙ issued_one n low s rs room is;
      done = λ d. absurd (not_done cut d);
      ended = λ d. absurd (not_ended cut d);
    }
  where
    not_done : IsCut status → status ≡ Done → ⊥
    not_done (inl failed) d = cc
    not_done (inr short) d = cc

    not_ended : IsCut status → status ≡ StampEnd → ⊥
    not_ended (inl failed) d = cc
    not_ended (inr short) d = cc
