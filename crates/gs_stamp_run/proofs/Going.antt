-- How a run of stamps goes on.
use Rattle.std.proofs.Common.{◌≡◌, ◌⊎◌, inl, inr, ℕ, ◌+◌, ◌^◌, ◌<◌, ◌≤◌, max, List, [], ◌∷◌, ◌++◌, Option, Some, refl, sym, ◌∙◌, ap, subst, arith, append_assoc}
use Rattle.std.proofs.lemmas.List.{append-nil}
use Rattle.gs_io.specs.Held.{Appends, AppendsFront}
use Rattle.gs_stamp.specs.Format.{ceiling_of}
use Rattle.gs_stamp.specs.Restarts.{AllBelow}
use Rattle.gs_stamp.proofs.Rising.{then_rise}
use Rattle.gs_stamp_run.specs.Lines.{IsCut, Wrote, line_of, lines, status_line}
use Rattle.gs_stamp_run.specs.Runs.{Ran, Went}
use Rattle.gs_stamp_run.specs.inside.Turns.{Far}
use Rattle.gs_cli.specs.declared.status.Status.{Status}
use Rattle.gs_clock.specs.Readings.{first_of, rest_of}
use Rattle.gs_cli.specs.declared.status.Status.TheVariants.{Done, StampEnd, WriteFault}
use Rattle.gs_stamp_run.proofs.Exact.{all_first, begun_front, ends_first, none_first, one_first, one_onward}
use Rattle.gs_stamp_run.proofs.Writing.{nothing_appended, then_appends, then_front}

lines-append : (first second : List ℕ) → lines (first ++ second) ≡ lines first ++ lines second
lines-append [] second = refl
lines-append (s ∷ first) second = ap (λ (l : List ℕ). line_of s ++ l) (lines-append first second) ∙ sym (append_assoc (line_of s) (lines first) (lines second))

below_more : (mid next : ℕ) (stamps : List ℕ) → mid ≤ next → AllBelow mid stamps → AllBelow next stamps
below_more mid next [] le below = tt
below_more mid next (s ∷ stamps) le below = (omega (arith, below.0), below_more mid next stamps le below.1)

below-append : (next : ℕ) (first second : List ℕ) → AllBelow next first → AllBelow next second → AllBelow next (first ++ second)
below-append next [] second one two = two
below-append next (s ∷ first) second one two = (one.0, below-append next first second one.1 two)

pub begun : (count low : ℕ) (readings old : Option (List ℕ)) → Far count 0 low low readings readings old old
begun count low readings old = record {
  stamps = [];
  rise = tt;
  below = tt;
  kept = omega arith;
  wrote = nothing_appended old;
  exact = λ rs told. record { later = rs; told = told; front = begun_front count low rs; turns = refl };
}

-- one stamp more
pub one_more : (count turn low mid s next : ℕ) (readings left after_left old now new : Option (List ℕ)) → Far count turn low mid readings left old now → turn < count → mid ≤ s → next ≡ s + 1 → s + 1048576 < 2 ^ 62
    → ((rs : List ℕ) → left ≡ Some rs → (s ≡ max mid (first_of rs)) × (after_left ≡ Some (rest_of rs))) → Appends now new (line_of s) → Far count (turn + 1) low next readings after_left old new
one_more count turn low mid s next readings left after_left old now new far inside rise after room told wrote = record {
  stamps = far.stamps ++ s ∷ [];
  rise = then_rise low mid far.stamps (s ∷ []) far.kept far.rise far.below (rise, tt);
  below = below-append next far.stamps (s ∷ []) (below_more mid next far.stamps (omega arith) far.below) (omega arith, tt);
  kept = omega (arith, far.kept);
  wrote = subst (λ (l : List ℕ). Appends old new l)
      (sym (lines-append far.stamps (s ∷ []) ∙ ap (λ (l : List ℕ). lines far.stamps ++ l) (append-nil (line_of s))))
      (then_appends old now new (lines far.stamps) (line_of s) far.wrote wrote);
  exact = λ rs is. one_onward count turn low mid s next rs far.stamps left after_left inside after room told (far.exact rs is);
}

wrote_more : (first second : List ℕ) (status : Status) (old now new : Option (List ℕ)) → Appends old now (lines first) → Wrote second status now new → Wrote (first ++ second) status old new
wrote_more first second status old now new one (inl whole) =
    inl (subst (λ (l : List ℕ). Appends old new l) (sym (append_assoc (lines first) (lines second) (status_line status)) ∙ ap (λ (l : List ℕ). l ++ status_line status) (sym (lines-append first second)))
    (then_appends old now new (lines first) (lines second ++ status_line status) one whole))
wrote_more first second status old now new one (inr (cut, halt, front)) =
    let tail = status_line halt in
    inr (
      cut,
      halt,
      subst (λ (l : List ℕ). AppendsFront old new l) (sym (append_assoc (lines first) (lines second) tail) ∙ ap (λ (l : List ℕ). l ++ tail) (sym (lines-append first second)))
          (then_front old now new (lines first) (lines second ++ tail) one front),
    )

-- and then the end
pub ends : (count turn n low mid next : ℕ) (readings left : Option (List ℕ)) (status : Status) (old now new : Option (List ℕ)) → Far count turn low mid readings left old now → count ≡ turn + (n + 1) → (status ≡ Done → ⊥)
    → Went (n + 1) mid next left status now new → Went count low next readings status old new
ends count turn n low mid next readings left status old now new far parts undone went = record {
  stamps = far.stamps ++ went.stamps;
  rise = then_rise low mid far.stamps went.stamps far.kept far.rise far.below went.rise;
  below = below-append next far.stamps went.stamps (below_more mid next far.stamps went.kept far.below) went.below;
  kept = omega (arith, far.kept, went.kept);
  wrote = wrote_more far.stamps went.stamps status old now new far.wrote went.wrote;
  exact = λ rs is. let on = far.exact rs is in ends_first count turn n low mid rs far.stamps went.stamps left status parts undone on (went.exact on.later on.told);
}

-- the end behind all turns
pub finished : (count turn low next : ℕ) (readings left old new : Option (List ℕ)) → turn ≡ count → Far count turn low next readings left old new → Went count low next readings Done old new
finished count turn low next readings left old new all far = record {
  stamps = far.stamps;
  rise = far.rise;
  below = far.below;
  kept = far.kept;
  wrote = inl (subst (λ (l : List ℕ). Appends old new l) (sym (append-nil (lines far.stamps))) far.wrote);
  exact = λ rs is. all_first count turn low next rs far.stamps left all (far.exact rs is);
}

-- a run that ends without a further stamp
pub stops : (n low next : ℕ) (readings : Option (List ℕ)) (halt status : Status) (old new : Option (List ℕ)) → next ≡ low → (halt ≡ Done → ⊥) → (status ≡ halt) ⊎ (status ≡ WriteFault)
    → (halt ≡ StampEnd → (rs : List ℕ) → readings ≡ Some rs → 2 ^ 62 ≤ max low (first_of rs) + 1048576) → Wrote [] status old new → Went (n + 1) low next readings status old new
stops n low next readings halt status old new same undone either full wrote = record {
  stamps = [];
  rise = tt;
  below = tt;
  kept = omega arith;
  wrote = wrote;
  exact = λ rs is. none_first n low rs halt status undone either (λ ended. full ended rs is);
}

-- a run whose last stamp has only a prefix of its line
pub cut_short : (n low s next : ℕ) (readings after_left : Option (List ℕ)) (status : Status) (old new : Option (List ℕ)) → low ≤ s → next ≡ s + 1 → s + 1048576 < 2 ^ 62
    → ((rs : List ℕ) → readings ≡ Some rs → (s ≡ max low (first_of rs)) × (after_left ≡ Some (rest_of rs))) → IsCut status → AppendsFront old new (line_of s) → Went (n + 1) low next readings status old new
cut_short n low s next readings after_left status old new rise after room told cut front = record {
  stamps = s ∷ [];
  rise = (rise, tt);
  below = (omega arith, tt);
  kept = omega arith;
  wrote = inr (cut, Done, subst (λ (l : List ℕ). AppendsFront old new l) (sym (append-nil (line_of s ++ []) ∙ append-nil (line_of s))) front);
  exact = λ rs is. one_first n low s rs status room (told rs is).0 cut;
}

-- the line of a status
pub line_written : (status : Status) (old new : Option (List ℕ)) → Appends old new (status_line status) → Wrote [] status old new
line_written status old new whole = inl whole

-- a run over an opened store, from its parts
pub opened : (count low next : ℕ) (read readings : Option (List ℕ)) (may_leave : List ℕ → Type 0) (status : Status) (old new : Option (List ℕ))
    → ((bytes : List ℕ) → read ≡ Some bytes → low ≡ ceiling_of bytes) → Went count low next readings status old new → ((c : List ℕ) → may_leave c → next ≤ ceiling_of c)
    → Ran count read readings may_leave status old new
opened count low next read readings may_leave status old new from went above = record {
  low = low;
  next = next;
  from = from;
  went = went;
  above = above;
  run = λ c left. record {
    rise = went.rise;
    below = below_more next (ceiling_of c) went.stamps (above c left) went.below;
    kept = omega (arith, went.kept, above c left);
  };
}
