use Rattle.std.proofs.Common.{◌≡◌, ◌+◌, ◌<◌, ◌≤◌, ℕ, suc, arith, ap, sym, ◌∙◌, inl, inr, List, length, slice_index, slice_index_or, slice_set, true, false, get_or-set_same, get_or-set_other, length-set, rules}
use Rattle.std.proofs.lemmas.Bool.{cases_eq, cases_lt, false≢true}
use Rattle.gs_run.specs.Nets.{net_of}
use Rattle.gs_calendar.specs.Course.{course_of}
use Rattle.gs_piece.specs.Columns.{clock_at}
use Rattle.gs_piece.proofs.Blocks.{count_all, count_next}
use Rattle.gs_piece.proofs.columns.set_fast.Goals as goal

pub loop-i-preserved : goal.loop-i-preserved
loop-i-preserved c =
    let flags = c.args.fast.now in
    let from = c.loop-i.from in
    let at = c.in-Some.i in
    let r = c.next_clock.result in
    let before = c.loop-i.clocks in
    let was = c.loop-i.invariant in
    let found : (from ≤ at) × (at < length flags) × (slice_index_or flags at false ≡ true) × ((k : ℕ) → from ≤ k → k < at → slice_index_or flags k false ≡ false) = search rules in
    let low = found.0 in
    let inside = found.1 in
    let few = was.few in
    let count = was.count in
    let long = c.requires.clocks in
    record {
      count = length-set before at r ∙ was.count;
      inside = omega (arith, inside);
      slow = λ k h slow. elim (cases_eq k at) [
        | inl same ↦ absurd (false≢true (sym slow ∙ ap (λ (j : ℕ). slice_index_or flags j false) same ∙ found.2))
        | inr other ↦ get_or-set_other before at k r 0 other ∙ was.slow k h slow
      ];
      fast = λ p s by a m k are h fast. elim (cases_eq k at) [
        | inl same ↦ ap (λ (j : ℕ). slice_index (slice_set before at r) j) same ∙ get_or-set_same before at r 0 (omega (arith, inside, count, long))
            ∙ c.next_clock.ensures p s by a m are ∙ ap (λ (j : ℕ). clock_at (net_of p) (course_of s) (suc c.args.t) (a + j)) (sym same)
        | inr other ↦ get_or-set_other before at k r 0 other ∙ elim (cases_lt k from) [
          | inl less ↦ was.fast p s by a m k are less fast
          | inr left ↦ absurd (false≢true (sym (found.3 k left (omega (arith, h, other))) ∙ fast))
        ]
      ];
      number = ap (λ (n : ℕ). n + 1) was.number ∙ sym (count_next flags from at low inside found.2 found.3);
      few = omega (arith, few, low);
    }

pub returns-clause-fast : goal.returns-clause-fast
returns-clause-fast c = λ p s by a m i are inside fast.
    let flags = c.args.fast.now in
    let none : (k : ℕ) → c.loop-i.from ≤ k → k < length flags → slice_index_or flags k false ≡ false = search rules in
    elim (cases_lt i c.loop-i.from) [
      | inl less ↦ c.loop-i.invariant.fast p s by a m i are less fast
      | inr left ↦ absurd (false≢true (sym (none i left inside) ∙ fast))
    ]

pub returns-clause-number : goal.returns-clause-number
returns-clause-number c =
    let flags = c.args.fast.now in
    let none : (k : ℕ) → c.loop-i.from ≤ k → k < length flags → slice_index_or flags k false ≡ false = search rules in
    c.loop-i.invariant.number ∙ sym (count_all flags c.loop-i.from c.loop-i.invariant.inside none)
