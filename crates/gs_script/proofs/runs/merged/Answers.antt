use Rattle.std.proofs.Common.{rules, ◌≡◌, ◌≤◌, ◌-◌, ◌⊎◌, arith, drop, get_or, length, length-drop, take, true, inl, inr}
use Rattle.std.specs.Result.{is_ok}
use Rattle.std.proofs.lemmas.List.{get_or_default, take_all}
use Rattle.gs_script.specs.declared.run.Run.{Run}
use Rattle.gs_script.proofs.Painting.{merged-all, merged-may, merged-more}
use Rattle.gs_script.proofs.runs.merged.Goals as goal
use Rattle.gs_script.proofs.runs.merged.Goals.{then-loop-i-test+else-k-b, else-loop-i-test}

zero : Run
zero = record { value = 0; until = 0 }

pub add-requires : goal.add-requires
unfolding zero
add-requires c =
    let a = c.args.a.now in
    let b = c.args.b.now in
    let x = get_or a c.loop-i.i zero in
    let y = get_or b c.loop-i.k zero in
    rw (c.max-value.ensures, c.min-until.ensures) (merged-may a b c.loop-i.i c.loop-i.k c.loop-i.items.items x y c.loop-i.invariant c.loop-i-test.true c.if-k-b.true
    (get_or_default a c.loop-i.i zero x c.loop-i-test.true) (get_or_default b c.loop-i.k zero y c.if-k-b.true))

pub loop-i-preserved : goal.loop-i-preserved
unfolding zero
loop-i-preserved c =
    let a = c.args.a.now in
    let b = c.args.b.now in
    let x = get_or a c.loop-i.i zero in
    let y = get_or b c.loop-i.k zero in
    let value = rw (c.max-value.ensures, c.min-until.ensures) at c.in_ok-add.ensures.value in
    let rise = rw (c.max-value.ensures, c.min-until.ensures) at c.in_ok-add.ensures.rise in
    rw (c.passed-i.ensures, c.passed-k.ensures, c.min-until.ensures) (merged-more a b c.loop-i.i c.loop-i.k c.loop-i.items.items c.add.new.items.items x y c.loop-i.invariant c.loop-i-test.true c.if-k-b.true
    (get_or_default a c.loop-i.i zero x c.loop-i-test.true) (get_or_default b c.loop-i.k zero y c.if-k-b.true) value rise)

pub returns-clause-value : goal.returns-clause-value
returns-clause-value c =
    let over : (length c.args.a.now ≤ c.loop-i.i) ⊎ (length c.args.b.now ≤ c.loop-i.k) = elim c.loop-i-test.branch [ then-loop-i-test+else-k-b w ↦ inr w.if-k-b.false | else-loop-i-test w ↦ inl w.loop-i-test.false ] in
    let first : is_ok c.extend_from_slice.result ≡ true = search rules in
    let one = rw first at c.extend_from_slice.ensures.items in
    let second : is_ok c.extend_from_slice-2.result ≡ true = search rules in
    let two = rw second at c.extend_from_slice-2.ensures.items in
    let front : take (length c.args.a.now - c.loop-i.i) (drop c.loop-i.i c.args.a.now) ≡ drop c.loop-i.i c.args.a.now = take_all _ _ (omega (arith, length-drop c.loop-i.i c.args.a.now)) in
    let back : take (length c.args.b.now - c.loop-i.k) (drop c.loop-i.k c.args.b.now) ≡ drop c.loop-i.k c.args.b.now = take_all _ _ (omega (arith, length-drop c.loop-i.k c.args.b.now)) in
    rw (two, one, front, back) (merged-all c.args.a.now c.args.b.now c.loop-i.i c.loop-i.k c.loop-i.items.items c.loop-i.invariant over).0

pub returns-clause-rise : goal.returns-clause-rise
returns-clause-rise c =
    let over : (length c.args.a.now ≤ c.loop-i.i) ⊎ (length c.args.b.now ≤ c.loop-i.k) = elim c.loop-i-test.branch [ then-loop-i-test+else-k-b w ↦ inr w.if-k-b.false | else-loop-i-test w ↦ inl w.loop-i-test.false ] in
    let first : is_ok c.extend_from_slice.result ≡ true = search rules in
    let one = rw first at c.extend_from_slice.ensures.items in
    let second : is_ok c.extend_from_slice-2.result ≡ true = search rules in
    let two = rw second at c.extend_from_slice-2.ensures.items in
    let front : take (length c.args.a.now - c.loop-i.i) (drop c.loop-i.i c.args.a.now) ≡ drop c.loop-i.i c.args.a.now = take_all _ _ (omega (arith, length-drop c.loop-i.i c.args.a.now)) in
    let back : take (length c.args.b.now - c.loop-i.k) (drop c.loop-i.k c.args.b.now) ≡ drop c.loop-i.k c.args.b.now = take_all _ _ (omega (arith, length-drop c.loop-i.k c.args.b.now)) in
    rw (two, one, front, back) (merged-all c.args.a.now c.args.b.now c.loop-i.i c.loop-i.k c.loop-i.items.items c.loop-i.invariant over).1
