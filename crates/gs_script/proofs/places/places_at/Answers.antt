use Rattle.std.proofs.Common.{rules, ◌≡◌, ◌∙◌, ◌-◌, ◌++◌, [], ◌∷◌, ℕ, List, ap, sym, true, false}
use Rattle.std.specs.Result.{is_ok}
use Rattle.gs_script.specs.declared.line.Line.{Line}
use Rattle.gs_script.specs.inside.Kept.{home, is_same}
use Rattle.gs_script.proofs.Latest.{latest_down-more, latest_down-same}
use Rattle.gs_script.proofs.places.places_at.Goals as goal

pub loop-i-preserved-in-Continue-1 : goal.loop-i-preserved-in-Continue-1
loop-i-preserved-in-Continue-1 c =
    let i = c.loop-i.i in
    let good : is_ok c.push.result ≡ true = search rules in
    let items = rw good at c.push.ensures.items in
    items ∙ ap (λ (xs : List ℕ). xs ++ (i - 1) ∷ []) c.loop-i.invariant
    ∙ sym (latest_down-more (λ s. is_same (home s) c.args.who) c.args.lines.now i c.loop-i-test.true c.loop-i.auto.i
    (λ l. sym (c.is_kept_by.ensures c.args.lines.now l c.requires.homes) ∙ c.if-is_kept_by.true))

pub loop-i-preserved : goal.loop-i-preserved
loop-i-preserved c =
    c.loop-i.invariant
    ∙ sym (latest_down-same (λ s. is_same (home s) c.args.who) c.args.lines.now c.loop-i.i c.loop-i-test.true c.loop-i.auto.i
    (λ l. sym (c.is_kept_by.ensures c.args.lines.now l c.requires.homes) ∙ c.if-is_kept_by.false))
