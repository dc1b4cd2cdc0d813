use Rattle.std.proofs.Common.{◌≡◌, ◌∙◌, ◌+◌, ◌<◌, length, length-append, ◌∷◌, [], sym, ap, get_or, arith, rules, true, Ok}
use Rattle.std.specs.Result.{is_ok}
use Rattle.std.proofs.lemmas.List.Elements.{All-push}
use Rattle.csv.specs.Records.{Row, fields_of}
use Rattle.gs_plan.specs.Plans.{text_of}
use Rattle.gs_script.specs.inside.Kept.{Fits, IsSpan}
use Rattle.gs_script.specs.Reading.{line_at}
use Rattle.gs_script.proofs.Folded.{lines-more}
use Rattle.gs_script.proofs.read.lines_from.Goals as goal

pub loop-i-preserved : goal.loop-i-preserved
loop-i-preserved c =
    let t = text_of c.args.plan.now in
    let i = c.loop-i.i in
    let rows = c.args.rows.now in
    let row = c.index-rows-i.result in
    let there : i < length rows = omega arith in
    let good : is_ok c.push.result ≡ true = search rules in
    let items = rw good at c.push.ensures.items in
    let shift : (i + 1) + 2 ≡ (i + 2) + 1 = omega arith in
    let read : line_at t c.args.quanta (i + 2) (fields_of (get_or rows i row)) ≡ Ok c.in_ok-line.line =
    ap (λ (r : Row). line_at t c.args.quanta (i + 2) (fields_of r)) (sym c.index-rows-i.is) ∙ sym c.in_ok-line.ensures.value in
    rw (items, shift) (record {
      read = c.loop-i.invariant.read ∙ lines-more t c.args.quanta (i + 2) i rows row c.loop-i.lines.items c.in_ok-line.line there read;
      fits = All-push (Fits t) c.loop-i.lines.items c.in_ok-line.line c.loop-i.invariant.fits c.in_ok-line.ensures.fits;
      spans = All-push (λ x. IsSpan x.span) c.loop-i.lines.items c.in_ok-line.line c.loop-i.invariant.spans c.in_ok-line.ensures.span;
      few = (let few = c.loop-i.invariant.few in omega (arith, few, length-append c.loop-i.lines.items (c.in_ok-line.line ∷ [])));
    })
