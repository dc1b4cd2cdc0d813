use Rattle.std.proofs.Common.{rules, ◌≡◌}
use Rattle.std.specs.Str.Parse.{ParsesUnsigned}
use Rattle.gs_text.proofs.Decimals.{plain-utf8, parse-plain}
use Rattle.gs_text.proofs.number.value.Goals as goal

pub returns-in_err-ok : goal.returns-in_err-ok
returns-in_err-ok c = grind (rules, plain-utf8 c.args.digits.now c.requires)

pub returns : goal.returns
returns c =
    let same : c.in_ok-ok.field-0.now ≡ c.args.digits.now = search rules in
    let parsed : ParsesUnsigned 64 10 c.args.digits.now c.parse.result = rw (← same) c.parse.ensures.value.0 in
    rw c.ok-2.ensures.value (parse-plain c.args.digits.now c.parse.result c.requires parsed)
