use Rattle.std.proofs.Common.{drop, sym, ◌∙◌, ap, arith, length-drop}
use Rattle.std.proofs.lemmas.List.{take_all}
use Rattle.gs_stamp.specs.Format.{open_ceiling}
use Rattle.gs_stamp.proofs.slots.Slots.of.Goals as goal

pub returns : goal.returns
returns c = record {
  first = sym c.open_ceiling.ensures;
  second = sym (c.open_ceiling-2.ensures ∙ ap open_ceiling (take_all 9 (drop 9 c.args.bytes.now) (omega (arith, length-drop 9 c.args.bytes.now, c.told-bytes))));
}
