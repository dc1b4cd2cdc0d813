use Rattle.std.proofs.Common.{◌≡◌, ◌++◌, drop}
use Rattle.std.specs.List.{flat_map}
use Rattle.gs_gen.specs.Texts.{field_of}
use Rattle.gs_gen.proofs.records.write_record.Given as goal

abbrev pub invariant-loop-i : goal.invariant-loop-i
invariant-loop-i l = l.text ++ flat_map field_of (drop l.i l.numbers) ≡ l.fn.text ++ l.word ++ flat_map field_of l.numbers
