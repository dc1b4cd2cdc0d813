use Rattle.std.proofs.Common.{◌≡◌, drop, map, string_bytes}
use Rattle.gs_io.specs.Held.{first_named}
use Rattle.gs_io.proofs.file_set.first_of.Given as goal

abbrev pub invariant-loop-held : goal.invariant-loop-held
invariant-loop-held l = first_named (map (λ file. (string_bytes file.0, file.1.items)) l.fn.files) l.fn.name ≡ first_named (map (λ file. (string_bytes file.0, file.1.items)) (drop l.held-index l.fn.files)) l.fn.name
