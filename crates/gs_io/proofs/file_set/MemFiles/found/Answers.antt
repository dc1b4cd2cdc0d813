use Rattle.std.proofs.Common.{rules, ◌≡◌, false, map, string_bytes}
use Rattle.gs_io.specs.Causes.{is_to_fail}
use Rattle.gs_io.proofs.file_set.MemFiles.found.Goals as goal

pub returns-clause-some : goal.returns-clause-some
returns-clause-some c =
    let unnamed : is_to_fail c.args.self.now.fails c.args.self.now.calls ≡ false = search rules in
    let files : c.args.self.now.files ≡ map (λ file. (string_bytes file.0, file.1.items)) c.deref-2.result.now = search rules in
    rw (unnamed, files) c.first_of.ensures.first

pub returns-clause-none : goal.returns-clause-none
returns-clause-none c =
    let unnamed : is_to_fail c.args.self.now.fails c.args.self.now.calls ≡ false = search rules in
    let files : c.args.self.now.files ≡ map (λ file. (string_bytes file.0, file.1.items)) c.deref-2.result.now = search rules in
    rw (unnamed, files) c.first_of.ensures.no_file
