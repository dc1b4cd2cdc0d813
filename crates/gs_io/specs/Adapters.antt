-- What the real adapters show.
use Rattle.std.specs.Prelude.{ℕ, List, Option}
use Rattle.gs_io.specs.declared.file_set.OsFiles.{OsFiles}
use Rattle.gs_io.specs.declared.sinks.StdSink.{StdSink}

-- how often a read of these files has failed
abbrev pub times_unread : {R : Type 0} → OsFiles R → ℕ
times_unread files = files.faults

-- what this stream holds, where its writer tells it
abbrev pub told_by : {W : Type 0} → (W → Option (List ℕ)) → StdSink W → Option (List ℕ)
told_by contents sink = contents sink.stream

-- how often this stream has failed
abbrev pub times_failed : {W : Type 0} → StdSink W → ℕ
times_failed sink = sink.faults
