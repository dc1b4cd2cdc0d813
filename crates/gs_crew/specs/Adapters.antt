-- What the crew of threads shows.
use Rattle.std.specs.Prelude.{ℕ}
use Rattle.gs_crew.specs.declared.thread_crew.ThreadCrew.{ThreadCrew}

-- for how many starts there was no memory or no thread
abbrev pub starts_failed : ThreadCrew → ℕ
starts_failed crew = crew.faults
