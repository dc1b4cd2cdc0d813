-- What is known of a task that runs.
use Rattle.gs_crew.specs.declared.tasks.Running.{Running}

-- the task as it was when it was started
abbrev pub begun_as : {T Name : Type 0} → Running T Name → T
begun_as running = running.handle.promise.0.value
