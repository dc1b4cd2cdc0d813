use Rattle.gs_view.proofs.Steps.{reads}
use Rattle.gs_view.proofs.handles.Handle.look.Goals as goal

pub enter_as-requires : goal.enter_as-requires
enter_as-requires c = reads _ _
