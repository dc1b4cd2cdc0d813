use Rattle.gs_view.proofs.Steps.{admits}
use Rattle.gs_view.proofs.desks.Desk.handle.Goals as goal

pub reader-requires : goal.reader-requires
reader-requires c = admits
