use Rattle.gs_view.proofs.Steps.{admits}
use Rattle.gs_view.proofs.desks.Desk.publish.Goals as goal

pub reader-requires : goal.reader-requires
reader-requires g c = admits
