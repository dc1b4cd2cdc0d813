use Rattle.std.proofs.Common.{◌≡◌, List, ℕ, None, refl, subst, sym}
use Rattle.gs_level.specs.Reports.{first_edge}
use Rattle.gs_level.proofs.Places.{edge_named}
use Rattle.gs_level.proofs.laws.edges_are_named.Goals as goal

pub returns : goal.returns
returns c = λ edges rows. (edge_named edges rows, λ none. subst (λ (es : List (ℕ × ℕ)). first_edge es rows ≡ None) (sym none) refl)
