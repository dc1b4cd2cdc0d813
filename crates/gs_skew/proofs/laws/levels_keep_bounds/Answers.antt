use Rattle.std.proofs.Common.{IsTrue, ◌/◌}
use Rattle.gs_units.specs.Rates.{bound_at}
use Rattle.gs_skew.proofs.Bounded.{edges_keep_bound, keeps_bound}
use Rattle.gs_skew.proofs.laws.levels_keep_bounds.Goals as goal

pub returns-clause-pairs : goal.returns-clause-pairs
returns-clause-pairs c = λ n last adj kappa weight row lo r q skew net s t v w ht hv hw.
    keeps_bound n last (λ a b. IsTrue (adj a b)) kappa weight row lo r q skew net.rows net.weights net.drift net.strong s t v ht hv w hw

pub returns-clause-edges : goal.returns-clause-edges
returns-clause-edges c = λ n last adj kappa weight row lo r q skew net s t v w ht hv hw next.
    edges_keep_bound n last (λ a b. IsTrue (adj a b)) kappa weight row s (bound_at skew (q / r) r s) net.weights
    (keeps_bound n last (λ a b. IsTrue (adj a b)) kappa weight row lo r q skew net.rows net.weights net.drift net.strong s) t v w ht hv hw next
