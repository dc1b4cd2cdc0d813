-- What `==` answers of links and parameters.
use Rattle.std.proofs.Common.{◌≡◌, Bool, List, subst, sym}
use Rattle.std.specs.Bool.{Decides}
use Rattle.gs_units.specs.Equality.{same_links, same_links-Decides, same_params, same_params-Decides}
use Rattle.gs_units.specs.declared.params.Link.{Link}
use Rattle.gs_units.specs.declared.params.NodeParams.{NodeParams}

pub links_decided : (r : Bool) (a b : List Link) → r ≡ same_links a b → Decides r (a ≡ b)
links_decided r a b is = subst (λ x. Decides x (a ≡ b)) (sym is) (same_links-Decides a b)

pub params_decided : (r : Bool) (a b : NodeParams) → r ≡ same_params a b → Decides r (a ≡ b)
params_decided r a b is = subst (λ x. Decides x (a ≡ b)) (sym is) (same_params-Decides a b)
