-- What a node may be told before it runs.
use Rattle.std.specs.Prelude.{◌≢◌, ◌*◌, ◌^◌, ◌<◌, ◌≤◌, All, length, map}
use Rattle.std.specs.List.Sorted.{IsStrictlyIncreasing}
use Rattle.gs_units.specs.declared.params.Link.{Link}
use Rattle.gs_units.specs.declared.params.NodeParams.{NodeParams}

-- a link whose margin keeps the two triggers apart
pub record HasMargin (link : Link) : Type 0 where
  pub margin : 2 * link.delta < link.kappa
  pub kappa : link.kappa < 2 ^ 62

-- the numbers that a link may have
pub record IsSound (link : Link) : Type 0 where
  pub triggers : HasMargin link
  pub comp : link.comp < 2 ^ 47
  pub jump : link.jump < 2 ^ 47

-- the numbers of parameters fit their fields
pub record FitWords (p : NodeParams) : Type 0 where
  pub cluster : p.cluster < 2 ^ 32
  pub node : p.node < 2 ^ 32
  pub every : p.every < 2 ^ 32
  pub links : All (λ link. link.node < 2 ^ 32) p.links

-- the parameters that a node may run with
pub record AreValid (p : NodeParams) : Type 0 where
  pub ranges : FitWords p
  pub few : length p.links ≤ 511
  pub ascending : IsStrictlyIncreasing (map (λ link. link.node) p.links)
  pub others : All (λ link. link.node ≢ p.node) p.links
  pub sound : All IsSound p.links
  pub iota : p.iota < 2 ^ 47
  pub every : 1 ≤ p.every
