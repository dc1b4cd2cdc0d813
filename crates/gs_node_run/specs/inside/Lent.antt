-- For private functions and proofs: what was got of ports so far.
use Rattle.std.specs.Prelude.{◌≡◌, ℕ, List, ◌++◌, Option, Some, None}
use Rattle.std.specs.List.{AllZip}
use Rattle.gs_net.specs.Lending.{Returned}
use Rattle.gs_net.specs.Tales.{OnTold}
use Rattle.gs_net.specs.declared.lending.Ask.{Ask}
use Rattle.gs_node_run.specs.Lending.{SameKind}

-- these objects are the first of all that is asked for, and where the ports tell it, just these were lent
pub record HasGot {In Out Asked : Type 0} (all : List Ask) (objects : List (Returned In Out Asked)) (asked later : Option (List Ask)) : Type 0 where
  pub lent : List Ask
  pub rest : List Ask
  pub front : all ≡ lent ++ rest
  pub kinds : AllZip SameKind lent objects
  pub asked_go : later ≡ OnTold asked (λ before. before ++ lent)

-- one where there is something
abbrev pub one_if : {A : Type 0} → Option A → ℕ
one_if None = 0
one_if (Some a) = 1
