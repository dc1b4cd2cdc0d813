-- The words of the command `node`.
use Rattle.std.specs.Prelude.{ℕ, ◌-◌, ◌^◌, List, [], ◌∷◌, Option, Some, None, if◌then◌else◌, codes}
use Rattle.std.specs.Str.{bytes_eq}
use Rattle.gs_cli.specs.Words.{number_within}

-- what the words ask for: the word of the plan, the node, and how many turns its timer takes
pub record Order : Type 0 where
  pub plan : List ℕ
  pub node : ℕ
  pub ticks : ℕ

-- an order, where both numbers are within their bounds
abbrev pub ordered : List ℕ → Option ℕ → Option ℕ → Option Order
ordered plan None ticks = None
ordered plan (Some node) None = None
ordered plan (Some node) (Some ticks) = Some (record { plan = plan; node = node; ticks = ticks })

-- the order of `PLAN NODE TICKS`
abbrev pub order_in : List (List ℕ) → Option Order
order_in (plan ∷ node ∷ ticks ∷ []) = ordered plan (number_within 0 (2 ^ 32 - 1) node) (number_within 1 1048576 ticks)
order_in _ = None

-- the order of the words `node PLAN NODE TICKS`
abbrev pub order_of : List (List ℕ) → Option Order
order_of (name ∷ args) = if bytes_eq name (codes "node") then order_in args else None
order_of _ = None
