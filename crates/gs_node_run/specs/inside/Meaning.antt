-- For private functions and proofs: the words that the code read, as data.
use Rattle.gs_node_run.specs.Words as spelled
use Rattle.gs_node_run.specs.declared.words.Order.{Order}

-- an order that was read, its word as bytes
abbrev pub meaning : Order → spelled.Order
meaning order = record { plan = order.plan.now; node = order.node; ticks = order.ticks }
