use Rattle.std.proofs.Common.{◌≡◌, ◌+◌, ◌-◌, ◌<◌, ◌≤◌, ℕ, arith, ap, sym, subst, true, false, length, slice_index_or, rules}
use Rattle.gs_plan.proofs.Telling.{plan_is_graph}
use Rattle.gs_piece.specs.Senders.{IsFirstSender, NoneSends}
use Rattle.gs_piece.proofs.Turns.{first_sends, none_sends}
use Rattle.gs_piece.proofs.piece.Piece.first_sender.Goals as goal

pub overflow_cast-result : goal.overflow_cast-result
overflow_cast-result c =
    let p = c.requires.0 in
    let few = (plan_is_graph p.text p.topo p.accepted p.graph).few in
    let sends = c.args.self.now.nodes.sends.items in
    let place = c.saturating_sub-place.result in
    let found : (place ≤ c.in-Some.i) × (c.in-Some.i < length sends) × (slice_index_or sends c.in-Some.i false ≡ true) × ((k : ℕ) → place ≤ k → k < c.in-Some.i → slice_index_or sends k false ≡ false) = search rules in
    let is = c.requires.8.nodes in
    let inside = is.inside in
    let long = is.sends in
    let less = found.1 in
    record { fits = omega (arith, few, inside, long, less) }

pub overflow_add-result : goal.overflow_add-result
overflow_add-result c =
    let p = c.requires.0 in
    let few = (plan_is_graph p.text p.topo p.accepted p.graph).few in
    let sends = c.args.self.now.nodes.sends.items in
    let place = c.saturating_sub-place.result in
    let found : (place ≤ c.in-Some.i) × (c.in-Some.i < length sends) × (slice_index_or sends c.in-Some.i false ≡ true) × ((k : ℕ) → place ≤ k → k < c.in-Some.i → slice_index_or sends k false ≡ false) = search rules in
    let is = c.requires.8.nodes in
    let inside = is.inside in
    let long = is.sends in
    let first = is.first in
    let less = found.1 in
    record { fits = omega (arith, few, inside, long, less, first) }

pub returns-in-Some-clause-some : goal.returns-in-Some-clause-some
returns-in-Some-clause-some c = λ net course by a b m t is.
    let sends = c.args.self.now.nodes.sends.items in
    let place = c.saturating_sub-place.result in
    let found : (place ≤ c.in-Some.i) × (c.in-Some.i < length sends) × (slice_index_or sends c.in-Some.i false ≡ true) × ((k : ℕ) → place ≤ k → k < c.in-Some.i → slice_index_or sends k false ≡ false) = search rules in
    let at = c.saturating_sub-place.ensures in
    let low = found.0 in
    let less = found.1 in
    let long = is.nodes.sends in
    let first = is.nodes.first in
    let same : a + c.in-Some.i ≡ c.args.self.now.nodes.first + c.in-Some.i = omega (arith, first) in
    subst (IsFirstSender net course c.args.from a b m t) same
    (first_sends net course by a b m t c.args.from c.in-Some.i c.args.self.now.nodes (omega (arith, long, less)) (omega (arith, at, low, first)) found.2 (λ k from less. found.3 k (omega (arith, at, from, first)) less) is.nodes)

pub returns-in-None-clause-none : goal.returns-in-None-clause-none
returns-in-None-clause-none c = λ net course by a b m t is.
    let sends = c.args.self.now.nodes.sends.items in
    let place = c.saturating_sub-place.result in
    let none : (k : ℕ) → place ≤ k → k < length sends → slice_index_or sends k false ≡ false = search rules in
    let at = c.saturating_sub-place.ensures in
    let long = is.nodes.sends in
    let first = is.nodes.first in
    none_sends net course by a b m t c.args.from c.args.self.now.nodes (λ k from less. none k (omega (arith, at, from, first)) (omega (arith, less, long))) is.nodes
