use Rattle.std.proofs.Common.{All, false, map, ◌≡◌, ◌<◌, ◌^◌, ◌∙◌, ap, arith, length, List, subst, sym, ℕ, slice_index_or}
use Rattle.gs_core.specs.declared.event.Event.TheVariants.{Quantum}
use Rattle.gs_run.specs.Nets.{net_of}
use Rattle.gs_world.specs.Placed.{Placed}
use Rattle.gs_world.specs.inside.Seen.{world_in}
use Rattle.gs_run.specs.World.{effect}
use Rattle.gs_run.specs.Fast.{is_fast}
use Rattle.gs_world.specs.inside.Members.{AreSlowClocks, IsReadable, advance_members, clock_at, sums}
use Rattle.gs_world.specs.declared.member.Member.{Member as Seat}
use Rattle.gs_world.proofs.Advancing.{advances, after_quantum, clocks_may, may_inside, seats_next}
use Rattle.gs_world.proofs.Placing.{count_inside, seat_at}
use Rattle.gs_world.proofs.world.World.advance.Goals as goal

pub advance_members-requires-clause-count : goal.advance_members-requires-clause-count
advance_members-requires-clause-count c =
    let a = c.self.inside in
    let count = (may_inside a c.args.self.now c.args.incs.now c.self.view_is c.in_ok-self-inside.ensures.ok).count in
    let seats = count_inside a c.self.invariant in
    let same : length c.deref_mut.result.now ≡ length a.members.items =
    ap (λ (ss : List Seat). length ss) c.deref_mut.ensures.value in
    count ∙ sym seats ∙ sym same

pub advance_members-requires-clause-room : goal.advance_members-requires-clause-room
advance_members-requires-clause-room c =
    let a = c.self.inside in
    let count = count_inside a c.self.invariant in
    subst (λ (ss : List Seat). (k : ℕ) (d : Seat) → k < length ss → (slice_index_or ss k d).reading < 2 ^ 62)
    (sym c.deref_mut.ensures.value)
    (λ k d h. (seat_at a c.self.invariant k d (omega (arith, count, h))).short.reading)

pub advance_clocks-requires-clause-count : goal.advance_clocks-requires-clause-count
advance_clocks-requires-clause-count c =
    let may = clocks_may c.self.inside c.args.self.now c.args.incs.now c.self.invariant c.self.view_is c.in_ok-self-inside.ensures.ok in
    may.count ∙ sym (ap (λ (xs : List ℕ). length xs) c.deref_mut-2.ensures.value)

pub advance_clocks-requires-clause-room : goal.advance_clocks-requires-clause-room
advance_clocks-requires-clause-room c =
    let may = clocks_may c.self.inside c.args.self.now c.args.incs.now c.self.invariant c.self.view_is c.in_ok-self-inside.ensures.ok in
    subst (λ (xs : List ℕ). All (λ x. x < 2 ^ 62) xs) (sym c.deref_mut-2.ensures.value) may.room

pub advance_clocks-requires-clause-readable : goal.advance_clocks-requires-clause-readable
advance_clocks-requires-clause-readable c =
    let may = clocks_may c.self.inside c.args.self.now c.args.incs.now c.self.invariant c.self.view_is c.in_ok-self-inside.ensures.ok in
    let next =
    seats_next c.self.inside c.args.self.now c.args.incs.now c.deref_mut.result.now c.advance_members.new.members
    c.self.invariant c.self.view_is c.in_ok-self-inside.ensures.ok c.deref_mut.ensures.value c.advance_members.ensures in
    let seats : c.deref.result.now ≡ advance_members c.self.inside.members.items c.args.incs.now =
    c.deref.ensures.value ∙ next.0 ∙ next.1 in
    subst (λ (ss : List Seat). All IsReadable ss) (sym seats) may.readable

pub advance_clocks-requires-clause-slow : goal.advance_clocks-requires-clause-slow
advance_clocks-requires-clause-slow c =
    let may = clocks_may c.self.inside c.args.self.now c.args.incs.now c.self.invariant c.self.view_is c.in_ok-self-inside.ensures.ok in
    let next =
    seats_next c.self.inside c.args.self.now c.args.incs.now c.deref_mut.result.now c.advance_members.new.members
    c.self.invariant c.self.view_is c.in_ok-self-inside.ensures.ok c.deref_mut.ensures.value c.advance_members.ensures in
    let seats : c.deref.result.now ≡ advance_members c.self.inside.members.items c.args.incs.now =
    c.deref.ensures.value ∙ next.0 ∙ next.1 in
    subst (λ (xs : List ℕ). AreSlowClocks c.deref.result.now (sums xs c.args.incs.now)) (sym c.deref_mut-2.ensures.value)
    (subst (λ (ss : List Seat). AreSlowClocks ss (sums c.self.inside.clocks.items c.args.incs.now)) (sym seats) may.slow)

pub advance_clocks-requires-clause-none_fast : goal.advance_clocks-requires-clause-none_fast
advance_clocks-requires-clause-none_fast c =
    let may = clocks_may c.self.inside c.args.self.now c.args.incs.now c.self.invariant c.self.view_is c.in_ok-self-inside.ensures.ok in
    let next =
    seats_next c.self.inside c.args.self.now c.args.incs.now c.deref_mut.result.now c.advance_members.new.members
    c.self.invariant c.self.view_is c.in_ok-self-inside.ensures.ok c.deref_mut.ensures.value c.advance_members.ensures in
    let seats : c.deref.result.now ≡ advance_members c.self.inside.members.items c.args.incs.now =
    c.deref.ensures.value ∙ next.0 ∙ next.1 in
    λ none.
    subst (λ (ss : List Seat). All (λ s. is_fast s.core.node.mode ≡ false) ss) (sym seats) (may.none_fast none)

pub invariant_of-self : goal.invariant_of-self
invariant_of-self c =
    (advances c.self.inside c.args.self.now c.args.incs.now c.deref_mut.result.now c.advance_members.new.members c.advance_clocks.new.clocks c.in_ok-self-inside.field-0 c.self.invariant c.self.view_is c.in_ok-self-inside.ensures.ok
    c.in_ok-self-inside.ensures.deadlines c.deref_mut.ensures.value c.advance_members.ensures
    (c.advance_clocks.ensures ∙ ap (map clock_at) (c.deref.ensures.value ∙ (seats_next c.self.inside c.args.self.now c.args.incs.now c.deref_mut.result.now c.advance_members.new.members c.self.invariant c.self.view_is c.in_ok-self-inside.ensures.ok c.deref_mut.ensures.value c.advance_members.ensures).0))).inside

pub returns-clause-effect : goal.returns-clause-effect
returns-clause-effect c =
    let done =
    advances c.self.inside c.args.self.now c.args.incs.now c.deref_mut.result.now c.advance_members.new.members
    c.advance_clocks.new.clocks c.in_ok-self-inside.field-0 c.self.invariant c.self.view_is c.in_ok-self-inside.ensures.ok
    c.in_ok-self-inside.ensures.deadlines c.deref_mut.ensures.value c.advance_members.ensures
    (c.advance_clocks.ensures ∙ ap (map clock_at) (c.deref.ensures.value ∙ (seats_next c.self.inside c.args.self.now c.args.incs.now c.deref_mut.result.now c.advance_members.new.members c.self.invariant c.self.view_is c.in_ok-self-inside.ensures.ok c.deref_mut.ensures.value c.advance_members.ensures).0)) in
    subst
    (λ (p : Placed). world_in (after_quantum c.self.inside c.advance_members.new.members c.advance_clocks.new.clocks c.in_ok-self-inside.field-0) ≡ effect (net_of p.plan) p.world (Quantum c.args.incs.now)) c.self.view_is done.world
