use Rattle.std.proofs.Common.{rules, arith, ◌≡◌, ◌+◌, ◌++◌, ◌%◌, List, Option, None, is_some, refl, sym, ◌∙◌, subst, ap, ℕ}
use Rattle.gs_beacon.specs.declared.beacon.Beacon.{Beacon}
use Rattle.gs_net.specs.Tales.{Moves}
use Rattle.gs_net.specs.declared.items.Got.{Got}
use Rattle.gs_net.specs.declared.items.Got.TheVariants.{Ended, Quiet}
use Rattle.gs_board.specs.declared.told.Told.{Told}
use Rattle.gs_callers.specs.Items.{one_if_none}
use Rattle.gs_callers.specs.Seats.{as_list, beacons_of}
use Rattle.gs_callers.specs.inside.Accounts.{Accounts}
use Rattle.gs_callers.proofs.Taking.{datagram_accounts, ended_same, left_none, quiet_accounts, same_accounts, stops_datagram}
use Rattle.gs_callers.proofs.receiver.Receiver.turn.Goals as goal

pub invariant_of-self-in-Ok-Datagram-clause-accounts : goal.invariant_of-self-in-Ok-Datagram-clause-accounts
invariant_of-self-in-Ok-Datagram-clause-accounts g c =
    let r = c.args.self.now in
    let moved = subst (λ (x : Got). Moves x c.receive.new.into (g.I.Inlet.tale r.inlet) (g.I.Inlet.tale c.receive.new.self)) c.in-Ok-Datagram.field-0-is (c.in-Ok-Datagram.ensures.got) in
    let none : r.left_out ≡ None = left_none r.left_out (search rules) in
    let before : Accounts r.params.now r.neighbour (g.I.Inlet.tale r.inlet) c.has_room.new.seat.told None r.dropped r.since =
    subst (λ (o : Option Beacon). Accounts r.params.now r.neighbour (g.I.Inlet.tale r.inlet) c.has_room.new.seat.told o r.dropped r.since) none
    (subst (λ (z : List Told). Accounts r.params.now r.neighbour (g.I.Inlet.tale r.inlet) z r.left_out r.dropped r.since) (sym c.has_room.ensures.told) r.accounts) in
    datagram_accounts r.params.now r.neighbour c.in-Ok-Datagram.n c.receive.new.into _ _ c.has_room.new.seat.told c.settle-settled.new.seat.told c.settle-settled.result.left_out r.dropped (r.dropped + c.settle-settled.result.dropped) r.since ((r.since + 1) % 64) moved before
    (c.settle-settled.ensures.beacons ∙ ap (λ (o : Option Beacon). beacons_of c.has_room.new.seat.told ++ as_list o) c.wanted_beacon-beacon.ensures.value)
    (ap (λ (n : ℕ). r.dropped + n) c.settle-settled.ensures.dropped ∙ ap (λ (o : Option Beacon). r.dropped + one_if_none o) c.wanted_beacon-beacon.ensures.value)
    (omega arith)
    (λ q. ap (λ (o : Option Beacon). is_some o) (sym c.wanted_beacon-beacon.ensures.value) ∙ c.settle-settled.ensures.only q)

pub invariant_of-self-in-Ok-Quiet-clause-accounts : goal.invariant_of-self-in-Ok-Quiet-clause-accounts
invariant_of-self-in-Ok-Quiet-clause-accounts g c =
    let r = c.args.self.now in
    let moved : Moves Quiet c.receive.new.into (g.I.Inlet.tale r.inlet) (g.I.Inlet.tale c.receive.new.self) = subst (λ (x : Got). Moves x c.receive.new.into (g.I.Inlet.tale r.inlet) (g.I.Inlet.tale c.receive.new.self)) c.in-Ok-Quiet.field-0-is (c.in-Ok-Quiet.ensures.got) in
    let none : r.left_out ≡ None = left_none r.left_out (search rules) in
    let before : Accounts r.params.now r.neighbour (g.I.Inlet.tale r.inlet) c.has_room.new.seat.told None r.dropped r.since =
    subst (λ (o : Option Beacon). Accounts r.params.now r.neighbour (g.I.Inlet.tale r.inlet) c.has_room.new.seat.told o r.dropped r.since) none
    (same_accounts _ _ _ _ _ _ _ _ _ refl c.has_room.ensures.told r.accounts) in
    subst (λ (o : Option Beacon). Accounts r.params.now r.neighbour (g.I.Inlet.tale c.receive.new.self) c.has_room.new.seat.told o r.dropped r.since) (sym none) (quiet_accounts _ _ c.receive.new.into _ _ _ _ _ moved before)

pub invariant_of-self-clause-accounts : goal.invariant_of-self-clause-accounts
invariant_of-self-clause-accounts g c = same_accounts _ _ _ _ _ _ _ _ _ refl c.has_room.ensures.told c.args.self.now.accounts

pub invariant_of-self-in-Ok-Ended-clause-accounts : goal.invariant_of-self-in-Ok-Ended-clause-accounts
invariant_of-self-in-Ok-Ended-clause-accounts g c =
    let moved : Moves Ended c.receive.new.into (g.I.Inlet.tale c.args.self.now.inlet) (g.I.Inlet.tale c.receive.new.self) = subst (λ (x : Got). Moves x c.receive.new.into (g.I.Inlet.tale c.args.self.now.inlet) (g.I.Inlet.tale c.receive.new.self)) c.in-Ok-Ended.field-0-is (c.in-Ok-Ended.ensures.got) in
    same_accounts _ _ _ _ _ _ _ _ _ (ended_same c.receive.new.into _ _ moved) c.has_room.ensures.told c.args.self.now.accounts

pub invariant_of-self-in-Err-clause-accounts : goal.invariant_of-self-in-Err-clause-accounts
invariant_of-self-in-Err-clause-accounts g c =
    same_accounts _ _ _ _ _ _ _ _ _ c.in-Err.ensures.none_given c.has_room.ensures.told c.args.self.now.accounts

pub returns-in-Ok-Datagram-clause-stops : goal.returns-in-Ok-Datagram-clause-stops
returns-in-Ok-Datagram-clause-stops g c =
    let r = c.args.self.now in
    let moved = subst (λ (x : Got). Moves x c.receive.new.into (g.I.Inlet.tale r.inlet) (g.I.Inlet.tale c.receive.new.self)) c.in-Ok-Datagram.field-0-is (c.in-Ok-Datagram.ensures.got) in
    stops_datagram r.params.now r.neighbour c.in-Ok-Datagram.n c.receive.new.into _ _ r.seat.told r.left_out _ r.dropped r.since _ _ _ moved r.accounts c.settle-settled.ensures.stop c.stop_after.ensures
