-- Each call keeps what is true of every board.
use Rattle.std.proofs.Common.{◌≡◌, ℕ, ◌+◌, ◌<◌, ◌∷◌, ◌++◌, [], length, Option, None, ◌∙◌, ap, arith, length-append}
use Rattle.std.proofs.lemmas.List.Elements.{All-push}
use Rattle.gs_beacon.specs.Beacons.{IsBeacon}
use Rattle.gs_beacon.specs.declared.beacon.Beacon.{Beacon}
use Rattle.gs_core.specs.Node.{started}
use Rattle.gs_core.specs.Steps.{Whole, after, deliver_fault, fault_of, reply_of, tick_fault, unless_fault}
use Rattle.gs_core.specs.State.{CarriesBeacon}
use Rattle.gs_core.specs.declared.event.NodeEvent.{NodeEvent}
use Rattle.gs_core.specs.declared.event.NodeEvent.TheVariants.{Tick, Deliver}
use Rattle.gs_core.specs.declared.reply.CoreFault.{CoreFault}
use Rattle.gs_core.specs.declared.reply.CoreFault.TheVariants as core
use Rattle.gs_core.proofs.Replaying.{replay_goes_on}
use Rattle.gs_board.specs.Ledger.{Ledger, IsKept, grown}

-- an event that has no fault
pub grown_is_kept : (t : Ledger) (e : NodeEvent) → IsKept t → fault_of t.core.params t.core.node e ≡ None → CarriesBeacon e → 0 < t.spare
    → IsKept (grown t e)
grown_is_kept t e kept none beacon spare = record {
  replayed = replay_goes_on t.core.params 0 (started t.core.params t.begun.hw t.begun.l0) t.core.node t.journal t.replies e kept.replayed
      ∙ ap (λ (fault : Option CoreFault). unless_fault fault (0 + length t.journal) (Whole (after t.core.params t.core.node e) (t.replies ++ reply_of t.core.params t.core.node e ∷ []))) none;
  valid = kept.valid;
  begun = kept.begun;
  beacons = All-push CarriesBeacon t.journal e kept.beacons beacon;
  room = let room = kept.room in simp length-append (omega arith);
  unhalted = kept.unhalted;
}

pub ticked_is_kept : (t : Ledger) (now : ℕ) → IsKept t → tick_fault t.core.params t.core.node now ≡ None → 0 < t.spare → IsKept (grown t (Tick now))
ticked_is_kept t now kept none spare = grown_is_kept t (Tick now) kept none tt spare

pub delivered_is_kept : (t : Ledger) (b : Beacon) (now : ℕ) → IsKept t → deliver_fault t.core.params t.core.node b now ≡ None → IsBeacon b → 0 < t.spare
    → IsKept (grown t (Deliver now b))
delivered_is_kept t b now kept none beacon spare = grown_is_kept t (Deliver now b) kept none beacon spare
