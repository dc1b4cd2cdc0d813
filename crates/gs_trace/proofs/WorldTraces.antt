-- The trace of a world: bytes without a fault are the trace of the start and the events that are read, and of no others.
use Rattle.std.proofs.Common.{◌≡◌, ℕ, ◌^◌, ◌<◌, List, drop, None}
use Rattle.gs_units.proofs.FirstFault.{none_of}
use Rattle.gs_beacon.specs.Numbers.{AreBytes}
use Rattle.gs_core.specs.declared.event.Event.{Event}
use Rattle.gs_trace.specs.Formats.{fault_from}
use Rattle.gs_trace.specs.Laws.{FaultlessIsWorld, WorldIsReadBack, events_in}
use Rattle.gs_trace.specs.Starts.{FitsWorld}
use Rattle.gs_trace.specs.Worlds.{event_bytes, Fits, head_fault, head_length, SpellsWorld, start_at, world_fault, world_format}
use Rattle.gs_trace.specs.declared.start.WorldStart.{WorldStart}
use Rattle.gs_trace.proofs.Answered.{IsOne}
use Rattle.gs_trace.proofs.Traces.{faultless, read_back}
use Rattle.gs_trace.proofs.WorldEvents.{world_is_format}
use Rattle.gs_trace.proofs.WorldHeads.{world_head, world_is_head}

-- what has no fault is spelled so
pub world-spelled : (cluster nodes : ℕ) (bytes : List ℕ) → AreBytes bytes → cluster < 2 ^ 32 → nodes < 2 ^ 32 → head_fault cluster nodes bytes ≡ None
    → fault_from (world_format nodes) (head_length nodes) 0 (drop (head_length nodes) bytes) ≡ None
    → SpellsWorld cluster nodes (start_at nodes bytes) (events_in nodes bytes) bytes
world-spelled cluster nodes bytes are small few head events =
    let t = faultless (world_head cluster nodes) (FitsWorld nodes) (world_format nodes) event_bytes (Fits nodes) (world_is_head cluster nodes small few) (world_is_format nodes) bytes are head events in
    record { start = t.start; events = t.events; is = t.is }

pub faultless-is_world : FaultlessIsWorld
faultless-is_world cluster nodes bytes are small few none =
    let head = none_of (head_fault cluster nodes bytes) _ none in
    let events = none_of (fault_from (world_format nodes) (head_length nodes) 0 (drop (head_length nodes) bytes)) _ head.1 in
    world-spelled cluster nodes bytes are small few head.0 events.0

-- what is spelled has no fault, and is read
pub world-is_read_back : WorldIsReadBack
world-is_read_back cluster nodes s es bytes small few h =
    let r = read_back (world_head cluster nodes) (FitsWorld nodes) (world_format nodes) event_bytes (Fits nodes) (world_is_head cluster nodes small few) (world_is_format nodes)
    s es bytes (record { start = h.start; events = h.events; is = h.is }) in
    record { no_fault = r.no_fault; start = r.start; events = r.events }

-- so bytes spell one start and one list of events
pub one_world : (cluster nodes : ℕ) (bytes : List ℕ) → cluster < 2 ^ 32 → nodes < 2 ^ 32
    → IsOne (λ (s : WorldStart) (es : List Event). SpellsWorld cluster nodes s es bytes) (world_fault cluster nodes bytes)
one_world cluster nodes bytes small few = record {
  start = start_at nodes bytes;
  events = events_in nodes bytes;
  start_is = λ s es h. (world-is_read_back cluster nodes s es bytes small few h).start;
  events_are = λ s es h. (world-is_read_back cluster nodes s es bytes small few h).events;
  no_fault = λ s es h. (world-is_read_back cluster nodes s es bytes small few h).no_fault;
}
