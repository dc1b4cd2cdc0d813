-- A trace that is written piece after piece.
use Rattle.std.proofs.Common.{◌≡◌, ◌∙◌, ℕ, ◌+◌, ◌<◌, List, [], ◌∷◌, ◌++◌, length, take, drop, get_or, Option, Some, None, refl, ap, sym, append_assoc, append-nil}
use Rattle.std.specs.List.{flat_map}
use Rattle.std.proofs.lemmas.List.{take_more, take-append-drop}
use Rattle.std.proofs.lemmas.Grind.{flat_map-append}
use Rattle.gs_core.specs.declared.event.NodeEvent.{NodeEvent}
use Rattle.gs_io.specs.Held.{Appends, AppendsFront}
use Rattle.gs_io.proofs.Writing.{then_appends_front}
use Rattle.gs_trace.specs.Nodes.{event_bytes}

pub appends_none : (held : Option (List ℕ)) → Appends held held []
appends_none None = tt
appends_none (Some bytes) = ap (λ (z : List ℕ). Some z) (sym (append-nil bytes))

-- a prefix of the first piece is a prefix of all
pub front_of_first : (old new : Option (List ℕ)) (piece after : List ℕ) → AppendsFront old new piece → AppendsFront old new (piece ++ after)
front_of_first old new piece after front = then_appends_front old old new (piece ++ after) [] piece after refl (appends_none old) front

-- the events before one, that event, and those after it
in_parts : (events : List NodeEvent) (i : ℕ) (d : NodeEvent) → i < length events
    → flat_map event_bytes events ≡ flat_map event_bytes (take i events) ++ (event_bytes (get_or events i d) ++ flat_map event_bytes (drop (i + 1) events))
in_parts events i d inside =
    let first : List NodeEvent = take i events in
    let rest : List NodeEvent = drop (i + 1) events in
    let e : NodeEvent = get_or events i d in
    let all : events ≡ (first ++ e ∷ []) ++ rest = sym (take-append-drop (i + 1) events) ∙ ap (λ (z : List NodeEvent). z ++ rest) (take_more events i d inside) in
    ap (flat_map event_bytes) (all ∙ append_assoc first (e ∷ []) rest) ∙ flat_map-append event_bytes first (e ∷ rest)

-- and so is a prefix of a later one, where all before it are written
pub front_of_next : (old mid new : Option (List ℕ)) (head : List ℕ) (events : List NodeEvent) (i : ℕ) (d : NodeEvent) → i < length events
    → Appends old mid (head ++ flat_map event_bytes (take i events)) → AppendsFront mid new (event_bytes (get_or events i d))
    → AppendsFront old new (head ++ flat_map event_bytes events)
front_of_next old mid new head events i d inside written front =
    let piece : List ℕ = event_bytes (get_or events i d) in
    let after : List ℕ = flat_map event_bytes (drop (i + 1) events) in
    let before : List ℕ = flat_map event_bytes (take i events) in
    let whole : head ++ flat_map event_bytes events ≡ (head ++ before) ++ (piece ++ after) =
    ap (λ (z : List ℕ). head ++ z) (in_parts events i d inside) ∙ sym (append_assoc head before (piece ++ after)) in
    then_appends_front old mid new (head ++ flat_map event_bytes events) (head ++ before) piece after whole written front
