use Rattle.std.proofs.Common.{rules, ◌≡◌, ◌<◌, ◌∷◌, ◌-◌, ◌∙◌, ap, sym, subst, length, take, drop, ℕ, List, Some}
use Rattle.std.specs.Prelude.{slice_index}
use Rattle.gs_core.specs.declared.event.Event.{Event}
use Rattle.gs_trace.specs.inside.Fronts.{BeginsWhole}
use Rattle.gs_trace.specs.Scans.{event_told, WorldLeft}
use Rattle.gs_trace.specs.Worlds.{event_bytes, event_of, Fits, size_of, world_events, world_format}
use Rattle.gs_trace.proofs.Scanning.{begins_whole, goes_on, takes_first}
use Rattle.gs_trace.proofs.WorldEvents.{world_is_format}
use Rattle.gs_trace.proofs.scan.WorldScan.next.Goals as goal

pub first_event-next-requires : goal.first_event-next-requires
first_event-next-requires c =
    let n : ℕ = c.self.inside.nodes in
    let bytes : List ℕ = c.self.inside.left.now in
    let some : 0 < length bytes = search rules in
    let nodes : n ≡ length c.args.incs.now = ap (λ (w : WorldLeft). w.nodes) c.self.view_is ∙ sym c.requires in
    subst (λ (k : ℕ). BeginsWhole (world_format k) bytes) nodes
    (begins_whole (world_format n) event_bytes (Fits n) (world_is_format n) bytes c.self.invariant.whole some)

pub invariant_of-self : goal.invariant_of-self
invariant_of-self c =
    let n : ℕ = c.self.inside.nodes in
    let bytes : List ℕ = c.self.inside.left.now in
    let some : 0 < length bytes = search rules in
    let nodes : n ≡ length c.args.incs.now = ap (λ (w : WorldLeft). w.nodes) c.self.view_is ∙ sym c.requires in
    let size : size_of n (slice_index bytes 0) ≡ Some c.first_event-next.result.1 = ap (λ (k : ℕ). size_of k (slice_index bytes 0)) nodes ∙ c.first_event-next.ensures.size in
    record { whole = goes_on (world_format n) event_bytes (Fits n) (world_is_format n) c.first_event-next.result.1 bytes c.self.invariant.whole some size }

pub returns-clause-some : goal.returns-clause-some
returns-clause-some c =
    let n : ℕ = c.self.inside.nodes in
    let bytes : List ℕ = c.self.inside.left.now in
    let size : ℕ = c.first_event-next.result.1 in
    let some : 0 < length bytes = search rules in
    let nodes : n ≡ length c.args.incs.now = ap (λ (w : WorldLeft). w.nodes) c.self.view_is ∙ sym c.requires in
    let size_is : size_of n (slice_index bytes 0) ≡ Some size = ap (λ (k : ℕ). size_of k (slice_index bytes 0)) nodes ∙ c.first_event-next.ensures.size in
    let told : event_of n (slice_index bytes 0) bytes ≡ event_told c.first_event-next.result.0 c.first_event-next.new.incs =
    ap (λ (k : ℕ). event_of k (slice_index bytes 0) bytes) nodes ∙ sym c.first_event-next.ensures.event in
    sym (ap (λ (w : WorldLeft). w.events) c.self.view_is)
    ∙ takes_first (world_format n) event_bytes (Fits n) (world_is_format n) size bytes c.self.invariant.whole some size_is
    ∙ ap (λ (e : Event). e ∷ world_events n (take (length bytes - size) (drop size bytes))) told
