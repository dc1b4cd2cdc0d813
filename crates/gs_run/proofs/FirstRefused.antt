-- A list of events is allowed exactly where none of it is refused.
use Rattle.std.proofs.Common.{◌≡◌, ℕ, ◌+◌, refl, List, [], ◌∷◌, Option, Some, None}
use Rattle.gs_core.specs.declared.event.Event.{Event}
use Rattle.gs_run.specs.Net.{Net}
use Rattle.gs_run.specs.World.{World, effect}
use Rattle.gs_run.specs.Why.{why}
use Rattle.gs_run.specs.Run.{Allowed, or_refused, first_refused}
use Rattle.gs_run.specs.declared.refused.Refused.{Refused}

nothing_refused : (o : Option Refused) (i : ℕ) (later : Option (ℕ × Refused)) → or_refused o i later ≡ None
    → (o ≡ None) × (later ≡ None)
nothing_refused None i later e = (refl, e)
nothing_refused (Some r) i later e = absurd (cc)

pub allowed_from_none : (net : Net) (i : ℕ) (w : World) (es : List Event) → first_refused net i w es ≡ None
    → Allowed net w es
allowed_from_none net i w [] e = tt
allowed_from_none net i w (x ∷ es) e =
    let parts = nothing_refused (why net w x) i (first_refused net (i + 1) (effect net w x) es) e in
    (parts.0, allowed_from_none net (i + 1) (effect net w x) es parts.1)

pub none_from_allowed : (net : Net) (i : ℕ) (w : World) (es : List Event) → Allowed net w es
    → first_refused net i w es ≡ None
none_from_allowed net i w [] a = refl
none_from_allowed net i w (x ∷ es) a = rw (a.0) (none_from_allowed net (i + 1) (effect net w x) es a.1)
