-- Why events are refused: no reason is `OutOfMemory`.
use Rattle.std.proofs.Common.{◌≡◌, ◌≢◌, ℕ, ◌+◌, ap, ◌∙◌, List, [], ◌∷◌, Bool, true, false, Option, Some, None}
use Rattle.gs_core.specs.declared.event.Event.{Event}
use Rattle.gs_core.specs.declared.event.Event.TheVariants.{Quantum, Tick, Deliver}
use Rattle.gs_run.specs.Net.{Net, place_of}
use Rattle.gs_run.specs.Refusing.{AllowedWhereNoneIsRefused, NoneWantsMemory}
use Rattle.gs_run.specs.Run.{first_refused, or_refused}
use Rattle.std.specs.Bool.{then_some}
use Rattle.std.specs.Option.{option_or}
use Rattle.gs_run.specs.Why.{at_node, stale_at, stale_of, stale_place, why, why_deliver, why_sent}
use Rattle.gs_run.specs.World.{Sent, World, effect, member, sent_by}
use Rattle.gs_run.specs.declared.refused.Refused.{Refused}
use Rattle.gs_run.specs.declared.refused.Refused.TheVariants.{Shape, End, Drift, TickDue, Early, Late, OutOfMemory}
use Rattle.gs_run.proofs.FirstRefused.{allowed_from_none, none_from_allowed}

abbrev IsNamed : Option Refused → Type 0
IsNamed o = o ≢ Some OutOfMemory

or_named : (a b : Option Refused) → IsNamed a → IsNamed b → IsNamed (option_or a b)
or_named None b ha hb = hb
or_named (Some r) b ha hb = ha

none_named : IsNamed None
none_named e = absurd (cc)

if_named : (test : Bool) (r : Refused) → r ≢ OutOfMemory → IsNamed (then_some test r)
if_named true r other e = other (cc)
if_named false r other e = absurd (cc)

drift_named : (o : Option ℕ) → IsNamed (at_node Drift o)
drift_named None e = absurd (cc)
drift_named (Some v) e = absurd (cc)

due_named : (o : Option ℕ) → IsNamed (at_node TickDue o)
due_named None e = absurd (cc)
due_named (Some v) e = absurd (cc)

stale_at_named : (net : Net) (v : ℕ) (o : Option ℕ) → IsNamed (stale_at net v o)
stale_at_named net v None e = absurd (cc)
stale_at_named net v (Some i) e = absurd (cc)

stale_named : (net : Net) (w : World) (o : Option ℕ) → IsNamed (stale_of net w o)
stale_named net w None e = absurd (cc)
stale_named net w (Some v) e = stale_at_named net v (stale_place net w.quanta (member w v)) e

sent_named : (net : Net) (w : World) (from to i : ℕ) (o : Option Sent) → IsNamed (why_sent net w from to i o)
sent_named net w from to i None e = absurd (cc)
sent_named net w from to i (Some s) e =
    or_named (then_some _ Early) _ (if_named _ Early (λ x. absurd (cc)))
    (or_named (then_some _ Late) None (if_named _ Late (λ x. absurd (cc))) none_named) e

deliver_named : (net : Net) (w : World) (from to seq : ℕ) (o : Option ℕ) → IsNamed (why_deliver net w from to seq o)
deliver_named net w from to seq None e = absurd (cc)
deliver_named net w from to seq (Some i) e = sent_named net w from to i (sent_by w from seq) e

pub why_named : (net : Net) (w : World) (e : Event) → IsNamed (why net w e)
why_named net w (Quantum incs) =
    or_named (then_some _ Shape) _ (if_named _ Shape (λ x. absurd (cc)))
    (or_named (then_some _ End) _ (if_named _ End (λ x. absurd (cc)))
    (or_named (at_node Drift _) _ (drift_named _)
    (or_named (at_node TickDue _) _ (due_named _)
    (or_named (stale_of net w _) None (stale_named net w _) none_named))))
why_named net w (Tick v) = if_named _ Shape (λ x. absurd (cc))
why_named net w (Deliver from to seq) =
    or_named (then_some _ Shape) _ (if_named _ Shape (λ x. absurd (cc)))
    (or_named (why_deliver net w from to seq (place_of net to from)) None (deliver_named net w from to seq (place_of net to from)) none_named)

or_refused_named : (o : Option Refused) (i : ℕ) (later : Option (ℕ × Refused)) (first : ℕ × Refused) → IsNamed o
    → (later ≡ Some first → first.1 ≢ OutOfMemory) → or_refused o i later ≡ Some first → first.1 ≢ OutOfMemory
or_refused_named None i later first here rest e = rest e
or_refused_named (Some r) i later first here rest e = λ memory.
    let is : r ≡ first.1 = (let both : (i, r) ≡ first = cc in ap (λ (x : ℕ × Refused). x.1) both) in
    here (ap (λ (x : Refused). Some x) (is ∙ memory))

pub first_named : (net : Net) (i : ℕ) (w : World) (es : List Event) (first : ℕ × Refused) → first_refused net i w es ≡ Some first → first.1 ≢ OutOfMemory
first_named net i w [] first e = absurd (let none : None ≡ Some first = e in cc)
first_named net i w (x ∷ es) first e =
    or_refused_named (why net w x) i (first_refused net (i + 1) (effect net w x) es) first (why_named net w x) (first_named net (i + 1) (effect net w x) es first) e

pub none_wants_memory : NoneWantsMemory
none_wants_memory net i w es first = first_named net i w es first

pub allowed_where_none_is_refused : AllowedWhereNoneIsRefused
allowed_where_none_is_refused net i w es = (none_from_allowed net i w es, allowed_from_none net i w es)
