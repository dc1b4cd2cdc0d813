-- Where nothing is refused but stale quanta, the first breach is the first refusal.
use Rattle.std.proofs.Common.{◌≡◌, ℕ, suc, ◌+◌, ◌⊎◌, inl, inr, arith, ap, sym, refl, ◌∙◌, List, [], ◌∷◌, Option, Some, None}
use Rattle.std.proofs.lemmas.Option.{same_Some, none-some}
use Rattle.gs_units.proofs.FirstFault.{first_is, later_is}
use Rattle.gs_core.specs.declared.event.Event.{Event}
use Rattle.gs_core.specs.declared.event.Event.TheVariants.{Quantum, Tick, Deliver}
use Rattle.gs_run.specs.Net.{Net}
use Rattle.gs_run.specs.World.{World, effect}
use Rattle.gs_run.specs.Run.{Allowed, or_refused, first_refused}
use Rattle.gs_run.specs.Why.{why}
use Rattle.gs_run.specs.Accepted.{AreNumbers}
use Rattle.gs_run.specs.declared.refused.Refused.{Refused}
use Rattle.gs_run.specs.declared.refused.Refused.TheVariants.{Stale}
use Rattle.gs_calendar.specs.Breach.{Breach, breach_of, breach_in, first_breach}
use Rattle.gs_calendar.specs.Calm.{IsCalm, Calm}
use Rattle.gs_calendar.specs.Course.{Course}
use Rattle.gs_calendar.specs.Events.{events_of}
use Rattle.gs_calendar.specs.Laws.{IsFirstRefusal}
use Rattle.gs_calendar.specs.Scripts.{start_of, breach_of_course}
use Rattle.gs_calendar.proofs.Calm.{scripts_are_calm}
use Rattle.gs_calendar.proofs.Fitting.{IsCourse}

-- ---- one event

-- an event that is calm is allowed, or it is the breach of this world's next quantum
record IsBreach (net : Net) (w : World) (e : Event) (b : Breach) : Type 0 where
  refused : why net w e ≡ Some (Stale b.from b.to)
  is : breach_in net w e ≡ Some b
  quantum : w.quanta + 1 ≡ b.quantum

quantum_cases : (net : Net) (w : World) (incs : List ℕ) → IsCalm net w (Quantum incs)
    → ((why net w (Quantum incs) ≡ None) × (breach_in net w (Quantum incs) ≡ None)) ⊎ ((b : Breach) × IsBreach net w (Quantum incs) b)
quantum_cases net w incs (inl none) = inl (none, ap (breach_of (w.quanta + 1)) none)
quantum_cases net w incs (inr stale) = inr (record { quantum = w.quanta + 1; from = stale.0; to = stale.1 }, record { refused = stale.2; is = ap (breach_of (w.quanta + 1)) stale.2; quantum = refl })

calm_cases : (net : Net) (w : World) (e : Event) → IsCalm net w e → ((why net w e ≡ None) × (breach_in net w e ≡ None)) ⊎ ((b : Breach) × IsBreach net w e b)
calm_cases net w (Quantum incs) h = quantum_cases net w incs h
calm_cases net w (Tick v) h = inl (h, refl)
calm_cases net w (Deliver from to seq) h = inl (h, refl)

-- ---- all events

-- where there is no breach, all events are allowed
pub unbreached_is_allowed : (net : Net) (w : World) (es : List Event) → Calm net w es → first_breach net w es ≡ None → Allowed net w es
unbreached_is_allowed net w [] h none = tt
unbreached_is_allowed net w (e ∷ es) h none = elim (calm_cases net w e h.0) [
  | inl calm ↦ (calm.0, unbreached_is_allowed net (effect net w e) es h.1 (sym (later_is (breach_in net w e) (first_breach net (effect net w e) es) calm.1) ∙ none))
  | inr breach ↦ absurd (none-some breach.0 (sym none ∙ first_is (breach_in net w e) (first_breach net (effect net w e) es) breach.0 breach.1.is))
]

-- where there is one, it is the first refusal
pub breach_is_first_refusal : (net : Net) (i : ℕ) (w : World) (es : List Event) (b : Breach) → Calm net w es → first_breach net w es ≡ Some b → (k : ℕ) × IsFirstRefusal net i w es b k
breach_is_first_refusal net i w [] b h some = absurd (none-some b some)
breach_is_first_refusal net i w (e ∷ es) b h some = elim (calm_cases net w e h.0) [
  | inl calm ↦
      let rest : (k : ℕ) × IsFirstRefusal net (i + 1) (effect net w e) es b k =
      breach_is_first_refusal net (i + 1) (effect net w e) es b h.1 (sym (later_is (breach_in net w e) (first_breach net (effect net w e) es) calm.1) ∙ some) in
      let place : i + 1 + rest.0 ≡ i + suc rest.0 = omega arith in (
        suc rest.0,
        record {
          inside = (let less = rest.1.inside in omega (arith, less));
          refusal = ap (λ (o : Option Refused). or_refused o i (first_refused net (i + 1) (effect net w e) es)) calm.0 ∙ rest.1.refusal ∙ ap (λ (n : ℕ). Some (n, Stale b.from b.to)) place;
          quantum = rest.1.quantum;
          before = (calm.0, rest.1.before);
        },
      )
  | inr breach ↦
      let same : breach.0 ≡ b = same_Some breach.0 b (sym (first_is (breach_in net w e) (first_breach net (effect net w e) es) breach.0 breach.1.is) ∙ some) in
      let stale : why net w e ≡ Some (Stale b.from b.to) = breach.1.refused ∙ ap (λ (x : Breach). Some (Stale x.from x.to)) same in
      let place : i ≡ i + 0 = omega arith in (
        0,
        record {
          inside = omega arith;
          refusal = ap (λ (o : Option Refused). or_refused o i (first_refused net (i + 1) (effect net w e) es)) stale ∙ ap (λ (n : ℕ). Some (n, Stale b.from b.to)) place;
          quantum = breach.1.quantum ∙ ap (λ (x : Breach). x.quantum) same;
          before = tt;
        },
      )
]

-- ---- scripts

-- without a breach a script's events are allowed
pub unbreached_script_is_allowed : (net : Net) (c : Course) → AreNumbers net → IsCourse net c → breach_of_course net c ≡ None → Allowed net (start_of net) (events_of net c)
unbreached_script_is_allowed net c numbers course none = unbreached_is_allowed net (start_of net) (events_of net c) (scripts_are_calm net c numbers course) none

-- and the breach of a script is the first refusal of its events
pub script_breach_is_first_refusal : (net : Net) (c : Course) (b : Breach) → AreNumbers net → IsCourse net c → breach_of_course net c ≡ Some b
    → (k : ℕ) × IsFirstRefusal net 0 (start_of net) (events_of net c) b k
script_breach_is_first_refusal net c b numbers course some = breach_is_first_refusal net 0 (start_of net) (events_of net c) b (scripts_are_calm net c numbers course) some
