-- A running audit, one event at a time.
use Rattle.std.proofs.Common.{◌≡◌, ℕ, ◌+◌, ◌^◌, ◌≤◌, ap, sym, ◌∙◌, subst, List, [], ◌∷◌, ◌++◌}
use Rattle.std.proofs.Common.{Some, None}
use Rattle.gs_core.specs.declared.event.Event.{Event}
use Rattle.gs_core.specs.declared.event.Event.TheVariants.{Quantum}
use Rattle.gs_core.specs.inside.Events.{IsNoQuantum}
use Rattle.gs_plan.specs.Plans.{graph_of}
use Rattle.gs_plan.specs.declared.plan.Plan.{Plan}
use Rattle.gs_level.specs.Tallies.{tally_of}
use Rattle.gs_level.specs.declared.tally.Tally.{Tally}
use Rattle.gs_trace.specs.declared.start.WorldStart.{WorldStart}
use Rattle.gs_run.specs.Fast.{fast_in}
use Rattle.gs_run.specs.Nets.{net_of}
use Rattle.gs_run.specs.Why.{why}
use Rattle.gs_run.specs.World.{World, clocks_in, effect}
use Rattle.gs_run.specs.declared.refused.Refused.{Refused}
use Rattle.gs_audit.specs.inside.UnderWay.{IsUnderWay}
use Rattle.gs_audit.specs.inside.Running.{IsAuditing}
use Rattle.gs_audit.specs.Verdicts.{refusal_at, world_at}
use Rattle.gs_audit.specs.declared.auditing.Auditing.{Auditing}
use Rattle.gs_audit.proofs.OneEvent.{refused_here, takes_other, takes_quantum}

-- the same events are left
pub same_left : (p : Plan) (s : WorldStart) (all xs ys : List Event) (a : Auditing) → xs ≡ ys → IsAuditing p s all xs a → IsAuditing p s all ys a
same_left p s all xs ys a e h = subst (λ (left : List Event). IsAuditing p s all left a) e h

-- after an allowed quantum from the world w to the world z, whose plans are q and t
pub quantum_goes_on : (p q r t : Plan) (start : World) (all left : List Event) (incs : List ℕ) (w z : World) (old new : Tally)
    (before clocks : List ℕ) (sum fast index : ℕ)
    → q ≡ p → r ≡ p → t ≡ q → IsUnderWay (net_of p) (graph_of p) start all (Quantum incs ∷ left) w old before sum index
    → why (net_of q) w (Quantum incs) ≡ None → z ≡ effect (net_of q) w (Quantum incs)
    → clocks ≡ clocks_in (net_of t) z → fast ≡ fast_in w → fast ≤ 2 ^ 32
    → ((rows : List (List ℕ)) → old ≡ tally_of (graph_of r) rows → new ≡ tally_of (graph_of r) (rows ++ clocks ∷ []))
    → IsUnderWay (net_of p) (graph_of p) start all left z new clocks (sum + fast) (index + 1)
quantum_goes_on p q r t start all left incs w z old new before clocks sum fast index q_is r_is t_is h none z_is row_is fast_is small adds =
    let none_here : why (net_of p) w (Quantum incs) ≡ None =
    subst (λ (x : Plan). why (net_of x) w (Quantum incs) ≡ None) q_is none in
    let moved : z ≡ effect (net_of p) w (Quantum incs) = z_is ∙ ap (λ (x : Plan). effect (net_of x) w (Quantum incs)) q_is in
    let row : clocks ≡ clocks_in (net_of p) (effect (net_of p) w (Quantum incs)) =
    row_is ∙ ap (λ (x : Plan). clocks_in (net_of x) z) (t_is ∙ q_is) ∙ ap (λ (x : World). clocks_in (net_of p) x) moved in
    let few : fast_in w ≤ 2 ^ 32 = subst (λ (n : ℕ). n ≤ 2 ^ 32) fast_is small in
    let g = graph_of p in
    rw (moved, row, fast_is) (takes_quantum (net_of p) g start all left w incs old new before sum index h none_here few
    (λ rows e.
    let was : old ≡ tally_of (graph_of r) rows = e ∙ ap (λ (x : Plan). tally_of (graph_of x) rows) (sym r_is) in
    adds rows was
    ∙ ap (λ (x : Plan). tally_of (graph_of x) (rows ++ clocks ∷ [])) r_is
    ∙ ap (λ (l : List ℕ). tally_of g (rows ++ l ∷ [])) row))

-- after a tick or a delivery
pub other_goes_on : (p : Plan) (s : WorldStart) (all left : List Event) (e : Event) (old : Auditing) (z : World) → IsNoQuantum e
    → IsAuditing p s all (e ∷ left) old → why (net_of old.world.plan) old.world.world e ≡ None → z ≡ effect (net_of old.world.plan) old.world.world e
    → IsUnderWay (net_of p) (graph_of p) (world_at p s) all left z old.tally old.clocks.items old.fast (old.index + 1)
other_goes_on p s all left e old z other h none is =
    let w : World = old.world.world in
    let none_here : why (net_of p) w e ≡ None = subst (λ (q : Plan). why (net_of q) w e ≡ None) h.world none in
    let moved : z ≡ effect (net_of p) w e = is ∙ ap (λ (q : Plan). effect (net_of q) w e) h.world in
    subst (λ (x : World). IsUnderWay (net_of p) (graph_of p) (world_at p s) all left x old.tally old.clocks.items old.fast (old.index + 1)) (sym moved)
    (takes_other (net_of p) (graph_of p) (world_at p s) all left w e old.tally old.clocks.items old.fast old.index other none_here h.under_way)

-- the refusal of the first event that is left is the first of all
pub stops_here : (p : Plan) (s : WorldStart) (all left : List Event) (e : Event) (a : Auditing) (r : Refused)
    → IsAuditing p s all (e ∷ left) a → why (net_of a.world.plan) a.world.world e ≡ Some r
    → refusal_at p s all ≡ Some (a.index, r)
stops_here p s all left e a r h some =
    let here : why (net_of p) a.world.world e ≡ Some r = subst (λ (q : Plan). why (net_of q) a.world.world e ≡ Some r) h.world some in
    h.under_way.refused ∙ refused_here (net_of p) a.index a.world.world e left r here
