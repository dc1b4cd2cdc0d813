-- What holds of a plan without a fault.
use Rattle.std.proofs.Common.{◌≡◌, ℕ, ◌+◌, ◌*◌, ◌≤◌, ◌^◌, ◌||◌, ◌++◌, arith, refl, nat_lt, not, cond, Bool, true, false, List, [], ◌∷◌, All, Option, Some, None, unwrap_or, length, map, is_some, slice_index_or}
use Rattle.std.specs.List.{find, list_any}
use Rattle.std.specs.Option.{option_map_or}
use Rattle.std.proofs.lemmas.Bool.{leb-false, ltb-false}
use Rattle.std.proofs.lemmas.List.Elements.{All-cons, All-head, All-map, All-nil, All-tail}
use Rattle.gs_units.proofs.FirstFault.{first_fails, none_of}
use Rattle.gs_topo.specs.Graph.{Graph, adjacent, joins}
use Rattle.gs_planfile.specs.declared.text.EdgeSpan.{EdgeSpan}
use Rattle.gs_planfile.specs.declared.text.PlanText.{PlanText}
use Rattle.gs_planfile.specs.declared.text.Version.{Version}
use Rattle.gs_plan.specs.declared.edge.EdgeGiven.{EdgeGiven}
use Rattle.gs_plan.specs.declared.fault.PlanFault.TheVariants as fault
use Rattle.gs_plan.specs.Accepted.{IsAccepted, IsFine}
use Rattle.gs_plan.specs.Bounds.{global_in, greatest_kappa_in}
use Rattle.gs_plan.specs.Edges.{edge_given, own_given, span_between, span_given}
use Rattle.gs_plan.specs.Faults.{are_bad_delays, are_bad_ports, are_low_kappas, beacon_bound, fault_over, is_bad_span, is_low_kappa, is_one, is_outside, is_wide, span_fault}
use Rattle.gs_plan.specs.Numbers.{least_kappa_in, q_in, r_in}
use Rattle.gs_plan.proofs.Keeping.{each_below}

-- neither of two tests holds where not one of them does
pub neither : (a b : Bool) → a || b ≡ false → (a ≡ false) × (b ≡ false)
neither true b h = cc
neither false b h = (refl, h)

-- what is not outside is inside
pub inside : (low high x : ℕ) → is_outside low high x ≡ false → (low ≤ x) × (x ≤ high)
inside low high x h =
    let parts = neither (nat_lt x low) (nat_lt high x) h in
    (ltb-false x low parts.0, ltb-false high x parts.1)

-- no span has bad delays where none is at fault
good_delays : (version : Version) (g : Graph) (i : ℕ) (before ss : List EdgeSpan) → span_fault version g i before ss ≡ None → All (λ s. are_bad_delays s.delay_min s.delay_max ≡ false) ss
unfolding span_fault
good_delays version g i before [] h = All-nil (λ s. are_bad_delays s.delay_min s.delay_max ≡ false)
good_delays version g i before (s ∷ ss) h = pick (is_bad_span version g before s) refl h (good_delays version g (i + 1) (before ++ s ∷ []) ss) where
  pick : (b : Bool) → is_bad_span version g before s ≡ b → cond b (Some (fault.Span i)) (span_fault version g (i + 1) (before ++ s ∷ []) ss) ≡ None
      → (span_fault version g (i + 1) (before ++ s ∷ []) ss ≡ None → All (λ s. are_bad_delays s.delay_min s.delay_max ≡ false) ss) → All (λ s. are_bad_delays s.delay_min s.delay_max ≡ false) (s ∷ ss)
  pick true is none rest = cc
  pick false is none rest =
      let edges = neither (is_one version) (not (adjacent g s.a s.b) || (is_some (span_between before s.a s.b) || are_bad_delays s.delay_min s.delay_max)) is in
      let again = neither (not (adjacent g s.a s.b)) (is_some (span_between before s.a s.b) || are_bad_delays s.delay_min s.delay_max) edges.1 in
      let delays = neither (is_some (span_between before s.a s.b)) (are_bad_delays s.delay_min s.delay_max) again.1 in
      All-cons (λ s. are_bad_delays s.delay_min s.delay_max ≡ false) s ss delays.1 (rest none)

-- what no item of a list passes, each fails
none_passes : {X : Type 0} (p : X → Bool) (xs : List X) → list_any p xs ≡ false → All (λ x. p x ≡ false) xs
none_passes p [] h = All-nil (λ x. p x ≡ false)
none_passes p (x ∷ xs) h =
    let parts = neither (p x) (list_any p xs) h in
    All-cons (λ x. p x ≡ false) x xs parts.0 (none_passes p xs parts.1)

-- a kappa that is given and not too low, or not given, is not too low
not_low : (given : Option ℕ) (least : ℕ) → option_map_or (λ kappa. nat_lt kappa least) given false ≡ false → least ≤ unwrap_or given least
not_low None least h = omega arith
not_low (Some kappa) least h = ltb-false kappa least h

-- delays that are not bad and a kappa that is not low
fine_of : (t : PlanText) (e : EdgeGiven) → are_bad_delays e.delay_min e.delay_max ≡ false → is_low_kappa t e ≡ false → IsFine t e
fine_of t e delays kappa =
    let parts = neither (nat_lt e.delay_max e.delay_min) (is_outside 1 65536 e.delay_max) delays in
    let range = inside 1 65536 e.delay_max parts.1 in
    record {
      delays = ltb-false e.delay_max e.delay_min parts.0;
      some = range.0;
      near = range.1;
      margin = not_low e.kappa (least_kappa_in t e) kappa;
    }

-- what holds of all spans holds of the one that is found
found_fine : (t : PlanText) (p : EdgeSpan → Bool) (ss : List EdgeSpan) → All (λ s. are_bad_delays s.delay_min s.delay_max ≡ false) ss → All (λ s. is_low_kappa t (span_given s) ≡ false) ss
    → IsFine t (own_given t) → IsFine t (option_map_or span_given (find p ss) (own_given t))
found_fine t p [] delays kappas own = own
found_fine t p (s ∷ ss) delays kappas own =
    let rest = found_fine t p ss (All-tail (λ s. are_bad_delays s.delay_min s.delay_max ≡ false) s ss delays) (All-tail (λ s. is_low_kappa t (span_given s) ≡ false) s ss kappas) own in
    let here = fine_of t (span_given s) (All-head (λ s. are_bad_delays s.delay_min s.delay_max ≡ false) s ss delays) (All-head (λ s. is_low_kappa t (span_given s) ≡ false) s ss kappas) in
    pick (p s) here rest where
      pick : (b : Bool) → IsFine t (span_given s) → IsFine t (option_map_or span_given (find p ss) (own_given t)) → IsFine t (option_map_or span_given (cond b (Some s) (find p ss)) (own_given t))
      pick true here rest = here
      pick false here rest = rest

-- all edges are fine where the plan and all spans are
edges_fine : (t : PlanText) (es : List (ℕ × ℕ)) → ((e : ℕ × ℕ) → IsFine t (edge_given t e)) → All (IsFine t) (map (edge_given t) es)
edges_fine t es fine = All-map (IsFine t) (edge_given t) es (λ k d h. fine (slice_index_or es k d))

-- a text without a fault over a graph is accepted
pub accepted_of : (t : PlanText) (g : Graph) → fault_over t g ≡ None → IsAccepted t g
accepted_of t g none =
    let tick = first_fails (is_outside 1 65536 t.tick) fault.Tick _ none in
    let delay = first_fails (are_bad_delays t.delay_min t.delay_max) fault.Delay _ tick.1 in
    let span = none_of (span_fault t.version g 0 [] t.spans) _ delay.1 in
    let every = first_fails (is_outside 1 1024 t.every) fault.Every _ span.1 in
    let losses = first_fails (nat_lt 1024 t.losses) fault.Losses _ every.1 in
    let age = first_fails (nat_lt t.age (beacon_bound t g)) fault.Age _ losses.1 in
    let levels = first_fails (is_outside 1 32 t.levels) fault.Levels _ age.1 in
    let port = first_fails (are_bad_ports t g) fault.Port _ levels.1 in
    let weak = first_fails (nat_lt (q_in t) (2 * r_in t)) fault.Weak _ port.1 in
    let kappa = first_fails (are_low_kappas t) fault.Kappa _ weak.1 in
    let wide = first_fails (is_wide t g) fault.Wide _ kappa.1 in
    let ticks = inside 1 65536 t.tick tick.0 in
    let turns = inside 1 1024 t.every every.0 in
    let ports = neither (nat_lt t.port 1024) (nat_lt 65536 (t.port + 2 * length g.edges + g.nodes)) port.0 in
    let level = inside 1 32 t.levels levels.0 in
    let lows = neither (is_low_kappa t (own_given t)) (list_any (λ s. is_low_kappa t (span_given s)) t.spans) kappa.0 in
    let own = fine_of t (own_given t) delay.0 lows.0 in
    let delays = good_delays t.version g 0 [] t.spans span.0 in
    let kappas = none_passes (λ s. is_low_kappa t (span_given s)) t.spans lows.1 in
    record {
      tick = ticks.0;
      tick_most = ticks.1;
      every = turns.0;
      every_most = turns.1;
      losses = ltb-false 1024 t.losses losses.0;
      age = ltb-false t.age (beacon_bound t g) age.0;
      some_level = level.0;
      few_levels = level.1;
      first_port = ltb-false t.port 1024 ports.0;
      ports = ltb-false 65536 (t.port + 2 * length g.edges + g.nodes) ports.1;
      strong = ltb-false (q_in t) (2 * r_in t) weak.0;
      own = own;
      edges = edges_fine t g.edges (λ e. found_fine t (λ s. joins (s.a, s.b) e.0 e.1) t.spans delays kappas own);
      in_age = (let enough = ltb-false t.age (beacon_bound t g) age.0 in λ k d h. (let below = each_below (λ e. e.delay_max) t g k d h in omega (arith, below, enough)));
      fits = leb-false (2 ^ 62) (2 * t.levels * greatest_kappa_in t g + global_in t g) wide.0;
    }
