-- No clock is ahead beyond the weights where no two differ by more than the least kappas.
use Rattle.std.proofs.Common.{◌≡◌, ◌≢◌, ℕ, ◌*◌, ◌<◌, ◌≤◌, ◌^◌, ap, sym, ◌∙◌, inl, inr, arith, List, length, slice_get, slice_index, Some}
use Rattle.std.proofs.Math.Nat.{mul-le-mul_left}
use Rattle.std.proofs.lemmas.Bool.{cases_eq}
use Rattle.std.proofs.lemmas.List.{length-map}
use Rattle.std.proofs.lemmas.Option.{slice_get-get_or}
use Rattle.gs_topo.specs.Graph.{Adjacent, Graph}
use Rattle.gs_planfile.specs.declared.text.PlanText.{PlanText}
use Rattle.gs_plan.specs.declared.plan.Plan.{Plan}
use Rattle.gs_plan.specs.Numbers.{kappa_between, numbers_in, numbers_of}
use Rattle.gs_plan.specs.Plans.{graph_of, text_of}
use Rattle.gs_plan.specs.Weights.{weight_in}
use Rattle.gs_plan.specs.declared.edge.EdgeNumbers.{EdgeNumbers}
use Rattle.gs_plan.specs.Edges.{edge_given, edges_given}
use Rattle.gs_plan.proofs.Linking.{has_number, numbers_at}
use Rattle.gs_plan.proofs.Weights.{weights_fit}
use Rattle.gs_level.specs.Peaks.{peak_of}
use Rattle.gs_skew.specs.Skews.{global_skew, lead}
use Rattle.gs_skew.proofs.Greatest.{pair_at_most, potential_at_most}
use Rattle.gs_level.proofs.Pairs.{no_peak}

-- the kappa at each place among the edges is at least this
abbrev pub IsLow : Plan → ℕ → ℕ → Type 0
IsLow p least n = (k : ℕ) → k < n → (numbers : EdgeNumbers) → slice_get (numbers_of (text_of p) (graph_of p)) k ≡ Some numbers → least ≤ numbers.kappa

-- and so that of all neighbours
pub low_for_all : (p : Plan) (least : ℕ) → IsLow p least (length (graph_of p).edges) → (v w : ℕ) → Adjacent (graph_of p) v w → least ≤ kappa_between (text_of p) v w
low_for_all p least low v w next =
    let t : PlanText = text_of p in
    let g : Graph = graph_of p in
    let found = has_number (graph_of p) v w next in
    let d : EdgeNumbers = numbers_in (text_of p) (edge_given (text_of p) (v, w)) in
    let at = numbers_at (text_of p) (graph_of p) v w found.0 (numbers_in (text_of p) (edge_given (text_of p) (v, w))) found.1 in
    let count : length (numbers_of t g) ≡ length g.edges = length-map (edges_given t g) (numbers_in t) ∙ length-map g.edges (edge_given t) in
    let inside = at.0 in
    let here = slice_get-get_or (numbers_of t g) found.0 d at.0 in
    low found.0 (omega (arith, count, inside)) d (here ∙ ap Some at.1)

-- another node weighs at least the least kappa
pub others_weigh : (p : Plan) (least : ℕ) → ((v w : ℕ) → Adjacent (graph_of p) v w → least ≤ kappa_between (text_of p) v w) → (v w : ℕ) → v < (graph_of p).nodes → w < (graph_of p).nodes
    → v ≢ w → least ≤ weight_in (text_of p) (graph_of p) v w
others_weigh p least low v w hv hw other =
    let step = (weights_fit p).towards v w hv hw other in
    let l = low w step.0 step.2 in
    omega (arith, step.3, l)

-- so no clock is ahead by more where no two differ by more than the least kappas
pub none_beyond : (p : Plan) (clocks : List ℕ) (s least : ℕ) → length clocks ≡ (graph_of p).nodes → ((v w : ℕ) → Adjacent (graph_of p) v w → least ≤ kappa_between (text_of p) v w)
    → global_skew clocks ≤ 2 * s * least → record { value = 0; v = 0; w = 0 } ≡ peak_of (weight_in (text_of p) (graph_of p)) clocks s
none_beyond p clocks s least count low small =
    let weight : ℕ → ℕ → ℕ = weight_in (text_of p) (graph_of p) in
    let none = potential_at_most weight clocks s 0 (λ v w hv hw. elim (cases_eq v w) [
      | inl same ↦ (let e : slice_index clocks v ≡ slice_index clocks w = ap (slice_index clocks) same in omega (arith, e))
      | inr other ↦
          let leads = pair_at_most (λ p. lead clocks p.0 p.1) (length clocks) v w hv hw in
          let heavy = others_weigh p least low v w (rw (← count) hv) (rw (← count) hw) other in
          let times : 2 * s * least ≤ 2 * s * weight v w = mul-le-mul_left (2 * s) heavy in
          omega (arith, leads, times, small)
    ]) in
    sym (no_peak weight clocks s (omega (arith, none)))
