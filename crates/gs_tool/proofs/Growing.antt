-- Texts of one level and of one edge more.
use Rattle.std.proofs.Common.{◌≡◌, ℕ, suc, ◌+◌, List, Option, Some, IfSome, slice_get, arith, refl, subst}
use Rattle.gs_plan.specs.declared.edge.EdgeNumbers.{EdgeNumbers}
use Rattle.gs_plan.specs.Bounds.{best_edge_in}
use Rattle.gs_plan.specs.Numbers.{numbers_of}
use Rattle.gs_topo.specs.Graph.{Graph}
use Rattle.gs_planfile.specs.declared.text.PlanText.{PlanText}
use Rattle.gs_tool.specs.PlanTexts.{edge_line, with_edge, with_edges, with_level, with_levels}

-- one more level has one more line
pub one_more_level : (text : List ℕ) (t : PlanText) (g : Graph) (n : ℕ) → with_levels text t g (n + 1) ≡ with_level (with_levels text t g n) t g n
one_more_level text t g n = let e : n + 1 ≡ suc n = omega arith in rw e refl

-- one more edge has one more line
pub one_more_edge : (text : List ℕ) (t : PlanText) (g : Graph) (n : ℕ) → with_edges text t g (n + 1) ≡ with_edge (with_edges text t g n) t g n
one_more_edge text t g n = let e : n + 1 ≡ suc n = omega arith in rw e refl

-- the line of an edge, by its ends, its numbers and its best level
pub one_edge : (text : List ℕ) (t : PlanText) (g : Graph) (i : ℕ) (ends : ℕ × ℕ) (e : EdgeNumbers) (best : ℕ × ℕ)
    → slice_get g.edges i ≡ Some ends → slice_get (numbers_of t g) i ≡ Some e
    → IfSome (slice_get (numbers_of t g) i) (λ edge. best ≡ best_edge_in t g edge.kappa)
    → edge_line text ends e best ≡ with_edge text t g i
one_edge text t g i ends e best joins numbers is_best =
    let least : best ≡ best_edge_in t g e.kappa = subst (λ (o : Option EdgeNumbers). IfSome o (λ edge. best ≡ best_edge_in t g edge.kappa)) numbers is_best in
    rw (joins, numbers, least) refl

pub ruleset lines = (one_more_level, one_more_edge)
