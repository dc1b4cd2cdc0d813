-- The ranges of delays, for the edges that a record matches.
use Rattle.std.proofs.Common.{◌≡◌, ◌∙◌, ℕ, ◌≤◌, ◌&&◌, arith, refl, sym, inl, inr, Bool, true, false, List}
use Rattle.std.specs.List.{Contains, list_any}
use Rattle.std.proofs.lemmas.Bool.{or_right}
use Rattle.gs_topo.specs.Graph.{Adjacent, joins}
use Rattle.gs_topo.proofs.Ascending.{joins-cases}
use Rattle.gs_topo.proofs.Members.{list_any-from_member, member-from_list_any}
use Rattle.gs_planfile.specs.declared.text.PlanText.{PlanText}
use Rattle.gs_plan.specs.Accepted.{IsAccepted, IsFine}
use Rattle.gs_plan.specs.Edges.{edge_given}
use Rattle.gs_plan.specs.Shapes.{graph_of_text}
use Rattle.gs_plan.proofs.Accepting.{inside}
use Rattle.gs_plan.proofs.Linking.{fine_at, joined_text}
use Rattle.gs_script.specs.declared.line.Who.{Who}
use Rattle.gs_script.specs.Checks.{is_bad_delay, is_bad_over, is_delay_outside, meets}
use Rattle.gs_script.specs.Lines.{is_for}
use Rattle.gs_script.specs.Script.{least_delay}

-- a member that passes the first of two tests fails the second where no member passes both
one_fails : {X : Type 0} (p q : X → Bool) (xs : List X) (x : X) → list_any (λ y. p y && q y) xs ≡ false → Contains xs x → p x ≡ true → q x ≡ false
one_fails p q xs x none member first = pick (q x) refl where
  pick : (b : Bool) → q x ≡ b → b ≡ false
  pick false is = refl
  pick true is =
      let both : p x && q x ≡ true = rw (first, is) refl in
      let some : list_any (λ y. p y && q y) xs ≡ true = list_any-from_member (λ y. p y && q y) xs x both member in
      let clash : true ≡ false = sym some ∙ none in
      cc

-- the delay of a record is in the range of each edge that it meets
met_in_range : (t : PlanText) (v w : Who) (d : ℕ) (e : ℕ × ℕ) → is_delay_outside t v w d ≡ false → Contains (graph_of_text t).edges e → meets v w e ≡ true → is_bad_over t e d ≡ false
met_in_range t v w d e h member met =
    let some : list_any (meets v w) (graph_of_text t).edges ≡ true = list_any-from_member (meets v w) (graph_of_text t).edges e met member in
    let none : list_any (λ x. meets v w x && is_bad_over t x d) (graph_of_text t).edges ≡ false = rw some at h in
    one_fails (meets v w) (λ x. is_bad_over t x d) (graph_of_text t).edges e none member met

-- the edge of two neighbours that a record matches is met
meets_joined : (v w : Who) (a b : ℕ) (e : ℕ × ℕ) → joins e a b ≡ true → is_for v a && is_for w b ≡ true → meets v w e ≡ true
meets_joined v w a b e join match = elim (joins-cases e a b join) [
  | inl there ↦ let x : e.0 ≡ a = there.0 in let y : e.1 ≡ b = there.1 in rw (x, y, match) refl
  | inr back ↦ let x : e.0 ≡ b = back.0 in let y : e.1 ≡ a = back.1 in or_right (is_for v e.0 && is_for w e.1) (is_for v e.1 && is_for w e.0) (rw (x, y) match)
]

-- the delay of a record that matches two neighbours is in the range of their edge
pub matched_in_range : (t : PlanText) (v w : Who) (d a b : ℕ) → is_delay_outside t v w d ≡ false → Adjacent (graph_of_text t) a b → is_for v a && is_for w b ≡ true
    → (least_delay (edge_given t (a, b)).delay_min ≤ d) × (d ≤ (edge_given t (a, b)).delay_max)
matched_in_range t v w d a b h next match =
    let m = member-from_list_any (λ e. joins e a b) (graph_of_text t).edges next in
    let good : is_bad_over t m.0 d ≡ false = met_in_range t v w d m.0 h m.1 (meets_joined v w a b m.0 m.2 match) in
    let here : is_bad_over t (a, b) d ≡ false = rw (joined_text t m.0 a b m.2) at good in
    inside (least_delay (edge_given t (a, b)).delay_min) (edge_given t (a, b)).delay_max d here

-- a delay in range is small
pub delay_small : (t : PlanText) (v w : Who) (d : ℕ) → IsAccepted t (graph_of_text t) → is_delay_outside t v w d ≡ false → d ≤ 65536
delay_small t v w d is h = pick (list_any (meets v w) (graph_of_text t).edges) refl where
  pick : (b : Bool) → list_any (meets v w) (graph_of_text t).edges ≡ b → d ≤ 65536
  pick true some =
      let m = member-from_list_any (meets v w) (graph_of_text t).edges some in
      let range = inside (least_delay (edge_given t m.0).delay_min) (edge_given t m.0).delay_max d (met_in_range t v w d m.0 h m.1 m.2) in
      let near = (fine_at t (graph_of_text t) m.0 is m.1).near in
      omega (arith, range, near)
  pick false none =
      let own : is_bad_delay t.delay_min t.delay_max d ≡ false = rw none at h in
      let range = inside (least_delay t.delay_min) t.delay_max d own in
      let near = is.own.near in
      omega (arith, range, near)

-- the least delay is in the range of an edge
pub least_in_range : (t : PlanText) (e : ℕ × ℕ) → IsFine t (edge_given t e)
    → (least_delay (edge_given t e).delay_min ≤ least_delay (edge_given t e).delay_min) × (least_delay (edge_given t e).delay_min ≤ (edge_given t e).delay_max)
least_in_range t e fine =
    let ordered = fine.delays in
    let some = fine.some in
    (omega arith, omega (arith, ordered, some))
