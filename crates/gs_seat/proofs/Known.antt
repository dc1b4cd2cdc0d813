-- What a seat knows of the ways to its node, through windows and hand-overs.
use Rattle.std.proofs.Common.{◌≡◌, ℕ, ◌<◌, ◌≤◌, inl, inr, arith, ap, sym, ◌∙◌, subst, List, Some, length, replicate, slice_index_or}
use Rattle.std.proofs.lemmas.Bool.{cases_eq}
use Rattle.std.proofs.lemmas.List.{get_or-replicate, length-replicate}
use Rattle.std.proofs.lemmas.Option.{same_Some}
use Rattle.gs_run.specs.Net.{Net, neighbour, neighbours, place_of}
use Rattle.gs_script.specs.Lasts.{Lasts}
use Rattle.gs_script.specs.declared.run.WayRun.{WayRun}
use Rattle.gs_calendar.specs.Course.{Course}
use Rattle.gs_calendar.specs.Transits.{Has}
use Rattle.gs_calendar.proofs.Arrivals.{place_is_inside}
use Rattle.gs_seat.specs.Held.{handed}
use Rattle.gs_seat.specs.Ways.{HoldsWays, Knows, unasked}
use Rattle.gs_seat.proofs.Held.{handed_other, handed_own}

knows_later : (c : Course) (x v a b : ℕ) (w : WayRun) → a ≤ b → Knows c x v a w → Knows c x v b w
knows_later c x v a b w le is = record {
  delay = λ q after by. is.delay q (omega (arith, le, after)) by;
  lost = λ q after by. is.lost q (omega (arith, le, after)) by;
}

-- what is known lasts from any later quantum up to its end
pub still_known : (c : Course) (x v q : ℕ) (w : WayRun) → q ≤ w.until → (a : ℕ) × (a < q) × Knows c x v a w
    → Lasts (c.delay x v) q w.until w.delay × Lasts (c.lost x v) q w.until w.is_lost
still_known c x v q w end is =
    let after = is.1 in (
      record { here = end; same = λ r from by. is.2.delay r (omega (arith, after, from)) by },
      record { here = end; same = λ r from by. is.2.lost r (omega (arith, after, from)) by },
    )

-- nothing is known at the start
pub ways_unasked : (net : Net) (c : Course) (v : ℕ) (by : ℕ → ℕ) (ws : List WayRun) → ws ≡ replicate (length (neighbours net v)) unasked → HoldsWays net c v by ws
ways_unasked net c v by ws is = record {
  count = ap (λ (xs : List WayRun). length xs) is ∙ length-replicate (length (neighbours net v)) unasked;
  way = λ x i d near at.
      let none : slice_index_or ws i d ≡ unasked =
      ap (λ (xs : List WayRun). slice_index_or xs i d) is ∙ get_or-replicate (length (neighbours net v)) i unasked d (place_is_inside net v x i at).0 in
      subst (Knows c x v (by x)) (sym none) (record {
        delay = λ q after end. absurd (omega (arith, after, end));
        lost = λ q after end. absurd (omega (arith, after, end));
      });
}

-- what holds of all that is sent after a quantum holds of all that is sent after a later one
pub ways_later : (net : Net) (c : Course) (v : ℕ) (by other : ℕ → ℕ) (ws : List WayRun) → ((x : ℕ) → Has x (neighbours net v) → by x ≤ other x) → HoldsWays net c v by ws
    → HoldsWays net c v other ws
ways_later net c v by other ws later is = record {
  count = is.count;
  way = λ x i d near at. knows_later c x v (by x) (other x) (slice_index_or ws i d) (later x near) (is.way x i d near at);
}

-- only the neighbours count
pub ways_as : (net : Net) (c : Course) (v : ℕ) (by other : ℕ → ℕ) (ws : List WayRun) → ((x : ℕ) → Has x (neighbours net v) → by x ≡ other x) → HoldsWays net c v by ws
    → HoldsWays net c v other ws
ways_as net c v by other ws same is = ways_later net c v by other ws (λ x near. let e = same x near in omega (arith, e)) is

-- one way is known from a quantum on, and the others as before
pub record IsAsked (i : ℕ) (w : WayRun) (old new : List WayRun) : Type 0 where
  pub count : length new ≡ length old
  pub own : (d : WayRun) → slice_index_or new i d ≡ w
  pub others : (k : ℕ) (d : WayRun) → (k ≡ i → ⊥) → slice_index_or new k d ≡ slice_index_or old k d

pub ways_asked : (net : Net) (c : Course) (x v i q : ℕ) (by : ℕ → ℕ) (w : WayRun) (old new : List WayRun) → place_of net v x ≡ Some i → Lasts (c.delay x v) q w.until w.delay
    → Lasts (c.lost x v) q w.until w.is_lost → IsAsked i w old new → HoldsWays net c v by old → HoldsWays net c v (handed by x q) new
ways_asked net c x v i q by w old new place delay lost asked is = record {
  count = asked.count ∙ is.count;
  way = λ y k d near at. elim (cases_eq y x) [
    | inl own ↦
        let here : k ≡ i = same_Some k i (sym at ∙ ap (place_of net v) own ∙ place) in
        let known : Knows c x v q w = record {
          delay = λ r after end. delay.same r (omega (arith, after)) end;
          lost = λ r after end. lost.same r (omega (arith, after)) end;
        } in
        let there : slice_index_or new k d ≡ w = ap (λ (j : ℕ). slice_index_or new j d) here ∙ asked.own d in
        subst (λ (z : ℕ). Knows c z v (handed by x q z) (slice_index_or new k d)) (sym own)
        (subst (λ (a : ℕ). Knows c x v a (slice_index_or new k d)) (sym (handed_own by x q x (λ j. x))) (subst (Knows c x v q) (sym there) known))
    | inr other ↦
        let there : k ≡ i → ⊥ = λ e. other (sym (place_is_inside net v y k at).1 ∙ ap (neighbour net v) e ∙ (place_is_inside net v x i place).1) in
        subst (λ (a : ℕ). Knows c y v a (slice_index_or new k d)) (sym (handed_other by x q y other))
        (subst (Knows c y v (by y)) (sym (asked.others k d there)) (is.way y k d near at))
  ];
}
