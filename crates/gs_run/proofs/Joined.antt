-- An allowed run leaves a history.
use Rattle.std.proofs.Common.{◌≡◌, ℕ, suc, ◌+◌, ◌-◌, ◌<◌, ◌≤◌, ◌⊎◌, inl, inr, arith, ap, sym, ◌∙◌, refl, List, slice_index, subst}
use Rattle.gs_units.specs.Rates.{steer_of}
use Rattle.gs_steer.specs.Modes.{mode_of}
use Rattle.gs_core.specs.Node.{Decision, clock_of}
use Rattle.gs_core.specs.declared.event.Event.{Event}
use Rattle.gs_run.specs.Net.{Net, Adjacent, neighbour, iota_of}
use Rattle.gs_run.specs.World.{World, Member, member}
use Rattle.gs_run.specs.Accepted.{AreNumbers}
use Rattle.gs_run.proofs.History.{Steers, Hears, IsHistory, IsEqual}
use Rattle.gs_run.proofs.Places.{place_of_neighbour}
use Rattle.gs_run.proofs.Keeping.{world_at}
use Rattle.gs_run.proofs.Current.{row_of, reading_of, most_of}
use Rattle.gs_run.proofs.Dates.{IsDated}
use Rattle.gs_run.proofs.Start.{first_row, first_most}
use Rattle.gs_run.proofs.Moments.{IsRun, starts_at, IsMoment, moment, at_row}

pub moment_steers : (net : Net) (total : List World) (t v h : ℕ) (m : Member) (d : Decision)
    → IsMoment net total t v h m d → Steers net (row_of net total) (reading_of total) (most_of net total) t v
moment_steers net total t v h m d k =
    let e = k.dated.decided in
    let c = k.dated.current in
    let l = e.l in
    let at = e.at in
    let now = c.reading in
    let next_row : row_of net total (suc t) v ≡ m.node.l + steer_of net.rate m.node.mode (m.reading + h - m.node.at) =
    ap (λ (z : Member). clock_of net.rate z.node z.reading) k.next in
    let next_reading : reading_of total (suc t) v ≡ m.reading + h = ap (λ (z : Member). z.reading) k.next in
    record {
      when = m.ticked_at;
      mode = m.node.mode;
      sights = d.sights;
      m = d.m;
      before = e.before;
      recent = k.may.tick;
      decided = e.mode ∙ ap (λ (z : ℕ). mode_of (iota_of net) d.sights d.m z) l;
      count = e.count;
      sees = e.sees;
      told = e.told;
      own = e.own;
      reached = e.reached;
      from = sym c.clock ∙ rw (l, at, now) refl;
      to = next_row ∙ rw (l, at, next_reading) refl;
    }

row_hears : (net : Net) (total : List World) (t v x : ℕ) (d : Decision) → x < net.nodes → Adjacent net v x
    → IsDated net total t v (member (world_at total t) v) d
    → Hears net (most_of net total) t v x ⊎ (t ≤ net.age)
row_hears net total t v x d hx next k =
    let place = place_of_neighbour net v x hx next in
    let i : ℕ = place.0 in
    let P : ℕ → Type 0 = λ y. Hears net (most_of net total) t v y ⊎ (t ≤ net.age) in
    let e = k.entry i place.1 in
    let recent = e.recent in
    let here : P (neighbour net v i) = elim (k.hears i place.1) [
      | inl told ↦ inl (record {
        sent = slice_index (member (world_at total t) v).heard i;
        before = omega (arith, e.before, e.until);
        recent = recent;
        value = omega (arith, told);
      })
      | inr start ↦ inr (omega (arith, recent, start))
    ] in
    subst P place.2 here

-- An allowed run leaves a history.
pub run_is_history : {net : Net} {hw clocks : ℕ → ℕ} {es : List Event} {total : List World} {last : ℕ}
    → AreNumbers net → IsRun net hw clocks es total last
    → IsHistory net last (row_of net total) (reading_of total) (most_of net total)
run_is_history {net} {hw} {clocks} {es} {total} numbers r = record {
  readings = λ t v ht hv.
      let m = moment numbers r t v ht hv in
      let next : reading_of total (suc t) v ≡ m.1.reading + m.0 = ap (λ (z : Member). z.reading) m.3.next in
      (m.0, m.3.increment, next ∙ ap (λ (n : ℕ). n + m.0) m.3.dated.current.reading);
  steers = λ t v ht hv. let m = moment numbers r t v ht hv in moment_steers net total t v m.0 m.1 m.2 m.3;
  first = λ v hv. let s = starts_at r in first_most s v hv ∙ sym (first_row s v hv);
  above = λ t v ht hv. omega arith;
  since = λ t v ht hv. let k = at_row numbers r t v ht hv in let s = k.1.since in omega (arith, s);
  hears = λ t v x ht hv hx next. let k = at_row numbers r t v ht hv in row_hears net total t v x k.0 hx next k.1;
}

-- equal clocks make an equal first row
pub run_is_equal : {net : Net} {hw clocks : ℕ → ℕ} {es : List Event} {total : List World} {last : ℕ}
    → IsRun net hw clocks es total last → ((v w : ℕ) → clocks v ≡ clocks w) → IsEqual net (row_of net total)
run_is_equal r same v w hv hw' =
    let s = starts_at r in
    first_row s v hv ∙ same v w ∙ sym (first_row s w hw')
