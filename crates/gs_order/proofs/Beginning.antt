-- Events under way, one quantum after another, and the order of their stamps.
use Rattle.std.proofs.Common.{◌≡◌, ℕ, zero, suc, ◌+◌, ◌-◌, ◌*◌, ◌/◌, ◌%◌, ◌<◌, ◌≤◌, ◌==◌, ◌⊎◌, inl, inr, arith, ap, refl, ◌∙◌, sym, subst, List, [], ◌∷◌, ◌++◌, length, map, Bool, true, false, nat_lt, Option, Some, None, IsSome, All, slice_index, slice_index_or, if◌then◌else◌, get_or}
use Rattle.std.specs.List.{range_with_len}
use Rattle.std.specs.Option.{option_or}
use Rattle.std.proofs.Math.Nat.{add-mul, div-add-mod', mod-lt, le-div_iff_mul-le, div-lt_iff_lt-mul}
use Rattle.std.proofs.lemmas.Bool.{cases_lt, eq-eqb, ltb-true, ne_eqb}
use Rattle.std.proofs.lemmas.List.{get_or-map, length-map, same_lists}
use Rattle.std.proofs.lemmas.List.FromFn.{get_or-map-range_with_len, length-map-range_with_len}
use Rattle.gs_topo.proofs.Building.{map_range_more}
use Rattle.gs_order.specs.Orders.{AreOrdered, first_above, timed, timed_from, timed_upto}
use Rattle.gs_order.specs.inside.UnderWay.{AreDone, after_clocks, begun_at, with_due}
use Rattle.gs_order.specs.declared.timed.Timed.{Timed}

-- ---- when events begin

-- the counts of events by the ends of two quanta, one after the other
pub record IsNoBegin (every t : ℕ) : Type 0 where
  pub rest : 0 < (t + 1) % every
  pub same : (t + 1) / every ≡ t / every

pub record IsBegin (every t : ℕ) : Type 0 where
  pub rest : (t + 1) % every ≡ 0
  pub more : (t + 1) / every ≡ t / every + 1
  pub at : (t / every + 1) * every ≡ t + 1

begins : (every t : ℕ) → 0 < every → IsNoBegin every t ⊎ IsBegin every t
begins every t some =
    let q : ℕ = t / every in
    let whole = div-add-mod' t every in
    let less = mod-lt t some in
    let whole_next = div-add-mod' (t + 1) every in
    let one : (q + 1) * every ≡ q * every + 1 * every = add-mul q 1 every in
    let two : (q + 2) * every ≡ q * every + 2 * every = add-mul q 2 every in
    elim (cases_lt (t % every + 1) every) [
      | inl inside ↦
          let low : q ≤ (t + 1) / every = (le-div_iff_mul-le some).1 (omega (arith, whole)) in
          let high : (t + 1) / every < q + 1 = (div-lt_iff_lt-mul some).1 (omega (arith, whole, one, inside)) in
          let same : (t + 1) / every ≡ q = omega (arith, low, high) in
          let product : (t + 1) / every * every ≡ q * every = ap (λ (x : ℕ). x * every) same in
          inl (record { rest = omega (arith, whole, whole_next, product); same = same })
      | inr last ↦
          let full : t % every + 1 ≡ every = omega (arith, less, last) in
          let low : q + 1 ≤ (t + 1) / every = (le-div_iff_mul-le some).1 (omega (arith, whole, one, full)) in
          let high : (t + 1) / every < q + 2 = (div-lt_iff_lt-mul some).1 (omega (arith, whole, two, full, some)) in
          let more : (t + 1) / every ≡ q + 1 = omega (arith, low, high) in
          let product : (t + 1) / every * every ≡ (q + 1) * every = ap (λ (x : ℕ). x * every) more in
          inr (record {
            rest = omega (arith, whole, whole_next, product, one, full);
            more = more;
            at = omega (arith, whole, one, full);
          })
    ]

-- each event that is counted has begun
begun_by : (every t i : ℕ) → 0 < every → i < t / every → (i + 1) * every ≤ t
begun_by every t i some inside = (le-div_iff_mul-le some).0 (omega (arith, inside))

-- ---- one quantum more

-- two lists over a range that agree place by place
pub range_same : {X Y : Type 0} (h : X → Y) (f : ℕ → X) (g : ℕ → Y) (a m : ℕ)
    → ((i : ℕ) → a ≤ i → i < a + m → h (f i) ≡ g i) → map h (map f (range_with_len a m)) ≡ map g (range_with_len a m)
range_same h f g a zero each = refl
range_same {X} {Y} h f g a (suc m) each =
    let first : h (f a) ≡ g a = each a (omega arith) (omega arith) in
    let rest : map h (map f (range_with_len (a + 1) m)) ≡ map g (range_with_len (a + 1) m) =
    range_same h f g (a + 1) m (λ i low high. each i (omega (arith, low)) (omega (arith, high))) in
    λ k. first k ∷ rest k

-- an event that has begun, after one quantum more
timed_more : (clock : ℕ → ℕ → ℕ) (wait n every t i : ℕ) (row : List ℕ) → ((v : ℕ) → slice_index row v ≡ clock (t + 1) v)
    → (i + 1) * every ≤ t → after_clocks wait (t + 1) row (timed clock wait n every t i) ≡ timed clock wait n every (t + 1) i
timed_more clock wait n every t i row is begun =
    let v : ℕ = i % n in
    let b : ℕ = (i + 1) * every in
    let k : ℕ = t - b in
    let more : t + 1 - b ≡ suc k = omega (arith, begun) in
    let at : b + suc k ≡ t + 1 = omega (arith, begun) in
    let earlier : Option ℕ = first_above (λ u. clock u v) (clock b v + wait) b k in
    let P : ℕ → ℕ → Timed = λ c u. record {
      node = v;
      begun = b;
      stamp = clock b v;
      finished = option_or earlier (if nat_lt (clock b v + wait) c then Some u else None);
    } in
    ap (λ (c : ℕ). P c (t + 1)) (is v)
    ∙ ap (λ (u : ℕ). P (clock u v) u) (sym at)
    ∙ ap (λ (m : ℕ). timed_from clock wait v b m) (sym more)

-- all that have begun, and the one that begins then
pub upto_more : (clock : ℕ → ℕ → ℕ) (wait n every t : ℕ) (row : List ℕ) → 0 < every → ((v : ℕ) → slice_index row v ≡ clock (t + 1) v)
    → with_due every (t + 1) n row (map (after_clocks wait (t + 1) row) (timed_upto clock wait n every t))
    ≡ timed_upto clock wait n every (t + 1)
upto_more clock wait n every t row some is =
    let f : ℕ → Timed = timed clock wait n every (t + 1) in
    let q : ℕ = t / every in
    let old : map (after_clocks wait (t + 1) row) (timed_upto clock wait n every t) ≡ map f (range_with_len 0 q) =
    range_same (after_clocks wait (t + 1) row) (timed clock wait n every t) f 0 q
    (λ i low high. timed_more clock wait n every t i row is (begun_by every t i some (omega (arith, high)))) in
    ap (λ (events : List Timed). with_due every (t + 1) n row events) old ∙ elim (begins every t some) [
      | inl none ↦
          let test : ((t + 1) % every == 0) ≡ false = let r = none.rest in ne_eqb ((t + 1) % every) 0 (λ e. omega (arith, r, e)) in
          rw test (ap (λ (m : ℕ). map f (range_with_len 0 m)) (sym none.same))
      | inr one ↦
          let test : ((t + 1) % every == 0) ≡ true = eq-eqb ((t + 1) % every) 0 one.rest in
          let node : (t + 1) / every - 1 ≡ q = let m = one.more in omega (arith, m) in
          let none : t + 1 - (t + 1) ≡ 0 = omega arith in
          let P : ℕ → ℕ → Timed = λ b k. timed_from clock wait (q % n) b k in
          let new : begun_at every (t + 1) n row ≡ f q =
          ap (λ (i : ℕ). let e : Timed = record { node = i % n; begun = t + 1; stamp = slice_index row (i % n); finished = None } in e) node
          ∙ ap (λ (c : ℕ). let e : Timed = record { node = q % n; begun = t + 1; stamp = c; finished = None } in e) (is (q % n))
          ∙ ap (λ (k : ℕ). P (t + 1) k) (sym none)
          ∙ ap (λ (b : ℕ). P b (t + 1 - b)) (sym one.at) in
          rw test (ap (λ (e : Timed). map f (range_with_len 0 q) ++ e ∷ []) new
          ∙ sym (map_range_more f q)
          ∙ ap (λ (m : ℕ). map f (range_with_len 0 m)) (sym one.more))
    ]

-- ---- events that have finished stay as they are

or_some : (o p : Option ℕ) → IsSome o → option_or o p ≡ o
or_some None p h = absurd (cc)
or_some (Some x) p h = refl

pub stays_done : (wait t : ℕ) (clocks : List ℕ) (e : Timed) → IsSome e.finished → after_clocks wait t clocks e ≡ e
stays_done wait t clocks e h =
    ap (λ (o : Option ℕ). let x : Timed = record e { finished = o } in x)
    (or_some e.finished (if nat_lt (e.stamp + wait) (slice_index clocks e.node) then Some t else None) h)

pub all_after : (wait t : ℕ) (clocks : List ℕ) (old new : List Timed) (done i : ℕ) → AreDone old done → length new ≡ length old → length old ≤ i
    → ((k : ℕ) (d : Timed) → k < done → slice_index_or new k d ≡ slice_index_or old k d)
    → ((k : ℕ) (d : Timed) → done ≤ k → k < i → slice_index_or new k d ≡ after_clocks wait t clocks (slice_index_or old k d))
    → new ≡ map (after_clocks wait t clocks) old
all_after wait t clocks old new done i are count end early past =
    same_lists new (map (after_clocks wait t clocks) old) (count ∙ sym (length-map old (after_clocks wait t clocks))) (λ k d h.
    let inside : k < length old = omega (arith, count, h) in
    let at = get_or-map (after_clocks wait t clocks) old k d d inside in
    elim (cases_lt k done) [
      | inl before ↦ early k d before ∙ sym (stays_done wait t clocks (slice_index_or old k d) (are.finished k d before)) ∙ sym at
      | inr later ↦ past k d later (omega (arith, inside, end)) ∙ sym at
    ])

-- so those that are known to have finished are known of all
done_after : (wait t : ℕ) (clocks : List ℕ) (events : List Timed) (done : ℕ) → AreDone events done
    → AreDone (map (after_clocks wait t clocks) events) done
done_after wait t clocks events done are =
    let long = length-map events (after_clocks wait t clocks) in
    let within = are.inside in
    record {
      inside = omega (arith, long, within);
      finished = λ k d h.
          let at = get_or-map (after_clocks wait t clocks) events k d d (omega (arith, within, h)) in
          let same = stays_done wait t clocks (slice_index_or events k d) (are.finished k d h) in
          subst (λ (e : Timed). IsSome e.finished) (sym (at ∙ same)) (are.finished k d h);
    }

pub done_mapped : (wait t : ℕ) (clocks : List ℕ) (old new : List Timed) (done : ℕ) → AreDone old done
    → new ≡ map (after_clocks wait t clocks) old → AreDone new done
done_mapped wait t clocks old new done are is = rw is (done_after wait t clocks old done are)

-- ---- all events

pub none_yet : (clock : ℕ → ℕ → ℕ) (wait n every : ℕ) → timed_upto clock wait n every 0 ≡ []
none_yet clock wait n every =
    ap (λ (m : ℕ). map (timed clock wait n every 0) (range_with_len 0 m)) (zero_over every) where
      zero_over : (k : ℕ) → 0 / k ≡ 0
      zero_over k = grind arith

-- event k is what it is
pub at_place : (clock : ℕ → ℕ → ℕ) (wait n every t k : ℕ) (d : Timed) → k < length (timed_upto clock wait n every t)
    → (slice_index_or (timed_upto clock wait n every t) k d ≡ timed clock wait n every t k) × (k < t / every)
at_place clock wait n every t k d h =
    let inside : k < t / every = rw (length-map-range_with_len (timed clock wait n every t) 0 (t / every)) at h in
    (get_or-map-range_with_len (timed clock wait n every t) 0 (t / every) k k d inside (omega arith), inside)

-- its node is one
pub nodes_known : (clock : ℕ → ℕ → ℕ) (wait n every t : ℕ) (events : List Timed) → 0 < n → events ≡ timed_upto clock wait n every t
    → All (λ e. e.node < n) events
nodes_known clock wait n every t events some is = rw is (λ k d h.
    subst (λ (e : Timed). e.node < n) (sym (at_place clock wait n every t k d h).0) (mod-lt k some))

-- what is found is above the mark
first_is_above : (clock : ℕ → ℕ) (mark b k t : ℕ) → first_above clock mark b k ≡ Some t → (mark < clock t) × (t ≤ b + k)
first_is_above clock mark b zero t e = absurd (cc)
first_is_above clock mark b (suc k) t e = pick (λ same. first_is_above clock mark b k t same) (first_above clock mark b k) refl where
  last : (v : Bool) → nat_lt mark (clock (b + suc k)) ≡ v → (if v then Some (b + suc k) else None) ≡ Some t → (mark < clock t) × (t ≤ b + suc k)
  last true above same =
      let at : b + suc k ≡ t = cc in
      let lt : mark < clock (b + suc k) = ltb-true mark (clock (b + suc k)) above in
      (subst (λ (u : ℕ). mark < clock u) at lt, omega (arith, at))
  last false above same = absurd (cc)

  pick : (first_above clock mark b k ≡ Some t → (mark < clock t) × (t ≤ b + k)) → (o : Option ℕ) → first_above clock mark b k ≡ o → (mark < clock t) × (t ≤ b + suc k)
  pick rec None none =
      let same : option_or None (if nat_lt mark (clock (b + suc k)) then Some (b + suc k) else None) ≡ Some t =
      rw none at e in
      last (nat_lt mark (clock (b + suc k))) refl same
  pick rec (Some u) some =
      let same : option_or (Some u) (if nat_lt mark (clock (b + suc k)) then Some (b + suc k) else None) ≡ Some t = rw some at e in
      let at : u ≡ t = cc in
      let found = rec (some ∙ ap Some at) in
      (found.0, omega (arith, found.1))

-- Stamps are in order where clocks stay within the wait of each other and never fall.
pub are_ordered : (clock : ℕ → ℕ → ℕ) (wait n every last : ℕ) (events : List Timed) → 0 < every → 0 < n
    → ((t v w : ℕ) → t ≤ last → v < n → w < n → clock t w ≤ clock t v + wait)
    → ((s t v : ℕ) → s ≤ t → t ≤ last → v < n → clock s v ≤ clock t v)
    → events ≡ timed_upto clock wait n every last → AreOrdered events
are_ordered clock wait n every last events some nodes skew rises is = rw is (λ i k t d hi hk finished le.
    let one = at_place clock wait n every last i d hi in
    let two = at_place clock wait n every last k d hk in
    let v : ℕ = i % n in
    let u : ℕ = k % n in
    let b : ℕ = (i + 1) * every in
    let c : ℕ = (k + 1) * every in
    let found : first_above (λ x. clock x v) (clock b v + wait) b (last - b) ≡ Some t = ap (λ (e : Timed). e.finished) (sym one.0) ∙ finished in
    let above = first_is_above (λ x. clock x v) (clock b v + wait) b (last - b) t found in
    let first : b ≤ last = begun_by every last i some one.1 in
    let second : c ≤ last = begun_by every last k some two.1 in
    let begun : t ≤ c = subst (λ (e : Timed). t ≤ e.begun) two.0 le in
    let near = skew t u v (omega (arith, begun, second)) (mod-lt k nodes) (mod-lt i nodes) in
    let later = rises t c u begun second (mod-lt k nodes) in
    let less : clock b v < clock c u = omega (arith, above.0, near, later) in
    rw (one.0, two.0) less)
