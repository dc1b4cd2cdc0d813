-- Where every neighbour is too near for the first level, neither trigger holds at any.
use Rattle.std.proofs.Common.{◌≡◌, ℕ, ◌-ℤ◌, pos, ◌≤ℤ◌, ◌∙◌, ◌+◌, ◌*◌, ◌<◌, ◌≤◌, List, [], ◌∷◌, length, All, map, Bool, true, false, ◌&&◌, arith, nat_lt, refl}
use Rattle.std.specs.List.{zip}
use Rattle.std.proofs.lemmas.Bool.{and_parts}
use Rattle.std.proofs.lemmas.Int.{ints}
use Rattle.std.proofs.lemmas.List.Elements.{All-nil, All-cons}
use Rattle.gs_units.specs.declared.params.Link.{Link}
use Rattle.gs_estimate.specs.Entries.{offset_of, estimate_of}
use Rattle.gs_estimate.specs.declared.slots.Entry.{Entry}
use Rattle.gs_trigger.specs.Triggers.{Sight, IsFarAhead, IsFarBehind}
use Rattle.gs_trigger.proofs.Distances.{odd_one, even_is}
use Rattle.gs_steer.specs.Modes.{mode_of, following_mode}
use Rattle.gs_steer.proofs.Deciding.{following}
use Rattle.gs_core.specs.inside.Quiet.{is_near, is_quiet}

-- no level of either trigger is reached
record IsNear (x : Sight) : Type 0 where
  ahead : (s : ℕ) → 1 ≤ s → ¬ IsFarAhead s x
  behind : (s : ℕ) → 1 ≤ s → ¬ IsFarBehind s x

far_below : (l d k e n : ℕ) → k ≤ n → e + d < l + k → ¬ ((pos n -ℤ pos d) ≤ℤ (pos e -ℤ pos l))
far_below l d k e n le near far = omega (arith, ints, le, near, far)

far_above : (l d k e n : ℕ) → 2 * k ≤ n → l + d < e + 2 * k → ¬ ((pos e -ℤ pos l) ≤ℤ (pos d -ℤ pos n))
far_above l d k e n le near far = omega (arith, ints, le, near, far)

lt-nat_lt : (a b : ℕ) → nat_lt a b ≡ true → a < b
lt-nat_lt a b e = grind arith

near : (l now : ℕ) (link : Link) (e : Entry) → is_near l now (link, e) ≡ true → IsNear (link, offset_of l now e)
near l now link e here =
    let parts = and_parts (nat_lt (estimate_of e now + link.delta) (l + link.kappa)) (nat_lt (l + link.delta) (estimate_of e now + 2 * link.kappa)) here in
    record {
      ahead = λ s one. far_below l link.delta link.kappa (estimate_of e now) _ (odd_one link.kappa s one) (lt-nat_lt _ _ parts.0);
      behind = λ s one.
          let even = even_is link.kappa s one in
          let odd = odd_one link.kappa s one in
          far_above l link.delta link.kappa (estimate_of e now) _ (omega (arith, even, odd)) (lt-nat_lt _ _ parts.1);
    }

all_near : (l now : ℕ) (links : List Link) (entries : List Entry) → is_quiet l now links entries ≡ true → All IsNear (zip links (map (offset_of l now) entries))
all_near l now [] entries quiet = All-nil IsNear
all_near l now (k ∷ ks) [] quiet = All-nil IsNear
all_near l now (k ∷ ks) (e ∷ es) quiet =
    let parts = and_parts (is_near l now (k, e)) (is_quiet l now ks es) quiet in
    All-cons IsNear (k, offset_of l now e) (zip ks (map (offset_of l now) es)) (near l now k e parts.0) (all_near l now ks es parts.1)

-- so the maximum decides the mode
pub quiet_mode : (iota m l now : ℕ) (links : List Link) (entries : List Entry) → is_quiet l now links entries ≡ true
    → mode_of iota (zip links (map (offset_of l now) entries)) m l ≡ following_mode iota m l
quiet_mode iota m l now links entries quiet =
    let each = all_near l now links entries quiet in
    following iota m l (zip links (map (offset_of l now) entries))
    (λ s one fast. let here : IsNear fast.0.1 = let h = each fast.0.0 fast.0.1 fast.0.2 in rw fast.0.3 at h in here.ahead s one fast.0.4)
    (λ s one slow. let here : IsNear slow.0.1 = let h = each slow.0.0 slow.0.1 slow.0.2 in rw slow.0.3 at h in here.behind s one slow.0.4)

-- one pass over links and entries: a near one leaves the rest,
and-true : (a b : Bool) → a ≡ true → (a && b) ≡ b
and-true true b e = refl
and-true false b e = absurd (cc)

pub quiet_goes_on : (l now : ℕ) (all : Bool) (links ks : List Link) (entries es : List Entry) (k : Link) (e : Entry) → links ≡ k ∷ ks → entries ≡ e ∷ es
    → all ≡ is_quiet l now links entries → is_near l now (k, e) ≡ true → all ≡ is_quiet l now ks es
quiet_goes_on l now all links ks entries es k e first second so_far here =
    let at_first : all ≡ is_quiet l now (k ∷ ks) (e ∷ es) = rw (first, second) at so_far in
    at_first ∙ and-true (is_near l now (k, e)) (is_quiet l now ks es) here

-- and nothing is left where either list has ended
pub quiet-no_links : (l now : ℕ) (links : List Link) (entries : List Entry) → length links ≡ 0 → is_quiet l now links entries ≡ true
quiet-no_links l now [] entries e = refl
quiet-no_links l now (k ∷ ks) entries e = absurd (omega arith)

pub quiet-no_entries : (l now : ℕ) (links : List Link) (entries : List Entry) → length entries ≡ 0 → is_quiet l now links entries ≡ true
quiet-no_entries l now [] entries e = refl
quiet-no_entries l now (k ∷ ks) [] e = refl
quiet-no_entries l now (k ∷ ks) (x ∷ es) e = absurd (omega arith)
