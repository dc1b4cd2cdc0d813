-- The start of a world.
use Rattle.std.proofs.Common.{◌≡◌, ℕ, zero, suc, ◌+◌, ◌<◌, ◌≤◌, ◌^◌, ◌∙◌, arith, ap, sym, subst, refl, inl, inr, length, length-append, List, [], ◌∷◌, ◌++◌, All, filter, map, replicate, slice_index, slice_index_or}
use Rattle.std.specs.List.{range_with_len}
use Rattle.std.proofs.Math.Seq.{get_or-append_seam}
use Rattle.std.proofs.lemmas.Bool.{cases_lt}
use Rattle.std.proofs.lemmas.List.{get_or-map, get_or-replicate, get_or_append_left, get_or_default, length-map, map-append, same_lists}
use Rattle.std.proofs.lemmas.List.FromFn.{get_or-map-range_with_len, length-map-range_with_len}
use Rattle.gs_units.specs.declared.rate.Mode.TheVariants.{Slow}
use Rattle.gs_core.specs.Node.{clock_of}
use Rattle.gs_run.proofs.Current.{steer_zero}
use Rattle.gs_topo.proofs.Building.{range_more}
use Rattle.gs_run.specs.Accepted.{IsSmall}
use Rattle.gs_run.specs.Fast.{is_fast}
use Rattle.gs_run.specs.Net.{Net}
use Rattle.gs_run.specs.Reach.{IsReachable}
use Rattle.gs_world.specs.inside.Members.{IsMember, member_of}
use Rattle.gs_run.specs.World.{Member, World, clocks_in, member_at_start, world_at_start, world_at_start_each}
use Rattle.gs_world.specs.declared.member.Member.{Member as Seat}
use Rattle.gs_run.proofs.Reaching.{start_is_reachable}

-- one more member
pub members_more : (f : ℕ → Member) (seats : List Seat) (s : Seat) (v : ℕ)
    → map member_of seats ≡ map f (range_with_len 0 v) → member_of s ≡ f v
    → map member_of (seats ++ s ∷ []) ≡ map f (range_with_len 0 (v + 1))
members_more f seats s v before here =
    let place : 0 + v ≡ v = omega arith in
    let more : range_with_len 0 (v + 1) ≡ range_with_len 0 v ++ v ∷ [] =
    range_more 0 v ∙ ap (λ (k : ℕ). range_with_len 0 v ++ k ∷ []) place in
    map-append member_of seats (s ∷ [])
    ∙ ap (λ (ms : List Member). ms ++ member_of s ∷ []) before
    ∙ ap (λ (m : Member). map f (range_with_len 0 v) ++ m ∷ []) here
    ∙ sym (ap (map f) more ∙ map-append f (range_with_len 0 v) (v ∷ []))

-- one more seat
pub seats_more : (net : Net) (seats : List Seat) (s : Seat) (v : ℕ) → length seats ≡ v
    → ((k : ℕ) (d : Seat) → k < length seats → IsMember net k (slice_index_or seats k d)) → IsMember net v s
    → (k : ℕ) (d : Seat) → k < length (seats ++ s ∷ []) → IsMember net k (slice_index_or (seats ++ s ∷ []) k d)
seats_more net seats s v count each here k d h = elim (cases_lt k (length seats)) [
  | inl before ↦ rw (get_or_append_left seats (s ∷ []) d k before) (each k d before)
  | inr from ↦
      let long = length-append seats (s ∷ []) in
      let last : k ≡ length seats = omega (arith, from, h, long) in
      let at : slice_index_or (seats ++ s ∷ []) k d ≡ s =
      ap (λ (j : ℕ). slice_index_or (seats ++ s ∷ []) j d) last ∙ get_or-append_seam seats s [] d in
      subst (λ (x : Seat). IsMember net k x) (sym at) (subst (λ (j : ℕ). IsMember net j s) (sym (last ∙ count)) here)
]

-- small values are those of a start
pub each_small : (net : Net) (hw l0s : List ℕ) → length hw ≡ net.nodes → All (λ x. x ≤ 2 ^ 61) hw
    → length l0s ≡ net.nodes → All (λ x. x ≤ 2 ^ 61) l0s → IsSmall net (slice_index hw) (slice_index l0s)
each_small net hw l0s hw_count readings l0_count clocks = record {
  clocks = λ v h. clocks v 0 (omega (arith, h, l0_count));
  readings = λ v h. readings v 0 (omega (arith, h, hw_count));
}

pub start_reached : (net : Net) (hw l0s : List ℕ) → length hw ≡ net.nodes → All (λ x. x ≤ 2 ^ 61) hw
    → length l0s ≡ net.nodes → All (λ x. x ≤ 2 ^ 61) l0s
    → (w : World) → w ≡ world_at_start_each net hw l0s → IsReachable net w
start_reached net hw l0s a b c d w is =
    subst (λ (x : World). IsReachable net x) (sym is)
    (start_is_reachable net (slice_index hw) (slice_index l0s) (each_small net hw l0s a b c d))

-- each node starts with its clock
pub clocks_at_start : (net : Net) (hw l0s : List ℕ) → length l0s ≡ net.nodes
    → l0s ≡ clocks_in net (world_at_start_each net hw l0s)
clocks_at_start net hw l0s count =
    let f : ℕ → Member = λ v. member_at_start net v (slice_index hw v) (slice_index l0s v) in
    let nodes : List ℕ = range_with_len 0 net.nodes in
    let members = length-map-range_with_len f 0 net.nodes in
    let clock : Member → ℕ = λ m. clock_of net.rate m.node m.reading in
    same_lists l0s (map clock (map f nodes)) (count ∙ sym (length-map (map f nodes) clock ∙ members)) (λ k d h.
    let inside : k < net.nodes = omega (arith, h, count) in
    let z = steer_zero net.rate Slow (slice_index hw k) in
    let here : clock (f k) ≡ slice_index l0s k = omega (arith, z) in
    get_or_default l0s k d 0 h ∙ sym here
    ∙ sym (get_or-map clock (map f nodes) k (f k) d (omega (arith, inside, members))
    ∙ ap clock (get_or-map-range_with_len f 0 net.nodes k k (f k) inside (omega arith))))

-- no node starts fast
pub none_starts_fast : (net : Net) (hw clocks : ℕ → ℕ) (vs : List ℕ)
    → length (filter (λ m. is_fast m.node.mode) (map (λ v. member_at_start net v (hw v) (clocks v)) vs)) ≡ 0
none_starts_fast net hw clocks [] = refl
none_starts_fast net hw clocks (v ∷ vs) = none_starts_fast net hw clocks vs

-- ---- one clock for all

maps_agree : (f g : ℕ → Member) (a n : ℕ) → ((v : ℕ) → v < a + n → f v ≡ g v)
    → map f (range_with_len a n) ≡ map g (range_with_len a n)
maps_agree f g a zero same = refl
maps_agree f g a (suc n) same =
    let here = same a (omega arith) in
    let rest = maps_agree f g (a + 1) n (λ v h. same v (omega (arith, h))) in
    rw (here, rest) refl

pub same_start : (net : Net) (hw l0s : List ℕ) (l0 : ℕ) → l0s ≡ replicate (length hw) l0 → length hw ≡ net.nodes
    → world_at_start_each net hw l0s ≡ world_at_start net hw l0
same_start net hw l0s l0 all count =
    ap (λ (ms : List Member). let w : World = record { quanta = 0; members = ms } in w)
    (maps_agree (λ v. member_at_start net v (slice_index hw v) (slice_index l0s v)) (λ v. member_at_start net v (slice_index hw v) l0) 0 net.nodes (λ v h.
    let clock : slice_index l0s v ≡ l0 =
    ap (λ (xs : List ℕ). slice_index xs v) all ∙ get_or-replicate (length hw) v l0 0 (omega (arith, h, count)) in
    ap (member_at_start net v (slice_index hw v)) clock))
