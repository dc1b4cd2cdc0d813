-- What seats are after a quantum, and when two members are the same.
use Rattle.std.proofs.Common.{◌≡◌, ℕ, ◌+◌, ◌∙◌, All, ap, sym, refl, arith, ◌<◌, map, length, slice_index, slice_index_or, List, [], ◌∷◌, false}
use Rattle.std.specs.List.{zip}
use Rattle.std.proofs.lemmas.List.{get_or-map, get_or_default, length-map, same_lists}
use Rattle.std.proofs.lemmas.Slice.Zip.{get_or-zip, length-zip}
use Rattle.gs_core.specs.Node.{Node, heard}
use Rattle.gs_run.specs.Fast.{is_fast}
use Rattle.gs_world.specs.inside.Members.{AreSlowClocks, advance_members, advanced_seat, clock_at, sums}
use Rattle.gs_run.specs.World.{Member, Sent}
use Rattle.gs_world.specs.declared.member.Member.{Member as Seat}

-- members with the same parts are the same
pub same_member : (reading ticked_at : ℕ) {n m : Node} {s t : List Sent} {h k : List ℕ} → n ≡ m → s ≡ t → h ≡ k
    → (let a : Member = record { reading = reading; node = n; ticked_at = ticked_at; sent = s; heard = h } in a)
    ≡ record { reading = reading; node = m; ticked_at = ticked_at; sent = t; heard = k }
same_member reading ticked_at node sent heard = rw (node, sent, heard) refl

-- ---- a quantum

-- numbers of which each has its increment
pub all_added : (old new incs : List ℕ) → length incs ≡ length old → length new ≡ length old
    → ((k d : ℕ) → k < length old → slice_index_or new k d ≡ slice_index_or old k d + slice_index incs k)
    → new ≡ sums old incs
all_added old new incs count same each =
    let pairs : List (ℕ × ℕ) = zip old incs in
    let long : length pairs ≡ length old = let z = length-zip old incs in omega (arith, z, count) in
    same_lists new (sums old incs) (same ∙ sym long ∙ sym (length-map pairs _)) (λ k d h.
    let inside : k < length old = omega (arith, same, h) in
    each k d inside
    ∙ sym (get_or-map (λ p. p.0 + p.1) pairs k (d, 0) d (omega (arith, long, inside))
    ∙ ap (λ (p : ℕ × ℕ). p.0 + p.1) (get_or-zip old incs k (d, 0) inside (omega (arith, count, inside)))))

-- the clocks of slow nodes are all clocks where all are slow
pub all_slow : (seats : List Seat) (clocks : List ℕ) → AreSlowClocks seats clocks
    → All (λ s. is_fast s.core.node.mode ≡ false) seats → clocks ≡ map clock_at seats
all_slow seats clocks at slow =
    same_lists clocks (map clock_at seats) (at.places ∙ sym (length-map seats clock_at)) (λ k d h.
    let places = at.places in
    let inside : k < length seats = omega (arith, places, h) in
    get_or_default clocks k d 0 h ∙ any k inside
    ∙ sym (get_or_default (map clock_at seats) k d 0 (let l = length-map seats clock_at in omega (arith, l, inside)))) where
      any : (k : ℕ) → k < length seats → slice_index clocks k ≡ slice_index (map clock_at seats) k
      any k h = at_place seats (at.slow k) (slow k) h where
        at_place : (ss : List Seat) → ((d : Seat) → k < length ss → is_fast (slice_index_or ss k d).core.node.mode ≡ false → slice_index clocks k ≡ clock_at (slice_index_or ss k d))
            → ((d : Seat) → k < length ss → is_fast (slice_index_or ss k d).core.node.mode ≡ false)
            → k < length ss → slice_index clocks k ≡ slice_index (map clock_at ss) k
        at_place [] right low h = absurd (omega (arith, h))
        at_place (s ∷ ss) right low h = right s h (low s h) ∙ sym (get_or-map clock_at (s ∷ ss) k s 0 h)

-- seats of which each has advanced
pub all_advanced : (old new : List Seat) (incs : List ℕ) → length incs ≡ length old → length new ≡ length old
    → ((k : ℕ) (d : Seat) → k < length old → slice_index_or new k d ≡ advanced_seat (slice_index_or old k d) (slice_index incs k))
    → new ≡ advance_members old incs
all_advanced old new incs count same each =
    let pairs : List (Seat × ℕ) = zip old incs in
    let long : length pairs ≡ length old = let z = length-zip old incs in omega (arith, z, count) in
    same_lists new (advance_members old incs) (same ∙ sym long ∙ sym (length-map pairs _)) (λ k d h.
    let inside : k < length old = omega (arith, same, h) in
    each k d inside
    ∙ sym (get_or-map (λ p. advanced_seat p.0 p.1) pairs k (d, 0) d (omega (arith, long, inside))
    ∙ ap (λ (p : Seat × ℕ). advanced_seat p.0 p.1)
    (get_or-zip old incs k (d, 0) inside (omega (arith, count, inside)))))
