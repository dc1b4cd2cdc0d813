-- What a turn of the timer adds to what it has sent and published.
use Rattle.std.proofs.Common.{◌≡◌, ◌∙◌, inl, inr, ℕ, ◌≤◌, ◌+◌, Option, Some, None, List, [], ◌∷◌, ◌++◌, length, take, ap, sym, refl, subst, arith, append-nil, Result, Ok, Err, OnOk, OnErr}
use Rattle.std.specs.List.{filter_map, flat_map, cons_option}
use Rattle.std.proofs.lemmas.List.{take_all, length-take-le, take-map}
use Rattle.std.proofs.Math.Seq.{take-append_seam}
use Rattle.std.proofs.lemmas.Bool.{cases_lt}
use Rattle.std.proofs.lemmas.Grind.{flat_map-append}
use Rattle.std.proofs.lemmas.List.Elements.{filter_map-append}
use Rattle.gs_units.specs.declared.params.Link.{Link}
use Rattle.gs_beacon.specs.Beacons.{bytes_of}
use Rattle.gs_beacon.specs.declared.beacon.Beacon.{Beacon}
use Rattle.gs_core.specs.declared.reply.Ticked.{Ticked}
use Rattle.gs_trace.specs.declared.start.NodeStart.{NodeStart}
use Rattle.gs_net.specs.Tales.{IsUnused, OnTold}
use Rattle.gs_board.specs.Faults.{reading_of}
use Rattle.gs_board.specs.Slips.{Slip}
use Rattle.gs_board.specs.declared.told.Told.{Told}
use Rattle.gs_view.specs.declared.snaps.Snap.{Snap}
use Rattle.gs_callers.specs.Sends.{SentAll, SentSoFar, beacon_in, beacons_given, sends_by, sends_of, to_each}
use Rattle.gs_callers.specs.Snaps.{first_snap, snap_by, snap_of, snap_where, snaps_of}
use Rattle.gs_callers.specs.Timed.{IsCutOff, IsInStep}

some_same : {A : Type 0} (a b : A) → Some a ≡ Some b → a ≡ b
some_same a b e = cc

-- the sends of one entry more
sends_option : (links : List Link) (o : Option Beacon) → flat_map (λ b. to_each links (bytes_of b)) (cons_option o []) ≡ sends_by links o
sends_option links None = refl
sends_option links (Some b) = append-nil _

sends_more : (links : List Link) (ks : List Told) (k : Told) → sends_of links (ks ++ k ∷ []) ≡ sends_of links ks ++ sends_by links (beacon_in k.ticked)
sends_more links ks k =
    ap (flat_map (λ b. to_each links (bytes_of b))) (filter_map-append (λ k. beacon_in k.ticked) ks (k ∷ [])) ∙
    (flat_map-append (λ b. to_each links (bytes_of b)) (beacons_given ks) (cons_option (beacon_in k.ticked) []) ∙ ap (λ (z : List _). sends_of links ks ++ z) (sends_option links (beacon_in k.ticked)))

-- the snaps of one entry more
snaps_more : (b : NodeStart) (ks : List Told) (k : Told) (r : Ticked) → k.ticked ≡ Some r → snaps_of b (ks ++ k ∷ []) ≡ snaps_of b ks ++ snap_by k.place (reading_of k.event) r ∷ []
snaps_more b ks k r e =
    ap (λ (z : List Snap). first_snap b ∷ z) (filter_map-append snap_of ks (k ∷ []) ∙ ap (λ (o : Option Ticked). filter_map snap_of ks ++ cons_option (snap_where k.place (reading_of k.event) o) []) e)

-- after all sends of an entry
sent_all_more : (links : List Link) (ks ls : List Told) (k : Told) (a b : Option (List (ℕ × List ℕ))) → ls ≡ ks ++ k ∷ [] → SentAll links ks a → b ≡ OnTold a (λ taken. taken ++ sends_by links (beacon_in k.ticked)) → SentAll links ls b
sent_all_more links ks ls k None b more h is taken e = absurd (cc)
sent_all_more links ks ls k (Some ys) b more h is taken e =
    let same : ys ++ sends_by links (beacon_in k.ticked) ≡ taken = some_same _ _ (sym is ∙ e) in
    sym same ∙ (ap (λ (z : List _). z ++ sends_by links (beacon_in k.ticked)) (h ys refl) ∙ sym (ap (sends_of links) more ∙ sends_more links ks k))

take_front : {A : Type 0} (ys : List A) (k : ℕ) → take k ys ≡ take (length (take k ys)) ys
take_front ys k = elim (cases_lt k (length ys)) [
  | inl lt ↦ (let le : k ≤ length ys = omega arith in sym (ap (λ (z : ℕ). take z ys) (length-take-le k ys le)))
  | inr le ↦ (let q = take_all k ys le in q ∙ sym (ap (λ (z : ℕ). take z ys) (ap length q) ∙ take_all (length ys) ys (omega arith)))
]

-- a beginning of what was appended is a beginning of the whole
take_within : {A : Type 0} (xs ys : List A) (k : ℕ) → xs ++ take k ys ≡ take (length (xs ++ take k ys)) (xs ++ ys)
take_within [] ys k = take_front ys k
take_within (x ∷ xs) ys k = ap (λ (z : List _). x ∷ z) (take_within xs ys k)

-- after some sends of an entry
sent_some_more : (links : List Link) (ks ls : List Told) (k : Told) (n : ℕ) (a b : Option (List (ℕ × List ℕ))) → ls ≡ ks ++ k ∷ [] → SentAll links ks a → b ≡ OnTold a (λ taken. taken ++ take n (sends_by links (beacon_in k.ticked))) → SentSoFar links ls b
sent_some_more links ks ls k n None b more h is taken e = absurd (cc)
sent_some_more links ks ls k n (Some ys) b more h is taken e =
    let one = sends_by links (beacon_in k.ticked) in
    let same : ys ++ take n one ≡ taken = some_same _ _ (sym is ∙ e) in
    let all : sends_of links ls ≡ ys ++ one = (ap (sends_of links) more ∙ sends_more links ks k) ∙ ap (λ (z : List _). z ++ one) (sym (h ys refl)) in
    subst (λ (z : List _). z ≡ take (length z) (sends_of links ls)) same (take_within ys one n ∙ ap (take (length (ys ++ take n one))) (sym all))

-- all is a beginning of it
pub all_is_so_far : (links : List Link) (ks : List Told) (a : Option (List (ℕ × List ℕ))) → SentAll links ks a → SentSoFar links ks a
all_is_so_far links ks a h taken e = let q = h taken e in q ∙ sym (ap (λ (z : ℕ). take z (sends_of links ks)) (ap length q) ∙ take_all _ (sends_of links ks) (omega arith))

pub on_err : {A E : Type 0} (r : Result A E) (P : Type 0) → P → OnErr r P
on_err (Ok a) P p = tt
on_err (Err e) P p = p

pub on_ok_both : {A E : Type 0} (r : Result A E) (P Q S : Type 0) → (P → Q → S) → OnOk r P → OnOk r Q → OnOk r S
on_ok_both (Ok a) P Q S f p q = f p q
on_ok_both (Err e) P Q S f p q = tt

pub on_err_both : {A E : Type 0} (r : Result A E) (P Q S : Type 0) → (P → Q → S) → OnErr r P → OnErr r Q → OnErr r S
on_err_both (Ok a) P Q S f p q = tt
on_err_both (Err e) P Q S f p q = f p q

-- all of a list is a part of it
pub part_whole : {A : Type 0} (ys : List A) (a b : Option (List A)) → b ≡ OnTold a (λ taken. taken ++ ys) → (k : ℕ) × (b ≡ OnTold a (λ taken. taken ++ take k ys))
part_whole ys a b e = (length ys, e ∙ ap (λ (z : List _). OnTold a (λ taken. taken ++ z)) (sym (take_all (length ys) ys (omega arith))))

-- after a whole turn
pub in_step_more : (links : List Link) (s t : Slip) (a b : Option (List (ℕ × List ℕ))) (xs ys : List Snap) (k : Told) (r : Ticked) → t.told ≡ s.told ++ k ∷ [] → t.begun ≡ s.begun → k.ticked ≡ Some r → IsInStep links s a xs → b ≡ OnTold a (λ taken. taken ++ sends_by links r.beacon) → ys ≡ xs ++ snap_by k.place (reading_of k.event) r ∷ [] → IsInStep links t b ys
in_step_more links s t a b xs ys k r more start has h sent shown = record {
  sends = sent_all_more links s.told t.told k a b more h.sends (sent ∙ ap (λ (o : Option Ticked). OnTold a (λ taken. taken ++ sends_by links (beacon_in o))) (sym has));
  shows = shown ∙ (ap (λ (z : List Snap). z ++ snap_by k.place (reading_of k.event) r ∷ []) h.shows ∙ (sym (snaps_more s.begun s.told k r has) ∙ (ap (snaps_of s.begun) (sym more) ∙ ap (λ (z : NodeStart). snaps_of z t.told) (sym start))));
}

-- after a turn that was cut off
pub cut_more : (links : List Link) (s t : Slip) (a b : Option (List (ℕ × List ℕ))) (xs ys : List Snap) (k : Told) (r : Ticked) → t.told ≡ s.told ++ k ∷ [] → t.begun ≡ s.begun → k.ticked ≡ Some r → IsInStep links s a xs → (n : ℕ) × (b ≡ OnTold a (λ taken. taken ++ take n (sends_by links r.beacon))) → ys ≡ xs → IsCutOff links t b ys
cut_more links s t a b xs ys k r more start has h sent shown =
    let whole : snaps_of t.begun t.told ≡ ys ++ snap_by k.place (reading_of k.event) r ∷ [] =
    ap (λ (z : NodeStart). snaps_of z t.told) start ∙ (ap (snaps_of s.begun) more ∙ (snaps_more s.begun s.told k r has ∙ ap (λ (z : List Snap). z ++ snap_by k.place (reading_of k.event) r ∷ []) (sym h.shows ∙ sym shown))) in
    record {
      sends = sent_some_more links s.told t.told k sent.0 a b more h.sends (sent.1 ∙ ap (λ (o : Option Ticked). OnTold a (λ taken. taken ++ take sent.0 (sends_by links (beacon_in o)))) (sym has));
      shows = subst (λ (z : List Snap). ys ≡ take (length ys) z) (sym whole) (sym (take-append_seam ys _));
    }

pub part_mapped : {E : Type 0} (links : List Link) (bytes : List ℕ) (r : Result (Unit {0}) E) (a b : Option (List (ℕ × List ℕ))) → OnErr r ((k : ℕ) × (b ≡ OnTold a (λ taken. taken ++ to_each (take k links) bytes))) → OnErr r ((k : ℕ) × (b ≡ OnTold a (λ taken. taken ++ take k (to_each links bytes))))
part_mapped links bytes (Ok x) a b h = tt
part_mapped links bytes (Err e) a b h = (h.0, h.1 ∙ ap (λ (z : List _). OnTold a (λ taken. taken ++ z)) (sym (take-map (λ link. (link.node, bytes)) h.0 links)))

-- before the first turn
pub in_step_new : (links : List Link) (s : Slip) (sent : Option (List (ℕ × List ℕ))) (snaps : List Snap) → s.told ≡ [] → IsUnused sent → snaps ≡ first_snap s.begun ∷ [] → IsInStep links s sent snaps
in_step_new links s sent snaps empty unsent first = record {
  sends = λ taken e. none_taken sent unsent taken e ∙ sym (ap (sends_of links) empty);
  shows = first ∙ sym (ap (snaps_of s.begun) empty);
}
  where
    none_taken : (sent : Option (List (ℕ × List ℕ))) → IsUnused sent → (taken : List (ℕ × List ℕ)) → sent ≡ Some taken → taken ≡ []
    none_taken None unused taken e = absurd (cc)
    none_taken (Some xs) unused taken e = sym (some_same xs taken e) ∙ unused
