-- What is left of a run, whether it was begun or not.
use Rattle.std.proofs.Common.{◌≡◌, ◌∙◌, ℕ, List, [], ◌∷◌, map, length, take, All, Option, Some, None, Result, Ok, Err, OnOk, OnErr, inl, sym, refl, ap, subst, arith}
use Rattle.std.specs.List.{AllZip}
use Rattle.std.proofs.lemmas.List.{take_all}
use Rattle.std.proofs.lemmas.List.Elements.{All-rest, All-head, All-nil}
use Rattle.gs_units.specs.declared.params.Link.{Link}
use Rattle.gs_units.specs.declared.params.NodeParams.{NodeParams}
use Rattle.gs_trace.specs.declared.start.NodeStart.{NodeStart}
use Rattle.gs_net.specs.Tales.{IsFresh, IsUnused, Tale}
use Rattle.gs_net.specs.declared.items.Item.{Item}
use Rattle.gs_board.specs.Slips.{Slip}
use Rattle.gs_board.specs.declared.told.Told.{Told}
use Rattle.gs_callers.specs.Items.{unwanted}
use Rattle.gs_callers.specs.Seats.{Drops, SeatAgrees, TakesWanted, unwanted_at}
use Rattle.gs_callers.specs.Sends.{SentAll, SentSoFar, sends_of}
use Rattle.gs_callers.specs.Snaps.{snaps_of}
use Rattle.gs_callers.specs.Timed.{IsCutOff, IsInStep}
use Rattle.gs_callers.proofs.Steps.{all_is_so_far}
use Rattle.gs_respond.specs.Doors.{DoorAnswers, HasAnswered, IsAnswerOf, Owes, requests}
use Rattle.gs_respond.specs.TimeRequests.{asked_in}
use Rattle.gs_view.specs.declared.snaps.Snap.{Snap}
use Rattle.gs_node.specs.Handing.{IsDropped, unwanted_in}
use Rattle.gs_node.specs.Serving.{ShownSoFar}
use Rattle.gs_node.specs.inside.Begun.{IsNewSeat}
use Rattle.gs_node.specs.inside.Runs.{ShownAll}
use Rattle.gs_node.proofs.Dropping.{first_part}

some_same : {A : Type 0} (a b : A) → Some a ≡ Some b → a ≡ b
some_same a b e = cc

-- where nothing was given or used yet
pub none_given : (told : Option Tale) → IsFresh told → (t : Tale) → told ≡ Some t → t.given ≡ []
none_given None fresh t e = absurd (cc)
none_given (Some s) fresh t e = ap (λ (z : Tale). z.given) (sym (some_same s t e)) ∙ fresh

pub none_used : {A : Type 0} (told : Option (List A)) → IsUnused told → (all : List A) → told ≡ Some all → all ≡ []
none_used None unused all e = absurd (cc)
none_used (Some xs) unused all e = sym (some_same xs all e) ∙ unused

-- the timer's account, whether it was done or cut off
pub sent_so_far : {E : Type 0} (links : List Link) (s : Slip) (sent : Option (List (ℕ × List ℕ))) (xs : List Snap) (r : Result (Unit {0}) E) → OnOk r (IsInStep links s sent xs) → OnErr r (IsCutOff links s sent xs) → SentSoFar links s.told sent
sent_so_far links s sent xs (Ok u) all cut = all_is_so_far links s.told sent all.sends
sent_so_far links s sent xs (Err e) all cut = cut.sends

pub shown_so_far : {E : Type 0} (links : List Link) (b : NodeStart) (s : Slip) (sent : Option (List (ℕ × List ℕ))) (xs : List Snap) (r : Result (Unit {0}) E) → s.begun ≡ b → OnOk r (IsInStep links s sent xs) → OnErr r (IsCutOff links s sent xs) → ShownSoFar b s.told (Some xs)
shown_so_far {E = E} links b s sent xs r e all cut ys is = subst (λ (z : List Snap). z ≡ take (length z) (snaps_of b s.told)) (some_same xs ys is) (subst (λ (z : NodeStart). xs ≡ take (length xs) (snaps_of z s.told)) e (by r all cut))
  where
    by : (r : Result (Unit {0}) E) → OnOk r (IsInStep links s sent xs) → OnErr r (IsCutOff links s sent xs) → xs ≡ take (length xs) (snaps_of s.begun s.told)
    by (Ok u) all cut = subst (λ (z : List Snap). xs ≡ take (length xs) z) all.shows (sym (take_all (length xs) xs (omega arith)))
    by (Err e) all cut = cut.shows

pub sent_all : {E : Type 0} (links : List Link) (s : Slip) (sent : Option (List (ℕ × List ℕ))) (xs : List Snap) (r : Result (Unit {0}) E) → OnOk r (IsInStep links s sent xs) → OnOk r (SentAll links s.told sent)
sent_all links s sent xs (Ok u) all = all.sends
sent_all links s sent xs (Err e) all = tt

pub shown_all : {E : Type 0} (links : List Link) (b : NodeStart) (s : Slip) (sent : Option (List (ℕ × List ℕ))) (xs : List Snap) (r : Result (Unit {0}) E) → s.begun ≡ b → OnOk r (IsInStep links s sent xs) → OnOk r (ShownAll b s.told (Some xs))
shown_all links b s sent xs (Ok u) e all = λ ys is. sym (some_same xs ys is) ∙ (all.shows ∙ ap (λ (z : NodeStart). snaps_of z s.told) e)
shown_all links b s sent xs (Err x) e all = tt

-- a seat without entries and an inlet that gave nothing agree
new_agrees : (p : NodeParams) (s : Slip) (told : Option Tale) → IsNewSeat s → IsFresh told → SeatAgrees p s told
new_agrees p s told new fresh x t w e =
    let start : TakesWanted p x [] [] None = record { delivered = refl; last = λ h. absurd (cc) } in
    (None, subst (λ (z : List Item). TakesWanted p x z s.told None) (sym (none_given told fresh t e)) (subst (λ (z : List Told). TakesWanted p x [] z None) (sym new.empty) start))

pub all_new_agree : (p : NodeParams) (ss : List Slip) (ts : List (Option Tale)) → length ss ≡ length ts → All IsNewSeat ss → All IsFresh ts → AllZip (SeatAgrees p) ss ts
all_new_agree p [] [] n new fresh = tt
all_new_agree p [] (t ∷ ts) n new fresh = absurd (omega (arith, n))
all_new_agree p (s ∷ ss) [] n new fresh = absurd (omega (arith, n))
all_new_agree p (s ∷ ss) (t ∷ ts) n new fresh =
    (new_agrees p s t (All-head IsNewSeat s ss new) (All-head IsFresh t ts fresh), all_new_agree p ss ts (omega (arith, n)) (All-rest IsNewSeat s ss _ refl new) (All-rest IsFresh t ts _ refl fresh))

none_dropped : (p : NodeParams) (w : Option ℕ) (told : Option Tale) → IsFresh told → Drops p w told 0
none_dropped p None told fresh m e = some_same 0 m e
none_dropped p (Some x) None fresh m e = absurd (cc)
none_dropped p (Some x) (Some t) fresh m e = sym (ap (unwanted p x) fresh) ∙ some_same _ _ e

-- nothing was dropped where nothing was given
pub new_dropped : (p : NodeParams) (ws : List (Option ℕ)) (ts : List (Option Tale)) → All IsFresh ts → IsDropped p ws ts 0
new_dropped p [] ts fresh m e = some_same 0 m e
new_dropped p (w ∷ ws) [] fresh m e = some_same 0 m e
new_dropped p (w ∷ ws) (t ∷ ts) fresh m e =
    let parts = first_part (unwanted_at p w t) (unwanted_in p ws ts) m e in
    let l : 0 ≡ parts.0 = none_dropped p w t (All-head IsFresh t ts fresh) parts.0 parts.2 in
    let r : 0 ≡ parts.1 = new_dropped p ws ts (All-rest IsFresh t ts _ refl fresh) parts.1 parts.3 in
    omega (arith, l, r, parts.4)

pub none_sent : (links : List Link) (ks : List Told) (sent : Option (List (ℕ × List ℕ))) → IsUnused sent → SentSoFar links ks sent
none_sent links ks sent unused taken e = subst (λ (z : List _). z ≡ take (length z) (sends_of links ks)) (sym (none_used sent unused taken e)) refl

-- a door that gave nothing has nothing to reply
pub new_answers : (node : ℕ) (told : Option Tale) (replies : Option (List (List ℕ))) → IsFresh told → IsUnused replies → DoorAnswers node told replies
new_answers node told replies fresh silent t rs e d =
    let start : HasAnswered node [] [] None = record { asked = refl; answers = All-nil (IsAnswerOf node); clocks = refl } in
    (None, subst (λ (z : List Item). HasAnswered node z rs None) (sym (none_given told fresh t e)) (subst (λ (z : List (List ℕ)). HasAnswered node [] z None) (sym (none_used replies silent rs d)) start))

pub new_owes : (told : Option Tale) (replies : Option (List (List ℕ))) (failures : ℕ) → IsFresh told → IsUnused replies → Owes told replies failures
new_owes told replies failures fresh silent t rs e d = inl (ap requests (none_given told fresh t e) ∙ sym (ap (map asked_in) (none_used replies silent rs d)))
