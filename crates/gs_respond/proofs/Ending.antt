-- What a responder's account says of its door at the end.
use Rattle.std.proofs.Common.{◌≡◌, ◌∙◌, ℕ, ◌<◌, List, map, Option, Some, None, true, is_some, inl, inr, refl, ap, append-nil, ◌++◌}
use Rattle.gs_net.specs.Tales.{Tale}
use Rattle.gs_respond.specs.Doors.{DoorAnswers, DoorTaken, IsSpent, Owes, owing}
use Rattle.gs_respond.specs.Rests.{is_at_rest}
use Rattle.gs_respond.specs.TimeRequests.{asked_in, clock_in}
use Rattle.gs_respond.specs.inside.Accounts.{Answered}
use Rattle.gs_respond.specs.inside.Stops.{Rests}
use Rattle.gs_respond.specs.declared.rests.Rest.{Rest}
use Rattle.gs_respond.specs.declared.rests.Rest.TheVariants as rest
use Rattle.gs_respond.proofs.Rising.{before_last}

pub door_answers : (node : ℕ) (tale : Option Tale) (replies : Option (List (List ℕ))) (owed : Option ℕ) (last : ℕ) → Answered node tale replies owed last → DoorAnswers node tale replies
door_answers node tale replies owed last h t rs e d =
    let k = h t rs e d in
    (owed, record { asked = k.asked; answers = k.answers; clocks = before_last (map clock_in rs) last k.clocks })

-- by why it stopped, the door gives no more
pub door_taken : (node : ℕ) (tale : Option Tale) (replies : Option (List (List ℕ))) (owed : Option ℕ) (last door clock : ℕ) (why : Rest) → Answered node tale replies owed last → Rests why tale owed door clock → is_at_rest why ≡ true → DoorTaken tale replies
door_taken node tale replies owed last door clock why h stops final = record {
  spent = λ t e. (by why stops final).1 t e;
  replied = λ t rs e d. (h t rs e d).asked ∙ (ap (λ (o : Option ℕ). map asked_in rs ++ owing o) (by why stops final).0 ∙ append-nil _);
}
  where
    by : (why : Rest) → Rests why tale owed door clock → is_at_rest why ≡ true → (owed ≡ None) × ((t : Tale) → tale ≡ Some t → IsSpent t)
    by rest.Open k f = absurd (cc)
    by rest.Ended k f = ((k.ended refl).0, λ t e. inl ((k.ended refl).1 t e))
    by rest.Quiet k f = ((k.quiet refl).0, λ t e. inr (inl ((k.quiet refl).1 t e)))
    by rest.Many k f = ((k.many refl).0, λ t e. inr (inr ((k.many refl).1 t e)))
    by rest.Clock k f = absurd (cc)
    by rest.Door k f = absurd (cc)
    by rest.Owing k f = absurd (cc)

pub owes : (node : ℕ) (tale : Option Tale) (replies : Option (List (List ℕ))) (owed : Option ℕ) (last failures : ℕ) → Answered node tale replies owed last → (is_some owed ≡ true → 0 < failures) → Owes tale replies failures
owes node tale replies None last failures h f t rs e d = inl ((h t rs e d).asked ∙ append-nil _)
owes node tale replies (Some id) last failures h f t rs e d = inr (f refl)
