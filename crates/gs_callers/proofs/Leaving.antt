-- What a receiver's account says of what it leaves behind.
use Rattle.std.proofs.Common.{◌≡◌, ◌∙◌, ℕ, true, is_some, inl, inr, Option, Some, None, refl, sym, subst}
use Rattle.gs_units.specs.declared.params.NodeParams.{NodeParams}
use Rattle.gs_beacon.specs.declared.beacon.Beacon.{Beacon}
use Rattle.gs_net.specs.Tales.{Tale}
use Rattle.gs_board.specs.Slips.{Slip}
use Rattle.gs_callers.specs.Seats.{Drops, IsTaken, SeatAgrees, SeatTaken, TakesWanted}
use Rattle.gs_callers.specs.Stops.{is_final}
use Rattle.gs_callers.specs.inside.Accounts.{Accounts, IsAccount}
use Rattle.gs_callers.specs.inside.Reasons.{Stops}
use Rattle.gs_callers.specs.declared.receiver.Stop.{Stop}
use Rattle.gs_callers.specs.declared.receiver.Stop.TheVariants as stop

some_same : {A : Type 0} (a b : A) → Some a ≡ Some b → a ≡ b
some_same a b e = cc

-- its seat and its inlet agree
pub agrees : (p : NodeParams) (neighbour : ℕ) (s : Slip) (told : Option Tale) (o : Option Beacon) (d since : ℕ)
    → s.whose ≡ Some neighbour → Accounts p neighbour told s.told o d since → SeatAgrees p s told
agrees p neighbour s told o d since w h x t e q =
    let same : neighbour ≡ x = some_same _ _ (sym w ∙ e) in
    let k : IsAccount p x t.given s.told o d since = subst (λ (z : ℕ). IsAccount p z t.given s.told o d since) same (h t q) in
    (o, k.takes)

-- why it stopped says why its inlet gives no more
pub taken_by : (p : NodeParams) (neighbour : ℕ) (s : Slip) (told : Option Tale) (o : Option Beacon) (d since m : ℕ) (why : Stop)
    → s.whose ≡ Some neighbour → Accounts p neighbour told s.told o d since → Stops why told o m → is_final why ≡ true → SeatTaken p s told
taken_by p neighbour s told o d since m why w h stops final x t e q =
    let same : neighbour ≡ x = some_same _ _ (sym w ∙ e) in
    subst (λ (z : ℕ). IsTaken p z t s.told) same (by why stops final)
  where
    left : (o : Option Beacon) → is_some o ≡ true → IsAccount p neighbour t.given s.told o d since → (b : Beacon) × TakesWanted p neighbour t.given s.told (Some b)
    left None some k = absurd (cc)
    left (Some b) some k = (b, k.takes)

    by : (why : Stop) → Stops why told o m → is_final why ≡ true → IsTaken p neighbour t s.told
    by stop.Open k f = absurd (cc)
    by stop.Ended k f = inl (k.ended refl t q)
    by stop.Quiet k f = inr (inl (k.quiet refl t q))
    by stop.Many k f = inr (inr (inr (k.many refl t q)))
    by (stop.Refused r) k f = inr (inr (inl (left o (k.refused r refl) (h t q))))
    by stop.Fault k f = absurd (cc)
    by stop.Memory k f = absurd (cc)

-- it dropped what was not wanted
pub drops : (p : NodeParams) (neighbour : ℕ) (s : Slip) (told : Option Tale) (o : Option Beacon) (d since : ℕ)
    → s.whose ≡ Some neighbour → Accounts p neighbour told s.told o d since → Drops p s.whose told d
drops p neighbour s told o d since w h = subst (λ (z : Option ℕ). Drops p z told d) (sym w) (by told h)
  where
    by : (told : Option Tale) → Accounts p neighbour told s.told o d since → Drops p (Some neighbour) told d
    by None h m e = absurd (cc)
    by (Some t) h m e = (h t refl).dropped ∙ some_same _ _ e
