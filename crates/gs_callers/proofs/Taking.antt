-- What a turn of a receiver does to its account.
use Rattle.std.proofs.Common.{◌≡◌, ◌∙◌, ℕ, ◌≤◌, ◌+◌, inl, inr, List, [], ◌∷◌, ◌++◌, take, true, is_some, false, Option, Some, None, refl, sym, ap, subst, arith, append-nil}
use Rattle.std.specs.List.{filter_map, cons_option}
use Rattle.std.proofs.lemmas.List.Elements.{filter_map-append}
use Rattle.gs_units.specs.declared.params.NodeParams.{NodeParams}
use Rattle.gs_beacon.specs.declared.beacon.Beacon.{Beacon}
use Rattle.gs_io.specs.Causes.{Rose}
use Rattle.gs_net.specs.Tales.{IsFresh, Moves, Tale}
use Rattle.gs_net.specs.declared.items.Item.{Item}
use Rattle.gs_net.specs.declared.items.Item.TheVariants as item
use Rattle.gs_net.specs.declared.items.Got.TheVariants as got
use Rattle.gs_core.specs.declared.event.NodeEvent.{NodeEvent}
use Rattle.gs_core.specs.declared.event.NodeEvent.TheVariants.{Deliver}
use Rattle.gs_estimate.specs.declared.slots.Heard.{Heard}
use Rattle.gs_board.specs.Slips.{Slip, noted}
use Rattle.gs_board.specs.declared.told.Receipt.{Receipt}
use Rattle.gs_board.specs.declared.told.Told.{Told}
use Rattle.gs_callers.specs.Wanted.{only_wanted, wanted_beacon}
use Rattle.gs_net.specs.Items.{datagrams, ends_in, is_quiet, one_datagram}
use Rattle.gs_net.proofs.Taking.{ends_more, sum_more}
use Rattle.gs_callers.specs.Items.{is_wanted_item, one_if_none, one_unwanted, unwanted, wanted, wanted_item}
use Rattle.gs_callers.specs.Seats.{as_list, beacons_of, brought_by}
use Rattle.gs_callers.specs.inside.Accounts.{Accounts, IsAccount}
use Rattle.gs_callers.specs.inside.Reasons.{IsAfter, IsSettled, Stops}
use Rattle.gs_callers.specs.declared.receiver.Stop.{Stop}
use Rattle.gs_callers.specs.declared.receiver.Stop.TheVariants as stop
use Rattle.gs_callers.proofs.Spelled.{spelled_cut}

some_same : (s t : Tale) → Some s ≡ Some t → s ≡ t
some_same s t e = cc

wanted_more : (f : Item → Option Beacon) (items : List Item) (i : Item) → filter_map f (items ++ i ∷ []) ≡ filter_map f items ++ as_list (f i)
wanted_more f items i = filter_map-append f items (i ∷ []) ∙ ap (λ (z : List Beacon). filter_map f items ++ z) (one (f i))
  where
    one : (o : Option Beacon) → cons_option o [] ≡ as_list o
    one None = refl
    one (Some b) = refl

-- the beacons of a seat that was told of a delivery
pub delivered_more : (s t : Slip) (r : Receipt Heard) (b : Beacon) (now : ℕ) → t ≡ noted s (record { place = r.place; event = r.event; ticked = None }) → r.event ≡ Deliver now b
    → beacons_of t.told ≡ beacons_of s.told ++ b ∷ []
delivered_more s t r b now e event =
    ap (λ (z : Slip). beacons_of z.told) e ∙ (filter_map-append (λ k. brought_by k.event) s.told (record { place = r.place; event = r.event; ticked = None } ∷ []) ∙ ap (λ (z : NodeEvent). beacons_of s.told ++ cons_option (brought_by z) []) event)

-- a receiver that has taken nothing
pub new_accounts : (p : NodeParams) (neighbour : ℕ) (told : Option Tale) (entries : List Told) → entries ≡ [] → IsFresh told
    → Accounts p neighbour told entries None 0 0
new_accounts p neighbour None entries none fresh t e = absurd (cc)
new_accounts p neighbour (Some s) entries none fresh t e =
    let start : IsAccount p neighbour [] [] None 0 0 = record { takes = record { delivered = refl; last = λ q. absurd (cc) }; dropped = refl; came = omega arith } in
    let given : t.given ≡ [] = ap (λ (z : Tale). z.given) (sym (some_same s t e)) ∙ fresh in
    subst (λ (z : List Item). IsAccount p neighbour z entries None 0 0) (sym given) (subst (λ (z : List Told). IsAccount p neighbour [] z None 0 0) (sym none) start)

-- after a quiet mark
pub quiet_accounts : (p : NodeParams) (neighbour : ℕ) (into : List ℕ) (a b : Option Tale) (entries : List Told) (d since : ℕ)
    → Moves got.Quiet into a b → Accounts p neighbour a entries None d since → Accounts p neighbour b entries None d since
quiet_accounts p neighbour into None b entries d since m h t e = absurd (cc)
quiet_accounts p neighbour into (Some s) b entries d since m h t e =
    let same : m.0 ≡ t = some_same m.0 t (sym m.1 ∙ e) in
    let given : t.given ≡ s.given ++ item.Quiet ∷ [] = ap (λ (z : Tale). z.given) (sym same) ∙ m.2.given in
    let k : IsAccount p neighbour s.given entries None d since = h s refl in
    record {
      takes = record {
        delivered = ap (wanted p neighbour) given ∙ (wanted_more (wanted_item p neighbour) s.given item.Quiet ∙ (append-nil _ ∙ k.takes.delivered));
        last = λ q. absurd (cc);
      };
      dropped = k.dropped ∙ sym (ap (unwanted p neighbour) given ∙ (sum_more (one_unwanted p neighbour) s.given item.Quiet ∙ omega arith));
      came = let e : datagrams t.given ≡ datagrams s.given + 0 = ap datagrams given ∙ sum_more one_datagram s.given item.Quiet in omega (arith, k.came);
    }

-- after a datagram
pub datagram_accounts : (p : NodeParams) (neighbour n : ℕ) (into : List ℕ) (a b : Option Tale) (before after : List Told) (o : Option Beacon) (d c since now : ℕ)
    → Moves (got.Datagram n) into a b → Accounts p neighbour a before None d since
    → beacons_of after ++ as_list o ≡ beacons_of before ++ as_list (wanted_beacon p neighbour (take n into))
    → c ≡ d + one_if_none (wanted_beacon p neighbour (take n into)) → now ≤ since + 1
    → (is_some o ≡ true → is_some (wanted_beacon p neighbour (take n into)) ≡ true) → Accounts p neighbour b after o c now
datagram_accounts p neighbour n into None b before after o d c since now m h eb ed es eo t e = absurd (cc)
datagram_accounts p neighbour n into (Some s) b before after o d c since now m h eb ed es eo t e =
    let same : m.0 ≡ t = some_same m.0 t (sym m.1 ∙ e) in
    let w = m.2 in
    let given : t.given ≡ s.given ++ item.Datagram w.bytes ∷ [] = ap (λ (z : Tale). z.given) (sym same) ∙ w.moved.given in
    let cut : wanted_beacon p neighbour (take n into) ≡ wanted_beacon p neighbour w.bytes = ap (only_wanted p neighbour) (spelled_cut w.bytes into n w.count w.front) in
    let k : IsAccount p neighbour s.given before None d since = h s refl in
    record {
      takes = record {
        delivered = ap (wanted p neighbour) given ∙ (wanted_more (wanted_item p neighbour) s.given (item.Datagram w.bytes) ∙ (ap (λ (z : List Beacon). z ++ as_list (wanted_beacon p neighbour w.bytes)) (k.takes.delivered ∙ append-nil _) ∙ (ap (λ (z : Option Beacon). beacons_of before ++ as_list z) (sym cut) ∙ sym eb)));
        last = λ q. ap (ends_in (is_wanted_item p neighbour)) given ∙ (ends_more (is_wanted_item p neighbour) s.given (item.Datagram w.bytes) ∙ (ap (λ (z : Option Beacon). is_some z) (sym cut) ∙ eo q));
      };
      dropped = ed ∙ (ap (λ (z : Option Beacon). d + one_if_none z) cut ∙ (ap (λ (z : ℕ). z + one_if_none (wanted_beacon p neighbour w.bytes)) k.dropped ∙ sym (ap (unwanted p neighbour) given ∙ sum_more (one_unwanted p neighbour) s.given (item.Datagram w.bytes))));
      came = let e : datagrams t.given ≡ datagrams s.given + 1 = ap datagrams given ∙ sum_more one_datagram s.given (item.Datagram w.bytes) in omega (arith, k.came);
    }

pub left_none : (o : Option Beacon) → is_some o ≡ false → o ≡ None
left_none None h = refl
left_none (Some b) h = absurd (cc)

pub same_accounts : (p : NodeParams) (neighbour : ℕ) (a b : Option Tale) (before after : List Told) (o : Option Beacon) (d since : ℕ)
    → b ≡ a → after ≡ before → Accounts p neighbour a before o d since → Accounts p neighbour b after o d since
same_accounts p neighbour a b before after o d since e f h =
    subst (λ (z : Option Tale). Accounts p neighbour z after o d since) (sym e) (subst (λ (z : List Told). Accounts p neighbour a z o d since) (sym f) h)

pub ended_same : (into : List ℕ) (a b : Option Tale) → Moves got.Ended into a b → b ≡ a
ended_same into None b h = h
ended_same into (Some s) b h = h.1 ∙ ap (λ (z : Tale). Some z) h.2.0

-- no claim is made of a receiver that goes on
pub stops_open : (t : Option Tale) (o : Option Beacon) (m : ℕ) → Stops stop.Open t o m
stops_open t o m = record { ended = λ e. absurd (cc); quiet = λ e. absurd (cc); many = λ e. absurd (cc); refused = λ r e. absurd (cc); fault = λ e. absurd (cc) }

pub stops_memory : (t : Option Tale) (o : Option Beacon) (m : ℕ) → Stops stop.Memory t o m
stops_memory t o m = record { ended = λ e. absurd (cc); quiet = λ e. absurd (cc); many = λ e. absurd (cc); refused = λ r e. absurd (cc); fault = λ e. absurd (cc) }

pub stops_quiet : (into : List ℕ) (a b : Option Tale) (o : Option Beacon) (m : ℕ) → Moves got.Quiet into a b → Stops stop.Quiet b o m
stops_quiet into a b o m h = record { ended = λ e. absurd (cc); quiet = λ _. by a b h; many = λ e. absurd (cc); refused = λ r e. absurd (cc); fault = λ e. absurd (cc) }
  where
    by : (a b : Option Tale) → Moves got.Quiet into a b → (t : Tale) → b ≡ Some t → ends_in is_quiet t.given ≡ true
    by None b h t e = absurd (cc)
    by (Some s) b h t e =
        let same : h.0 ≡ t = some_same h.0 t (sym h.1 ∙ e) in
        ap (λ (z : Tale). ends_in is_quiet z.given) (sym same) ∙ (ap (ends_in is_quiet) h.2.given ∙ ends_more is_quiet s.given item.Quiet)

pub stops_ended : (into : List ℕ) (a b : Option Tale) (o : Option Beacon) (m : ℕ) → Moves got.Ended into a b → Stops stop.Ended b o m
stops_ended into a b o m h = record { ended = λ _. by a b h; quiet = λ e. absurd (cc); many = λ e. absurd (cc); refused = λ r e. absurd (cc); fault = λ e. absurd (cc) }
  where
    by : (a b : Option Tale) → Moves got.Ended into a b → (t : Tale) → b ≡ Some t → t.left ≡ []
    by None b h t e = absurd (cc)
    by (Some s) b h t e =
        let same : h.0 ≡ t = some_same h.0 t (sym h.1 ∙ e) in
        ap (λ (z : Tale). z.left) (sym same) ∙ (ap (λ (z : Tale). z.left) h.2.0 ∙ h.2.1)

pub stops_fault : (t : Option Tale) (o : Option Beacon) (m n : ℕ) → Rose m n → Stops stop.Fault t o n
stops_fault t o m n h = record { ended = λ e. absurd (cc); quiet = λ e. absurd (cc); many = λ e. absurd (cc); refused = λ r e. absurd (cc); fault = λ _. elim h [ inl lt ↦ omega arith | inr last ↦ omega arith ] }

-- after a datagram the receiver goes on, or its beacon was refused, or 64 have come
pub stops_datagram : (p : NodeParams) (neighbour n : ℕ) (into : List ℕ) (a b : Option Tale) (entries : List Told) (o left : Option Beacon) (d since m : ℕ) (st why : Stop)
    → Moves (got.Datagram n) into a b → Accounts p neighbour a entries o d since → IsSettled left st → IsAfter st (since + 1) why → Stops why b left m
stops_datagram p neighbour n into a b entries o left d since m st why h k settled later = elim later.only [
  | inl same ↦ subst (λ (z : Stop). Stops z b left m) (sym same) (elim settled.only [
    | inl goes ↦ subst (λ (z : Stop). Stops z b left m) (sym goes) (stops_open b left m)
    | inr q ↦ subst (λ (z : Stop). Stops z b left m) (sym q.1) (record { ended = λ f. absurd (cc); quiet = λ f. absurd (cc); many = λ f. absurd (cc); refused = λ _ _. q.2; fault = λ f. absurd (cc) })
  ])
  | inr q ↦ subst (λ (z : Stop). Stops z b left m) (sym q.0) (record { ended = λ f. absurd (cc); quiet = λ f. absurd (cc); many = λ _. enough a b h k q.1; refused = λ r f. absurd (cc); fault = λ f. absurd (cc) })
]
  where
    enough : (a b : Option Tale) → Moves (got.Datagram n) into a b → Accounts p neighbour a entries o d since → 64 ≤ since + 1 → (t : Tale) → b ≡ Some t → 64 ≤ datagrams t.given
    enough None b h k le t q = absurd (cc)
    enough (Some s) b h k le t q =
        let same : h.0 ≡ t = some_same h.0 t (sym h.1 ∙ q) in
        let w = h.2 in
        let more : datagrams t.given ≡ datagrams s.given + 1 = ap (λ (z : Tale). datagrams z.given) (sym same) ∙ (ap datagrams w.moved.given ∙ sum_more one_datagram s.given (item.Datagram w.bytes)) in
        let before = (k s refl).came in
        omega arith
