-- Why a responder stops, turn by turn.
use Rattle.std.proofs.Common.{◌≡◌, ◌∙◌, ℕ, ◌<◌, ◌≤◌, ◌+◌, Option, Some, None, List, ap, sym, refl, subst, arith, true, false, is_some, inl, inr}
use Rattle.gs_net.specs.Tales.{Moves, Tale}
use Rattle.gs_net.specs.declared.items.Item.TheVariants as item
use Rattle.gs_net.specs.declared.items.Got.TheVariants.{Datagram, Quiet}
use Rattle.gs_net.specs.Items.{datagrams, ends_in, is_quiet}
use Rattle.gs_respond.specs.inside.Accounts.{Counted}
use Rattle.gs_respond.specs.inside.Stops.{IsLater, IsReplied, Rests}
use Rattle.gs_respond.specs.declared.rests.Rest.{Rest}
use Rattle.gs_respond.specs.declared.rests.Rest.TheVariants as rest
use Rattle.gs_respond.proofs.Accounting.{some_same}
use Rattle.gs_net.proofs.Taking.{ends_more}
use Rattle.gs_respond.proofs.Taking.{one_datagram_more}

pub rests_open : (tale : Option Tale) (owed : Option ℕ) (door clock : ℕ) → Rests rest.Open tale owed door clock
rests_open tale owed door clock = record { ended = λ e. absurd (cc); quiet = λ e. absurd (cc); many = λ e. absurd (cc); clock_failed = λ e. absurd (cc); door_failed = λ e. absurd (cc) }

pub rests_door : (tale : Option Tale) (owed : Option ℕ) (door clock : ℕ) → 0 < door → Rests rest.Door tale owed door clock
rests_door tale owed door clock h = record { ended = λ e. absurd (cc); quiet = λ e. absurd (cc); many = λ e. absurd (cc); clock_failed = λ e. absurd (cc); door_failed = λ _. h }

pub rests_clock : (tale : Option Tale) (owed : Option ℕ) (door clock : ℕ) → 0 < clock → Rests rest.Clock tale owed door clock
rests_clock tale owed door clock h = record { ended = λ e. absurd (cc); quiet = λ e. absurd (cc); many = λ e. absurd (cc); clock_failed = λ _. h; door_failed = λ e. absurd (cc) }

pub rests_quiet : (into : List ℕ) (a b : Option Tale) (owed : Option ℕ) (door clock : ℕ) → owed ≡ None → Moves Quiet into a b → Rests rest.Quiet b owed door clock
rests_quiet into a b owed door clock none h = record { ended = λ e. absurd (cc); quiet = λ _. (none, quiet_end a b h); many = λ e. absurd (cc); clock_failed = λ e. absurd (cc); door_failed = λ e. absurd (cc) }
  where
    quiet_end : (a b : Option Tale) → Moves Quiet into a b → (t : Tale) → b ≡ Some t → ends_in is_quiet t.given ≡ true
    quiet_end None b h t e = absurd (cc)
    quiet_end (Some s) b h t e =
        let same : h.0 ≡ t = some_same h.0 t (sym h.1 ∙ e) in
        ap (λ (z : Tale). ends_in is_quiet z.given) (sym same) ∙ (ap (ends_in is_quiet) h.2.given ∙ ends_more is_quiet s.given item.Quiet)

-- after a datagram the responder goes on, or the clock or the door has failed, or 64 have come
pub rests_datagram : (n : ℕ) (into : List ℕ) (a b : Option Tale) (owed : Option ℕ) (door clock since : ℕ) (before why : Rest) → Moves (Datagram n) into a b → Counted a since → IsReplied owed before door clock → IsLater before (since + 1) why → Rests why b owed door clock
rests_datagram n into a b owed door clock since before why h count replied later = elim later.only [
  | inl same ↦ subst (λ (z : Rest). Rests z b owed door clock) (sym same) (elim replied.only [
    | inl goes ↦ subst (λ (z : Rest). Rests z b owed door clock) (sym goes.0) (rests_open b owed door clock)
    | inr stops ↦ elim stops [
      | inl q ↦ subst (λ (z : Rest). Rests z b owed door clock) (sym q.0) (rests_clock b owed door clock q.1)
      | inr q ↦ subst (λ (z : Rest). Rests z b owed door clock) (sym q.0) (rests_door b owed door clock q.1)
    ]
  ])
  | inr q ↦ subst (λ (z : Rest). Rests z b owed door clock) (sym q.0) (record { ended = λ f. absurd (cc); quiet = λ f. absurd (cc); many = λ _. (none q.1, enough a b h count q.2); clock_failed = λ f. absurd (cc); door_failed = λ f. absurd (cc) })
]
  where
    none : before ≡ rest.Open → owed ≡ None
    none is_open = elim replied.only [ inl goes ↦ goes.1 | inr stops ↦ elim stops [ inl q ↦ absurd (cc) | inr q ↦ absurd (cc) ] ]

    enough : (a b : Option Tale) → Moves (Datagram n) into a b → Counted a since → 64 ≤ since + 1 → (t : Tale) → b ≡ Some t → 64 ≤ datagrams t.given
    enough None b h count le t q = absurd (cc)
    enough (Some s) b h count le t q =
        let same : h.0 ≡ t = some_same h.0 t (sym h.1 ∙ q) in
        let more : datagrams t.given ≡ datagrams s.given + 1 = ap (λ (z : Tale). datagrams z.given) (sym same) ∙ (ap datagrams h.2.moved.given ∙ one_datagram_more s.given h.2.bytes) in
        let few = count s refl in
        omega arith

pub none_owed : (owed : Option ℕ) → is_some owed ≡ false → owed ≡ None
none_owed None h = refl
none_owed (Some id) h = absurd (cc)

-- a request without a reply shows a failure
pub owes_got : (owed : Option ℕ) (why : Rest) (door clock : ℕ) → IsReplied owed why door clock → is_some owed ≡ true → 0 < door + clock
owes_got owed why door clock h some = elim h.only [
  | inl p ↦ (let e = p.1 in absurd (cc))
  | inr q ↦ elim q [
    | inl p ↦ (let n = p.1 in omega (arith, n))
    | inr p ↦ (let n = p.1 in omega (arith, n))
  ]
]

pub none_owes : (X : Type 0) (owed : Option ℕ) → owed ≡ None → is_some owed ≡ true → X
none_owes X owed e h = absurd (cc)
