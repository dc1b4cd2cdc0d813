-- A responder's account of its door, item by item.
use Rattle.std.proofs.Common.{◌≡◌, ◌∙◌, ℕ, ◌≤◌, ◌+◌, Option, Some, None, List, [], ◌∷◌, ◌++◌, take, map, ap, sym, refl, subst, arith, true, append-nil}
use Rattle.std.proofs.lemmas.List.{map-append}
use Rattle.std.proofs.lemmas.List.Elements.{All-append, All-cons, All-nil}
use Rattle.gs_net.specs.Tales.{IsFresh, IsUnused, Moves, Tale, added}
use Rattle.gs_net.specs.declared.items.Item.{Item}
use Rattle.gs_net.specs.declared.items.Item.TheVariants as item
use Rattle.gs_net.specs.declared.items.Got.TheVariants.{Datagram, Ended, Quiet}
use Rattle.gs_respond.specs.Doors.{IsAnswerOf, never_falls, owing, requests}
use Rattle.gs_net.specs.Items.{datagrams}
use Rattle.gs_respond.specs.TimeRequests.{Tells, answer_bytes, asked_in, asked_of, clock_in}
use Rattle.gs_respond.specs.inside.Accounts.{Answered, Counted, Goes, IsAnswered, Replies}
use Rattle.gs_respond.proofs.Rising.{rises_to, rises_twice}
use Rattle.gs_respond.proofs.Taking.{asked_cut, no_datagram_more, one_datagram_more, requests_more}

pub some_same : {A : Type 0} (a b : A) → Some a ≡ Some b → a ≡ b
some_same a b e = cc

-- a request that got no reply is owed one
pub replies_same : (node : ℕ) (asked : Option ℕ) (old new : Option (List (List ℕ))) (last later : ℕ) → new ≡ old → last ≤ later → Replies node asked asked old new last later
replies_same node asked None new last later e le = e
replies_same node asked (Some rs) new last later e le =
    (rs, e, record { asked_go = refl; answers_go = λ h. h; clocks_go = rises_to (map clock_in rs) last later le })

-- an answer is the node's with what it tells
is_answer : (node id clock : ℕ) (reply : List ℕ) → reply ≡ answer_bytes node id clock → Tells node id clock reply → IsAnswerOf node reply
is_answer node id clock reply e told = e ∙ (λ i. answer_bytes node (sym told.asked_is i) (sym told.clock_is i))

-- a request got its reply
pub replies_more : (node id : ℕ) (reply : List ℕ) (old new : Option (List (List ℕ))) (last later : ℕ) → reply ≡ answer_bytes node id later → Tells node id later reply → last ≤ later → new ≡ added old reply → Replies node (Some id) None old new last later
replies_more node id reply None new last later are told le e = e
replies_more node id reply (Some rs) new last later are told le e =
    let clocks : map clock_in (rs ++ reply ∷ []) ≡ map clock_in rs ++ later ∷ [] = map-append clock_in rs (reply ∷ []) ∙ ap (λ (z : ℕ). map clock_in rs ++ z ∷ []) told.clock_is in (
      rs ++ reply ∷ [],
      e,
      record {
        asked_go = append-nil _ ∙ (map-append asked_in rs (reply ∷ []) ∙ ap (λ (z : ℕ). map asked_in rs ++ z ∷ []) told.asked_is);
        answers_go = λ h. All-append (IsAnswerOf node) rs (reply ∷ []) h (All-cons (IsAnswerOf node) reply [] (is_answer node id later reply are told) (All-nil (IsAnswerOf node)));
        clocks_go = λ h. subst (λ (z : List ℕ). never_falls (z ++ later ∷ []) ≡ true) (sym clocks) (rises_twice (map clock_in rs) later (rises_to (map clock_in rs) last later le h));
      },
    )

pub answered_got : (node n : ℕ) (into : List ℕ) (a b : Option Tale) (ra rb : Option (List (List ℕ))) (owed : Option ℕ) (last later : ℕ) → Moves (Datagram n) into a b → Answered node a ra None last → Replies node (asked_of (take n into)) owed ra rb last later → Answered node b rb owed later
answered_got node n into None b ra rb owed last later m h q t rs e f = absurd (cc)
answered_got node n into (Some s) b None rb owed last later m h q t rs e f = absurd (cc)
answered_got node n into (Some s) b (Some old) rb owed last later m h q t rs e f =
    let same : m.0 ≡ t = some_same m.0 t (sym m.1 ∙ e) in
    let replies : q.0 ≡ rs = some_same q.0 rs (sym q.1 ∙ f) in
    let goes : Goes node (asked_of (take n into)) owed old rs last later = subst (λ (z : List (List ℕ)). Goes node (asked_of (take n into)) owed old z last later) replies q.2 in
    let bytes = m.2.bytes in
    let given : t.given ≡ s.given ++ item.Datagram bytes ∷ [] = ap (λ (x : Tale). x.given) (sym same) ∙ m.2.moved.given in
    let cut : asked_of (take n into) ≡ asked_of bytes = asked_cut bytes into n m.2.count m.2.front in
    let k : IsAnswered node s.given old None last = h s old refl refl in
    record {
      asked = ap requests given ∙ (requests_more s.given (item.Datagram bytes) ∙ (ap (λ (z : List ℕ). z ++ owing (asked_of bytes)) (k.asked ∙ append-nil _) ∙ (ap (λ (z : Option ℕ). map asked_in old ++ owing z) (sym cut) ∙ sym goes.asked_go)));
      answers = goes.answers_go k.answers;
      clocks = goes.clocks_go k.clocks;
    }

pub answered_quiet : (node : ℕ) (into : List ℕ) (a b : Option Tale) (ra rb : Option (List (List ℕ))) (last : ℕ) → Moves Quiet into a b → rb ≡ ra → Answered node a ra None last → Answered node b rb None last
answered_quiet node into None b ra rb last m r h t rs e f = absurd (cc)
answered_quiet node into (Some s) b ra rb last m r h t rs e f =
    let same : m.0 ≡ t = some_same m.0 t (sym m.1 ∙ e) in
    let given : t.given ≡ s.given ++ item.Quiet ∷ [] = ap (λ (x : Tale). x.given) (sym same) ∙ m.2.given in
    let k : IsAnswered node s.given rs None last = h s rs refl (sym r ∙ f) in
    record {
      asked = ap requests given ∙ (requests_more s.given item.Quiet ∙ (append-nil _ ∙ k.asked));
      answers = k.answers;
      clocks = k.clocks;
    }

pub answered_same : (node : ℕ) (a b : Option Tale) (ra rb : Option (List (List ℕ))) (owed : Option ℕ) (last : ℕ) → b ≡ a → rb ≡ ra → Answered node a ra owed last → Answered node b rb owed last
answered_same node a b ra rb owed last e r h t rs p q = h t rs (sym e ∙ p) (sym r ∙ q)

pub ended_same : (into : List ℕ) (a b : Option Tale) → Moves Ended into a b → b ≡ a
ended_same into None b h = h
ended_same into (Some s) b h = h.1 ∙ ap (λ (z : Tale). Some z) h.2.0

-- a count of datagrams goes up by at most one
pub counted_got : (n : ℕ) (into : List ℕ) (a b : Option Tale) (since later : ℕ) → Moves (Datagram n) into a b → later ≤ since + 1 → Counted a since → Counted b later
counted_got n into None b since later m le h t e = absurd (cc)
counted_got n into (Some s) b since later m le h t e =
    let same : m.0 ≡ t = some_same m.0 t (sym m.1 ∙ e) in
    let more : datagrams t.given ≡ datagrams s.given + 1 = ap (λ (z : Tale). datagrams z.given) (sym same) ∙ (ap datagrams m.2.moved.given ∙ one_datagram_more s.given m.2.bytes) in
    let before = h s refl in
    omega arith

pub counted_quiet : (into : List ℕ) (a b : Option Tale) (since : ℕ) → Moves Quiet into a b → Counted a since → Counted b since
counted_quiet into None b since m h t e = absurd (cc)
counted_quiet into (Some s) b since m h t e =
    let same : m.0 ≡ t = some_same m.0 t (sym m.1 ∙ e) in
    let more : datagrams t.given ≡ datagrams s.given = ap (λ (z : Tale). datagrams z.given) (sym same) ∙ (ap datagrams m.2.given ∙ no_datagram_more s.given) in
    let before = h s refl in
    omega arith

-- nothing was asked yet, and nothing answered
pub answered_new : (node : ℕ) (tale : Option Tale) (replies : Option (List (List ℕ))) (last : ℕ) → IsFresh tale → IsUnused replies → Answered node tale replies None last
answered_new node None replies last fresh unused t rs e f = absurd (cc)
answered_new node (Some s) None last fresh unused t rs e f = absurd (cc)
answered_new node (Some s) (Some old) last fresh unused t rs e f =
    let given : t.given ≡ [] = ap (λ (z : Tale). z.given) (sym (some_same s t e)) ∙ fresh in
    let none : rs ≡ [] = sym (some_same old rs f) ∙ unused in
    let start : IsAnswered node [] [] None last = record { asked = refl; answers = All-nil (IsAnswerOf node); clocks = refl } in
    subst (λ (z : List Item). IsAnswered node z rs None last) (sym given) (subst (λ (z : List (List ℕ)). IsAnswered node [] z None last) (sym none) start)
