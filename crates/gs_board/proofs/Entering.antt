-- A journal and its replies side by side.
use Rattle.std.proofs.Common.{◌≡◌, ℕ, zero, suc, ◌+◌, ◌<◌, List, [], ◌∷◌, length, get_or, Option, Some, None, refl, sym, ◌∙◌, ap, arith}
use Rattle.std.specs.Prelude.{filter, slice_get}
use Rattle.gs_core.specs.Node.{Node}
use Rattle.gs_core.specs.declared.reply.Reply.{Reply}
use Rattle.gs_core.specs.Steps.{Replayed, Whole, Stopped, after, answering, fault_of, replay, reply_of, unless_fault}
use Rattle.gs_core.specs.declared.event.NodeEvent.{NodeEvent}
use Rattle.gs_core.specs.declared.reply.CoreFault.{CoreFault}
use Rattle.gs_units.specs.declared.params.NodeParams.{NodeParams}
use Rattle.gs_board.specs.Entries.{entries_of, is_of, replies_in, ticked_in, told_from}
use Rattle.gs_board.specs.Ledger.{Ledger, IsKept}

-- one entry for each event
pub length-told_from : (i : ℕ) (es : List NodeEvent) (replies : List Reply) → length replies ≡ length es → length (told_from i es replies) ≡ length es
length-told_from i [] replies h = refl
length-told_from i (e ∷ es) [] h = absurd (omega arith)
length-told_from i (e ∷ es) (r ∷ rs) h = let behind = length-told_from (i + 1) es rs (omega arith) in omega arith

-- the entry at a place
told_at : (j : ℕ) (es : List NodeEvent) (rs : List Reply) (i : ℕ) (e : NodeEvent) (r : Reply) → i < length es → length rs ≡ length es
    → slice_get (told_from j es rs) i ≡ Some (record { place = j + i; event = get_or es i e; ticked = ticked_in (get_or rs i r) })
told_at j [] rs i e r h l = absurd (omega arith)
told_at j (x ∷ es) [] i e r h l = absurd (omega arith)
told_at j (x ∷ es) (y ∷ rs) zero e r h l = let n : j ≡ j + 0 = omega arith in ap (λ (m : ℕ). Some (record { place = m; event = x; ticked = ticked_in y })) n
told_at j (x ∷ es) (y ∷ rs) (suc i) e r h l =
    let n : (j + 1) + i ≡ j + suc i = omega arith in
    told_at (j + 1) es rs i e r (omega arith) (omega arith) ∙ ap (λ (m : ℕ). Some (record { place = m; event = get_or es i e; ticked = ticked_in (get_or rs i r) })) n

pub entry_at : (es : List NodeEvent) (rs : List Reply) (i : ℕ) (e : NodeEvent) (r : Reply) → i < length es → length rs ≡ length es
    → slice_get (told_from 0 es rs) i ≡ Some (record { place = i; event = get_or es i e; ticked = ticked_in (get_or rs i r) })
entry_at es rs i e r h l =
    let n : 0 + i ≡ i = omega arith in
    told_at 0 es rs i e r h l ∙ ap (λ (m : ℕ). Some (record { place = m; event = get_or es i e; ticked = ticked_in (get_or rs i r) })) n

-- one reply for each event
replies_behind : (fault : Option CoreFault) (i : ℕ) (reply : Reply) (rest : Replayed) (n : Node) (replies : List Reply) (k : ℕ)
    → unless_fault fault i (answering reply rest) ≡ Whole n replies
    → ((m : Node) (told : List Reply) → rest ≡ Whole m told → length told ≡ k) → length replies ≡ k + 1
replies_behind (Some fault) i reply rest n replies k h behind = absurd (cc)
replies_behind None i reply (Stopped place fault) n replies k h behind = absurd (cc)
replies_behind None i reply (Whole m told) n replies k h behind =
    let same : reply ∷ told ≡ replies = cc in
    let count = behind m told refl in
    let more = ap length same in
    omega (arith, count, more)

replies_from : (p : NodeParams) (i : ℕ) (n m : Node) (es : List NodeEvent) (replies : List Reply) → replay p i n es ≡ Whole m replies → length replies ≡ length es
replies_from p i n m [] replies h = let same : [] ≡ replies = cc in let none = ap length same in omega (arith, none)
replies_from p i n m (e ∷ es) replies h =
    let more = replies_behind (fault_of p n e) i (reply_of p n e) (replay p (i + 1) (after p n e) es) m replies (length es) h (λ m told whole. replies_from p (i + 1) (after p n e) m es told whole) in
    omega (arith, more)

pub as_many_replies : (t : Ledger) → IsKept t → length t.replies ≡ length t.journal
as_many_replies t kept = replies_from t.core.params 0 _ t.core.node t.journal t.replies kept.replayed

-- the replies that a board keeps are those of the replay
pub entries_are : (t : Ledger) (whose : Option ℕ) → IsKept t → filter (λ k. is_of whose k.event) (told_from 0 t.journal t.replies) ≡ entries_of t whose
entries_are t whose kept = ap (λ (replies : List Reply). filter (λ k. is_of whose k.event) (told_from 0 t.journal replies)) (sym (ap replies_in kept.replayed))
