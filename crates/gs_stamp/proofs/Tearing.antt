-- What a store in memory leaves after a write and after a sync.
use Rattle.std.proofs.Common.{◌≡◌, ℕ, zero, suc, ◌+◌, ◌≤◌, List, [], ◌∷◌, ◌++◌, length, take, drop, replicate, Bool, true, false, refl, sym, ◌∙◌, ap, subst, arith, get_or, set}
use Rattle.gs_stamp.specs.Disk.{Follows, Torn, put}
use Rattle.gs_stamp.specs.Tears.{Leaves, Leaves-refl}
use Rattle.gs_stamp.specs.Kept.{LeavesOf}
use Rattle.gs_stamp.specs.declared.in_memory.State.{State}

-- what is not torn stays
pub stays : (n : ℕ) (bytes c : List ℕ) → Leaves (replicate n false) bytes c → c ≡ bytes
stays zero [] [] left = refl
stays zero [] (c ∷ cs) left = absurd left
stays zero (byte ∷ bytes) c left = absurd left
stays (suc n) [] c left = absurd left
stays (suc n) (byte ∷ bytes) [] left = absurd left
stays (suc n) (byte ∷ bytes) (c ∷ cs) left = let rest = stays n bytes cs left.1 in let first = left.0 refl in cc

torn_front : (n : ℕ) (old new : List ℕ) → drop n new ≡ drop n old → length new ≡ length old → Torn 0 n old new
torn_front n old new after size = let plain : 0 + n ≡ n = omega arith in record { before = refl; after = rw plain after; size = size }

torn_behind : (at n byte : ℕ) (old new : List ℕ) → Torn at n old new → Torn (suc at) n (byte ∷ old) (byte ∷ new)
torn_behind at n byte old new torn =
    let further : suc at + n ≡ suc (at + n) = omega arith in
    record {
      before = ap (λ (l : List ℕ). byte ∷ l) torn.before;
      after = rw further torn.after;
      size = omega (arith, torn.size);
    }

-- the piece stands at the front
front : (piece : List ℕ) (torns : List Bool) (bytes c : List ℕ) → length piece ≤ length bytes → length torns ≡ length bytes
    → Leaves (replicate (length piece) true ++ drop (length piece) torns) (piece ++ drop (length piece) bytes) c
    → (old : List ℕ) × Leaves torns bytes old × (drop (length piece) c ≡ drop (length piece) old) × (length c ≡ length old)
front [] torns bytes c fits same left = (c, left, refl, refl)
front (p ∷ piece) [] [] c fits same left = absurd (omega arith)
front (p ∷ piece) [] (byte ∷ bytes) c fits same left = absurd (omega arith)
front (p ∷ piece) (torn ∷ torns) [] c fits same left = absurd (omega arith)
front (p ∷ piece) (torn ∷ torns) (byte ∷ bytes) [] fits same left = absurd left
front (p ∷ piece) (torn ∷ torns) (byte ∷ bytes) (c ∷ cs) fits same left =
    let rest = front piece torns bytes cs (omega arith) (omega arith) left.1 in
    (byte ∷ rest.0, ((λ _. refl), rest.1), rest.2, omega (arith, rest.3))

-- an outcome of a crash after a write of this many bytes is one from before it, torn there
pub behind : (at : ℕ) (piece : List ℕ) (torns : List Bool) (bytes c : List ℕ) → at + length piece ≤ length bytes → length torns ≡ length bytes
    → Leaves (take at torns ++ replicate (length piece) true ++ drop (at + length piece) torns) (put at piece bytes) c
    → (old : List ℕ) × Leaves torns bytes old × Torn at (length piece) old c
behind zero piece torns bytes c fits same left =
    let plain : 0 + length piece ≡ length piece = omega arith in
    let got = front piece torns bytes c (omega arith) same (rw plain at left) in
    (got.0, got.1, torn_front (length piece) got.0 c got.2 got.3)
behind (suc at) piece [] [] c fits same left = absurd (omega arith)
behind (suc at) piece [] (byte ∷ bytes) c fits same left = absurd (omega arith)
behind (suc at) piece (torn ∷ torns) [] c fits same left = absurd (omega arith)
behind (suc at) piece (torn ∷ torns) (byte ∷ bytes) [] fits same left =
    let further : suc at + length piece ≡ suc (at + length piece) = omega arith in
    let at_end : (n : ℕ) → n ≡ suc (at + length piece) → Leaves (take (suc at) (torn ∷ torns) ++ replicate (length piece) true ++ drop n (torn ∷ torns)) (take (suc at) (byte ∷ bytes) ++ piece ++ drop n (byte ∷ bytes)) [] → ⊥ =
    λ n is l. subst (λ (k : ℕ). Leaves (take (suc at) (torn ∷ torns) ++ replicate (length piece) true ++ drop k (torn ∷ torns)) (take (suc at) (byte ∷ bytes) ++ piece ++ drop k (byte ∷ bytes)) []) is l in
    absurd (at_end (suc at + length piece) further left)
behind (suc at) piece (torn ∷ torns) (byte ∷ bytes) (c ∷ cs) fits same left =
    let further : suc at + length piece ≡ suc (at + length piece) = omega arith in
    let here = rw further at left in
    let got = behind at piece torns bytes cs (omega arith) (omega arith) here.1 in
    (c ∷ got.0, (here.0, got.1), torn_behind at (length piece) c got.0 cs got.2)

pub same_torn : (at n : ℕ) (bytes : List ℕ) → Torn at n bytes bytes
same_torn at n bytes = record { before = refl; after = refl; size = refl }

-- a state after a write, or the one before it
pub written_follows : (at : ℕ) (piece : List ℕ) (old next : State) → at + length piece ≤ 18 → next.bytes ≡ put at piece old.bytes
    → next.torn ≡ take at old.torn ++ replicate (length piece) true ++ drop (at + length piece) old.torn
    → Follows (Torn at (length piece)) (LeavesOf old) (LeavesOf next)
written_follows at piece old next fits bytes torn c left =
    let torns = take at old.torn ++ replicate (length piece) true ++ drop (at + length piece) old.torn in
    behind at piece old.torn old.bytes c (omega (arith, old.whole)) (old.each ∙ sym old.whole) (subst (λ (l : List ℕ). Leaves torns l c) bytes (subst (λ (l : List Bool). Leaves l next.bytes c) torn left))

pub unwritten_follows : (at n : ℕ) (old : State) → Follows (Torn at n) (LeavesOf old) (LeavesOf old)
unwritten_follows at n old c left = (c, left, same_torn at n c)

-- after a sync there is one outcome
pub synced_leaves : (next : State) (c : List ℕ) → next.torn ≡ replicate 18 false → LeavesOf next c → c ≡ next.bytes
synced_leaves next c torn left = stays 18 next.bytes c (subst (λ (l : List Bool). Leaves l next.bytes c) torn left)

pub synced_follows : (old next : State) → next.bytes ≡ old.bytes → next.torn ≡ replicate 18 false → (c : List ℕ) → LeavesOf next c → LeavesOf old c
synced_follows old next bytes torn c left =
    let same : old.bytes ≡ c = sym bytes ∙ sym (synced_leaves next c torn left) in
    subst (LeavesOf old) same (Leaves-refl old.torn old.bytes (old.each ∙ sym old.whole))

-- any byte may stand where one is torn
pub torn_any : (torns : List Bool) (bytes c : List ℕ) (place fill : ℕ) → Leaves torns bytes c → get_or torns place false ≡ true → Leaves torns bytes (set c place fill)
torn_any [] [] [] place fill left torn = tt
torn_any [] [] (c ∷ cs) place fill left torn = absurd left
torn_any [] (byte ∷ bytes) c place fill left torn = absurd left
torn_any (t ∷ torns) [] c place fill left torn = absurd left
torn_any (t ∷ torns) (byte ∷ bytes) [] place fill left torn = absurd left
torn_any (t ∷ torns) (byte ∷ bytes) (c ∷ cs) zero fill left torn = ((λ whole. absurd (differ t torn whole)), left.1)
  where
    differ : (t : Bool) → t ≡ true → t ≡ false → ⊥
    differ t is isnt = cc
torn_any (t ∷ torns) (byte ∷ bytes) (c ∷ cs) (suc place) fill left torn = (left.0, torn_any torns bytes cs place fill left.1 torn)
