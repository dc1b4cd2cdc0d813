-- What is appended in pieces.
use Rattle.std.proofs.Common.{◌≡◌, ℕ, suc, ◌+◌, List, [], ◌∷◌, ◌++◌, length, take, Option, Some, None, sym, ◌∙◌, ap, subst, arith, append_assoc}
use Rattle.std.proofs.lemmas.List.{append-nil}
use Rattle.gs_io.specs.Held.{Appends, AppendsFront}

-- nothing is a prefix of every text
pub nothing_written : (old : Option (List ℕ)) (text : List ℕ) → AppendsFront old old text
nothing_written None text = (0, tt)
nothing_written (Some held) text = (0, ap (λ (l : List ℕ). Some l) (sym (append-nil held)))

pub nothing_appended : (old : Option (List ℕ)) → Appends old old []
nothing_appended None = tt
nothing_appended (Some held) = ap (λ (l : List ℕ). Some l) (sym (append-nil held))

-- one piece, and then another
pub then_appends : (old mid new : Option (List ℕ)) (first second : List ℕ) → Appends old mid first → Appends mid new second → Appends old new (first ++ second)
then_appends None mid new first second one two = tt
then_appends (Some held) mid new first second one two =
    let told : new ≡ Some ((held ++ first) ++ second) = subst (λ (m : Option (List ℕ)). Appends m new second) one two in
    told ∙ ap (λ (l : List ℕ). Some l) (append_assoc held first second)

take_behind : (first second : List ℕ) (n : ℕ) → take (length first + n) (first ++ second) ≡ first ++ take n second
take_behind [] second n = let same : 0 + n ≡ n = omega arith in ap (λ (k : ℕ). take k second) same
take_behind (x ∷ first) second n =
    let further : length (x ∷ first) + n ≡ suc (length first + n) = omega arith in
    ap (λ (k : ℕ). take k (x ∷ (first ++ second))) further ∙ ap (λ (l : List ℕ). x ∷ l) (take_behind first second n)

pub then_front : (old mid new : Option (List ℕ)) (first second : List ℕ) → Appends old mid first → AppendsFront mid new second → AppendsFront old new (first ++ second)
then_front old mid new first second one (n, two) = (length first + n, rw (take_behind first second n) (then_appends old mid new first (take n second) one two))
