-- The records that csv reads one by one are those of the whole text, and what it refuses.
use Rattle.std.proofs.Common.{take, None, ap, ◌+◌, arith, ◌≡◌, ℕ, suc, List, [], ◌∷◌, Option, Some, true, false, refl, sym, ◌∙◌, zero}
use Rattle.csv.specs.Machine.{Read, next_record}
use Rattle.csv.specs.Reading.{ExplainsRead, records_next, Reached, ReadRecord, records_from, source_of}
use Rattle.csv.specs.declared.parser.Config.{Config}
use Rattle.csv.specs.declared.parser.State.{State}
use Rattle.csv.specs.declared.reader.Reader.{Reader}
use Rattle.csv.specs.declared.error.ErrorKind.{ErrorKind}
use Rattle.csv.specs.declared.error.ErrorKind.TheVariants as kind
use Rattle.gs_script.specs.inside.Rows.{IsMemory}
use Rattle.csv.proofs.ReadFacts.{rows-end, rows-more}

step : (cfg : Config) (n : ℕ) (s s2 : State) (y z : List ℕ) (f : List (List ℕ)) (p : Read) → next_record cfg s [] [] y ≡ Some p → f ≡ p.0 → p.1 ≡ s2 → p.2 ≡ z
    → records_from cfg (suc n) s y ≡ f ∷ records_from cfg n s2 z
unfolding records_from
step cfg n s s2 y z f p e a b c = rw (e, a, ← b, ← c)

-- a read that gave a record
pub records-more : {R : Type 0} (rem : R → Option (List ℕ)) (a b : Reader R) (f : List (List ℕ)) (cfg : Config) (n : ℕ) (y : List ℕ)
    → a.config ≡ cfg → source_of rem a ≡ Some y → ReadRecord rem a b true f
    → (z : List ℕ) × (source_of rem b ≡ Some z) × (records_from cfg (suc n) a.state y ≡ f ∷ records_from cfg n b.state z)
unfolding Reached
records-more rem a b f cfg n y ec ex r =
    let m = rows-more rem a b f cfg a.state y y [] ec ex (refl, refl) r in
    (m.0, m.1, step cfg n a.state b.state y m.0 f m.2.0 m.2.1 m.2.2 m.2.3.0 m.2.3.1)

-- a read that gave none
pub records-end : {R : Type 0} (rem : R → Option (List ℕ)) (a b : Reader R) (f : List (List ℕ)) (cfg : Config) (n : ℕ) (y : List ℕ)
    → a.config ≡ cfg → source_of rem a ≡ Some y → ReadRecord rem a b false f → records_from cfg n a.state y ≡ []
unfolding records_from
records-end rem a b f cfg zero y ec ex r = refl
records-end rem a b f cfg (suc n) y ec ex r = rw (rows-end rem a b f cfg y ec ex r)

-- the first records are those of any longer reading
pub records-front : (cfg : Config) (n m : ℕ) (s : State) (xs : List ℕ) → records_from cfg n s xs ≡ take n (records_from cfg (n + m) s xs)
unfolding records_from
records-front cfg zero m s xs = refl
records-front cfg (suc n) m s xs =
    let e : suc n + m ≡ suc (n + m) = omega arith in
    rw e (by (next_record cfg s [] [] xs) (records-front cfg n m))
  where
    by : (o : Option Read) → ((s : State) (xs : List ℕ) → records_from cfg n s xs ≡ take n (records_from cfg (n + m) s xs))
        → records_next (records_from cfg n) o ≡ take (suc n) (records_next (records_from cfg (n + m)) o)
    by None ih = refl
    by (Some p) ih = ap (λ rs. p.0 ∷ rs) (ih p.1 p.2)

-- a reader that lets records differ in length refuses memory alone
pub is_memory : {R : Type 0} (rem : R → Option (List ℕ)) (a b : Reader R) (k : ErrorKind) → a.flexible ≡ true → ExplainsRead rem a b false k → IsMemory k
is_memory rem a b (kind.Io e) free why = tt
is_memory rem a b kind.OutOfMemory free why = tt
is_memory rem a b (kind.UnequalLengths pos expected len) free why = (let clash : true ≡ false = sym free ∙ why.0 in cc)
is_memory rem a b (kind.Utf8 pos err) free why = (let clash : false ≡ true = why.0 in cc)
is_memory rem a b (kind.Serialize text) free why = why
is_memory rem a b (kind.Deserialize pos err) free why = why
