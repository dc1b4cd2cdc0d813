-- The records of a script, one after the other.
use Rattle.std.proofs.Common.{◌≡◌, ◌<◌, ◌≤◌, ◌+◌, ℕ, List, [], ◌∷◌, ◌++◌, length, drop, map, get_or, Result, Ok, Err, refl, sym, ap, append_assoc}
use Rattle.std.proofs.lemmas.List.{append-nil, drop_all, drop_more}
use Rattle.csv.specs.Records.{Row, fields_of}
use Rattle.gs_planfile.specs.declared.text.PlanText.{PlanText}
use Rattle.gs_script.specs.declared.fault.ScriptFault.{ScriptFault}
use Rattle.gs_script.specs.declared.line.Line.{Line}
use Rattle.gs_script.specs.Fields.{◌>>=◌}
use Rattle.gs_script.specs.inside.Kept.{after}
use Rattle.gs_script.specs.Reading.{line_at, lines_from}

after-nil : (r : Result (List Line) ScriptFault) → r ≡ after [] r
after-nil (Ok ls) = refl
after-nil (Err e) = refl

after-more : (done : List Line) (l : Line) (r : Result (List Line) ScriptFault) → after done (r >>= (λ ls. Ok (l ∷ ls))) ≡ after (done ++ l ∷ []) r
after-more done l (Ok ls) = ap (λ xs. Ok xs) (sym (append_assoc done (l ∷ []) ls))
after-more done l (Err e) = refl

-- nothing is read yet
pub lines-start : (t : PlanText) (q : ℕ) (rows : List Row) → lines_from t q 2 (map fields_of rows) ≡ after [] (lines_from t q 2 (map fields_of rows))
lines-start t q rows = after-nil _

-- all is read
pub lines-end : (t : PlanText) (q k i : ℕ) (rows : List Row) (done : List Line) → length rows ≤ i → after done (lines_from t q k (map fields_of (drop i rows))) ≡ Ok done
unfolding lines_from
lines-end t q k i rows done h = rw (drop_all i rows h, append-nil done)

-- the next record is at fault
pub lines-stop : (t : PlanText) (q k i : ℕ) (rows : List Row) (r : Row) (done : List Line) (e : ScriptFault) → i < length rows
    → line_at t q k (fields_of (get_or rows i r)) ≡ Err e → after done (lines_from t q k (map fields_of (drop i rows))) ≡ Err e
unfolding lines_from
lines-stop t q k i rows r done e h f = rw (drop_more rows i r h, f)

-- it is read
pub lines-more : (t : PlanText) (q k i : ℕ) (rows : List Row) (r : Row) (done : List Line) (l : Line) → i < length rows
    → line_at t q k (fields_of (get_or rows i r)) ≡ Ok l
    → after done (lines_from t q k (map fields_of (drop i rows))) ≡ after (done ++ l ∷ []) (lines_from t q (k + 1) (map fields_of (drop (i + 1) rows)))
unfolding lines_from
lines-more t q k i rows r done l h f = rw (drop_more rows i r h, f) (after-more done l _)

pub ruleset steps = (lines-start, lines-end, lines-stop, lines-more)
