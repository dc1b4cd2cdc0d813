use Rattle.std.proofs.Common.{◌≡◌, ◌-◌, ◌≤◌, length, ◌++◌, ℕ, List, Some, map, true}
use Rattle.csv.specs.Reading.{Ready, default_config, records_from, source_of, strip_bom}
use Rattle.csv.specs.Records.{fields_of}
use Rattle.csv.specs.declared.parser.State.TheVariants as st
use Rattle.csv.specs.declared.reader.Trim.TheVariants as trim
use Rattle.gs_script.proofs.rows.first_rows.Given as goal

abbrev pub invariant-loop-i : goal.invariant-loop-i
invariant-loop-i l = (l.rdr.trim ≡ trim.None) × Ready l.rdr × (l.rdr.config ≡ default_config)
    × (y : List ℕ) × (source_of (λ s. Some s.now) l.rdr ≡ Some y)
    × (records_from default_config 4097 st.StartRecord (strip_bom l.fn.text) ≡ map fields_of l.rows.items ++ records_from default_config (4097 - l.i) l.rdr.state y)
    × (length l.rows.items ≤ l.i) × (l.rdr.flexible ≡ true)
