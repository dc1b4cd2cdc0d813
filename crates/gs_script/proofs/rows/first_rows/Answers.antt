use Rattle.std.proofs.Common.{Bor, List, ℕ, ◌≡◌, ◌∙◌, ◌+◌, ◌-◌, ◌++◌, suc, sym, refl, rules, arith, inl, true, map, Option, Some, ◌∷◌, [], append_assoc, ap, length, length-append}
use Rattle.std.specs.Result.{is_ok}
use Rattle.std.proofs.lemmas.List.{map-append, append-nil}
use Rattle.csv.specs.Reading.{default_config, records_from}
use Rattle.csv.specs.Records.{fields_of}
use Rattle.gs_script.proofs.RecordsRead.{is_memory, records-end, records-more}
use Rattle.gs_script.proofs.rows.first_rows.Goals as goal

abbrev known : Bor (List ℕ) → Option (List ℕ)
known s = Some s.now

pub returns-then-not-found-clause-rows : goal.returns-then-not-found-clause-rows
returns-then-not-found-clause-rows c =
    let inv = c.loop-i.invariant in
    let r = rw c.if-not-found.true at (c.in-Ok.ensures.reads inv.0 inv.1) in
    let e = records-end known c.loop-i.rdr c.read_byte_record.new.self _ default_config (4097 - c.loop-i.i) inv.3 inv.2 inv.4 r in
    sym (inv.5 ∙ rw e (append-nil (map fields_of c.loop-i.rows.items)))

pub loop-i-preserved : goal.loop-i-preserved
loop-i-preserved c =
    let inv = c.loop-i.invariant in
    let r = rw c.if-not-found.false at (c.in-Ok.ensures.reads inv.0 inv.1) in
    let m = records-more known c.loop-i.rdr c.read_byte_record.new.self _ default_config (4097 - (c.loop-i.i + 1)) inv.3 inv.2 inv.4 r in
    let left : 4097 - c.loop-i.i ≡ suc (4097 - (c.loop-i.i + 1)) = omega arith in
    let good : is_ok c.push.result ≡ true = search rules in
    let items = rw good at c.push.ensures.items in (
      r.3 ∙ inv.0,
      inl (c.in-Ok.ensures.ready inv.0),
      r.2 ∙ inv.2,
      m.0,
      m.1,
      inv.5 ∙ rw (left, m.2, items, map-append fields_of c.loop-i.rows.items (c.read_byte_record.new.row ∷ []), append_assoc (map fields_of c.loop-i.rows.items) (fields_of c.read_byte_record.new.row ∷ []) (records_from default_config (4097 - (c.loop-i.i + 1)) c.read_byte_record.new.self.state m.0)) refl,
      (let more : length c.push.new.self.items ≡ length (c.loop-i.rows.items ++ c.read_byte_record.new.row ∷ []) = ap length items in omega (arith, more, length-append c.loop-i.rows.items (c.read_byte_record.new.row ∷ []), inv.6)),
      c.in-Ok.ensures.flexible ∙ inv.7,
    )

pub returns-clause-rows : goal.returns-clause-rows
unfolding records_from
returns-clause-rows c =
    let inv = c.loop-i.invariant in
    let none : 4097 - c.loop-i.i ≡ 0 = omega arith in
    sym (inv.5 ∙ rw none (append-nil (map fields_of c.loop-i.rows.items)))

pub refusal-requires : goal.refusal-requires
refusal-requires c =
    let inv = c.loop-i.invariant in
    is_memory known c.loop-i.rdr c.read_byte_record.new.self _ inv.7 (c.in-Err.ensures.why inv.1)
