use Rattle.std.proofs.Common.{◌≡◌, ◌∙◌, ◌≤◌, ap, sym, string_bytes, true, false, Err, Some}
use Rattle.std.proofs.lemmas.Str.{IsUtf8-string_bytes, is_utf8-from_IsUtf8}
use Rattle.toml.specs.Data.{members_depth, members_have_valid_dates}
use Rattle.toml.specs.View.{table_view}
use Rattle.toml.specs.Parse.{parse_document}
use Rattle.gs_planfile.specs.Writing.{written}
use Rattle.gs_planfile.proofs.ReadBack.{plan_back}
use Rattle.gs_planfile.proofs.Written.{no_wrong_date, shallow}
use Rattle.gs_planfile.proofs.write.migrate.Goals as goal

pub returns-in-Ok : goal.returns-in-Ok
returns-in-Ok c =
    let t = c.args.text.now in
    let text = is_utf8-from_IsUtf8 (string_bytes c.in-Ok.text) (IsUtf8-string_bytes c.in-Ok.text) in
    let flat : members_depth (written t) ≤ 80 = shallow t in
    let read : parse_document (string_bytes c.in-Ok.text) ≡ Some (written t) = rw c.in_ok-table.ensures.view at c.in-Ok.ensures.reads_back flat in
    record {
      plan = rw (c.into_bytes.ensures.value, text, read) (plan_back t c.in_ok-table.ensures.fits);
      document = rw c.into_bytes.ensures.value read;
    }

pub unreachable-requires : goal.unreachable-requires
unreachable-requires c =
    let wrong : members_have_valid_dates (table_view c.in_ok-table.table) ≡ false = c.in-Err-DateInvalid.ensures.dates.0 (ap Err c.in-Err-DateInvalid.field-0-is) in
    let right : members_have_valid_dates (table_view c.in_ok-table.table) ≡ true = rw c.in_ok-table.ensures.view (no_wrong_date c.args.text.now) in
    let clash : true ≡ false = sym right ∙ wrong in cc
