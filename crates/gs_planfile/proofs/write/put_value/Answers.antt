use Rattle.std.proofs.Common.{◌∙◌, ap, List, ℕ}
use Rattle.toml.specs.View.{members_view, table_view, view}
use Rattle.gs_planfile.specs.Writing.{insert_member}
use Rattle.gs_planfile.proofs.Inserted.{insert-view}
use Rattle.gs_planfile.proofs.write.put_value.Goals as goal

pub returns : goal.returns
returns c =
    ap members_view c.in_ok-insert.ensures.entries
    ∙ insert-view c.args.table.now.entries c.in_ok-name.name c.args.value
    ∙ ap (λ (k : List ℕ). insert_member k (view c.args.value) (table_view c.args.table.now)) (c.in_ok-name.ensures.ok ∙ c.name.ensures)
