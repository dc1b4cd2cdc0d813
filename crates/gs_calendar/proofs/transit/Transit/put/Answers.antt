use Rattle.std.proofs.Common.{ap, ◌∙◌, List}
use Rattle.std.specs.BTreeSet.{insert_key}
use Rattle.gs_calendar.specs.Due.{Key, key_cmp}
use Rattle.gs_calendar.specs.inside.Keys.{key_of, keys_of}
use Rattle.gs_calendar.proofs.Keyed.{insert_keyed}
use Rattle.gs_calendar.proofs.transit.Transit.put.Goals as goal

pub returns-clause-ok : goal.returns-clause-ok
returns-clause-ok c =
    ap keys_of c.in_ok-insert.ensures.keys
    ∙ insert_keyed c.self.inside.keys.keys c.args.key
    ∙ ap (λ (ks : List Key). insert_key key_cmp ks (key_of c.args.key)) c.self.view_is
