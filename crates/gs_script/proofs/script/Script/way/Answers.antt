use Rattle.std.proofs.Common.{◌≡◌, ◌∙◌, arith, slice_index}
use Rattle.std.proofs.lemmas.List.{get_or_default}
use Rattle.gs_script.proofs.Keeping.{place_at, way_at}
use Rattle.gs_script.proofs.script.Script.way.Goals as goal

pub index-requires : goal.index-requires
index-requires c =
    let s = c.args.self.now in
    let ways = c.node.result.now.ways in
    let at = (place_at s.text s.lines c.args.from c.args.to ways c.node.ensures.ways c.requires.receiver c.requires.neighbours).0 in
    omega (arith, at, ways.index.ok.0)

pub index-requires-2 : goal.index-requires-2
index-requires-2 c =
    let s = c.args.self.now in
    let ways = c.node.result.now.ways in
    let at = place_at s.text s.lines c.args.from c.args.to ways c.node.ensures.ways c.requires.receiver c.requires.neighbours in
    let place : c.index.result.now ≡ slice_index ways.index.items c.args.to = c.index.ensures ∙ get_or_default ways.index.items c.args.to c.index.result.now 0 at.0 in
    omega (arith, at.1, place, c.from.ensures, ways.items.ok.0)

pub returns : goal.returns
returns c =
    let s = c.args.self.now in
    let ways = c.node.result.now.ways in
    let at = place_at s.text s.lines c.args.from c.args.to ways c.node.ensures.ways c.requires.receiver c.requires.neighbours in
    let place : c.from.result ≡ slice_index ways.index.items c.args.to = c.from.ensures ∙ c.index.ensures ∙ get_or_default ways.index.items c.args.to c.index.result.now 0 at.0 in
    let way = way_at s.text s.lines c.args.from c.args.to ways c.index-2.result.now c.node.ensures.ways c.requires.receiver c.requires.neighbours in
    rw (← c.index-2.ensures) at (rw (← place) at way)
