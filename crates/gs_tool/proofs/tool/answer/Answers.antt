use Rattle.std.proofs.Common.{map, string_bytes}
use Rattle.gs_tool.proofs.InRange.{is_in_range}
use Rattle.gs_tool.proofs.tool.answer.Goals as goal

pub answer_to-requires-clause-range : goal.answer_to-requires-clause-range
answer_to-requires-clause-range g c = λ κs alive. is_in_range (map string_bytes c.args.words.now) _ c.in-Some.ensures.some
