use Rattle.std.proofs.Common.{inl}
use Rattle.gs_tool.proofs.generated.generated_play.Goals as goal

pub returns : goal.returns
returns g c = inl (
  c.in_ok-inputs.inputs.plan,
  c.in_ok-inputs.inputs.script,
  c.in_ok-inputs.ensures.ok,
  c.in_ok-played.ensures,
)
