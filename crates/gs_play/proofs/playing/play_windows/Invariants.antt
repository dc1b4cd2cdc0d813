use Rattle.std.proofs.Common.{◌-◌}
use Rattle.gs_play.specs.inside.Player.{IsPlayerAt}
use Rattle.gs_play.proofs.playing.play_windows.Given as goal

abbrev pub invariant-loop-player : goal.invariant-loop-player
invariant-loop-player g l = IsPlayerAt l.fn.plan l.fn.script l.player.quanta l.player

abbrev pub decreases-loop-player : goal.decreases-loop-player
decreases-loop-player g l = l.fn.script.quanta - l.player.quanta
