-- For private functions and proofs: the end that the signs of a run show.
use Rattle.std.specs.Prelude.{◌&&◌, nat_le, [], ◌∷◌, Option, Some, None, unwrap_or}
use Rattle.std.specs.Bool.{then_some}
use Rattle.gs_units.specs.FirstFault.{first_some}
use Rattle.gs_board.specs.declared.faults.Halt.{Halt}
use Rattle.gs_board.specs.declared.faults.Halt.TheVariants as halt
use Rattle.gs_board.specs.declared.faults.Torn.{Torn}
use Rattle.gs_node.specs.declared.choosing.Signs.{Signs}
use Rattle.gs_node.specs.declared.ends.End.{End}
use Rattle.gs_node.specs.declared.ends.End.TheVariants as end

-- the end that a halt shows
abbrev pub halt_end : Option Halt → Option End
halt_end None = None
halt_end (Some halt.ClockFailed) = Some (end.ClockFault halt.ClockFailed)
halt_end (Some (halt.Fell last now)) = Some (end.ClockFault (halt.Fell last now))
halt_end (Some halt.Far) = Some end.ClockEnd

-- the end that a seat shows
abbrev pub torn_end : Option Torn → Option End
torn_end None = None
torn_end (Some torn) = Some (end.Torn torn)

-- the first end that the signs show, or `Done`
abbrev pub end_of : Signs → End
end_of s = unwrap_or (first_some (
    torn_end s.torn
    ∷ then_some s.no_thread end.NoThread
    ∷ halt_end s.halt
    ∷ then_some s.view_failed (end.ClockFault halt.ClockFailed)
    ∷ then_some (s.filled && nat_le 4193281 s.length) end.JournalEnd
    ∷ then_some s.link_failed end.LinkFault
    ∷ then_some s.short end.OutOfMemory
    ∷ [])) end.Done
