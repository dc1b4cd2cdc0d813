-- For private functions and proofs: how a run that does not begin ends.
use Rattle.std.specs.Prelude.{◌≡◌, ◌⊎◌, ℕ, List, Option}
use Rattle.gs_io.specs.Causes.{Rose}
use Rattle.gs_net.specs.declared.items.LinkStop.{LinkStop}
use Rattle.gs_net.specs.declared.items.LinkStop.TheVariants as link
use Rattle.gs_board.specs.declared.faults.BoardStop.{BoardStop}
use Rattle.gs_board.specs.declared.faults.BoardStop.TheVariants as board
use Rattle.gs_cli.specs.Reply.{answer_in}
use Rattle.gs_cli.specs.declared.status.Status.{Status}
use Rattle.gs_cli.specs.declared.status.Status.TheVariants as status
use Rattle.gs_cli.specs.declared.stop.Stop.{Stop}
use Rattle.gs_cli.specs.declared.stop.Stop.TheVariants.{Refused, OutOfMemory}
use Rattle.gs_node_run.specs.Lines.{Says}

-- the status of a board that could not be made
abbrev pub board_status : BoardStop → Status
board_status board.ClockFailed = status.ClockFault
board_status board.Far = status.ClockEnd
board_status board.OutOfMemory = status.OutOfMemory

-- the status of ports that lent nothing
abbrev pub link_status : LinkStop → Status
link_status link.Failed = status.LinkFault
link_status link.OutOfMemory = status.OutOfMemory

-- not all was lent, and with this status a run ended
abbrev pub Unlent : ℕ → ℕ → Status → Type 0
Unlent before after end = ((end ≡ status.LinkFault) × Rose before after) ⊎ (end ≡ status.OutOfMemory)

-- with the status of the reply, whose line is said; or memory runs out, and nothing is said
abbrev pub Refuses : Stop → Option (List ℕ) → Option (List ℕ) → ℕ → ℕ → Status → Type 0
Refuses (Refused reply) old new before after end = (end ≡ (answer_in reply).status) × Says (answer_in reply).text old new before after
Refuses OutOfMemory old new before after end = (end ≡ status.OutOfMemory) × (new ≡ old)
