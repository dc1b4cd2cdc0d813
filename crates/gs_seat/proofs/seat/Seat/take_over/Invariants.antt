use Rattle.std.proofs.Common.{ℕ, drop}
use Rattle.gs_run.specs.Nets.{net_of}
use Rattle.gs_calendar.specs.Course.{course_of}
use Rattle.gs_seat.specs.Held.{AreSentIn, IsWindow}
use Rattle.gs_seat.specs.Seats.{IsSeatAt}
use Rattle.gs_seat.proofs.HandOver.{IsHandingOver}
use Rattle.gs_seat.proofs.seat.Seat.take_over.Given as goal

abbrev pub invariant-loop-beacon : goal.invariant-loop-beacon
invariant-loop-beacon l = (by : ℕ → ℕ) (m t : ℕ) → IsWindow (net_of l.plan) m t → AreSentIn (net_of l.plan) (course_of l.script) l.from (by l.from) t l.sent
    → IsSeatAt (net_of l.plan) (course_of l.script) l.to by m t l.fn.self
    → IsHandingOver (net_of l.plan) (course_of l.script) l.from l.to by m t (drop l.beacon-index l.sent) l.self
