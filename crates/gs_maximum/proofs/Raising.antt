-- What hearing does to a maximum.
use Rattle.std.proofs.Common.{◌*◌, ◌≤◌, arith, rules}
use Rattle.std.proofs.Math.Nat.{mul-le-mul_left}
use Rattle.gs_maximum.specs.NeverAhead.{JumpStaysBehind, HearingStaysBehind, EstimateStaysBehind}
use Rattle.gs_maximum.specs.Lag.{HearingRaises}

-- a beacon's maximum is raised by no more than its way lets the greatest clock grow
pub jump_stays_behind : JumpStaysBehind
jump_stays_behind rate told delay_min k reached grown behind low grew =
    let way : rate.lo * delay_min ≤ rate.lo * k = mul-le-mul_left rate.lo low in
    omega (arith, behind, way, grew)

-- what is heard then is the old value or the new one
pub hearing_stays_behind : HearingStaysBehind
hearing_stays_behind rate m value now reached heard told = search rules

pub estimate_stays_behind : EstimateStaysBehind
estimate_stays_behind rate m now l reached heard own = omega arith

-- and the greater of the two
pub hearing_raises : HearingRaises
hearing_raises rate m value now = search rules
