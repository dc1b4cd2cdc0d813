use Rattle.std.proofs.Common.{◌≡◌, rules, FitsSigned}
use Rattle.std.specs.Int.{w128}
use Rattle.std.proofs.lemmas.Int.{to_z-of_z}
use Rattle.gs_trigger.specs.inside.Sides.{lead_of}
use Rattle.gs_trigger.proofs.Leads.{Allows-from_lead, lead-from_Allows}
use Rattle.gs_trigger.proofs.trigger.Trigger.allowed_from.Goals as goal

-- the code's lead
lead-is : (c : goal.After-level) → c.lead.result ≡ lead_of c.args.self c.args.offset
lead-is c = let fits : FitsSigned w128 c.args.offset = search rules in simp to_z-of_z at c.lead.ensures.value

pub returns-clause-allows : goal.returns-clause-allows
returns-clause-allows c s h =
    let fits : FitsSigned w128 c.lead.result = search rules in
    let allowed = simp to_z-of_z at c.lag.ensures.allows in
    Allows-from_lead c.args.self s c.args.link.now c.args.offset (rw (← lead-is c) (allowed _ (c.level.ensures.covers s h)))

pub returns-clause-least : goal.returns-clause-least
returns-clause-least c s one h =
    let fits : FitsSigned w128 c.lead.result = search rules in
    let least = simp to_z-of_z at c.lag.ensures.least in
    c.level.ensures.least s one (least _ (rw (lead-is c) (lead-from_Allows c.args.self s c.args.link.now c.args.offset h)))
