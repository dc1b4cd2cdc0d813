-- For private functions and proofs: how the fields of a feed are seen.
use Rattle.std.specs.Prelude.{◌≡◌, suc, List}
use Rattle.gs_core.specs.declared.event.Event.{Event}
use Rattle.gs_plan.specs.Plans.{text_of}
use Rattle.gs_run.specs.Nets.{net_of}
use Rattle.gs_calendar.specs.Course.{course_of}
use Rattle.gs_calendar.specs.inside.Coming.{AreAhead}
use Rattle.gs_calendar.specs.inside.Feeds.{IsFeed, left_of}
use Rattle.gs_calendar.specs.Scripts.{IsReadFor}
use Rattle.gs_calendar.specs.declared.feed.Feed.TheInside.{Inside}

-- the events that are left
abbrev pub left_in : Inside → List Event
left_in a = left_of (net_of a.plan.now) (course_of a.script.now) a.t a.to a.at a.turns.items a.waiting.items

-- what is true of the fields
pub record IsInside (a : Inside) : Type 0 where
  pub read : IsReadFor (text_of a.plan.now) a.script.now
  pub nodes : a.nodes ≡ (net_of a.plan.now).nodes
  pub quanta : a.quanta ≡ a.script.now.quanta
  pub ahead : AreAhead (net_of a.plan.now) (course_of a.script.now) (suc a.t) a.ahead.items
  pub feed : IsFeed (net_of a.plan.now) (course_of a.script.now) a.t a.to a.at a.turns.items a.next.items a.waiting.items
