-- The objects in memory, as contracts see them.
use Rattle.std.specs.Prelude.{◌≡◌, ◌==◌, ℕ, List, [], ◌∷◌, ◌++◌, length, min, take, Bool, true, false, ⊤, if◌then◌else◌}
use Rattle.gs_io.specs.Causes.{counted, is_to_fail}
use Rattle.gs_net.specs.declared.items.Item.{Item}
use Rattle.gs_net.specs.declared.items.Item.TheVariants as item
use Rattle.gs_net.specs.declared.items.Got.{Got}
use Rattle.gs_net.specs.declared.items.Got.TheVariants as got
use Rattle.gs_net.specs.Tales.{Tale}

-- the calls of an object: the numbers of those that are to fail, how many there were, and how many failed
pub record Counts : Type 0 where
  pub fails : List ℕ
  pub calls : ℕ
  pub faults : ℕ

-- the next call is one that is to fail
abbrev pub is_named : Counts → Bool
is_named counts = is_to_fail counts.fails (counted counts.calls)

-- with one more call
abbrev pub after_call : Counts → Counts
after_call counts = record counts { calls = counted counts.calls }

-- with one more fault
abbrev pub after_fault : Counts → Counts
after_fault counts = record counts { faults = counted counts.faults }

-- with one more fault where there were any
abbrev pub after_count : Counts → ℕ → Counts
after_count counts faults = if faults == 0 then counts else after_fault counts

-- no call yet
abbrev pub no_calls : List ℕ → Counts
no_calls fails = record { fails = fails; calls = 0; faults = 0 }

-- an inlet in memory: its items, its calls, and whether a datagram was taken
pub record Lane : Type 0 where
  pub tale : Tale
  pub calls : Counts
  pub taken : Bool

-- one that has given nothing
abbrev pub new_lane : List Item → List ℕ → Lane
new_lane items fails = record { tale = record { given = []; left = items }; calls = no_calls fails; taken = false }

-- what a call gets where these items are left
abbrev pub got_of : List Item → Got
got_of [] = got.Ended
got_of (item.Datagram bytes ∷ rest) = got.Datagram (min 64 (length bytes))
got_of (item.Quiet ∷ rest) = got.Quiet

-- where the first item left is a datagram, its front stands here
abbrev pub Fronts : List Item → List ℕ → Type 0
Fronts [] into = ⊤
Fronts (item.Datagram bytes ∷ rest) into = take (min 64 (length bytes)) into ≡ take (min 64 (length bytes)) bytes
Fronts (item.Quiet ∷ rest) into = ⊤

-- the first of the items left is now given
abbrev pub moved_on : List Item → List Item → Tale
moved_on given [] = record { given = given; left = [] }
moved_on given (first ∷ rest) = record { given = given ++ first ∷ []; left = rest }

-- the first item left is a datagram, or one was taken before
abbrev pub taken_next : List Item → Bool → Bool
taken_next (item.Datagram bytes ∷ rest) taken = true
taken_next (item.Quiet ∷ rest) taken = taken
taken_next [] taken = taken

-- after a call that did not fail
abbrev pub after_receive : Lane → Lane
after_receive lane = record {
  tale = moved_on lane.tale.given lane.tale.left;
  calls = after_call lane.calls;
  taken = taken_next lane.tale.left lane.taken;
}

-- after a call that failed
abbrev pub after_failed_receive : Lane → Lane
after_failed_receive lane = record lane { calls = after_fault (after_call lane.calls) }

-- a door in memory: what it is as an inlet, and its replies
pub record Desk : Type 0 where
  pub lane : Lane
  pub replies : List (List ℕ)

-- one that has given and replied nothing
abbrev pub new_desk : List Item → List ℕ → Desk
new_desk items fails = record { lane = new_lane items fails; replies = [] }

-- after a reply
abbrev pub after_reply : Desk → List ℕ → Desk
after_reply desk answer = record {
  lane = record desk.lane { calls = after_call desk.lane.calls };
  replies = desk.replies ++ answer ∷ [];
}

-- after a reply that failed
abbrev pub after_failed_reply : Desk → Desk
after_failed_reply desk = record desk { lane = after_failed_receive desk.lane }

-- an outlet in memory: its calls, and what it has taken
pub record Outbox : Type 0 where
  pub calls : Counts
  pub sent : List (ℕ × List ℕ)

-- one that has taken nothing
abbrev pub new_outbox : List ℕ → Outbox
new_outbox fails = record { calls = no_calls fails; sent = [] }

-- after it has taken a datagram
abbrev pub after_send : Outbox → ℕ → List ℕ → Outbox
after_send box neighbour datagram = record {
  calls = after_call box.calls;
  sent = box.sent ++ (neighbour, datagram) ∷ [];
}

-- after a call that failed
abbrev pub after_failed_send : Outbox → Outbox
after_failed_send box = record box { calls = after_fault (after_call box.calls) }
