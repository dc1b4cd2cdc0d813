-- Ports in memory, as contracts see them.
use Rattle.std.specs.Prelude.{◌≡◌, ◌==◌, ℕ, ◌+◌, ◌-◌, List, [], ◌∷◌, ◌++◌, if◌then◌else◌}
use Rattle.gs_net.specs.declared.items.Item.{Item}
use Rattle.gs_net.specs.declared.lending.Ask.{Ask}
use Rattle.gs_net.specs.declared.lending.Ask.TheVariants as ask
use Rattle.gs_net.specs.declared.mem_ports.Held.{Held}
use Rattle.gs_net.specs.Lending.{Returned, returned_door, returned_inlet, returned_outlet}
use Rattle.gs_net.specs.Memory.{Counts, Desk, Lane, Outbox, after_call, after_count}

-- the items that are held for a port: those that were given for it first
abbrev pub held_at : List Held → ℕ → List Item
held_at [] port = []
held_at (held ∷ others) port = if held.port == port then held.items.items else held_at others port

-- the calls of its inlet or door that are to fail
abbrev pub fails_at : List Held → ℕ → List ℕ
fails_at [] port = []
fails_at (held ∷ others) port = if held.port == port then held.fails.items else fails_at others port

-- ports: what they hold, the calls of each outlet that are to fail, their own calls, what was asked and lent, what came
-- back, and how many of each kind are out
pub record Pool : Type 0 where
  pub held : List Held
  pub outlet_fails : List ℕ
  pub calls : Counts
  pub asked : List Ask
  pub back : List (Returned Lane Outbox Desk)
  pub inlets_out : ℕ
  pub outlets_out : ℕ
  pub doors_out : ℕ

-- a call that lent nothing changes nothing but their calls
abbrev pub SameButCalls : Pool → Pool → Type 0
SameButCalls old new = new ≡ record old { calls = new.calls }

-- after an inlet was lent
abbrev pub after_inlet : Pool → ℕ → Pool
after_inlet pool port = record pool {
  calls = after_call pool.calls;
  asked = pool.asked ++ ask.Inlet port ∷ [];
  inlets_out = pool.inlets_out + 1;
}

-- after an outlet was lent
abbrev pub after_outlet : Pool → List (ℕ × ℕ) → Pool
after_outlet pool routes = record pool {
  calls = after_call pool.calls;
  asked = pool.asked ++ ask.Outlet routes ∷ [];
  outlets_out = pool.outlets_out + 1;
}

-- after a door was lent
abbrev pub after_door : Pool → ℕ → Pool
after_door pool port = record pool {
  calls = after_call pool.calls;
  asked = pool.asked ++ ask.Door port ∷ [];
  doors_out = pool.doors_out + 1;
}

-- after an inlet came back
abbrev pub after_back_in : Pool → Lane → Pool
after_back_in pool inlet = record pool {
  calls = after_count pool.calls inlet.calls.faults;
  back = pool.back ++ returned_inlet inlet ∷ [];
  inlets_out = pool.inlets_out - 1;
}

-- after an outlet came back
abbrev pub after_back_out : Pool → Outbox → Pool
after_back_out pool outlet = record pool {
  calls = after_count pool.calls outlet.calls.faults;
  back = pool.back ++ returned_outlet outlet ∷ [];
  outlets_out = pool.outlets_out - 1;
}

-- after a door came back
abbrev pub after_back_door : Pool → Desk → Pool
after_back_door pool door = record pool {
  calls = after_count pool.calls door.lane.calls.faults;
  back = pool.back ++ returned_door door ∷ [];
  doors_out = pool.doors_out - 1;
}
