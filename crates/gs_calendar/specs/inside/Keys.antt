-- The keys of what is in transit, as the code keeps them: for private functions alone.
use Rattle.std.specs.Prelude.{List, map}
use Rattle.gs_calendar.specs.Due.{Key}
use Rattle.gs_calendar.specs.declared.transit.InTransit.{InTransit}

abbrev pub key_of : InTransit → Key
key_of k = record { due = k.due; from = k.from; seq = k.seq }

abbrev pub keys_of : List InTransit → List Key
keys_of ks = map key_of ks
