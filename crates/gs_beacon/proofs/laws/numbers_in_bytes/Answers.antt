use Rattle.gs_beacon.proofs.Digits.{number_at-behind, big_bytes-number_at, number_at-lt, number_at-drop}
use Rattle.gs_beacon.proofs.laws.numbers_in_bytes.Goals as goal

pub returns-clause-written_is_read : goal.returns-clause-written_is_read
returns-clause-written_is_read c = number_at-behind

pub returns-clause-read_is_written : goal.returns-clause-read_is_written
returns-clause-read_is_written c = big_bytes-number_at

pub returns-clause-small : goal.returns-clause-small
returns-clause-small c = number_at-lt

pub returns-clause-places : goal.returns-clause-places
returns-clause-places c = number_at-drop
