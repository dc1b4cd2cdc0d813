use Rattle.gs_beacon.proofs.OneSpelling.{has_one_spelling, spells_one_beacon, spelling-is_bytes}
use Rattle.gs_beacon.proofs.Written.{spells-written}
use Rattle.gs_beacon.proofs.Faults.{spells-read, none-spelled}
use Rattle.gs_beacon.proofs.laws.spelling.Goals as goal

pub returns-clause-one_spelling : goal.returns-clause-one_spelling
returns-clause-one_spelling c = has_one_spelling

pub returns-clause-one_beacon : goal.returns-clause-one_beacon
returns-clause-one_beacon c = spells_one_beacon

pub returns-clause-bytes_spell : goal.returns-clause-bytes_spell
returns-clause-bytes_spell c = spells-written

pub returns-clause-is_bytes : goal.returns-clause-is_bytes
returns-clause-is_bytes c = spelling-is_bytes

pub returns-clause-faultless_spells : goal.returns-clause-faultless_spells
returns-clause-faultless_spells c = spells-read

pub returns-clause-is_faultless : goal.returns-clause-is_faultless
returns-clause-is_faultless c = none-spelled
