use Rattle.gs_stamp.proofs.Rising.{all_rise}
use Rattle.gs_stamp.proofs.laws.stamps_rise.Goals as goal

pub returns : goal.returns
returns c = all_rise
