use Rattle.gs_skew.proofs.Greatest.{ends_of_more}
use Rattle.gs_skew.proofs.range.ClockRange.add.Goals as goal

pub returns : goal.returns
returns c = λ clocks are. rw (c.min-self.ensures, c.max-self.ensures) (ends_of_more clocks c.args.self.now.least c.args.self.now.greatest c.args.clock are)
