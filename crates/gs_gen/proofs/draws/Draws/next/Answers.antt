use Rattle.rand_pcg.specs.Pcg.{pcg32}
use Rattle.gs_gen.specs.Draws.{after_three, next_three}
use Rattle.gs_gen.proofs.Drawing.{three_words}
use Rattle.gs_gen.proofs.draws.Draws.next.Goals as goal

pub returns-clause-three : goal.returns-clause-three
unfolding next_three
returns-clause-three c = (three_words pcg32 _ _ _ _ _ _ _ c.next_word-drift.ensures c.next_word-gap.ensures c.next_word-delay.ensures).0

pub returns-clause-rest : goal.returns-clause-rest
unfolding after_three
returns-clause-rest c = (three_words pcg32 _ _ _ _ _ _ _ c.next_word-drift.ensures c.next_word-gap.ensures c.next_word-delay.ensures).1
