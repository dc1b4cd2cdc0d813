use Rattle.gs_tool.proofs.tool.answer_to.Goals as goal

pub returns-in-Order-clause-answer : goal.returns-in-Order-clause-answer
returns-in-Order-clause-answer g c = rw c.in-Order.is c.order_answer.ensures.answer

pub returns-in-Settle-clause-answer : goal.returns-in-Settle-clause-answer
returns-in-Settle-clause-answer g c = rw c.in-Settle.is c.settle_answer.ensures.answer

pub returns-in-Slots-clause-answer : goal.returns-in-Slots-clause-answer
returns-in-Slots-clause-answer g c = rw c.in-Slots.is c.slots_answer.ensures.answer

pub returns-in-Audit-clause-answer : goal.returns-in-Audit-clause-answer
returns-in-Audit-clause-answer g c = rw c.in-Audit.is c.audit_answer.ensures

pub returns-in-Replay-clause-answer : goal.returns-in-Replay-clause-answer
returns-in-Replay-clause-answer g c = rw c.in-Replay.is c.replay_answer.ensures

pub returns-in-Play-clause-answer : goal.returns-in-Play-clause-answer
returns-in-Play-clause-answer g c = rw c.in-Play.is c.play_answer.ensures.answer
