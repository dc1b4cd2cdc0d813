use Rattle.std.proofs.Common.{max}
use Rattle.gs_script.specs.inside.Runs.{value_at}
use Rattle.gs_script.proofs.Numbers.{delay_lasts}
use Rattle.gs_script.proofs.kept.delay_at.Goals as goal

pub returns : goal.returns
returns c = λ lines v w a b d e.
    let star = value_at c.args.star.now.delays in
    let sent = value_at c.args.sent.now.delays in
    let received = value_at c.args.received.now.delays in
    let named = value_at c.args.named.now.delays in
    delay_lasts lines v w c.args.star.now c.args.sent.now c.args.received.now c.args.named.now c.args.t c.greater.result.until c.greater.result.value a b d e
    (c.greater.ensures (λ i. max (star i) (sent i)) (λ i. max (received i) (named i)) c.args.t
    (c.greater-senders.ensures star sent c.args.t c.at.ensures c.at-2.ensures) (c.greater-receivers.ensures received named c.args.t c.at-3.ensures c.at-4.ensures))
