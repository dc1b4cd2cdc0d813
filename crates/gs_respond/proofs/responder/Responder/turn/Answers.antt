use Rattle.std.proofs.Common.{rules, arith, ◌≡◌, ◌≤◌, ◌+◌, ◌%◌, ℕ, Option, None, refl, sym, subst}
use Rattle.gs_net.specs.Tales.{Moves, Tale}
use Rattle.gs_net.specs.declared.items.Got.{Got}
use Rattle.gs_net.specs.declared.items.Got.TheVariants.{Datagram, Quiet, Ended}
use Rattle.gs_respond.specs.inside.Accounts.{Answered, Counted}
use Rattle.gs_respond.proofs.Accounting.{answered_got, answered_quiet, answered_same, counted_got, counted_quiet, ended_same}
use Rattle.gs_respond.proofs.Resting.{none_owed, none_owes, owes_got, rests_datagram, rests_quiet}
use Rattle.gs_respond.proofs.responder.Responder.turn.Goals as goal

pub invariant_of-self : goal.invariant_of-self
invariant_of-self g c =
    let moved : Moves (Datagram c.in-Ok-Datagram.n) c.receive.new.into (g.D.Inlet.tale c.args.self.now.door) (g.D.Inlet.tale c.receive.new.self) = subst (λ (x : Got). Moves x c.receive.new.into (g.D.Inlet.tale c.args.self.now.door) (g.D.Inlet.tale c.receive.new.self)) c.in-Ok-Datagram.field-0-is c.in-Ok-Datagram.ensures.got in
    let later : Moves (Datagram c.in-Ok-Datagram.n) c.receive.new.into (g.D.Inlet.tale c.args.self.now.door) (g.D.Inlet.tale c.reply-replied.new.door) = subst (λ (z : Option Tale). Moves (Datagram c.in-Ok-Datagram.n) c.receive.new.into (g.D.Inlet.tale c.args.self.now.door) z) (sym c.reply-replied.ensures.tale) moved in
    let none : c.args.self.now.owed ≡ None = none_owed c.args.self.now.owed (search rules) in
    let before : Answered c.args.self.now.node (g.D.Inlet.tale c.args.self.now.door) (g.D.Inlet.replies c.receive.new.self) None c.args.self.now.reader.answer =
    answered_same _ _ _ _ _ _ _ refl c.in-Ok-Datagram.ensures.replies (subst (λ (o : Option ℕ). Answered c.args.self.now.node (g.D.Inlet.tale c.args.self.now.door) (g.D.Inlet.replies c.args.self.now.door) o c.args.self.now.reader.answer) none c.args.self.now.accounts) in
    let few : (c.args.self.now.since + 1) % 64 ≤ c.args.self.now.since + 1 = omega arith in
    record {
      accounts = answered_got c.args.self.now.node c.in-Ok-Datagram.n c.receive.new.into _ _ _ _ c.reply-replied.result.owed _ _ later before c.reply-replied.ensures.replies;
      counted = counted_got c.in-Ok-Datagram.n c.receive.new.into _ _ c.args.self.now.since _ later few c.args.self.now.counted;
      round = omega arith;
      owing = owes_got _ _ _ _ c.reply-replied.ensures.stop;
    }

pub invariant_of-self-in-Ok-Quiet : goal.invariant_of-self-in-Ok-Quiet
invariant_of-self-in-Ok-Quiet g c =
    let moved : Moves Quiet c.receive.new.into (g.D.Inlet.tale c.args.self.now.door) (g.D.Inlet.tale c.receive.new.self) = subst (λ (x : Got). Moves x c.receive.new.into (g.D.Inlet.tale c.args.self.now.door) (g.D.Inlet.tale c.receive.new.self)) c.in-Ok-Quiet.field-0-is c.in-Ok-Quiet.ensures.got in
    let none : c.args.self.now.owed ≡ None = none_owed c.args.self.now.owed (search rules) in
    let before = subst (λ (o : Option ℕ). Answered c.args.self.now.node (g.D.Inlet.tale c.args.self.now.door) (g.D.Inlet.replies c.args.self.now.door) o c.args.self.now.reader.answer) none c.args.self.now.accounts in
    record {
      accounts = subst (λ (o : Option ℕ). Answered c.args.self.now.node (g.D.Inlet.tale c.receive.new.self) (g.D.Inlet.replies c.receive.new.self) o c.args.self.now.reader.answer) (sym none) (answered_quiet _ c.receive.new.into _ _ _ _ _ moved c.in-Ok-Quiet.ensures.replies before);
      counted = counted_quiet c.receive.new.into _ _ c.args.self.now.since moved c.args.self.now.counted;
      round = c.args.self.now.round;
      owing = λ h. none_owes _ _ (none_owed c.args.self.now.owed (search rules)) h;
    }

pub invariant_of-self-in-Ok-Ended : goal.invariant_of-self-in-Ok-Ended
invariant_of-self-in-Ok-Ended g c =
    let moved : Moves Ended c.receive.new.into (g.D.Inlet.tale c.args.self.now.door) (g.D.Inlet.tale c.receive.new.self) = subst (λ (x : Got). Moves x c.receive.new.into (g.D.Inlet.tale c.args.self.now.door) (g.D.Inlet.tale c.receive.new.self)) c.in-Ok-Ended.field-0-is c.in-Ok-Ended.ensures.got in
    let same = ended_same c.receive.new.into _ _ moved in
    record {
      accounts = answered_same _ _ _ _ _ _ _ same c.in-Ok-Ended.ensures.replies c.args.self.now.accounts;
      counted = subst (λ (z : Option Tale). Counted z c.args.self.now.since) (sym same) c.args.self.now.counted;
      round = c.args.self.now.round;
      owing = λ h. none_owes _ _ (none_owed c.args.self.now.owed (search rules)) h;
    }

pub invariant_of-self-in-Err : goal.invariant_of-self-in-Err
invariant_of-self-in-Err g c =
    record {
      accounts = answered_same _ _ _ _ _ _ _ c.in-Err.ensures.none_given c.in-Err.ensures.replies c.args.self.now.accounts;
      counted = subst (λ (z : Option Tale). Counted z c.args.self.now.since) (sym c.in-Err.ensures.none_given) c.args.self.now.counted;
      round = c.args.self.now.round;
      owing = λ h. none_owes _ _ (none_owed c.args.self.now.owed (search rules)) h;
    }

pub returns-else-is_open-clause-rests : goal.returns-else-is_open-clause-rests
returns-else-is_open-clause-rests g c =
    let moved : Moves Quiet c.receive.new.into (g.D.Inlet.tale c.args.self.now.door) (g.D.Inlet.tale c.receive.new.self) = subst (λ (x : Got). Moves x c.receive.new.into (g.D.Inlet.tale c.args.self.now.door) (g.D.Inlet.tale c.receive.new.self)) c.in-Ok-Quiet.field-0-is c.in-Ok-Quiet.ensures.got in
    rests_quiet c.receive.new.into _ _ _ _ _ (none_owed c.args.self.now.owed (search rules)) moved

pub returns-in-Ok-Datagram-clause-rests : goal.returns-in-Ok-Datagram-clause-rests
returns-in-Ok-Datagram-clause-rests g c =
    let moved : Moves (Datagram c.in-Ok-Datagram.n) c.receive.new.into (g.D.Inlet.tale c.args.self.now.door) (g.D.Inlet.tale c.receive.new.self) = subst (λ (x : Got). Moves x c.receive.new.into (g.D.Inlet.tale c.args.self.now.door) (g.D.Inlet.tale c.receive.new.self)) c.in-Ok-Datagram.field-0-is c.in-Ok-Datagram.ensures.got in
    let later : Moves (Datagram c.in-Ok-Datagram.n) c.receive.new.into (g.D.Inlet.tale c.args.self.now.door) (g.D.Inlet.tale c.reply-replied.new.door) = subst (λ (z : Option Tale). Moves (Datagram c.in-Ok-Datagram.n) c.receive.new.into (g.D.Inlet.tale c.args.self.now.door) z) (sym c.reply-replied.ensures.tale) moved in
    rests_datagram c.in-Ok-Datagram.n c.receive.new.into _ _ _ _ _ c.args.self.now.since _ _ later c.args.self.now.counted c.reply-replied.ensures.stop c.stop_after.ensures
