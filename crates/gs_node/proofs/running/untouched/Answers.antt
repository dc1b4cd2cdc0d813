use Rattle.std.proofs.Common.{arith, length, ap, refl}
use Rattle.gs_node.proofs.Leaving.{all_new_agree, new_answers, new_dropped, new_owes, none_sent}
use Rattle.gs_node.proofs.running.untouched.Goals as goal

pub returns-clause-ran : goal.returns-clause-ran
returns-clause-ran g c =
    let r = c.requires.ready in
    record {
      owners = refl;
      agree = all_new_agree c.args.params.now _ _ r.count r.new_seats r.fresh_inlets;
      items = refl;
      dropped = new_dropped c.args.params.now _ _ r.fresh_inlets;
      timer_seat = record { whose = r.whose; few = (let n = ap length r.empty in omega (arith, n)); params = r.params; begun = refl };
      sent = none_sent c.args.params.now.links c.args.hands.timer.told (g.O.Outlet.sent c.args.hands.outlet) r.unsent;
      shown = λ shown e. absurd (cc);
      door = refl;
      answers = new_answers c.args.params.now.node (g.D.Inlet.tale c.args.hands.door) (g.D.Inlet.replies c.args.hands.door) r.fresh_door r.silent;
      unstarted = λ none. record { inlets_same = refl; unsent = r.unsent; door_same = refl; unreplied = r.silent };
    }

pub returns-clause-reasons : goal.returns-clause-reasons
returns-clause-reasons g c = record {
  taken = λ h. absurd (cc);
  made = λ h. absurd (cc);
  ticks = tt;
  sent = tt;
  shown = tt;
  door = λ h. absurd (cc);
  inlet_fault = λ h. absurd (cc);
  outlet_fault = λ h. absurd (cc);
  door_fault = λ h. absurd (cc);
  owing = new_owes (g.D.Inlet.tale c.args.hands.door) (g.D.Inlet.replies c.args.hands.door) _ c.requires.ready.fresh_door c.requires.ready.silent;
  clock_fault = λ h. absurd (cc);
}
