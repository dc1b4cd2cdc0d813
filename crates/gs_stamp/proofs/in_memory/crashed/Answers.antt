use Rattle.std.proofs.Common.{length, sym, ◌∙◌, ap}
use Rattle.std.proofs.Math.ListN.{length-set}
use Rattle.gs_stamp.specs.Tears.{Leaves-refl}
use Rattle.gs_stamp.proofs.Tearing.{torn_any}
use Rattle.gs_stamp.proofs.in_memory.crashed.Goals as goal
use Rattle.gs_stamp.proofs.in_memory.crashed.Goals.{then-torn, else-torn}

pub loop-place-init : goal.loop-place-init
loop-place-init c = record { left = Leaves-refl _ _ (c.args.state.each ∙ sym c.args.state.whole); whole = c.args.state.whole }

pub loop-place-preserved : goal.loop-place-preserved
loop-place-preserved c = elim c.if-torn.branch [
  | then-torn w ↦
      let set_any = torn_any c.args.state.torn c.args.state.bytes c.loop-place.bytes c.loop-place.place c.args.fill c.loop-place.invariant.left w.if-torn.true in
      record {
        left = rw w.bytes-is set_any;
        whole = ap length w.bytes-is ∙ length-set c.loop-place.bytes c.loop-place.place c.args.fill ∙ c.loop-place.invariant.whole;
      }
  | else-torn w ↦ record { left = rw w.bytes-is c.loop-place.invariant.left; whole = ap length w.bytes-is ∙ c.loop-place.invariant.whole }
]
