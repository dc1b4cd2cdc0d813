use Rattle.std.proofs.Common.{arith, length-append}
use Rattle.gs_net.specs.declared.returns.Kind.TheVariants as kind
use Rattle.gs_net.proofs.Weaving.{doors_more, inlets_more, outlets_more}
use Rattle.gs_net.proofs.returns.Returns.back_door.Goals as goal

pub invariant_of-self : goal.invariant_of-self
invariant_of-self g c = record {
  room = omega (arith, c.args.self.now.room, c.take_back.ensures.out, c.take_back-2.ensures.out);
  inlets_counted = rw c.take_back.ensures.returned (omega (arith, c.args.self.now.inlets_counted, inlets_more c.args.self.now.kinds.returned.items kind.Door));
  outlets_counted = rw c.take_back.ensures.returned (omega (arith, c.args.self.now.outlets_counted, outlets_more c.args.self.now.kinds.returned.items kind.Door));
  doors_counted = rw (c.take_back-2.ensures.returned, c.take_back.ensures.returned, length-append c.args.self.now.doors.returned.items) (omega (arith, c.args.self.now.doors_counted, doors_more c.args.self.now.kinds.returned.items kind.Door));
}
