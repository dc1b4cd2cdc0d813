use Rattle.std.proofs.Common.{◌≡◌, ◌∙◌, ◌++◌, ◌∷◌, [], arith, ap, filter, length, List, map, slice_index, sym, subst, ℕ, ◌<◌, slice_index_or}
use Rattle.std.specs.List.{range_with_len}
use Rattle.std.proofs.lemmas.List.{length-map}
use Rattle.std.proofs.lemmas.List.FromFn.{length-map-range_with_len}
use Rattle.gs_topo.specs.Graph.{Graph}
use Rattle.gs_run.specs.Fast.{is_fast}
use Rattle.gs_run.specs.Nets.{net_of}
use Rattle.gs_world.specs.inside.Members.{IsMember, member_of}
use Rattle.gs_run.specs.World.{Member, World, clocks_in, member_at_start}
use Rattle.gs_world.specs.declared.member.Member.{Member as Seat}
use Rattle.gs_world.proofs.Starting.{clocks_at_start, members_more, none_starts_fast, seats_more, start_reached}
use Rattle.gs_world.proofs.world.World.start_each.Goals as goal

pub loop-v-preserved : goal.loop-v-preserved
loop-v-preserved c =
    let net = net_of c.args.plan.now in
    let f : ℕ → Member = λ v. member_at_start net v (slice_index c.args.hw.now v) (slice_index c.args.l0.now v) in
    let before = c.loop-v.invariant in
    let count : length c.loop-v.members.items ≡ c.loop-v.v =
    sym (length-map c.loop-v.members.items member_of) ∙ ap (λ (ms : List Member). length ms) before.members
    ∙ length-map-range_with_len f 0 c.loop-v.v in
    let items : c.push.new.self.items ≡ c.loop-v.members.items ++ c.in_ok-member.member ∷ [] = c.in_ok-push.ensures.items in
    record {
      members =
          ap (map member_of) items
          ∙ members_more f c.loop-v.members.items c.in_ok-member.member c.loop-v.v before.members
          c.in_ok-member.ensures.member;
      each =
          subst (λ (ss : List Seat). (k : ℕ) (d : Seat) → k < length ss → IsMember net k (slice_index_or ss k d))
          (sym items)
          (seats_more net c.loop-v.members.items c.in_ok-member.member c.loop-v.v count before.each c.in_ok-member.ensures.told);
    }

pub invariant_of-result : goal.invariant_of-result
invariant_of-result c =
    let net = net_of c.args.plan.now in
    let f : ℕ → Member = λ v. member_at_start net v (slice_index c.args.hw.now v) (slice_index c.args.l0.now v) in
    let nodes = c.nodes-v-end.ensures.value ∙ ap (λ (g : Graph). g.nodes) c.topo.ensures in
    let all : c.loop-v.v ≡ net.nodes = omega (arith, nodes) in
    let is : map member_of c.loop-v.members.items ≡ map f (range_with_len 0 net.nodes) =
    c.loop-v.invariant.members ∙ ap (λ (n : ℕ). map f (range_with_len 0 n)) all in
    let none =
    none_starts_fast net (slice_index c.args.hw.now) (slice_index c.args.l0.now) (range_with_len 0 net.nodes) in
    record {
      members = c.loop-v.invariant.each;
      clocks =
          c.in_ok-clocks.ensures.items
          ∙ clocks_at_start net c.args.hw.now c.args.l0.now c.requires.one_each
          ∙ ap (λ (ms : List Member). let w : World = record { quanta = 0; members = ms } in clocks_in net w) (sym is);
      deadlines = record { ticks = λ k d h. omega arith; heard = λ k d h j e l. omega arith };
      fast = sym (ap (λ (ms : List Member). length (filter (λ m. is_fast m.node.mode) ms)) is ∙ none);
      reachable =
          start_reached net c.args.hw.now c.args.l0.now c.requires.nodes c.requires.readings c.requires.one_each
          c.requires.clocks _
          (ap (λ (ms : List Member). let w : World = record { quanta = 0; members = ms } in w) is);
    }
