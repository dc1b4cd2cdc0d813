use Rattle.std.proofs.Common.{◌≡◌, ◌≢◌, ◌<◌, ◌∙◌, ◌++◌, ◌∷◌, [], ap, arith, false, length, length-set, List, map, slice_index_or, subst, sym, take, take_all, ℕ}
use Rattle.std.proofs.lemmas.List.{get_or-map, get_or-set_other, length-map, take_more, take_more_set}
use Rattle.gs_run.specs.Fast.{is_fast}
use Rattle.gs_world.specs.inside.Members.{clock_at}
use Rattle.gs_world.specs.declared.member.Member.{Member as Seat}
use Rattle.gs_world.proofs.clocks.renew.Goals as goal

pub renewed-requires-clause-slow : goal.renewed-requires-clause-slow
renewed-requires-clause-slow c = λ slow.
    let v = c.loop-v.v in
    let inside : v < length c.args.members.now = omega arith in
    let is = c.index-members-v.is in
    c.loop-v.invariant.rest v (omega arith)
    ∙ c.requires.slow.slow v c.index-members-v.result inside (subst (λ (s : Seat). is_fast s.core.node.mode ≡ false) is slow)
    ∙ ap clock_at (sym is)

pub loop-v-preserved : goal.loop-v-preserved
loop-v-preserved c =
    let seats = c.args.members.now in
    let v = c.loop-v.v in
    let clocks : List ℕ = map clock_at seats in
    let places = c.loop-v.invariant.places in
    let inside : v < length seats = omega arith in
    let within : v < length clocks = let l = length-map seats clock_at in omega (arith, l, inside) in
    let read : slice_index_or clocks v 0 ≡ c.renewed.result =
    get_or-map clock_at seats v c.index-members-v.result 0 inside ∙ ap clock_at (sym c.index-members-v.is)
    ∙ sym c.renewed.ensures in
    record {
      places = length-set c.loop-v.clocks v c.renewed.result ∙ places;
      done = take_more_set c.loop-v.clocks v c.renewed.result (omega (arith, inside, places))
          ∙ ap (λ (xs : List ℕ). xs ++ c.renewed.result ∷ []) c.loop-v.invariant.done
          ∙ sym (take_more clocks v 0 within ∙ ap (λ (x : ℕ). take v clocks ++ x ∷ []) read);
      rest = λ k h.
          let other : k ≢ v = omega (arith, h) in
          get_or-set_other c.loop-v.clocks v k c.renewed.result 0 other
          ∙ c.loop-v.invariant.rest k (omega (arith, h));
    }

pub returns : goal.returns
returns c =
    let seats = c.args.members.now in
    let places = c.loop-v.invariant.places in
    let long = length-map seats clock_at in
    sym (take_all c.loop-v.v c.loop-v.clocks (omega (arith, places))) ∙ c.loop-v.invariant.done
    ∙ take_all c.loop-v.v (map clock_at seats) (omega (arith, long))
