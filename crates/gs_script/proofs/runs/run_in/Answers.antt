use Rattle.std.proofs.Common.{arith, nat_lt, rules}
use Rattle.std.proofs.lemmas.Bool.{ltb-false, ltb-true}
use Rattle.std.proofs.lemmas.List.Sorted.{IsPartitionPoint-from_clause, IsPartitionedBy-ltb}
use Rattle.gs_script.proofs.Painting.{Rise-ordered, none_lasts, run_lasts}
use Rattle.gs_script.proofs.runs.run_in.Goals as goal

pub returns-in-Some : goal.returns-in-Some
returns-in-Some c =
    let xs = c.args.items.now in
    let parted = IsPartitionedBy-ltb (λ r. r.until) xs c.args.t (Rise-ordered 0 xs c.requires) in
    let point = IsPartitionPoint-from_clause (λ r. nat_lt r.until c.args.t) _ _ c.partition_point-i.ensures.partitioned parted (λ a r q k. search rules) in
    let found = c.in-Some.found.now in
    let i = c.partition_point-i.result in
    let inside = c.in-Some.ensures.lookup.3.0 in
    let is = c.in-Some.ensures.lookup.3.1 found in
    let below = rw (← is) at (point.1 i found (omega arith) inside) in
    run_lasts c.args.t xs i found (λ j d less there. ltb-true _ _ (point.0 j d (omega arith) less)) inside is (ltb-false _ _ below)

pub returns-in-None : goal.returns-in-None
returns-in-None c =
    let xs = c.args.items.now in
    let parted = IsPartitionedBy-ltb (λ r. r.until) xs c.args.t (Rise-ordered 0 xs c.requires) in
    let point = IsPartitionPoint-from_clause (λ r. nat_lt r.until c.args.t) _ _ c.partition_point-i.ensures.partitioned parted (λ a r q k. search rules) in
    let none = c.in-None.ensures.lookup.3 in
    none_lasts c.args.t 4294967295 xs (λ j d there. ltb-true _ _ (point.0 j d (omega arith) (omega (arith, there, none)))) (omega arith)
