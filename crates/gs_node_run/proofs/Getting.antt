-- What was got of ports is the first of what was asked for.
use Rattle.std.proofs.Common.{◌≡◌, ◌∙◌, ℕ, ◌≤◌, List, [], ◌∷◌, ◌++◌, length, take, drop, map, Option, Some, None, refl, ap, sym, append_assoc, append-nil, length-take, arith}
use Rattle.std.specs.List.{AllZip}
use Rattle.std.proofs.lemmas.List.{map-append, take_all, take-append-drop}
use Rattle.gs_net.specs.Lending.{Returned, returned_door, returned_inlet, returned_outlet}
use Rattle.gs_net.specs.Tales.{OnTold, added}
use Rattle.gs_net.specs.declared.lending.Ask.{Ask}
use Rattle.gs_net.specs.declared.lending.Ask.TheVariants as ask
use Rattle.gs_node_run.specs.Addresses.{asks_for}
use Rattle.gs_node_run.specs.Lending.{Borrowed, SameKind, in_order}
use Rattle.gs_node_run.specs.inside.Lent.{HasGot}
use Rattle.gs_node_run.proofs.Telling.{none_told, then_told}

-- inlets are of the kind that was asked for, and others behind them of theirs
kinds : {In Out Asked : Type 0} (numbers : List ℕ) (inlets : List In) (us : List Ask) (vs : List (Returned In Out Asked)) → length inlets ≡ length numbers
    → AllZip SameKind us vs → AllZip SameKind (map (λ port. ask.Inlet port) numbers ++ us) (map (λ inlet. returned_inlet inlet) inlets ++ vs)
kinds [] [] us vs same rest = rest
kinds [] (i ∷ inlets) us vs same rest = absurd (omega (arith, same))
kinds (n ∷ numbers) [] us vs same rest = absurd (omega (arith, same))
kinds (n ∷ numbers) (i ∷ inlets) us vs same rest = (tt, kinds numbers inlets us vs (omega (arith, same)) rest)

-- some inlets, and nothing else
pub got_inlets : {In Out Asked : Type 0} (numbers : List ℕ) (routes : List (ℕ × ℕ)) (port : ℕ) (inlets : List In) (asked later : Option (List Ask)) → length inlets ≤ length numbers
    → later ≡ OnTold asked (λ before. before ++ map (λ port. ask.Inlet port) (take (length inlets) numbers))
    → HasGot {In = In} {Out = Out} {Asked = Asked} (asks_for numbers routes port) (in_order inlets None None) asked later
got_inlets {In = In} {Out = Out} {Asked = Asked} numbers routes port inlets asked later few is =
    let n = length inlets in
    let tail : List Ask = ask.Outlet routes ∷ ask.Door port ∷ [] in
    let first : List Ask = map (λ port. ask.Inlet port) (take n numbers) in
    let rest : List Ask = map (λ port. ask.Inlet port) (drop n numbers) in
    let all : map (λ port. ask.Inlet port) numbers ≡ first ++ rest =
    ap (map (λ port. ask.Inlet port)) (sym (take-append-drop n numbers)) ∙ map-append (λ port. ask.Inlet port) (take n numbers) (drop n numbers) in
    let many : length inlets ≡ length (take n numbers) = (let k = length-take n numbers in omega (arith, k, few)) in
    let none : List Ask = [] in
    let nothing : List (Returned In Out Asked) = [] in
    record {
      lent = first ++ none;
      rest = rest ++ tail;
      front = ap (λ (z : List Ask). z ++ tail) all ∙ (append_assoc first rest tail ∙ ap (λ (z : List Ask). z ++ (rest ++ tail)) (sym (append-nil first)));
      kinds = kinds (take n numbers) inlets none nothing many tt;
      asked_go = is ∙ ap (λ (z : List Ask). OnTold asked (λ before. before ++ z)) (sym (append-nil first));
    }

asked_then : (asked mid later : Option (List Ask)) (first : List Ask) (next : Ask) → mid ≡ OnTold asked (λ before. before ++ first) → later ≡ added mid next
    → later ≡ OnTold asked (λ before. before ++ (first ++ next ∷ []))
asked_then asked mid later first next is more = more ∙ (ap (λ (z : Option (List Ask)). added z next) is ∙ then_told asked first (next ∷ []))

all_taken : (numbers : List ℕ) (n : ℕ) (asked mid : Option (List Ask)) → n ≡ length numbers → mid ≡ OnTold asked (λ before. before ++ map (λ port. ask.Inlet port) (take n numbers))
    → mid ≡ OnTold asked (λ before. before ++ map (λ port. ask.Inlet port) numbers)
all_taken numbers n asked mid all is = is ∙ ap (λ (z : List ℕ). OnTold asked (λ before. before ++ map (λ port. ask.Inlet port) z)) (take_all n numbers (omega (arith, all)))

-- all inlets and the outlet
pub got_outlet : {In Out Asked : Type 0} (numbers : List ℕ) (routes : List (ℕ × ℕ)) (port : ℕ) (inlets : List In) (outlet : Out) (asked mid later : Option (List Ask)) → length inlets ≡ length numbers
    → mid ≡ OnTold asked (λ before. before ++ map (λ port. ask.Inlet port) (take (length inlets) numbers)) → later ≡ added mid (ask.Outlet routes)
    → HasGot {In = In} {Out = Out} {Asked = Asked} (asks_for numbers routes port) (in_order inlets (Some outlet) None) asked later
got_outlet {In = In} {Out = Out} {Asked = Asked} numbers routes port inlets outlet asked mid later all is more =
    let first : List Ask = map (λ port. ask.Inlet port) numbers in
    let last : List (Returned In Out Asked) = returned_outlet outlet ∷ [] in
    record {
      lent = first ++ ask.Outlet routes ∷ [];
      rest = ask.Door port ∷ [];
      front = sym (append_assoc first (ask.Outlet routes ∷ []) (ask.Door port ∷ []));
      kinds = kinds numbers inlets (ask.Outlet routes ∷ []) last all (tt, tt);
      asked_go = asked_then asked mid later first (ask.Outlet routes) (all_taken numbers (length inlets) asked mid all is) more;
    }

-- all
pub all_asked : (numbers : List ℕ) (routes : List (ℕ × ℕ)) (port n : ℕ) (asked mid near later : Option (List Ask)) → n ≡ length numbers
    → mid ≡ OnTold asked (λ before. before ++ map (λ port. ask.Inlet port) (take n numbers)) → near ≡ added mid (ask.Outlet routes) → later ≡ added near (ask.Door port)
    → later ≡ OnTold asked (λ before. before ++ asks_for numbers routes port)
all_asked numbers routes port n asked mid near later all is more last =
    let first : List Ask = map (λ port. ask.Inlet port) numbers in
    let both : near ≡ OnTold asked (λ before. before ++ (first ++ ask.Outlet routes ∷ [])) = asked_then asked mid near first (ask.Outlet routes) (all_taken numbers n asked mid all is) more in
    let joined : (first ++ ask.Outlet routes ∷ []) ++ ask.Door port ∷ [] ≡ asks_for numbers routes port = append_assoc first (ask.Outlet routes ∷ []) (ask.Door port ∷ []) in
    asked_then asked near later (first ++ ask.Outlet routes ∷ []) (ask.Door port) both last ∙ ap (λ (z : List Ask). OnTold asked (λ before. before ++ z)) joined

-- what was got came back, all of it or a part
pub borrowed_all : {In Out Asked : Type 0} (numbers : List ℕ) (routes : List (ℕ × ℕ)) (port : ℕ) (inlets : List In) (outlet : Out) (door : Asked) (asked later : Option (List Ask)) (back after : Option (List (Returned In Out Asked)))
    → length inlets ≡ length numbers → later ≡ OnTold asked (λ before. before ++ asks_for numbers routes port)
    → after ≡ OnTold back (λ before. before ++ in_order inlets (Some outlet) (Some door))
    → Borrowed (asks_for numbers routes port) asked later back after
borrowed_all {In = In} {Out = Out} {Asked = Asked} numbers routes port inlets outlet door asked later back after all is returned =
    let objects : List (Returned In Out Asked) = returned_outlet outlet ∷ returned_door door ∷ [] in
    record {
      lent = asks_for numbers routes port;
      returned = in_order inlets (Some outlet) (Some door);
      rest = [];
      front = sym (append-nil (asks_for numbers routes port));
      kinds = kinds numbers inlets (ask.Outlet routes ∷ ask.Door port ∷ []) objects all (tt, (tt, tt));
      asked_go = is;
      back_go = returned;
    }

pub borrowed_some : {In Out Asked : Type 0} (all : List Ask) (objects : List (Returned In Out Asked)) (asked mid later : Option (List Ask)) (back after : Option (List (Returned In Out Asked)))
    → HasGot all objects asked mid → later ≡ mid → after ≡ OnTold back (λ before. before ++ objects) → Borrowed all asked later back after
borrowed_some all objects asked mid later back after got same returned = record {
  lent = got.lent;
  returned = objects;
  rest = got.rest;
  front = got.front;
  kinds = got.kinds;
  asked_go = same ∙ got.asked_go;
  back_go = returned;
}

-- nothing was asked for
pub borrowed_none : {In Out Asked : Type 0} (asked : Option (List Ask)) (back : Option (List (Returned In Out Asked))) → Borrowed [] asked asked back back
borrowed_none asked back = record { lent = []; returned = []; rest = []; front = refl; kinds = tt; asked_go = sym (none_told asked); back_go = sym (none_told back) }
