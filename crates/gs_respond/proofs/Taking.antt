-- One item more.
use Rattle.std.proofs.Common.{◌≡◌, ◌≢◌, ◌∙◌, ℕ, ◌≤◌, ◌+◌, min, Option, Some, None, List, [], ◌∷◌, ◌++◌, length, take, ap, sym, refl, arith, length-take, inl, inr}
use Rattle.std.specs.List.{cons_option}
use Rattle.std.proofs.lemmas.List.{take_all}
use Rattle.std.proofs.lemmas.List.Elements.{filter_map-append}
use Rattle.std.proofs.lemmas.Bool.{cases_lt}
use Rattle.std.proofs.lemmas.Bool.Decides.{nat_tests}
use Rattle.gs_net.specs.declared.items.Item.{Item}
use Rattle.gs_net.specs.declared.items.Item.TheVariants as item
use Rattle.gs_respond.specs.Doors.{asked_by, owing, requests}
use Rattle.gs_net.specs.Items.{datagrams, one_datagram}
use Rattle.gs_net.proofs.Taking.{sum_more}
use Rattle.gs_respond.specs.TimeRequests.{asked_of}

-- what is not 16 bytes long is no request
asks_none : (bytes : List ℕ) → length bytes ≢ 16 → asked_of bytes ≡ None
asks_none bytes h = grind (arith, nat_tests)

-- the 64 bytes that were put in front ask what the whole datagram asks
pub asked_cut : (bytes into : List ℕ) (n : ℕ) → n ≡ min 64 (length bytes) → take n into ≡ take n bytes → asked_of (take n into) ≡ asked_of bytes
asked_cut bytes into n is same = ap asked_of same ∙ elim (cases_lt 64 (length bytes)) [
  | inl long ↦
      (let k = length-take n bytes in
      let short : length (take n bytes) ≢ 16 = omega arith in
      let far : length bytes ≢ 16 = omega arith in
      asks_none (take n bytes) short ∙ sym (asks_none bytes far))
  | inr within ↦ (let le : length bytes ≤ n = omega arith in ap asked_of (take_all n bytes le))
]

pub requests_more : (items : List Item) (i : Item) → requests (items ++ i ∷ []) ≡ requests items ++ owing (asked_by i)
requests_more items i = filter_map-append asked_by items (i ∷ []) ∙ ap (λ (z : List ℕ). requests items ++ z) (one (asked_by i))
  where
    one : (asked : Option ℕ) → cons_option asked [] ≡ owing asked
    one None = refl
    one (Some id) = refl

pub one_datagram_more : (items : List Item) (bytes : List ℕ) → datagrams (items ++ item.Datagram bytes ∷ []) ≡ datagrams items + 1
one_datagram_more items bytes = sum_more one_datagram items (item.Datagram bytes)

pub no_datagram_more : (items : List Item) → datagrams (items ++ item.Quiet ∷ []) ≡ datagrams items
no_datagram_more items = sum_more one_datagram items item.Quiet ∙ omega arith
