-- What is in transit goes into the order of its keys.
use Rattle.std.proofs.Common.{◌≡◌, refl, ap, List, [], ◌∷◌}
use Rattle.std.specs.Ordering.{match_ordering}
use Rattle.std.specs.BTreeSet.{insert_key}
use Rattle.std.specs.declared.cmp.Ordering.{Ordering}
use Rattle.std.specs.declared.cmp.Ordering.TheVariants.{Less, Equal, Greater}
use Rattle.gs_calendar.specs.Due.{Key, key_cmp}
use Rattle.gs_calendar.specs.inside.Keys.{key_of, keys_of}
use Rattle.gs_calendar.specs.declared.transit.InTransit.{InTransit}

-- the keys with one more are the keys, with its key at its place
pub insert_keyed : (ks : List InTransit) (k : InTransit)
    → keys_of (insert_key (λ x y. key_cmp (key_of x) (key_of y)) ks k) ≡ insert_key key_cmp (keys_of ks) (key_of k)
insert_keyed [] k = refl
insert_keyed (x ∷ xs) k = pick (key_cmp (key_of k) (key_of x)) _ _ (insert_keyed xs k) where
  pick : (o : Ordering) (ls : List InTransit) (ms : List Key) → keys_of ls ≡ ms
      → keys_of (match_ordering o (k ∷ x ∷ xs) (x ∷ xs) (x ∷ ls))
      ≡ match_ordering o (key_of k ∷ key_of x ∷ keys_of xs) (key_of x ∷ keys_of xs) (key_of x ∷ ms)
  pick Less ls ms h = refl
  pick Equal ls ms h = refl
  pick Greater ls ms h = ap (λ (l : List Key). key_of x ∷ l) h
