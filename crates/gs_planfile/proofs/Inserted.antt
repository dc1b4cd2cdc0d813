-- Look-ups in a table into which a key was put.
use Rattle.std.proofs.Common.{Ordering, Less, Equal, Greater, ◌≡◌, ◌∙◌, ap, sym, refl, ℕ, List, Bool, true, false, ◌||◌, is_eq, nat_cmp, Option, Some, None, String, string_bytes, Global, [], ◌∷◌}
use Rattle.std.specs.Cmp.Lexicographic.{slice_cmp}
use Rattle.std.specs.Prelude.{if◌then◌else◌}
use Rattle.std.specs.List.{list_any}
use Rattle.std.specs.BTreeMap.{insert_entry}
use Rattle.std.specs.String.{string_cmp}
use Rattle.toml.specs.View.{members_view, view}
use Rattle.toml.specs.declared.value.Value.{Value}
use Rattle.std.specs.Ordering.{match_ordering, ordering_reverse}
use Rattle.std.proofs.lemmas.Cmp.{nat_list_cmp_total}
use Rattle.toml.specs.Data.{Data, Members, no_members, member, get_member, same_key}
use Rattle.gs_planfile.specs.Extra.{names}
use Rattle.gs_planfile.specs.Writing.{insert_member}

-- a look-up goes past a key of another name
skip : (o : Ordering) (rest : Option Data) (d : Data) → is_eq o ≡ false → match_ordering o rest (Some d) rest ≡ rest
skip Less rest d h = refl
skip Equal rest d h = cc h
skip Greater rest d h = refl

-- whatever that key holds
both_skip : (o : Ordering) (rest : Option Data) (d e : Data) → is_eq o ≡ false → match_ordering o rest (Some d) rest ≡ match_ordering o rest (Some e) rest
both_skip o rest d e h = skip o rest d h ∙ sym (skip o rest e h)

-- two names with the same bytes compare alike
alike : (k l m : List ℕ) → slice_cmp nat_cmp l m ≡ Equal → slice_cmp nat_cmp k l ≡ slice_cmp nat_cmp k m
alike k l m e = nat_list_cmp_total.antisymm k l ∙ ap ordering_reverse (nat_list_cmp_total.congr l m k e) ∙ sym (nat_list_cmp_total.antisymm k m)

-- what another key holds after an insert
pub get-insert_other : (k l : List ℕ) (d : Data) (ms : Members) → same_key k l ≡ false → get_member k (insert_member l d ms) ≡ get_member k ms
unfolding insert_member
get-insert_other k l d no_members h = skip (slice_cmp nat_cmp k l) None d h
get-insert_other k l d (member m e ms) h = by (slice_cmp nat_cmp l m) refl (get-insert_other k l d ms h)
  where
    by : (o : Ordering) → slice_cmp nat_cmp l m ≡ o → get_member k (insert_member l d ms) ≡ get_member k ms
        → get_member k (match_ordering o (member l d (member m e ms)) (member m d ms) (member m e (insert_member l d ms))) ≡ get_member k (member m e ms)
    by Less q ih = skip (slice_cmp nat_cmp k l) (get_member k (member m e ms)) d h
    by Equal q ih = both_skip (slice_cmp nat_cmp k m) (get_member k ms) d e (ap is_eq (sym (alike k l m q)) ∙ h)
    by Greater q ih = ap (λ r. match_ordering (slice_cmp nat_cmp k m) r (Some e) r) ih

-- the keys after an insert pass what the key and those before pass
pub any-insert : (p : List ℕ → Bool) (k : List ℕ) (d : Data) (ms : Members) → p k ≡ false → list_any p (names ms) ≡ false → list_any p (names (insert_member k d ms)) ≡ false
unfolding insert_member
any-insert p k d no_members a b = rw a
any-insert p k d (member m e ms) a b = by (slice_cmp nat_cmp k m) (p m) refl b (any-insert p k d ms a)
  where
    by : (o : Ordering) (t : Bool) → p m ≡ t → (t || list_any p (names ms)) ≡ false → (list_any p (names ms) ≡ false → list_any p (names (insert_member k d ms)) ≡ false)
        → list_any p (names (match_ordering o (member k d (member m e ms)) (member m d ms) (member m e (insert_member k d ms)))) ≡ false
    by o true q h ih = cc h
    by Less false q h ih = rw (a, q) h
    by Equal false q h ih = rw q h
    by Greater false q h ih = rw q (ih h)

-- what compares as equal is equal
equal_of : (o : Ordering) → is_eq o ≡ true → o ≡ Equal
equal_of Less h = cc h
equal_of Equal h = refl
equal_of Greater h = cc h

-- the same, under the same bytes
get-insert_alike : (k l : List ℕ) (d : Data) (ms : Members) → slice_cmp nat_cmp k l ≡ Equal → get_member k (insert_member l d ms) ≡ Some d
unfolding insert_member
get-insert_alike k l d no_members h = rw h
get-insert_alike k l d (member m e ms) h = by (slice_cmp nat_cmp l m) refl (get-insert_alike k l d ms h)
  where
    by : (o : Ordering) → slice_cmp nat_cmp l m ≡ o → get_member k (insert_member l d ms) ≡ Some d
        → get_member k (match_ordering o (member l d (member m e ms)) (member m d ms) (member m e (insert_member l d ms))) ≡ Some d
    by Less q ih = rw h
    by Equal q ih = rw (← alike k l m q, h)
    by Greater q ih = rw (nat_list_cmp_total.congr k l m h, q) ih

-- what any key holds after an insert, as a test
pub get-insert : (k l : List ℕ) (d : Data) (ms : Members) → get_member k (insert_member l d ms) ≡ (if same_key k l then Some d else get_member k ms)
get-insert k l d ms = by (same_key k l) refl
  where
    by : (b : Bool) → same_key k l ≡ b → get_member k (insert_member l d ms) ≡ (if b then Some d else get_member k ms)
    by true q = get-insert_alike k l d ms (equal_of (slice_cmp nat_cmp k l) q)
    by false q = get-insert_other k l d ms q

-- the members of the entries that a comparison chooses
members_match : (o : Ordering) (a b c : List (String Global × Value)) → members_view (match_ordering o a b c) ≡ match_ordering o (members_view a) (members_view b) (members_view c)
members_match Less a b c = refl
members_match Equal a b c = refl
members_match Greater a b c = refl

-- what an insert into a table does to its members
pub insert-view : (es : List (String Global × Value)) (k : String Global) (v : Value) → members_view (insert_entry string_cmp es k v) ≡ insert_member (string_bytes k) (view v) (members_view es)
unfolding insert_member
insert-view [] k v = refl
insert-view (e ∷ es) k v = members_match (string_cmp k e.0) _ _ _ ∙ rw (insert-view es k v)
