-- What a door's replies say of the datagrams that were taken from it.
use Rattle.std.specs.Prelude.{◌≡◌, ℕ, ◌<◌, ◌≤◌, ◌⊎◌, nat_le, Bool, true, false, if◌then◌else◌, All, List, [], ◌∷◌, ◌++◌, map, Option, Some, None}
use Rattle.std.specs.List.{filter_map}
use Rattle.gs_net.specs.Tales.{Tale}
use Rattle.gs_net.specs.declared.items.Item.{Item}
use Rattle.gs_net.specs.declared.items.Item.TheVariants as item
use Rattle.gs_net.specs.Items.{datagrams, ends_in, is_quiet}
use Rattle.gs_respond.specs.TimeRequests.{answer_bytes, asked_in, asked_of, clock_in}

-- the number that an item asks with, if it is a request
abbrev pub asked_by : Item → Option ℕ
asked_by item.Quiet = None
asked_by (item.Datagram bytes) = asked_of bytes

-- the numbers that the requests among items ask with, in order
abbrev pub requests : List Item → List ℕ
requests items = filter_map asked_by items

-- the request that is owed a reply, if one is
abbrev pub owing : Option ℕ → List ℕ
owing None = []
owing (Some id) = id ∷ []

-- no number is above the next
abbrev pub never_falls : List ℕ → Bool
never_falls [] = true
never_falls (n ∷ []) = true
never_falls (n ∷ next ∷ numbers) = if nat_le n next then never_falls (next ∷ numbers) else false

-- a reply is this node's answer with the number and the clock that it tells
abbrev pub IsAnswerOf : ℕ → List ℕ → Type 0
IsAnswerOf node reply = reply ≡ answer_bytes node (asked_in reply) (clock_in reply)

-- one reply for each request in order, but for a last one that is owed its reply; their clocks never fall
pub record HasAnswered (node : ℕ) (given : List Item) (replies : List (List ℕ)) (owed : Option ℕ) : Type 0 where
  pub asked : requests given ≡ map asked_in replies ++ owing owed
  pub answers : All (IsAnswerOf node) replies
  pub clocks : never_falls (map clock_in replies) ≡ true

-- so it is where the door tells its items and its replies
abbrev pub DoorAnswers : ℕ → Option Tale → Option (List (List ℕ)) → Type 0
DoorAnswers node tale replies =
    (t : Tale) (rs : List (List ℕ)) → tale ≡ Some t → replies ≡ Some rs → (owed : Option ℕ) × HasAnswered node t.given rs owed

-- each request has its reply, or something failed
abbrev pub Owes : Option Tale → Option (List (List ℕ)) → ℕ → Type 0
Owes tale replies failures =
    (t : Tale) (rs : List (List ℕ)) → tale ≡ Some t → replies ≡ Some rs → (requests t.given ≡ map asked_in rs) ⊎ (0 < failures)

-- no item is left, or the last that was taken is a quiet mark, or 64 datagrams at least were taken
abbrev pub IsSpent : Tale → Type 0
IsSpent t = (t.left ≡ []) ⊎ ((ends_in is_quiet t.given ≡ true) ⊎ (64 ≤ datagrams t.given))

-- the door gives no more, and each request has its reply
pub record DoorTaken (tale : Option Tale) (replies : Option (List (List ℕ))) : Type 0 where
  pub spent : (t : Tale) → tale ≡ Some t → IsSpent t
  pub replied : (t : Tale) (rs : List (List ℕ)) → tale ≡ Some t → replies ≡ Some rs → requests t.given ≡ map asked_in rs
