-- For private functions and proofs: what a responder keeps of its door's items and replies.
use Rattle.std.specs.Prelude.{◌≡◌, ℕ, ◌≤◌, true, All, List, [], ◌∷◌, ◌++◌, map, Option, Some, None}
use Rattle.gs_net.specs.Tales.{Tale}
use Rattle.gs_net.specs.declared.items.Item.{Item}
use Rattle.gs_respond.specs.Doors.{IsAnswerOf, never_falls, owing, requests}
use Rattle.gs_net.specs.Items.{datagrams}
use Rattle.gs_respond.specs.TimeRequests.{asked_in, clock_in}

-- the clocks of these replies never fall, nor are they above this one
abbrev pub RiseTo : List (List ℕ) → ℕ → Type 0
RiseTo replies last = never_falls (map clock_in replies ++ last ∷ []) ≡ true

-- each request has its reply, but for the one that is owed; no reply's clock is above the reader's last answer
pub record IsAnswered (node : ℕ) (given : List Item) (replies : List (List ℕ)) (owed : Option ℕ) (last : ℕ) : Type 0 where
  pub asked : requests given ≡ map asked_in replies ++ owing owed
  pub answers : All (IsAnswerOf node) replies
  pub clocks : RiseTo replies last

-- so it is where the door tells its items and its replies
abbrev pub Answered : ℕ → Option Tale → Option (List (List ℕ)) → Option ℕ → ℕ → Type 0
Answered node tale replies owed last =
    (t : Tale) (rs : List (List ℕ)) → tale ≡ Some t → replies ≡ Some rs → IsAnswered node t.given rs owed last

-- so many datagrams at least were taken, where the door tells its items
abbrev pub Counted : Option Tale → ℕ → Type 0
Counted tale since = (t : Tale) → tale ≡ Some t → since ≤ datagrams t.given

-- what becomes of the replies, and of the reader's last answer, at a datagram that asks with this number, or with none
pub record Goes (node : ℕ) (asked owed : Option ℕ) (old new : List (List ℕ)) (last later : ℕ) : Type 0 where
  pub asked_go : map asked_in new ++ owing owed ≡ map asked_in old ++ owing asked
  pub answers_go : All (IsAnswerOf node) old → All (IsAnswerOf node) new
  pub clocks_go : RiseTo old last → RiseTo new later

-- the same where the replies are told
abbrev pub Replies : ℕ → Option ℕ → Option ℕ → Option (List (List ℕ)) → Option (List (List ℕ)) → ℕ → ℕ → Type 0
Replies node asked owed None new last later = new ≡ None
Replies node asked owed (Some old) new last later = (rs : List (List ℕ)) × (new ≡ Some rs) × Goes node asked owed old rs last later
