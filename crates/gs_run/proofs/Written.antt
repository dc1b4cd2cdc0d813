-- A member that is written, and runs one after the other.
use Rattle.std.proofs.Common.{◌≡◌, ◌≢◌, ℕ, ◌<◌, refl, List, [], ◌∷◌, ◌++◌, length, get_or-set_same, get_or-set_other}
use Rattle.gs_core.specs.declared.event.Event.{Event}
use Rattle.gs_run.specs.Net.{Net}
use Rattle.gs_run.specs.World.{World, Member, nobody, member, with_member, effect}
use Rattle.gs_run.specs.Run.{run}

pub run_more : (net : Net) (w : World) (xs ys : List Event) → run net w (xs ++ ys) ≡ run net (run net w xs) ys
run_more net w [] ys = refl
run_more net w (e ∷ xs) ys = run_more net (effect net w e) xs ys

-- ---- a member that is written

pub member_same : (w : World) (v : ℕ) (m : Member) → v < length w.members → member (with_member w v m) v ≡ m
member_same w v m h = get_or-set_same w.members v m nobody h

pub member_other : (w : World) (u v : ℕ) (m : Member) → v ≢ u → member (with_member w u m) v ≡ member w v
member_other w u v m other = get_or-set_other w.members u v m nobody other
