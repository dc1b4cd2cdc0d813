-- Since the last quantum readings and clocks stand still, and maxima have not fallen; so rows grow.
use Rattle.std.proofs.Common.{◌≡◌, ℕ, suc, ◌+◌, ◌-◌, ◌*◌, ◌/◌, ◌<◌, ◌≤◌, arith, ap, sym, ◌∙◌, refl, List, [], ◌∷◌, length, map, not, Option, Some, None, nat_eq, slice_set, Bool, true, false, nat_lt, if◌then◌else◌}
use Rattle.std.specs.List.{position, prefix_len}
use Rattle.std.proofs.lemmas.List.{get_or-map, length-map}
use Rattle.gs_units.specs.Growth.{IsIncrement}
use Rattle.gs_units.specs.Rates.{steer_of, creep_of}
use Rattle.gs_units.specs.declared.params.Link.{Link}
use Rattle.gs_units.specs.declared.rate.Mode.{Mode}
use Rattle.gs_units.specs.declared.rate.Mode.TheVariants.{Slow, Fast}
use Rattle.gs_units.specs.declared.rate.Rate.{Rate}
use Rattle.gs_beacon.specs.declared.beacon.Beacon.{Beacon}
use Rattle.gs_estimate.specs.Entries.{entry_at, is_fresh}
use Rattle.gs_maximum.specs.Maximum.{heard_of, raised_to}
use Rattle.gs_maximum.specs.declared.maximum.Max.{Max}
use Rattle.gs_maximum.proofs.Raising.{hearing_raises}
use Rattle.gs_core.specs.Node.{Node, clock_of, maximum_of, ticked, freshened, heard, link_place, link_at, delivered_at}
use Rattle.gs_run.specs.Net.{Net, params_of, link_of, neighbour, neighbours, place_of}
use Rattle.gs_run.specs.World.{World, Member, Sent, member, is_newer, advanced, ticked_member, heard_member, clock_in, maximum_in}
use Rattle.gs_run.proofs.Rows.{Grows, SteersBy, steers_by}
use Rattle.gs_run.proofs.Keeping.{world_at, Keeps}

-- ---- the rows of a run as functions of quantum and node

abbrev pub row_of : Net → List World → ℕ → ℕ → ℕ
row_of net total t v = clock_in net (world_at total t) v

abbrev pub reading_of : List World → ℕ → ℕ → ℕ
reading_of total t v = (member (world_at total t) v).reading

abbrev pub most_of : Net → List World → ℕ → ℕ → ℕ
most_of net total t v = maximum_in net (world_at total t) v

-- Since the last quantum's end a node's clock and reading stand still, and its maximum has not fallen.
pub record IsCurrent (net : Net) (total : List World) (t v : ℕ) (m : Member) : Type 0 where
  pub reading : m.reading ≡ reading_of total t v
  pub clock : clock_of net.rate m.node m.reading ≡ row_of net total t v
  pub maximum : most_of net total t v ≤ maximum_of net.rate m.node m.reading
  pub at : m.node.at ≤ m.reading
  pub base_at : m.node.max.at ≤ m.reading

-- ---- a clock that is set stands still

pub steer_zero : (p : Rate) (mode : Mode) (n : ℕ) → steer_of p mode (n - n) ≡ 0
steer_zero p Slow n = omega arith
steer_zero p Fast n = let e : n - n ≡ 0 = omega arith in rw e (omega arith)

pub creep_zero : (p : Rate) (n : ℕ) → creep_of p (n - n) ≡ 0
creep_zero p n =
    let e : n - n ≡ 0 = omega arith in
    let z : 0 * p.lo ≡ 0 = omega arith in
    rw (e, z) (zero_over p.hi) where
      zero_over : (k : ℕ) → 0 / k ≡ 0
      zero_over k = grind arith

pub tick_current : (net : Net) (total : List World) (t v : ℕ) (m : Member) → IsCurrent net total t v m
    → IsCurrent net total t v (ticked_member (params_of net v) t m)
tick_current net total t v m c =
    let still : clock_of net.rate (ticked (params_of net v) m.node m.reading) m.reading
    ≡ clock_of net.rate m.node m.reading =
    let z = steer_zero net.rate (ticked (params_of net v) m.node m.reading).mode m.reading in omega (arith, z) in
    record {
      reading = c.reading;
      clock = still ∙ c.clock;
      maximum = let a = c.maximum in omega (arith, still, a);
      at = omega arith;
      base_at = c.base_at;
    }

-- ---- a beacon is new, or it is old

abbrev pub fresh_member : Rate → Link → ℕ → Sent → Member → Member
fresh_member rate link i s m =
    record m { node = freshened rate link m.node i s.beacon m.reading; heard = slice_set m.heard i s.quantum }

abbrev pub old_member : Member → Member
old_member m = record m { node = record m.node { last = m.reading } }

-- what a beacon does over a link
abbrev pub linked_member : Rate → Link → ℕ → Sent → Member → Member
linked_member rate link i s m = record m {
  node = heard rate link m.node i s.beacon m.reading;
  heard = if is_newer m i s then slice_set m.heard i s.quantum else m.heard;
}

pub hear_cases : (rate : Rate) (link : Link) (i : ℕ) (s : Sent) (m : Member) (P : Member → Type 0)
    → (is_newer m i s ≡ true → P (fresh_member rate link i s m)) → P (old_member m)
    → P (linked_member rate link i s m)
hear_cases rate link i s m P new old = pick (is_newer m i s) new where
  pick : (b : Bool) → (b ≡ true → P (fresh_member rate link i s m)) → P (record m {
    node = if b then freshened rate link m.node i s.beacon m.reading else record m.node { last = m.reading };
    heard = if b then slice_set m.heard i s.quantum else m.heard;
  })
  pick true f = f refl
  pick false f = old

-- the place of a link is that of its node
prefix-map : {X Y : Type 0} → (f : X → Y) (p : Y → Bool) (xs : List X)
    → prefix_len p (map f xs) ≡ prefix_len (λ x. p (f x)) xs
prefix-map f p [] = refl
prefix-map f p (x ∷ xs) = rw (prefix-map f p xs) refl

pub position-map : {X Y : Type 0} → (f : X → Y) (p : Y → Bool) (xs : List X)
    → position p (map f xs) ≡ position (λ x. p (f x)) xs
position-map f p xs = rw (length-map xs f, prefix-map f (λ y. not (p y)) xs) refl

pub link_place_is : (net : Net) (v x : ℕ) → link_place (params_of net v) x ≡ place_of net v x
link_place_is net v x = position-map (link_of net v) (λ k. nat_eq k.node x) (neighbours net v)

pub link_at_is : (net : Net) (v i : ℕ) → i < length (neighbours net v)
    → link_at (params_of net v) i ≡ link_of net v (neighbour net v i)
link_at_is net v i hi =
    get_or-map (link_of net v) (neighbours net v) i 0 (record { node = 0; comp = 0; jump = 0; kappa = 0; delta = 0 }) hi

-- at a neighbour's place a beacon goes over its link
pub heard_over : (net : Net) (v i : ℕ) (s : Sent) (m : Member) → i < length (neighbours net v)
    → place_of net v (neighbour net v i) ≡ Some i → s.beacon.sender ≡ neighbour net v i
    → heard_member (params_of net v) i s m ≡ linked_member net.rate (link_of net v (neighbour net v i)) i s m
heard_over net v i s m hi place sender =
    let found : link_place (params_of net v) s.beacon.sender ≡ Some i =
    link_place_is net v s.beacon.sender ∙ ap (λ (x : ℕ). place_of net v x) sender ∙ place in
    rw (found, link_at_is net v i hi) refl

-- the maximum base is raised, or what was heard is at least the new value
pub raise_cases : (rate : Rate) (max : Max) (value now : ℕ) (P : Max → Type 0)
    → (heard_of rate max now < value → P (record { base = value; at = now })) → (value ≤ heard_of rate max now → P max)
    → P (raised_to rate max value now)
raise_cases rate max value now P more less =
    pick (nat_lt (heard_of rate max now) value) (λ e. more (grind (arith, e))) (λ e. less (grind (arith, e)))
  where
    pick : (b : Bool) → (b ≡ true → P (record { base = value; at = now })) → (b ≡ false → P max)
        → P (if b then record { base = value; at = now } else max)
    pick true f g = f refl
    pick false f g = g refl

-- its reading is not later than the present one
pub raised_at : (rate : Rate) (max : Max) (value now : ℕ) → max.at ≤ now → (raised_to rate max value now).at ≤ now
raised_at rate max value now le =
    raise_cases rate max value now (λ new. new.at ≤ now) (λ more. omega arith) (λ less. le)

-- where a fresh beacon comes, clock and reading stand still and the maximum does not fall
pub fresh_current : (net : Net) (total : List World) (t v i : ℕ) (link : Link) (b : Beacon) (m : Member) (places : List ℕ)
    → IsCurrent net total t v m
    → IsCurrent net total t v (record m { node = freshened net.rate link m.node i b m.reading; heard = places })
fresh_current net total t v i link b m places c =
    let told : ℕ = b.m + link.jump in
    let raised = hearing_raises net.rate m.node.max told m.reading in
    let kept = raised.kept in
    let maximum = c.maximum in
    record {
      reading = c.reading;
      clock = c.clock;
      maximum = omega (arith, maximum, kept);
      at = c.at;
      base_at = raised_at net.rate m.node.max told m.reading c.base_at;
    }

-- and so they do wherever a beacon goes
current_heard : (net : Net) (total : List World) (t v : ℕ) (b : Beacon) (m : Member) (places : List ℕ) (o : Option ℕ)
    → IsCurrent net total t v m
    → IsCurrent net total t v (record m { node = delivered_at (params_of net v) m.node b m.reading o; heard = places })
current_heard net total t v b m places None c =
    record { reading = c.reading; clock = c.clock; maximum = c.maximum; at = c.at; base_at = c.base_at }
current_heard net total t v b m places (Some i) c = pick (is_fresh (entry_at m.node.entries i) b.seq) where
  new : Node
  new = freshened net.rate (link_at (params_of net v) i) m.node i b m.reading

  pick : (fresh : Bool)
      → IsCurrent net total t v (record m { node = if fresh then new else record m.node { last = m.reading }; heard = places })
  pick true = fresh_current net total t v i (link_at (params_of net v) i) b m places c
  pick false = record { reading = c.reading; clock = c.clock; maximum = c.maximum; at = c.at; base_at = c.base_at }

pub hear_current : (net : Net) (total : List World) (t v i : ℕ) (s : Sent) (m : Member) → IsCurrent net total t v m
    → IsCurrent net total t v (heard_member (params_of net v) i s m)
hear_current net total t v i s m c =
    let places : List ℕ = if is_newer m i s then slice_set m.heard i s.quantum else m.heard in
    current_heard net total t v s.beacon m places (link_place (params_of net v) s.beacon.sender) c

pub advance_current : (net : Net) (total : List World) (t v h : ℕ) (m : Member) → IsCurrent net total t v m
    → member (world_at total (suc t)) v ≡ advanced m h → IsCurrent net total (suc t) v (advanced m h)
advance_current net total t v h m c row = record {
  reading = ap (λ (z : Member). z.reading) (sym row);
  clock = ap (λ (z : Member). clock_of net.rate z.node z.reading) (sym row);
  maximum =
      let e : maximum_of net.rate m.node (m.reading + h) ≡ most_of net total (suc t) v =
      ap (λ (z : Member). maximum_of net.rate z.node z.reading) (sym row) in
      omega (arith, e);
  at = let a = c.at in omega (arith, a);
  base_at = let a = c.base_at in omega (arith, a);
}

pub current_keeps : (net : Net) (total : List World) (last : ℕ)
    → Keeps net total last (λ t v m d. IsCurrent net total t v m)
current_keeps net total last = record {
  tick = λ t v m d ht hv c. tick_current net total t v m c;
  hear = λ t v i m n d e s ht hv hi place c cn sent in_time. hear_current net total t v i s m c;
  advance = λ t v h m d ht hv inc c may row. advance_current net total t v h m c row;
}

-- ---- so rows grow

-- what one quantum of the run does to a node
pub record IsStep (net : Net) (total : List World) (t v h : ℕ) (m : Member) : Type 0 where
  pub increment : IsIncrement net.rate h
  pub current : IsCurrent net total t v m
  pub next : member (world_at total (suc t)) v ≡ advanced m h

pub step_steers : (net : Net) (total : List World) (t v h : ℕ) (m : Member) → IsStep net total t v h m
    → SteersBy net m.node.mode (row_of net total t v) (row_of net total (suc t) v)
step_steers net total t v h m step =
    let c = step.current in
    let now : clock_of net.rate m.node (m.reading + h) ≡ row_of net total (suc t) v =
    ap (λ (z : Member). clock_of net.rate z.node z.reading) (sym step.next) in
    rw (c.clock, now) at (steers_by net m.node.mode m.node.l m.node.at m.reading (m.reading + h) h step.increment c.at refl)

pub step_reading : (net : Net) (total : List World) (t v h : ℕ) (m : Member) → IsStep net total t v h m
    → reading_of total (suc t) v ≡ reading_of total t v + h
step_reading net total t v h m step =
    ap (λ (z : Member). z.reading) step.next ∙ ap (λ (n : ℕ). n + h) step.current.reading

pub all_steps_grow : (net : Net) (total : List World) (last : ℕ)
    → ((t v : ℕ) → t < last → v < net.nodes → (h : ℕ) × (m : Member) × IsStep net total t v h m)
    → Grows net last (row_of net total) (reading_of total)
all_steps_grow net total last steps = record {
  reading_least = λ v t hv ht.
      let s = steps t v ht hv in
      let r = step_reading net total t v s.0 s.1 s.2 in
      omega (arith, r, s.2.increment);
  reading_most = λ v t hv ht.
      let s = steps t v ht hv in
      let r = step_reading net total t v s.0 s.1 s.2 in
      omega (arith, r, s.2.increment);
  row_least = λ v t hv ht. let s = steps t v ht hv in (step_steers net total t v s.0 s.1 s.2).least;
  row_most = λ v t hv ht. let s = steps t v ht hv in (step_steers net total t v s.0 s.1 s.2).most;
}
