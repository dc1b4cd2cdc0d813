-- The state of each node of a world is what its own events make of it, without a fault.
use Rattle.std.proofs.Common.{◌≡◌, ◌≢◌, ℕ, ◌+◌, ◌<◌, ◌≤◌, ◌^◌, ◌==◌, ◌⊎◌, inl, inr, arith, ap, sym, ◌∙◌, refl, List, [], ◌∷◌, ◌++◌, length, Bool, true, false, Option, Some, None, if◌then◌else◌, subst, get_or-set_same, get_or-set_other}
use Rattle.std.proofs.lemmas.Bool.{cases_eq, eq-eqb, ne_eqb}
use Rattle.gs_units.specs.declared.params.NodeParams.{NodeParams}
use Rattle.gs_beacon.specs.declared.beacon.Beacon.{Beacon}
use Rattle.gs_estimate.specs.Entries.{entry_at, is_fresh}
use Rattle.gs_core.specs.Node.{Node, started, ticked, delivered, delivered_at, freshened, link_at, link_place, is_due}
use Rattle.gs_core.specs.declared.reply.Reply.{Reply}
use Rattle.gs_core.specs.Steps.{reply_of, tick_fault, deliver_fault, replay, Whole}
use Rattle.gs_core.specs.declared.event.Event.{Event}
use Rattle.gs_core.specs.declared.event.Event.TheVariants.{Quantum, Tick, Deliver}
use Rattle.gs_core.specs.declared.event.NodeEvent.{NodeEvent}
use Rattle.gs_core.specs.declared.event.NodeEvent.TheVariants as own
use Rattle.gs_run.specs.Net.{Net, params_of}
use Rattle.gs_run.specs.World.{World, Member, Sent, nobody, member, effect, with_member, ticked_member, heard_member, world_from}
use Rattle.gs_run.specs.Run.{run, Allowed}
use Rattle.gs_run.specs.Budget.{Watched, watch, decision}
use Rattle.gs_run.specs.Projection.{projection, delivery_of}
use Rattle.gs_run.specs.Accepted.{AreNumbers, IsSmall}
use Rattle.gs_run.proofs.Keeping.{IsUnderWay, IsNext, Arrives, arrives, now_inside, advance_member, quantum_is_next, quantum_goes_on, tick_goes_on, deliver_goes_on}
use Rattle.gs_run.proofs.Start.{start_member}
use Rattle.gs_run.proofs.Moments.{start, Dated, dated_keeps, dated_start, whole_run}
use Rattle.gs_run.proofs.Safe.{AreFar, run_is_far, member_is_short, tick_has_no_fault, delivery_has_no_fault}

-- ---- replay, one event at a time

-- a node takes all these events, and is m then
abbrev pub Plays : NodeParams → ℕ → Node → List NodeEvent → Node → Type 0
Plays p i n es m = (replies : List Reply) × (replay p i n es ≡ Whole m replies)

plays_tick : (p : NodeParams) (i now : ℕ) (n : Node) (es : List NodeEvent) (m : Node)
    → tick_fault p n now ≡ None → Plays p (i + 1) (ticked p n now) es m → Plays p i n (own.Tick now ∷ es) m
plays_tick p i now n es m none rest = (reply_of p n (own.Tick now) ∷ rest.0, rw (none, rest.1) refl)

plays_delivery : (p : NodeParams) (i now : ℕ) (n : Node) (b : Beacon) (es : List NodeEvent) (m : Node)
    → deliver_fault p n b now ≡ None → Plays p (i + 1) (delivered p n b now) es m
    → Plays p i n (own.Deliver now b ∷ es) m
plays_delivery p i now n b es m none rest = (reply_of p n (own.Deliver now b) ∷ rest.0, rw (none, rest.1) refl)

seq_grows : (p : NodeParams) (n : Node) (now k : ℕ) → n.seq ≤ k → (ticked p n now).seq ≤ k + 1
seq_grows p n now k le = pick (is_due p n) where
  pick : (b : Bool) → (if b then n.seq + 1 else n.seq) ≤ k + 1
  pick true = omega (arith, le)
  pick false = omega (arith, le)

-- an old beacon's sequence stays, a fresh one changes no sequence of its own
delivered_at_seq : (p : NodeParams) (n : Node) (b : Beacon) (now : ℕ) (o : Option ℕ)
    → (delivered_at p n b now o).seq ≡ n.seq
delivered_at_seq p n b now None = refl
delivered_at_seq p n b now (Some i) = pick (is_fresh (entry_at n.entries i) b.seq) where
  pick : (fresh : Bool)
      → (if fresh then freshened p.rate (link_at p i) n i b now else record n { last = now }).seq ≡ n.seq
  pick true = refl
  pick false = refl

-- ---- one event of the world, as v sees it

-- the members after one of them was set
set_is : (w : World) (u v : ℕ) (new : Member) → v < length w.members
    → ((u ≡ v) × (member (with_member w u new) v ≡ new)) ⊎ ((u ≢ v) × (member (with_member w u new) v ≡ member w v))
set_is w u v new inside = elim (cases_eq u v) [
  | inl same ↦ let P : ℕ → Type 0 = λ z. member (with_member w z new) v ≡ new in
      inl (same, subst P (sym same) (get_or-set_same w.members v new nobody inside))
  | inr other ↦ inr (other, get_or-set_other w.members u v new nobody (λ e. other (sym e)))
]

-- the node of v as it is, after a tick, and after a beacon
abbrev node_in : World → ℕ → Node
node_in w v = (member w v).node

abbrev after_tick : Net → World → ℕ → Node
after_tick net w v = ticked (params_of net v) (node_in w v) (member w v).reading

abbrev after_beacon : Net → World → ℕ → Beacon → Node
after_beacon net w v b = delivered (params_of net v) (node_in w v) b (member w v).reading

-- what a tick makes of the node of v, where it is v's own and where it is not
tick_is : (net : Net) (w : World) (u v : ℕ) → v < length w.members
    → ((u ≡ v) × (node_in (effect net w (Tick u)) v ≡ after_tick net w v))
    ⊎ ((u ≢ v) × (node_in (effect net w (Tick u)) v ≡ node_in w v))
tick_is net w u v inside = elim (set_is w u v (ticked_member (params_of net u) w.quanta (member w u)) inside) [
  | inl own ↦
      let P : ℕ → Type 0 = λ z. after_tick net w z ≡ after_tick net w v in
      inl (own.0, ap (λ (m : Member). m.node) own.1 ∙ subst P (sym own.0) refl)
  | inr other ↦ inr (other.0, ap (λ (m : Member). m.node) other.1)
]

-- and what a beacon does that comes to a node
arrival_is : (net : Net) (w : World) (from to seq i v : ℕ) (s : Sent) → v < length w.members
    → Arrives net w from to seq i s
    → ((to ≡ v) × (node_in (effect net w (Deliver from to seq)) v ≡ after_beacon net w v s.beacon))
    ⊎ ((to ≢ v) × (node_in (effect net w (Deliver from to seq)) v ≡ node_in w v))
arrival_is net w from to seq i v s inside a =
    let new : Member = heard_member (params_of net to) i s (member w to) in
    let here : node_in (effect net w (Deliver from to seq)) v ≡ node_in (with_member w to new) v = ap (λ (z : World). node_in z v) a.is in
    elim (set_is w to v new inside) [
      | inl own ↦
          let P : ℕ → Type 0 = λ z. after_beacon net w z s.beacon ≡ after_beacon net w v s.beacon in
          inl (own.0, here ∙ ap (λ (m : Member). m.node) own.1 ∙ subst P (sym own.0) refl)
      | inr other ↦ inr (other.0, here ∙ ap (λ (m : Member). m.node) other.1)
    ]

-- a quantum leaves the nodes as they are
quantum_keeps_node : (net : Net) (total : List World) (last : ℕ) (w : World) (incs : List ℕ) (v : ℕ) → v < net.nodes
    → length w.members ≡ net.nodes
    → IsNext net total last w incs → (member (effect net w (Quantum incs)) v).node ≡ (member w v).node
quantum_keeps_node net total last w incs v hv members next =
    let one = advance_member w incs v (rw members hv) (rw next.may.count hv) in
    ap (λ (z : World). (member z v).node) next.is ∙ ap (λ (m : Member). m.node) one

-- what v sees of the first event, and then of the others
sees_tick : (net : Net) (w : World) (u v i : ℕ) (ps : List NodeEvent) (end : Node) → v < length w.members
    → (u ≡ v → tick_fault (params_of net v) (node_in w v) (member w v).reading ≡ None)
    → ((j : ℕ) → Plays (params_of net v) j (node_in (effect net w (Tick u)) v) ps end)
    → Plays (params_of net v) i (node_in w v) ((if u == v then own.Tick (member w v).reading ∷ [] else []) ++ ps) end
sees_tick net w u v i ps end inside none rest = elim (tick_is net w u v inside) [
  | inl own ↦
      let node = own.1 in
      let later : Plays (params_of net v) (i + 1) (after_tick net w v) ps end = rw node at (rest (i + 1)) in
      rw (eq-eqb u v own.0) (plays_tick (params_of net v) i (member w v).reading (node_in w v) ps end (none own.0) later)
  | inr other ↦ let node = other.1 in rw (ne_eqb u v other.0) (rw node at (rest i))
]

sees_arrival : (net : Net) (w : World) (from to seq place v i : ℕ) (s : Sent) (ps : List NodeEvent) (end : Node)
    → v < length w.members → Arrives net w from to seq place s
    → (to ≡ v → deliver_fault (params_of net v) (node_in w v) s.beacon (member w v).reading ≡ None)
    → ((j : ℕ) → Plays (params_of net v) j (node_in (effect net w (Deliver from to seq)) v) ps end)
    → Plays (params_of net v) i (node_in w v) ((if to == v then own.Deliver (member w v).reading s.beacon ∷ [] else []) ++ ps) end
sees_arrival net w from to seq place v i s ps end inside a none rest =
    let p : NodeParams = params_of net v in
    elim (arrival_is net w from to seq place v s inside a) [
      | inl own ↦
          let node = own.1 in
          let later : Plays p (i + 1) (after_beacon net w v s.beacon) ps end = rw node at (rest (i + 1)) in
          rw (eq-eqb to v own.0) (plays_delivery p i (member w v).reading (node_in w v) s.beacon ps end (none own.0) later)
      | inr other ↦ let node = other.1 in rw (ne_eqb to v other.0) (rw node at (rest i))
    ]

-- how an event changes the own sequence
tick_seq : (net : Net) (w : World) (u v k : ℕ) → v < length w.members → (node_in w v).seq ≤ k
    → (node_in (effect net w (Tick u)) v).seq ≤ k + 1
tick_seq net w u v k inside le = elim (tick_is net w u v inside) [
  | inl own ↦ let node = own.1 in rw node (seq_grows (params_of net v) (node_in w v) (member w v).reading k le)
  | inr other ↦ let node = other.1 in rw node (omega (arith, le))
]

arrival_seq : (net : Net) (w : World) (from to seq place v k : ℕ) (s : Sent) → v < length w.members
    → Arrives net w from to seq place s
    → (node_in w v).seq ≤ k → (node_in (effect net w (Deliver from to seq)) v).seq ≤ k
arrival_seq net w from to seq place v k s inside a le = elim (arrival_is net w from to seq place v s inside a) [
  | inl own ↦
      let node = own.1 in
      let p : NodeParams = params_of net v in
      let e = delivered_at_seq p (node_in w v) s.beacon (member w v).reading (link_place p s.beacon.sender) in
      rw node (rw e le)
  | inr other ↦ let node = other.1 in rw node le
]

-- The node of v after a list of events is what its own events make of it.
node_is_replayed : {net : Net} {total : List World} {last : ℕ} → AreNumbers net → AreFar net total last → (v : ℕ)
    → v < net.nodes
    → (before : List World) (x : Watched) (es : List Event) (i k : ℕ)
    → IsUnderWay net total last (Dated net total) before x es
    → (node_in x.world v).seq ≤ k → k + length es < 2 ^ 64
    → Plays (params_of net v) i (node_in x.world v) (projection net v x.world es) (node_in (run net x.world es) v)
node_is_replayed numbers far v hv before x [] i k on seq few = ([], refl)
node_is_replayed {net} {total} {last} numbers far v hv before x (Quantum incs ∷ es) i k on seq few =
    let w : World = x.world in
    let next : World = effect net w (Quantum incs) in
    let same = quantum_keeps_node net total last w incs v hv on.holds.members (quantum_is_next on) in
    let goes_on = quantum_goes_on (dated_keeps numbers far.grows) on in
    let seq_on : (node_in next v).seq ≤ k = let e = ap (λ (n : Node). n.seq) same in omega (arith, e, seq) in
    let rest =
    node_is_replayed numbers far v hv (before ++ next ∷ []) (watch net x (Quantum incs)) es i k goes_on seq_on (omega (arith, few)) in
    subst (λ (n : Node). Plays (params_of net v) i n (projection net v next es) (node_in (run net next es) v)) same rest
node_is_replayed {net} numbers far v hv before x (Tick u ∷ es) i k on seq few =
    let w : World = x.world in
    let next : World = effect net w (Tick u) in
    let inside : v < length w.members = rw on.holds.members hv in
    let dated = on.holds.each v hv in
    let short = member_is_short far w.quanta v (member w v) (decision x v) (now_inside on) hv dated in
    let none = tick_has_no_fault net v (member w v) short dated.last (omega (arith, seq, few)) in
    let goes_on = tick_goes_on (dated_keeps numbers far.grows) on in
    sees_tick net w u v i (projection net v next es) (node_in (run net next es) v) inside (λ same. none)
    (λ j.
    node_is_replayed numbers far v hv before (watch net x (Tick u)) es j (k + 1) goes_on (tick_seq net w u v k inside seq)
    (omega (arith, few)))
node_is_replayed {net} numbers far v hv before x (Deliver from to number ∷ es) i k on seq few =
    let w : World = x.world in
    let next : World = effect net w (Deliver from to number) in
    let inside : v < length w.members = rw on.holds.members hv in
    let arrival = arrives net w from to number on.allowed.0 in
    let place : ℕ = arrival.0 in
    let s : Sent = arrival.1 in
    let a = arrival.2 in
    let P : ℕ → Type 0 = λ z. deliver_fault (params_of net z) (node_in w z) s.beacon (member w z).reading ≡ None in
    let none : P to = delivery_has_no_fault numbers far x (now_inside on) on.holds from to number place s a in
    let goes_on = deliver_goes_on (dated_keeps numbers far.grows) on in
    let low = arrival_seq net w from to number place v k s inside a seq in
    let ps : List NodeEvent = projection net v next es in
    let end : Node = node_in (run net next es) v in
    let played = sees_arrival net w from to number place v i s ps end inside a (λ same. subst P same none)
    (λ j.
    node_is_replayed numbers far v hv before (watch net x (Deliver from to number)) es j k goes_on low (omega (arith, few))) in
    let P : Option Sent → Type 0 =
    λ o. Plays (params_of net v) i (node_in w v) ((if to == v then delivery_of (member w v).reading o else []) ++ ps) end in
    subst P (sym a.found) played

-- So it is for a whole allowed run of fewer than 2^64 events: no event has a fault.
pub one_node : (net : Net) (hw clocks : ℕ → ℕ) (v : ℕ) (es : List Event) → AreNumbers net → IsSmall net hw clocks
    → v < net.nodes → length es < 2 ^ 64 → Allowed net (world_from net hw clocks) es
    → Plays (params_of net v) 0 (started (params_of net v) (hw v) (clocks v)) (projection net v (world_from net hw clocks) es)
    (node_in (run net (world_from net hw clocks) es) v)
one_node net hw clocks v es numbers small hv few allowed =
    let w : World = world_from net hw clocks in
    let r = whole_run net hw clocks es allowed in
    let far = run_is_far numbers small r in
    let first : (node_in w v) ≡ started (params_of net v) (hw v) (clocks v) =
    ap (λ (m : Member). m.node) (start_member net hw clocks v hv) in
    let seq : (node_in w v).seq ≤ 0 = let e = ap (λ (n : Node). n.seq) first in omega (arith, e) in
    let on = dated_start numbers r in
    rw first at (node_is_replayed numbers far v hv (w ∷ []) (start net hw clocks) es 0 0 on seq (omega (arith, few)))
