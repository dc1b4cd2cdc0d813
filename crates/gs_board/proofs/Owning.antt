-- Each event of a journal is the timer's or a neighbour's.
use Rattle.std.proofs.Common.{◌≡◌, ℕ, ◌+◌, false, not, ◌==◌, All, List, [], ◌∷◌, Option, Some, None, is_none, map, refl, ◌∙◌, ap, arith, nat_eq}
use Rattle.std.specs.Prelude.{Contains}
use Rattle.std.specs.List.{position}
use Rattle.std.proofs.lemmas.Bool.{eqb-true}
use Rattle.std.proofs.lemmas.List.{get_or-map, length-map}
use Rattle.std.proofs.lemmas.List.Elements.{All-nil, All-cons}
use Rattle.std.proofs.lemmas.List.Quantifiers.{position-Some}
use Rattle.gs_units.proofs.FirstFault.{first_fails}
use Rattle.gs_units.specs.declared.params.Link.{Link}
use Rattle.gs_units.specs.declared.params.NodeParams.{NodeParams}
use Rattle.gs_core.specs.Node.{Node, link_place}
use Rattle.gs_core.specs.declared.reply.Reply.{Reply}
use Rattle.gs_core.specs.Steps.{Replayed, Whole, Stopped, after, answering, fault_of, replay, reply_of, unless_fault}
use Rattle.gs_core.specs.declared.event.NodeEvent.{NodeEvent}
use Rattle.gs_core.specs.declared.event.NodeEvent.TheVariants.{Tick, Deliver}
use Rattle.gs_core.specs.declared.reply.CoreFault.{CoreFault}
use Rattle.gs_core.specs.declared.reply.CoreFault.TheVariants.{Cluster, Stranger}
use Rattle.gs_board.specs.Entries.{IsOwned}
use Rattle.gs_board.specs.Ledger.{Ledger, IsKept}

-- a node to which there is a link is a neighbour
linked : (links : List Link) (x i : ℕ) → position (λ link. nat_eq link.node x) links ≡ Some i → Contains (map (λ link. link.node) links) x
linked links x i at =
    let none : Link = record { node = 0; comp = 0; jump = 0; kappa = 0; delta = 0 } in
    let found = position-Some (λ (link : Link). nat_eq link.node x) links i none at in
    (i, omega (arith, length-map links (λ (link : Link). link.node), found.0), get_or-map (λ (link : Link). link.node) links i none x found.0 ∙ eqb-true _ _ found.1)

neighbour : (links : List Link) (x : ℕ) (place : Option ℕ) → position (λ link. nat_eq link.node x) links ≡ place → is_none place ≡ false
    → Contains (map (λ link. link.node) links) x
neighbour links x None at some = absurd (cc)
neighbour links x (Some i) at some = linked links x i at

-- an event without a fault is owned
owned : (p : NodeParams) (n : Node) (e : NodeEvent) → fault_of p n e ≡ None → IsOwned p e
owned p n (Tick now) h = tt
owned p n (Deliver now b) h =
    let cluster = first_fails (not (b.cluster == p.cluster)) Cluster _ h in
    let stranger = first_fails (is_none (link_place p b.sender)) (Stranger b.sender) _ cluster.1 in
    neighbour p.links b.sender (link_place p b.sender) refl stranger.0

-- behind the first event of a whole replay is a whole one
record IsWholeBehind (fault : Option CoreFault) (rest : Replayed) (n : Node) : Type 0 where
  none : fault ≡ None
  replies : List Reply
  whole : rest ≡ Whole n replies

behind : (fault : Option CoreFault) (i : ℕ) (reply : Reply) (rest : Replayed) (n : Node) (replies : List Reply)
    → unless_fault fault i (answering reply rest) ≡ Whole n replies → IsWholeBehind fault rest n
behind (Some fault) i reply rest n replies h = absurd (cc)
behind None i reply (Stopped place fault) n replies h = absurd (cc)
behind None i reply (Whole m told) n replies h = record { none = refl; replies = told; whole = (let same : m ≡ n = cc in ap (λ x. Whole x told) same) }

owned_from : (p : NodeParams) (i : ℕ) (n m : Node) (es : List NodeEvent) (replies : List Reply) → replay p i n es ≡ Whole m replies → All (IsOwned p) es
owned_from p i n m [] replies h = All-nil (IsOwned p)
owned_from p i n m (e ∷ es) replies h =
    let rest = behind (fault_of p n e) i (reply_of p n e) (replay p (i + 1) (after p n e) es) m replies h in
    All-cons (IsOwned p) e es (owned p n e rest.none) (owned_from p (i + 1) (after p n e) m es rest.replies rest.whole)

-- each event of a journal is
pub all_owned : (t : Ledger) → IsKept t → All (IsOwned t.core.params) t.journal
all_owned t kept = owned_from t.core.params 0 _ t.core.node t.journal t.replies kept.replayed
