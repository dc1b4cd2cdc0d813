-- The levels of a history from equal clocks: its clocks are rows that the two triggers steer, and keep the bound of each level.
use Rattle.std.proofs.Common.{◌≡◌, ℕ, suc, ◌+◌, ◌-◌, ◌*◌, ◌<◌, ◌≤◌, arith, ◌∙◌}
use Rattle.gs_units.specs.Rates.{r_of, q_of}
use Rattle.gs_units.specs.declared.rate.Mode.TheVariants.{Slow, Fast}
use Rattle.gs_topo.specs.Weights.{Weighs}
use Rattle.gs_topo.proofs.Weighing.{least_sums_weigh}
use Rattle.gs_steer.proofs.Deciding.{fast_by_trigger, slow_by_trigger}
use Rattle.gs_skew.specs.Conditions.{MeetsSlowCondition, MeetsFastCondition}
use Rattle.gs_skew.specs.Rows.{AreRows}
use Rattle.gs_skew.proofs.Bounded.{keeps_bound, edges_keep_bound}
use Rattle.gs_run.specs.Net.{Net, Adjacent, iota_of, skew_of, level_of}
use Rattle.gs_run.specs.Accepted.{AreNumbers}
use Rattle.gs_run.proofs.History.{IsHistory, IsEqual}
use Rattle.gs_run.proofs.Steered.{history_grows, steered}
use Rattle.gs_run.proofs.Conditions.{sights_are_seen, seen_have_margins, behind_is_fast, ahead_is_slow}
use Rattle.gs_run.proofs.Greatest.{global_skew}

-- a decision that may have seen entries of the start was made from equal clocks
abbrev pub IsFair : Net → (ℕ → ℕ → ℕ) → ℕ → ℕ → Type 0
IsFair net row t u = (when : ℕ) → t < when + net.tick → when ≤ net.age → (x : ℕ) → x < net.nodes → row 0 u ≡ row 0 x

-- a node that is in the fast condition at the end of a quantum was fast in it
pub behind_grows : (net : Net) (last : ℕ) (row reading most : ℕ → ℕ → ℕ) → AreNumbers net → IsHistory net last row reading most → (s t u : ℕ) → 1 ≤ s
    → t < last → u < net.nodes → IsFair net row t u
    → MeetsFastCondition net.nodes (Adjacent net) (λ a b. (2 * s - 1) * net.kappa a b) (row (suc t)) u → row t u + net.rate.lo + q_of net.rate ≤ row (suc t) u
behind_grows net last row reading most numbers h s t u one ht hu fair behind =
    let grows = history_grows net last row reading most h in
    let d = h.steers t u ht hu in
    let seen = sights_are_seen net last row reading grows t u d.when d.sights ht hu (fair d.when d.recent) d.before d.recent d.count d.sees in
    let margins = seen_have_margins net (row (suc t)) u (row d.when u) d.sights numbers seen in
    let fast : d.mode ≡ Fast = d.decided ∙ fast_by_trigger (iota_of net) d.m (row d.when u) s d.sights margins one
    (behind_is_fast net (row (suc t)) u (row d.when u) s d.sights seen behind) in
    (steered net last row reading most h t u ht hu d).fast fast

-- and one in the slow condition was slow
pub ahead_grows : (net : Net) (last : ℕ) (row reading most : ℕ → ℕ → ℕ) → AreNumbers net → IsHistory net last row reading most → (s t w : ℕ) → 1 ≤ s
    → t < last → w < net.nodes → IsFair net row t w
    → MeetsSlowCondition net.nodes (Adjacent net) (λ a b. 2 * s * net.kappa a b) (row (suc t)) w → row (suc t) w ≤ row t w + (net.rate.lo + r_of net.rate)
ahead_grows net last row reading most numbers h s t w one ht hw fair ahead =
    let grows = history_grows net last row reading most h in
    let d = h.steers t w ht hw in
    let seen = sights_are_seen net last row reading grows t w d.when d.sights ht hw (fair d.when d.recent) d.before d.recent d.count d.sees in
    let margins = seen_have_margins net (row (suc t)) w (row d.when w) d.sights numbers seen in
    let slow : d.mode ≡ Slow = d.decided ∙ slow_by_trigger (iota_of net) d.m (row d.when w) s d.sights margins one
    (ahead_is_slow net (row (suc t)) w (row d.when w) s d.sights seen ahead) in
    let grown = (steered net last row reading most h t w ht hw d).slow slow in
    omega (arith, grown, net.rate.accepted.above)

-- The clocks of a history from equal clocks are rows that the two triggers steer.
pub history_is_rows : (net : Net) (last : ℕ) (row reading most : ℕ → ℕ → ℕ) → AreNumbers net → IsHistory net last row reading most → IsEqual net row
    → AreRows net.nodes last (Adjacent net) net.kappa row net.rate.lo (r_of net.rate) (q_of net.rate) (skew_of net)
history_is_rows net last row reading most numbers h equal =
    let grows = history_grows net last row reading most h in
    record {
      equal = equal;
      steered = record {
        grows = λ t u ht hu. grows.row_least u t hu ht;
        fast = λ s t u one ht hu behind. behind_grows net last row reading most numbers h s t u one ht hu (λ when recent early x hx. equal u x hu hx) behind;
        slow = λ s t w one ht hw ahead. ahead_grows net last row reading most numbers h s t w one ht hw (λ when recent early x hx. equal w x hw hx) ahead;
      };
      skews = λ t v w ht hv hw. global_skew net last row reading most numbers h equal t v w ht hv hw;
    }

-- the least sums of kappas are weights
pub net_weighs : (net : Net) → AreNumbers net → Weighs net.nodes (Adjacent net) net.kappa net.weight
net_weighs net numbers =
    least_sums_weigh net.nodes net.adjacent net.kappa net.weight (record { both_ways = numbers.both_ways; same_length = numbers.same_kappa; least = numbers.weights })

-- So each level keeps its bound at the end of each quantum.
pub history_keeps_levels : (net : Net) (last : ℕ) (row reading most : ℕ → ℕ → ℕ) → AreNumbers net → IsHistory net last row reading most
    → IsEqual net row
    → (s t v w : ℕ) → t ≤ last → v < net.nodes → w < net.nodes → row t w ≤ row t v + 2 * s * net.weight v w + level_of net s
history_keeps_levels net last row reading most numbers h equal s t v w ht hv hw =
    keeps_bound net.nodes last (Adjacent net) net.kappa net.weight row net.rate.lo (r_of net.rate) (q_of net.rate) (skew_of net)
    (history_is_rows net last row reading most numbers h equal) (net_weighs net numbers)
    (omega (arith, net.rate.accepted.above)) (let strong = numbers.strong in omega (arith, strong)) s t v ht hv w hw

-- The ends of an edge weigh at most its kappa.
pub history_keeps_edges : (net : Net) (last : ℕ) (row reading most : ℕ → ℕ → ℕ) → AreNumbers net → IsHistory net last row reading most
    → IsEqual net row
    → (s t v w : ℕ) → t ≤ last → v < net.nodes → w < net.nodes → Adjacent net v w → row t w ≤ row t v + 2 * s * net.kappa v w + level_of net s
history_keeps_edges net last row reading most numbers h equal s t v w ht hv hw next =
    (edges_keep_bound net.nodes last (Adjacent net) net.kappa net.weight row s (level_of net s) (net_weighs net numbers)
    (λ t v ht hv w hw. history_keeps_levels net last row reading most numbers h equal s t v w ht hv hw) t v w ht hv hw next).0
