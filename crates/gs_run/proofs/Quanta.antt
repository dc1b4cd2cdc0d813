-- A quantum keeps the dates.
use Rattle.std.proofs.Common.{◌≡◌, ℕ, suc, ◌+◌, ◌-◌, ◌*◌, ◌≤◌, inl, inr, arith, List, slice_index}
use Rattle.std.proofs.Math.Nat.{mul-add}
use Rattle.std.proofs.lemmas.List.Elements.{All-weaker}
use Rattle.gs_units.specs.Growth.{IsIncrement}
use Rattle.gs_units.specs.Rates.{g_of}
use Rattle.gs_maximum.specs.Maximum.{heard_of}
use Rattle.gs_maximum.proofs.Creeping.{heard_creeps}
use Rattle.gs_core.specs.Node.{Decision}
use Rattle.gs_run.specs.Net.{Net}
use Rattle.gs_run.specs.World.{World, Member, member, advanced}
use Rattle.gs_run.proofs.Keeping.{world_at, MayGoOn}
use Rattle.gs_run.proofs.Current.{IsCurrent, advance_current}
use Rattle.gs_run.proofs.Dates.{IsSent, IsDated}

-- ---- a quantum

-- what was heard creeps on
heard_on : (net : Net) (total : List World) (t v h : ℕ) (m : Member) → IsIncrement net.rate h
    → IsCurrent net total t v m
    → heard_of net.rate m.node.max m.reading + g_of net.rate ≤ heard_of net.rate m.node.max (m.reading + h)
heard_on net total t v h m inc c =
    let base_at = c.base_at in
    let creeps = heard_creeps net.rate m.node.max m.reading (m.reading + h) 1 base_at (omega (arith, inc)) in
    omega (arith, creeps)

one_more : (g n : ℕ) → g * (n + 1) ≡ g * n + g
one_more g n = let p : g * (n + 1) ≡ g * n + g * 1 = mul-add g n 1 in omega (arith, p)

pub advance_dated : (net : Net) (total : List World) (t v h : ℕ) (m : Member) (d : Decision) → IsIncrement net.rate h
    → MayGoOn net t m → member (world_at total (suc t)) v ≡ advanced m h
    → IsDated net total t v m d → IsDated net total (suc t) v (advanced m h) d
advance_dated net total t v h m d inc may row k = record {
  current = advance_current net total t v h m k.current row;
  last = let l = k.last in omega (arith, l);
  decided =
      let e = k.decided in
      record {
        before = omega (arith, e.before);
        l = e.l;
        at = e.at;
        mode = e.mode;
        count = e.count;
        sees = e.sees;
        told = e.told;
        own = e.own;
        reached = e.reached;
      };
  entries = k.entries;
  heard = k.heard;
  entry = λ i hi.
      let e = k.entry i hi in
      let recent = may.heard i (rw k.heard hi) in
      record { heard = e.heard; before = e.before; until = omega (arith, e.until); recent = recent; from = e.from; at = e.at };
  base = let b = k.base in record { set = b.set; before = omega (arith, b.before); at = b.at; reached = b.reached };
  since =
      let old = k.since in
      let grown = heard_on net total t v h m inc k.current in
      let later : suc t ≡ t + 1 = omega arith in
      let product = one_more (g_of net.rate) t in
      rw later (omega (arith, old, grown, product));
  hears = λ i hi. elim (k.hears i hi) [
    | inl old ↦
        let e = k.entry i hi in
        let grown = heard_on net total t v h m inc k.current in
        let later : suc t - slice_index m.heard i ≡ t - slice_index m.heard i + 1 = omega (arith, e.before, e.until) in
        let product = one_more (g_of net.rate) (t - slice_index m.heard i) in
        inl (rw later (omega (arith, old, grown, product)))
    | inr start ↦ inr start
  ];
  numbered = k.numbered;
  sent = All-weaker (IsSent net total t v) (IsSent net total (suc t) v)
      (λ s e. record {
        cluster = e.cluster;
        sender = e.sender;
        before = omega (arith, e.before);
        l = e.l;
        most = e.most;
        reached = e.reached;
      })
      m.sent k.sent;
}
