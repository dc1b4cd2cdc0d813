-- What a beacon is, and what its 40 bytes are.
use Rattle.std.specs.Prelude.{◌≡◌, ℕ, codes, ◌++◌, ◌^◌, ◌<◌, ◌≤◌, ◌==◌, not, nat_lt, nat_le, List, [], ◌∷◌, length, Option}
use Rattle.std.specs.Bool.{then_some}
use Rattle.byteorder.specs.Endian.{big_bytes, big_number}
use Rattle.gs_units.specs.FirstFault.{first_some}
pub use Rattle.gs_beacon.specs.Numbers.{number_at}
use Rattle.gs_beacon.specs.declared.beacon.Beacon.{Beacon}
use Rattle.gs_beacon.specs.declared.beacon.BeaconFault.{BeaconFault}
use Rattle.gs_beacon.specs.declared.beacon.BeaconFault.TheVariants.{Length, Magic, Zero, Sequence, Order, Far}

-- a beacon that a node may send
pub record IsBeacon (b : Beacon) : Type 0 where
  pub sequence : 1 ≤ b.seq
  pub order : b.l ≤ b.m
  pub near : b.m < 2 ^ 62

-- the numbers of a beacon fit their fields, as those of every `Beacon` in the code do
pub record FitsFields (b : Beacon) : Type 0 where
  pub cluster : b.cluster < 2 ^ 32
  pub sender : b.sender < 2 ^ 32
  pub seq : b.seq < 2 ^ 64

-- the number that "GCS1" spells
abbrev pub magic : ℕ
magic = big_number 4 (codes "GCS1")

-- The bytes of a beacon, field by field: the first 16 tell what it is and who sends it,
abbrev pub head_bytes : Beacon → List ℕ
head_bytes b = big_bytes 4 magic ++ (big_bytes 4 b.cluster ++ (big_bytes 4 b.sender ++ big_bytes 4 0))

-- and the last 24 are its sequence, its clock and its maximum.
abbrev pub number_bytes : Beacon → List ℕ
number_bytes b = big_bytes 8 b.seq ++ (big_bytes 8 b.l ++ big_bytes 8 b.m)

-- all 40
unfoldable pub bytes_of : Beacon → List ℕ
bytes_of b = head_bytes b ++ number_bytes b

-- The fields of a beacon's 40 bytes: bytes 0 to 3, which are "GCS1";
abbrev pub magic_of : List ℕ → ℕ
magic_of bytes = number_at 0 4 bytes

-- bytes 4 to 7, the cluster;
abbrev pub cluster_of : List ℕ → ℕ
cluster_of bytes = number_at 4 4 bytes

-- bytes 8 to 11, the sender;
abbrev pub sender_of : List ℕ → ℕ
sender_of bytes = number_at 8 4 bytes

-- bytes 12 to 15, which are 0;
abbrev pub zero_of : List ℕ → ℕ
zero_of bytes = number_at 12 4 bytes

-- bytes 16 to 23, the sequence;
abbrev pub seq_of : List ℕ → ℕ
seq_of bytes = number_at 16 8 bytes

-- bytes 24 to 31, the clock;
abbrev pub l_of : List ℕ → ℕ
l_of bytes = number_at 24 8 bytes

-- bytes 32 to 39, the maximum.
abbrev pub m_of : List ℕ → ℕ
m_of bytes = number_at 32 8 bytes

-- the beacon that the fields name
abbrev pub beacon_at : List ℕ → Beacon
beacon_at bytes = record {
  cluster = cluster_of bytes;
  sender = sender_of bytes;
  seq = seq_of bytes;
  l = l_of bytes;
  m = m_of bytes;
}

-- the bytes are those of this beacon, field by field
pub record Spells (b : Beacon) (bytes : List ℕ) : Type 0 where
  pub valid : IsBeacon b
  pub count : length bytes ≡ 40
  pub tag : magic_of bytes ≡ magic
  pub cluster : cluster_of bytes ≡ b.cluster
  pub sender : sender_of bytes ≡ b.sender
  pub zeros : zero_of bytes ≡ 0
  pub seq : seq_of bytes ≡ b.seq
  pub l : l_of bytes ≡ b.l
  pub m : m_of bytes ≡ b.m

-- the first thing that keeps bytes from spelling a beacon
abbrev pub fault_of : List ℕ → Option BeaconFault
fault_of bytes = first_some (
    then_some (not (length bytes == 40)) Length
    ∷ then_some (not (magic_of bytes == magic)) Magic
    ∷ then_some (not (zero_of bytes == 0)) Zero
    ∷ then_some (seq_of bytes == 0) Sequence
    ∷ then_some (nat_lt (m_of bytes) (l_of bytes)) Order
    ∷ then_some (nat_le (2 ^ 62) (m_of bytes)) Far
    ∷ [])
