-- A beacon has one spelling, which is its bytes, and bytes without a fault are one.
use Rattle.std.specs.Prelude.{◌≡◌, ℕ, List, None}
pub use Rattle.gs_beacon.specs.Numbers.{AreBytes}
use Rattle.gs_beacon.specs.Beacons.{IsBeacon, FitsFields, Spells, bytes_of, beacon_at, fault_of}
use Rattle.gs_beacon.specs.declared.beacon.Beacon.{Beacon}

-- no two lists of bytes spell the same beacon
abbrev pub HasOneSpelling : Type 0
HasOneSpelling = (b : Beacon) (xs ys : List ℕ) → AreBytes xs → AreBytes ys → Spells b xs → Spells b ys → xs ≡ ys

-- no bytes spell two beacons
abbrev pub SpellsOneBeacon : Type 0
SpellsOneBeacon = (b c : Beacon) (bytes : List ℕ) → Spells b bytes → Spells c bytes → b ≡ c

-- the bytes of a beacon spell it
abbrev pub BytesSpell : Type 0
BytesSpell = (b : Beacon) → IsBeacon b → FitsFields b → Spells b (bytes_of b)

-- and no other bytes do
abbrev pub SpellingIsBytes : Type 0
SpellingIsBytes = (b : Beacon) (bytes : List ℕ) → AreBytes bytes → Spells b bytes → bytes ≡ bytes_of b

-- bytes without a fault spell the beacon that their fields name
abbrev pub FaultlessSpells : Type 0
FaultlessSpells = (bytes : List ℕ) → fault_of bytes ≡ None → Spells (beacon_at bytes) bytes

-- what spells a beacon has no fault
abbrev pub SpellingIsFaultless : Type 0
SpellingIsFaultless = (b : Beacon) (bytes : List ℕ) → Spells b bytes → fault_of bytes ≡ None
