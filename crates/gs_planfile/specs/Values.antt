-- What the value at a key means. `Missing` comes before `Kind`, and `Kind` before `Range`; each names the key.
use Rattle.std.specs.Prelude.{ℕ, pos, negsuc, ◌^◌, ◌==◌, Option, Some, None, Result, Ok, Err, nat_lt, if◌then◌else◌}
use Rattle.toml.specs.Data.{Data, Members, get_member, integer}
use Rattle.gs_planfile.specs.declared.key.Key.{Key}
use Rattle.gs_planfile.specs.declared.key.Key.TheVariants as key
use Rattle.gs_planfile.specs.declared.key.PlanFileFault.{PlanFileFault}
use Rattle.gs_planfile.specs.declared.key.PlanFileFault.TheVariants.{Missing, Kind, Range}
use Rattle.gs_planfile.specs.declared.text.Version.{Version}
use Rattle.gs_planfile.specs.declared.text.Version.TheVariants as version
use Rattle.gs_planfile.specs.Keys.{key_name}

-- what is read after a step that found no fault
infixl 10 ◌>>=◌
abbrev pub ◌>>=◌ : {A B : Type 0} → Result A PlanFileFault → (A → Result B PlanFileFault) → Result B PlanFileFault
(Ok x) >>= next = next x
(Err e) >>= next = Err e

-- a number: an integer from 0 to 2^32 - 1
abbrev pub number_of : Key → Data → Result ℕ PlanFileFault
number_of k (integer (pos n)) = if nat_lt n (2 ^ 32) then Ok n else Err (Range k)
number_of k (integer (negsuc n)) = Err (Range k)
number_of k _ = Err (Kind k)

-- a kappa: an integer from 0 to 2^62 - 1
abbrev pub kappa_of : Key → Data → Result ℕ PlanFileFault
kappa_of k (integer (pos n)) = if nat_lt n (2 ^ 62) then Ok n else Err (Range k)
kappa_of k (integer (negsuc n)) = Err (Range k)
kappa_of k _ = Err (Kind k)

-- a version: the integer 1 or 2
abbrev pub version_of : Data → Result Version PlanFileFault
version_of (integer (pos n)) =
    if n == 1 then Ok version.One else if n == 2 then Ok version.Two else Err (Range key.Version)
version_of (integer (negsuc n)) = Err (Range key.Version)
version_of _ = Err (Kind key.Version)

-- a kappa that may be left out
abbrev pub optional_kappa : Key → Option Data → Result (Option ℕ) PlanFileFault
optional_kappa k None = Ok None
optional_kappa k (Some d) = kappa_of k d >>= (λ kappa. Ok (Some kappa))

-- the value at a key, where the key stands
abbrev pub value_at : Key → Members → Option Data
value_at k ms = get_member (key_name k) ms

-- what is read where the key stands, and is missing where it does not
abbrev pub needed : {A : Type 0} → Key → (Data → Result A PlanFileFault) → Option Data → Result A PlanFileFault
needed k read None = Err (Missing k)
needed k read (Some d) = read d

-- what is read where the key stands, and is this where it does not
abbrev pub optional : {A : Type 0} → A → (Data → Result A PlanFileFault) → Option Data → Result A PlanFileFault
optional otherwise read None = Ok otherwise
optional otherwise read (Some d) = read d

-- the number at a key that is needed
abbrev pub number_at : Key → Members → Result ℕ PlanFileFault
number_at k ms = needed k (number_of k) (value_at k ms)

-- the number at a key that may be left out
abbrev pub number_or : ℕ → Key → Members → Result ℕ PlanFileFault
number_or otherwise k ms = optional otherwise (number_of k) (value_at k ms)

-- the version, which is needed, and the kappa, which is not
abbrev pub version_at : Members → Result Version PlanFileFault
version_at ms = needed key.Version version_of (value_at key.Version ms)

abbrev pub kappa_at : Members → Result (Option ℕ) PlanFileFault
kappa_at ms = optional_kappa key.Kappa (value_at key.Kappa ms)
