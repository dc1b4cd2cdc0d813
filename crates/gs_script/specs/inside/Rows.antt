-- What csv refuses where records may differ in length and need not be UTF-8: for private functions alone.
use Rattle.csv.specs.declared.error.ErrorKind.{ErrorKind}
use Rattle.csv.specs.declared.error.ErrorKind.TheVariants as kind

-- memory, or the source, which a slice is
abbrev pub IsMemory : ErrorKind → Type 0
IsMemory (kind.Io e) = Unit {0}
IsMemory kind.OutOfMemory = Unit {0}
IsMemory (kind.UnequalLengths pos expected len) = ⊥
IsMemory (kind.Utf8 pos err) = ⊥
IsMemory (kind.Serialize why) = ⊥
IsMemory (kind.Deserialize pos err) = ⊥
