-- What the words PLAN and SCRIPT name: the number of a built-in input, or a file.
use Rattle.std.specs.Prelude.{◌≡◌, ℕ, ◌<◌, ◌≤◌, ◌⊎◌, ◌&&◌, Bool, true, false, List, ◌++◌, Option, Some, IfSome, IsSomeAnd}
use Rattle.std.specs.Prelude.{codes, length, take, drop}
use Rattle.std.specs.Str.{bytes_eq}
use Rattle.gs_io.specs.Causes.{Rose}
use Rattle.gs_cli.specs.Answers.{Answer, line}
use Rattle.gs_inputs.specs.declared.source.Kind.{Kind}
use Rattle.gs_inputs.specs.declared.source.Kind.TheVariants.{Plan, Script}
use Rattle.gs_cli.specs.declared.status.Status.TheVariants as status

-- The files as a run saw them: what they hold, where they tell it, and the count of faults of each name before and
-- after.
pub record FilesSeen : Type 0 where
  pub content : Option (List ℕ → Option (List ℕ))
  pub before : List ℕ → ℕ
  pub after : List ℕ → ℕ

abbrev pub seen : Option (List ℕ → Option (List ℕ)) → (List ℕ → ℕ) → (List ℕ → ℕ) → FilesSeen
seen content before after = record { content = content; before = before; after = after }

-- how the words of built-in inputs begin
abbrev pub prefix_of : Kind → List ℕ
prefix_of Plan = codes "base:"
prefix_of Script = codes "steady:"

-- the word names a built-in input
abbrev pub is_built_in : Kind → List ℕ → Bool
is_built_in kind word = bytes_eq (take (length (prefix_of kind)) word) (prefix_of kind)

-- a word PLAN and a word SCRIPT name no file
abbrev pub are_built_in : List ℕ → List ℕ → Bool
are_built_in plan script = is_built_in Plan plan && is_built_in Script script

-- the file of this name has these bytes, where files tell what they hold, and at most so many
abbrev pub IsFile : ℕ → FilesSeen → List ℕ → List ℕ → Type 0
IsFile most files name bytes = IfSome files.content (λ told. told name ≡ Some bytes) × (length bytes ≤ most)

-- it has more, where they tell
abbrev pub IsTooLong : ℕ → FilesSeen → List ℕ → Type 0
IsTooLong most files name = IfSome files.content (λ told. IsSomeAnd (told name) (λ bytes. most < length bytes))

-- the reading of this name failed
abbrev pub HasFailed : FilesSeen → List ℕ → Type 0
HasFailed files name = Rose (files.before name) (files.after name)

-- the answer to a file that is too long, or could not be read
abbrev pub IsFault : ℕ → FilesSeen → List ℕ → Answer → Type 0
IsFault most files name answer =
    (IsTooLong most files name × (answer ≡ line status.TooLong (codes "too long: " ++ name)))
    ⊎ (HasFailed files name × (answer ≡ line status.ReadFault (codes "read failed: " ++ name)))

-- An input that was read: the text after the prefix, or the bytes of a file.
pub data Source : Type 0 where
  Count : List ℕ → Source
  Text : List ℕ → Source

-- A word was read as this.
abbrev pub IsRead : FilesSeen → Kind → List ℕ → Source → Type 0
IsRead files kind word (Count count) =
    (is_built_in kind word ≡ true) × (count ≡ drop (length (prefix_of kind)) word)
IsRead files kind word (Text bytes) = (is_built_in kind word ≡ false) × IsFile 1048576 files word bytes

-- A word was not read, and this answers it.
abbrev pub IsUnread : FilesSeen → Kind → List ℕ → Answer → Type 0
IsUnread files kind word answer = (is_built_in kind word ≡ false) × IsFault 1048576 files word answer
