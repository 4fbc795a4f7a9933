-- The parts of a text between separators, and what is read of them, one after another.
use Rattle.std.specs.Prelude.{◌≡◌, ℕ, ◌==◌, Option, Some, None, Result, Ok, Err, List, [], ◌∷◌}
use Rattle.std.specs.List.{slice_split}
use denote.Bor.{Bor}
use Rattle.cl_edit.specs.declared.fault.Unread.{Unread, TheVariants.{Bad, NoMemory}}

-- the parts of a text between separators
unfoldable pub parts : (separator : ℕ) → (text : List ℕ) → List (List ℕ)
parts separator text = slice_split (λ byte. byte == separator) text

-- those of what is left of a text, where something is
abbrev pub parts_left : (separator : ℕ) → Option (Bor (List ℕ)) → List (List ℕ)
parts_left separator None = []
parts_left separator (Some left) = parts separator left.now

-- what is read, with the words that are left
abbrev pub with_left : {X : Type 0} → List (List ℕ) → Option X → Option (X × List (List ℕ))
with_left words None = None
with_left words (Some x) = Some (x, words)

-- the first word, read so
abbrev pub first_read : {X : Type 0} → (List ℕ → Option X) → List (List ℕ) → Option (X × List (List ℕ))
first_read read [] = None
first_read read (word ∷ words) = with_left words (read word)

-- what is read of the words that something else left
abbrev pub then_read : {X Y : Type 0} → Option (X × List (List ℕ)) → (X → List (List ℕ) → Option Y) → Option Y
then_read None next = None
then_read (Some read) next = next read.0 read.1

-- a value, where no word is left
abbrev pub if_done : {X : Type 0} → X → List (List ℕ) → Option X
if_done x [] = Some x
if_done x (word ∷ words) = None

-- the answer to a word: what is read, or that it can't be read; or want of memory
abbrev pub ReadsPart : {X : Type 0} → Result X Unread → Option X → Type 0
ReadsPart (Ok x) meaning = meaning ≡ Some x
ReadsPart (Err Bad) meaning = meaning ≡ None
ReadsPart (Err NoMemory) meaning = Unit {0}

-- the same of words, of which some are left
abbrev pub ReadsUpTo : {X : Type 0} → Result X Unread → List (List ℕ) → Option (X × List (List ℕ)) → Type 0
ReadsUpTo (Ok x) left meaning = meaning ≡ Some (x, left)
ReadsUpTo (Err Bad) left meaning = meaning ≡ None
ReadsUpTo (Err NoMemory) left meaning = Unit {0}
