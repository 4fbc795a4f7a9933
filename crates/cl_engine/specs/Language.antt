-- The commands of a program: which words spell one, which files it needs, what it comes to, and the steps that it takes.
use Rattle.std.specs.Prelude.{◌≡◌, ◌⊎◌, ℕ, ◌≤◌, ◌<◌, List, [], length, Option, Some, None}
use Rattle.cl_engine.specs.{declared.{files.Files.Files, outcome.Outcome.Outcome, status.TheConstants.DONE}, Content.Content, Files.{File, files_named, files_limited, file_count}}

-- all that is to be known of the commands
pub record Language (C : Type 0) : Type 1 where
  -- the command that words spell
  pub spelled : List (List ℕ) → Option C
  -- the files that it needs
  pub files : C → Files
  -- what it comes to, where its files hold this
  pub comes_to : C → Content → Outcome → Type 0
  -- the steps before and after it, where its files hold this
  pub takes : C → Content → (before after : ℕ) → Type 0

-- some words spell the command
pub record IsSpelled {C : Type 0} (language : Language C) (asked : C) : Type 0 where
  pub words : List (List ℕ)
  pub spells : language.spelled words ≡ Some asked

-- the words have one for each file that the command needs, behind the verb
abbrev pub HasFileWords : {C : Type 0} → Language C → (words : List (List ℕ)) → C → Type 0
HasFileWords language words asked = file_count (language.files asked) < length words

-- the files of a command, in the order in which they are fetched, and none of words that are no command
abbrev pub files_asked : {C : Type 0} → Language C → Option C → List File
files_asked language None = []
files_asked language (Some asked) = files_named (language.files asked)

-- the files of what words spell
abbrev pub files_of : {C : Type 0} → Language C → (words : List (List ℕ)) → List File
files_of language words = files_asked language (language.spelled words)

-- the same, by each length past which one is too long
abbrev pub limited_asked : {C : Type 0} → Language C → Option C → List File
limited_asked language None = []
limited_asked language (Some asked) = files_limited (language.files asked)

abbrev pub limited_of : {C : Type 0} → Language C → (words : List (List ℕ)) → List File
limited_of language words = limited_asked language (language.spelled words)

-- ---- the statuses of a command's own

-- a status of what the files hold: neither of the words, nor of a fetch, nor of the model, nor of a call that failed
abbrev pub IsOfContent : (status : ℕ) → Type 0
IsOfContent status = (status ≡ DONE) ⊎ (((6 ≤ status) × (status ≤ 8)) ⊎ (13 ≤ status))
