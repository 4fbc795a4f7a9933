-- Which edits a text lists, and which line of a text is the first bad one.
use Rattle.std.specs.Prelude.{◌≡◌, ℕ, ◌≤◌, ◌⊎◌, Bool, true, false, List, [], ◌∷◌, ◌++◌, length, map, All}
use Rattle.std.specs.List.{count_by}
use Rattle.cl_model.specs.{Name.IsName, AreNamed.{IsTaskNamed, IsChainNamed, IsRequirementNamed}, NameSets.AreDistinctNames}
use Rattle.cl_edit.specs.declared.{limits.TheConstants.{MOST_EDITS, MOST_REPORTS}, edit.{NamedPriority.NamedPriority, Edit.{Edit, TheVariants.{Range, Whole, Period, Offset, Jitter, Distances, Burst, Deadline, Swap, Priorities, Move, Kind, AddTask, DropTask, AddChain, DropChain}}}}
use Rattle.cl_edit.specs.{declared.{edit.Edit.TheVariants.{Requirement, DropRequirement, Report, Tighten, Verify}, edit_lines.ListedEdit.ListedEdit, version.Version.{Version, TheVariants.{One, Two}}}, Ranges.IsEditInRange, Lines.edit_text, Said.{Said, said_from, IsTitled}}

-- ---- which edits have a line

-- the names in an edit are of the name grammar
abbrev pub IsEditNamed : Edit → Type 0
IsEditNamed (Range runnable least greatest) = IsName runnable
IsEditNamed (Whole runnable whole) = IsName runnable
IsEditNamed (Period stimulus period) = IsName stimulus
IsEditNamed (Offset stimulus offset) = IsName stimulus
IsEditNamed (Jitter stimulus jitter) = IsName stimulus
IsEditNamed (Distances stimulus least greatest) = IsName stimulus
IsEditNamed (Burst stimulus period count distance) = IsName stimulus
IsEditNamed (Deadline task deadline) = IsName task
IsEditNamed (Swap one other) = IsName one × IsName other
IsEditNamed (Priorities priorities) = All (λ p. IsName p.task) priorities
IsEditNamed (Move task core priority) = IsName task × IsName core
IsEditNamed (Kind task access) = IsName task
IsEditNamed (AddTask task) = IsTaskNamed task
IsEditNamed (DropTask task) = IsName task
IsEditNamed (AddChain chain) = IsChainNamed chain
IsEditNamed (DropChain chain) = IsName chain
IsEditNamed (Requirement requirement) = IsRequirementNamed requirement
IsEditNamed (DropRequirement requirement) = IsName requirement
IsEditNamed Report = Unit {0}
IsEditNamed Tighten = Unit {0}
IsEditNamed Verify = Unit {0}

-- whether version 2 adds the kind of edit
abbrev pub is_later : Edit → Bool
is_later (Priorities priorities) = true
is_later (Requirement requirement) = true
is_later (DropRequirement requirement) = true
is_later Tighten = true
is_later Verify = true
is_later edit = false

-- a new task has a runnable, and none of its runnables is whole; at least one task gets a priority, and none stands twice:
-- the words of a line can't say otherwise
abbrev pub IsSayable : Edit → Type 0
IsSayable (AddTask task) = (1 ≤ length task.runnables) × All (λ r. r.whole ≡ false) task.runnables
IsSayable (Priorities priorities) = (1 ≤ length priorities) × AreDistinctNames (map (λ (p : NamedPriority). p.task) priorities)
IsSayable edit = Unit {0}

-- a version has this kind of edit
abbrev pub HasKind : Version → Edit → Type 0
HasKind One edit = is_later edit ≡ false
HasKind Two edit = Unit {0}

-- an edit may be a line of a version
pub record IsLineEdit (version : Version) (edit : Edit) : Type 0 where
  pub in_range : IsEditInRange edit
  pub named : IsEditNamed edit
  pub sayable : IsSayable edit
  pub kind : HasKind version edit

-- ---- which lists of edits have a text

-- an edit that changes nothing, for which something is written
abbrev pub writes_text : Edit → Bool
writes_text Report = true
writes_text Tighten = true
writes_text Verify = true
writes_text edit = false

-- edits that may be lines of a version, and few enough of them; those for which something is written are among those that are counted
pub record MayBeListed (version : Version) (edits : List Edit) : Type 0 where
  pub lines : All (IsLineEdit version) edits
  pub few : length edits ≤ MOST_EDITS
  pub few_written : count_by writes_text edits ≤ MOST_REPORTS

-- the edits that are listed, without their lines
abbrev pub edits_of : List ListedEdit → List Edit
edits_of listed = map (λ (one : ListedEdit). one.edit) listed

-- what the line of an edit says
abbrev pub said_of : ListedEdit → Said
said_of listed = record { line = listed.line; text = edit_text listed.edit }

-- ---- the answers to a text

-- the text lists these edits: behind its title, what its lines say is one edit each
pub record AreEditsOf (text : List ℕ) (listed : List ListedEdit) : Type 0 where
  pub version : Version
  pub others : List (List ℕ)
  pub titled : IsTitled version text others
  pub said : said_from version 2 others ≡ map said_of listed
  pub may : MayBeListed version (edits_of listed)

-- the first line is no title
pub record LacksTitle (text : List ℕ) (number : ℕ) : Type 0 where
  pub none : (version : Version) (others : List (List ℕ)) → IsTitled version text others → ⊥
  pub counted : number ≡ 1

-- behind lines of edits stands one that isn't the line of an edit which may be listed below them: it is outside the grammar, or one too many
pub record LacksEdit (text : List ℕ) (number : ℕ) : Type 0 where
  pub version : Version
  pub others : List (List ℕ)
  pub titled : IsTitled version text others
  pub listed : List ListedEdit
  pub bad : Said
  pub behind : List Said
  pub said : said_from version 2 others ≡ map said_of listed ++ bad ∷ behind
  pub may : MayBeListed version (edits_of listed)
  pub none : (edit : Edit) → bad.text ≡ edit_text edit → ¬ MayBeListed version (edits_of listed ++ edit ∷ [])
  pub counted : number ≡ bad.line

-- the first bad line of the text has that number, counted from 1: it isn't the title, or it is no edit, or one too many
abbrev pub IsBadEditLine : (text : List ℕ) → (number : ℕ) → Type 0
IsBadEditLine text number = LacksTitle text number ⊎ LacksEdit text number
