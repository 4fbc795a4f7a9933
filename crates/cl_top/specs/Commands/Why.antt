-- `why MODEL WHAT NAME`: why what is asked of is answered or bounded as `verify` says.
use Rattle.std.specs.Prelude.{◌≡◌, ℕ, List, Option, Some, None}
use Rattle.cl_model.specs.{declared.model.SystemModel.SystemModel, Named.index_of}
use Rattle.cl_why.specs.{Reasons.{IsWhyOfTask, IsWhyOfChain, IsWhyOfRequirement}, Promises.AreSafeReasons}
use Rattle.cl_engine.specs.{declared.outcome.Outcome.Outcome, Done.IsDone}
use Rattle.cl_top.specs.{declared.subject.What.{What, TheVariants.{Response, Bound, Requirement}}, Subject.names_asked, Commands.Witness.name_unknown, Meaning.{Meaning, on_model, at_most, task_steps, promises, of_one_model}}

-- the text of why, of what has this number
abbrev pub IsWhyOf : What → SystemModel → (number : ℕ) → (text : List ℕ) → Type 0
IsWhyOf Response model number text = IsWhyOfTask model number text
IsWhyOf (Bound kind) model number text = IsWhyOfChain model number kind text
IsWhyOf Requirement model number text = IsWhyOfRequirement model number text

-- the outcome of a name that has this number, or none
abbrev pub IsWhyBy : What → (name : List ℕ) → SystemModel → (number : Option ℕ) → Outcome → Type 0
IsWhyBy what name model (Some number) found = IsDone (IsWhyOf what model number) found
IsWhyBy what name model None found = found ≡ name_unknown what name

-- the outcome of `why` for a valid model
abbrev pub IsReasoned : What → (name : List ℕ) → SystemModel → Outcome → Type 0
IsReasoned what name model found = IsWhyBy what name model (index_of name (names_asked what model)) found

-- a text of it: it is why of what has that name, and its numbers add up
pub record IsSafeWhy (what : What) (name : List ℕ) (model : SystemModel) (text : List ℕ) : Type 0 where
  pub number : ℕ
  pub named : index_of name (names_asked what model) ≡ Some number
  pub is_why : IsWhyOf what model number text
  pub safe : AreSafeReasons model

-- what `why` means
abbrev pub reasoning : What → (name : List ℕ) → Meaning
reasoning what name = record {
  comes_to = on_model (IsReasoned what name);
  takes = at_most task_steps;
  safe = promises (IsSafeWhy what name);
  same = of_one_model (IsReasoned what name);
}
