-- How far the greatest execution times of a model may grow until something breaks that is met, and what breaks first.
use Rattle.std.specs.Prelude.{◌≡◌, ℕ, ◌+◌, ◌<◌, ◌≤◌, Bool, true, false, not, List, length, slice_index_or, Option, Some, None}
use Rattle.cl_model.specs.{declared.model.SystemModel.SystemModel, Ranges.IsInRange}
use Rattle.cl_bound.specs.Answers.{answer_at, is_late}
use Rattle.cl_analyse.specs.Verdicts.{verdict_at, is_met}
use Rattle.cl_tight.specs.{declared.findings.TightFindings.TightFindings, TightFindings.tight_findings_of}
use Rattle.cl_scale.specs.declared.percent.TheConstants.{MOST_PERCENT}
use Rattle.cl_margin.specs.{declared.{answer.{Breaks.{Breaks, TheVariants.{Task, Requirement, Limit}}, Margin.Margin, Margins.Margins}, whose.Whose.{Whose, TheVariants.{EveryTask, OneTask}}}, Grown.grown}

-- ---- what is met

-- a task is met where it isn't late
abbrev pub is_met_task : TightFindings → (task : ℕ) → Bool
is_met_task findings task = not (is_late (answer_at findings.tasks task))

-- a requirement is met by its bound
abbrev pub is_met_requirement : TightFindings → (requirement : ℕ) → Bool
is_met_requirement findings requirement = is_met (verdict_at findings.verdicts requirement)

-- each task that is met in a model is met in another
abbrev pub KeepsTasks : (model other : SystemModel) → Type 0
KeepsTasks model other = (task : ℕ) → task < length model.tasks
    → is_met_task (tight_findings_of model) task ≡ true → is_met_task (tight_findings_of other) task ≡ true

-- each requirement that is met in a model is met in another
abbrev pub KeepsRequirements : (model other : SystemModel) → Type 0
KeepsRequirements model other = (requirement : ℕ) → requirement < length model.requirements
    → is_met_requirement (tight_findings_of model) requirement ≡ true → is_met_requirement (tight_findings_of other) requirement ≡ true

-- another model is in range, and what is met in the one is met there
pub record KeepsMet (model other : SystemModel) : Type 0 where
  pub in_range : IsInRange other
  pub tasks : KeepsTasks model other
  pub requirements : KeepsRequirements model other

-- ---- what breaks first

-- something is met in the one and isn't in the other, and it is the first
pub record IsFirstLost (is_met is_met_then : ℕ → Bool) (number : ℕ) : Type 0 where
  pub met : is_met number ≡ true
  pub broken : is_met_then number ≡ false
  pub first : (earlier : ℕ) → earlier < number → is_met earlier ≡ true → is_met_then earlier ≡ true

-- the first task that is late in another model and isn't in the one
pub record IsFirstLate (model other : SystemModel) (task : ℕ) : Type 0 where
  pub in_range : IsInRange other
  pub is_task : task < length model.tasks
  pub first : IsFirstLost (is_met_task (tight_findings_of model)) (is_met_task (tight_findings_of other)) task

-- the first requirement that isn't met in another model and is in the one, where no task is late that isn't in the one
pub record IsFirstUnmet (model other : SystemModel) (requirement : ℕ) : Type 0 where
  pub in_range : IsInRange other
  pub tasks : KeepsTasks model other
  pub is_requirement : requirement < length model.requirements
  pub first : IsFirstLost (is_met_requirement (tight_findings_of model)) (is_met_requirement (tight_findings_of other)) requirement

-- what breaks first in another model of what is met in the one
abbrev pub BreaksFirst : (model other : SystemModel) → Breaks → Type 0
BreaksFirst model other (Task task) = IsFirstLate model other task
BreaksFirst model other (Requirement requirement) = IsFirstUnmet model other requirement
BreaksFirst model other Limit = IsInRange other → ⊥

-- ---- margins

-- the greatest percentage from 100 up to the most that keeps what is met
pub record IsGreatestPercent (model : SystemModel) (whose : Whose) (percent : ℕ) : Type 0 where
  pub some : 100 ≤ percent
  pub few : percent ≤ MOST_PERCENT
  pub kept : KeepsMet model (grown model whose percent)
  pub greatest : (other : ℕ) → percent < other → other ≤ MOST_PERCENT → KeepsMet model (grown model whose other) → ⊥

-- what breaks first at one percent more: nothing is said past the most
abbrev pub BreaksAfter : SystemModel → Whose → (percent : ℕ) → Option Breaks → Type 0
BreaksAfter model whose percent None = percent ≡ MOST_PERCENT
BreaksAfter model whose percent (Some breaks) = (percent < MOST_PERCENT) × BreaksFirst model (grown model whose (percent + 1)) breaks

-- the margin of all tasks or of one
pub record IsMargin (model : SystemModel) (whose : Whose) (margin : Margin) : Type 0 where
  pub best : IsGreatestPercent model whose margin.percent
  pub breaks : BreaksAfter model whose margin.percent margin.breaks

-- stands for the margin of a task past the last one
unfoldable pub no_margin : Margin
no_margin = record { percent = 0; breaks = None }

-- the margin of the task of a number
abbrev pub margin_at : List Margin → (task : ℕ) → Margin
margin_at margins task = slice_index_or margins task no_margin

-- those of a model: of all tasks, and of each alone
pub record AreMargins (model : SystemModel) (margins : Margins) : Type 0 where
  pub all : IsMargin model EveryTask margins.all
  pub one_a_task : length margins.tasks ≡ length model.tasks
  pub tasks : (task : ℕ) → task < length model.tasks → IsMargin model (OneTask task) (margin_at margins.tasks task)

-- each smaller percentage from 100 on keeps what is met as well
abbrev pub SmallerKeepMet : SystemModel → Whose → (percent : ℕ) → Type 0
SmallerKeepMet model whose percent = (less : ℕ) → 100 ≤ less → less ≤ percent → KeepsMet model (grown model whose less)
