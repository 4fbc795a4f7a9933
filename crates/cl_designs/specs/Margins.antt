-- The text of the margins of a model: a title, what isn't met as the model stands, and a line of all tasks and of each.
-- Times are in ticks.
use Rattle.std.specs.Prelude.{◌≡◌, ℕ, ◌<◌, true, List, [], ◌++◌, length, codes, decimal, Option, Some, None, if◌then◌else◌}
use Rattle.std.specs.List.{flat_map, range_with_len}
use Rattle.cl_text.specs.Line.{line}
use Rattle.cl_model.specs.{declared.model.SystemModel.SystemModel, ByNumber.{task_at, time_of, requirement_at}}
use Rattle.cl_runs.specs.Requirements.{IsInTime}
use Rattle.cl_tight.specs.{declared.findings.TightFindings.TightFindings, TightFindings.{tight_findings_of, is_verified}}
use Rattle.cl_margin.specs.{declared.{answer.{Breaks.{Breaks, TheVariants.{Task, Requirement, Limit}}, Margin.Margin, Margins.Margins}, whose.Whose.{Whose, TheVariants.{EveryTask, OneTask}}}, Grown.{grown, grown_time}, Margins.{is_met_task, is_met_requirement, margin_at, AreMargins}}

-- the name of the task of a number, and of the requirement of a number
abbrev pub name_of_task : SystemModel → (task : ℕ) → List ℕ
name_of_task model task = (task_at model task).name

abbrev pub requirement_name : SystemModel → (requirement : ℕ) → List ℕ
requirement_name model requirement = (requirement_at model requirement).name

-- ---- what isn't met

-- the line of a task that isn't met
abbrev pub late_task : SystemModel → (task : ℕ) → List ℕ
late_task model task = line (codes "unmet task " ++ name_of_task model task)

-- it stands where the task isn't
abbrev pub late_line : SystemModel → TightFindings → (task : ℕ) → List ℕ
late_line model findings task = if is_met_task findings task then [] else late_task model task

-- the line of a requirement that isn't met
abbrev pub unmet_requirement : SystemModel → (requirement : ℕ) → List ℕ
unmet_requirement model requirement = line (codes "unmet requirement " ++ requirement_name model requirement)

-- it stands where the requirement isn't
abbrev pub unmet_line : SystemModel → TightFindings → (requirement : ℕ) → List ℕ
unmet_line model findings requirement = if is_met_requirement findings requirement then [] else unmet_requirement model requirement

-- those of all
abbrev pub late_lines : SystemModel → TightFindings → List ℕ
late_lines model findings = flat_map (late_line model findings) (range_with_len 0 (length model.tasks))

abbrev pub unmet_lines : SystemModel → TightFindings → List ℕ
unmet_lines model findings = flat_map (unmet_line model findings) (range_with_len 0 (length model.requirements))

-- ---- margins

-- what breaks is of the model
abbrev pub IsBreakOf : SystemModel → Breaks → Type 0
IsBreakOf model (Task task) = task < length model.tasks
IsBreakOf model (Requirement requirement) = requirement < length model.requirements
IsBreakOf model Limit = Unit {0}

-- what breaks first
abbrev pub broken_words : SystemModel → Breaks → List ℕ
broken_words model (Task task) = codes " then task " ++ name_of_task model task
broken_words model (Requirement requirement) = codes " then requirement " ++ requirement_name model requirement
broken_words model Limit = codes " then limit"

-- if anything does
abbrev pub breaks_words : SystemModel → Option Breaks → List ℕ
breaks_words model None = []
breaks_words model (Some breaks) = broken_words model breaks

-- the line of all tasks
unfoldable pub all_line : SystemModel → Margin → List ℕ
all_line model margin = line (codes "all percent " ++ decimal margin.percent ++ breaks_words model margin.breaks)

-- the line of a task: its percentage, and from how many ticks its greatest time grows to how many
unfoldable pub margin_line : SystemModel → Margin → (task : ℕ) → List ℕ
margin_line model margin task =
    line (codes "task " ++ name_of_task model task ++ codes " percent " ++ decimal margin.percent
    ++ codes " time " ++ decimal (time_of model task) ++ codes " to " ++ decimal (grown_time model task margin.percent)
    ++ breaks_words model margin.breaks)

abbrev pub task_margin_line : SystemModel → List Margin → (task : ℕ) → List ℕ
task_margin_line model margins task = margin_line model (margin_at margins task) task

-- the text of these margins
unfoldable pub margin_text : SystemModel → TightFindings → Margins → List ℕ
margin_text model findings margins =
    line (codes "chainlat margin 1") ++ late_lines model findings ++ unmet_lines model findings ++ all_line model margins.all
    ++ flat_map (task_margin_line model margins.tasks) (range_with_len 0 (length model.tasks))

-- the text is that of the model's margins
pub record IsMarginTextOf (model : SystemModel) (text : List ℕ) : Type 0 where
  pub margins : Margins
  pub are : AreMargins model margins
  pub printed : text ≡ margin_text model (tight_findings_of model) margins

-- ---- what is promised

-- a verified model whose times have grown so far is in time: in every legal run, of any length, all deadlines are met and
-- each requirement is kept
abbrev pub StaysInTime : SystemModel → Whose → Margin → Type 0
StaysInTime model whose margin = is_verified (tight_findings_of model) ≡ true → IsInTime (grown model whose margin.percent)

-- The text has the margins of the model, and a verified one stays in time within each.
pub record IsSafeMarginText (model : SystemModel) (text : List ℕ) : Type 0 where
  pub margins : IsMarginTextOf model text
  pub all : StaysInTime model EveryTask margins.margins.all
  pub each : (task : ℕ) → task < length model.tasks → StaysInTime model (OneTask task) (margin_at margins.margins.tasks task)
