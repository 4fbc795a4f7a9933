-- Whether a run is legal, and else the first rule that it breaks, in words.
use Rattle.std.specs.Prelude.{◌≡◌, ◌⊎◌, ℕ, List, [], ◌++◌, slice_index_or, codes, decimal}
use Rattle.cl_text.specs.Line.{line}
use Rattle.cl_model.specs.{declared.model.SystemModel.SystemModel, ByNumber.task_at, Named.core_names}
use Rattle.cl_runs.specs.{Run.Run, SystemOf.system_of, Legal.IsLegal}
use Rattle.cl_check.specs.{declared.run_fault.{Rule.{Rule, TheVariants.{Arrival, Release, Time, Missing, Schedule}}, RunFault.TheVariants.Illegal}, Legality.IsFirstBroken}

-- a rule, and what breaks it: a core its schedule, and a task every other rule
abbrev pub rule_words : Rule → List ℕ
rule_words Arrival = codes "arrival task "
rule_words Release = codes "release task "
rule_words Time = codes "time task "
rule_words Missing = codes "missing task "
rule_words Schedule = codes "schedule core "

-- the name of the task or core of a number that breaks a rule
abbrev pub breaker : SystemModel → Rule → (place : ℕ) → List ℕ
breaker model Schedule core = slice_index_or (core_names model) core []
breaker model rule task = (task_at model task).name

-- the line of the first rule that a run breaks
unfoldable pub illegal_line : SystemModel → Rule → (place tick : ℕ) → List ℕ
illegal_line model rule place tick =
    line (codes "illegal " ++ rule_words rule ++ breaker model rule place ++ codes " tick " ++ decimal tick)

-- the run breaks a rule, and this one first
pub record IsSaidIllegal (model : SystemModel) (run : Run) (text : List ℕ) : Type 0 where
  pub rule : Rule
  pub place : ℕ
  pub tick : ℕ
  pub broken : IsFirstBroken (system_of model) run (Illegal rule place tick)
  pub printed : text ≡ illegal_line model rule place tick

-- the run is legal
pub record IsSaidLegal (model : SystemModel) (run : Run) (text : List ℕ) : Type 0 where
  pub legal : IsLegal (system_of model) run
  pub printed : text ≡ line (codes "legal")

-- the line on whether a run is legal
abbrev pub IsLegalityLine : SystemModel → Run → (text : List ℕ) → Type 0
IsLegalityLine model run text = IsSaidLegal model run text ⊎ IsSaidIllegal model run text
