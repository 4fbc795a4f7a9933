-- The lines of a trace, and the trace of a run.
use Rattle.std.specs.Prelude.{ℕ, Option, Some, None, List, [], ◌∷◌, ◌++◌, length, map, codes, decimal}
use Rattle.std.specs.List.{flat_map, range_with_len}
use Rattle.cl_text.specs.Line.{line}
use Rattle.cl_model.specs.{declared.model.SystemModel.SystemModel, ByNumber.task_at}
use Rattle.cl_runs.specs.{declared.job.Job.Job, Run.{Run, jobs_of, core_entries}}
use Rattle.cl_run_data.specs.declared.stretches.Stretch.{Stretch}
use Rattle.cl_trace.specs.Stretches.{stretches_of}

-- ---- the lines

-- what a line of a trace says
pub data Item : Type 0 where
  -- that this is a trace
  Title : Item
  -- how many ticks the run lasts
  Ticks : (ticks : ℕ) → Item
  -- a job of a task
  JobOf : (task : ℕ) (job : Job) → Item
  -- a task runs from a tick on, up to another
  Runs : (task from to : ℕ) → Item
  -- that nothing more follows
  End : Item

-- a number after a blank, and numbers
abbrev pub number_text : ℕ → List ℕ
number_text n = codes " " ++ decimal n

abbrev pub numbers : List ℕ → List ℕ
numbers ns = flat_map number_text ns

-- the words of a number of ticks, of a job of a task of that name, and of a stretch of it
abbrev pub ticks_words : (ticks : ℕ) → List ℕ
ticks_words ticks = codes "ticks" ++ numbers (ticks ∷ [])

abbrev pub job_line_words : (name : List ℕ) → Job → List ℕ
job_line_words name job = codes "job " ++ name ++ numbers (job.arrival ∷ job.release ∷ job.times)

abbrev pub run_words : (name : List ℕ) (from to : ℕ) → List ℕ
run_words name from to = codes "run " ++ name ++ numbers (from ∷ to ∷ [])

-- the words of a line
abbrev pub item_words : SystemModel → Item → List ℕ
item_words model Title = codes "chainlat trace 1"
item_words model (Ticks ticks) = ticks_words ticks
item_words model (JobOf task job) = job_line_words (task_at model task).name job
item_words model (Runs task from to) = run_words (task_at model task).name from to
item_words model End = codes "end"

-- a line
unfoldable pub item_text : SystemModel → Item → List ℕ
item_text model item = line (item_words model item)

-- lines, one after another
abbrev pub text_of : SystemModel → List Item → List ℕ
text_of model items = flat_map (item_text model) items

-- ---- the trace of a run

-- the jobs of a task, in order
abbrev pub task_items : Run → (task : ℕ) → List Item
task_items run task = map (JobOf task) (jobs_of run task)

-- a stretch: a task runs, or the core idles, which has no line
abbrev pub stretch_item : Option ℕ → (from to : ℕ) → List Item
stretch_item None from to = []
stretch_item (Some task) from to = Runs task from to ∷ []

-- stretches, of which the first begins at a tick
abbrev pub stretch_items : (from : ℕ) → List Stretch → List Item
stretch_items from [] = []
stretch_items from (stretch ∷ stretches) = stretch_item stretch.who from stretch.end ++ stretch_items stretch.end stretches

-- the longest stretches of a core, in order
abbrev pub core_items : Run → (core : ℕ) → List Item
core_items run core = stretch_items 0 (stretches_of (core_entries run core))

-- the jobs of all tasks, in file order
unfoldable pub job_items : Run → List Item
job_items run = flat_map (task_items run) (range_with_len 0 (length run.table.jobs))

-- the stretches of all cores, in file order
unfoldable pub run_items : Run → List Item
run_items run = flat_map (core_items run) (range_with_len 0 (length run.entries))

-- what the lines of the trace of a run say
abbrev pub items_of : Run → List Item
items_of run = Title ∷ Ticks run.table.ticks ∷ (job_items run ++ run_items run ++ End ∷ [])

-- the trace of a run
unfoldable pub spelled : SystemModel → Run → List ℕ
spelled model run = text_of model (items_of run)
