-- What the reading of the parts of a trace answers.
use Rattle.std.specs.Prelude.{◌≡◌, ◌≢◌, ℕ, ◌<◌, ◌≤◌, List, [], ◌∷◌, ◌++◌, ◌+◌, ◌-◌, replicate, Option, Some, None, length, map, slice_index_or, slice_set, All}
use Rattle.std.specs.List.{flat_map, range_with_len}
use Rattle.cl_text.specs.Standing.{NoneStands}
use Rattle.cl_model.specs.{declared.model.SystemModel.SystemModel, ByNumber.core_of}
use Rattle.cl_runs.specs.{declared.job.Job.Job, Run.{Run, IsEntryOf, core_entries}, SystemOf.system_of}
use Rattle.cl_trace.specs.{Trace.{Item, Title, Ticks, JobOf, Runs, item_text, text_of, stretch_items, core_items}, declared.limits.TheConstants.MOST_TRACE_TICKS, Stretches.stretches_of, Rules.{IsJobOf, IsAboveRun}}

-- the jobs of a task, in the lines that a text begins with, and what follows them
pub record AreJobsOf (model : SystemModel) (task : ℕ) (text : List ℕ) (jobs : List Job) (rest : List ℕ) : Type 0 where
  pub of_task : All (IsJobOf model task) jobs
  pub parts : text ≡ text_of model (map (JobOf task) jobs) ++ rest
  pub none_left : NoneStands (λ job. item_text model (JobOf task job)) (IsJobOf model task) rest

-- the jobs of the first tasks
abbrev pub jobs_in : List (List Job) → (task : ℕ) → List Job
jobs_in lists task = slice_index_or lists task []

abbrev pub items_in : List (List Job) → (task : ℕ) → List Item
items_in lists task = map (JobOf task) (jobs_in lists task)

pub record AreJobLists (model : SystemModel) (text : List ℕ) (lists : List (List Job)) (rest : List ℕ) : Type 0 where
  pub of_tasks : (task : ℕ) → task < length lists → All (IsJobOf model task) (jobs_in lists task)
  pub parts : text ≡ text_of model (flat_map (items_in lists) (range_with_len 0 (length lists))) ++ rest
  -- no job line of a task stands next that isn't before the last job line's
  pub none_left : (task : ℕ) (job : Job) (after : List ℕ) → task < length lists → IsJobOf model task job
      → ((later : ℕ) → task < later → jobs_in lists later ≡ []) → rest ≢ item_text model (JobOf task job) ++ after

-- a stretch of a task of the model, within the ticks
pub record IsStretchWithin (model : SystemModel) (ticks task from to : ℕ) : Type 0 where
  pub is_task : task < length model.tasks
  pub some : from < to
  pub in_time : to ≤ ticks

-- it may be appended to the entries of a core: it is a longest one there
pub record FitsEntries (model : SystemModel) (core : ℕ) (entries : List (Option ℕ)) (task from : ℕ) : Type 0 where
  pub on_core : core_of model task ≡ core
  pub after : length entries ≤ from
  pub changes : (tick : ℕ) → tick + 1 ≡ length entries → length entries ≡ from → slice_index_or entries tick None ≢ Some task

-- entries with idle ticks behind them up to a tick, and with the ticks of a task from there on
abbrev pub idle_up_to : List (Option ℕ) → (from : ℕ) → List (Option ℕ)
idle_up_to entries from = entries ++ replicate (from - length entries) None

abbrev pub entries_appended : List (Option ℕ) → (task from to : ℕ) → List (Option ℕ)
entries_appended entries task from to = idle_up_to entries from ++ replicate (to - from) (Some task)

-- no run line stands next, of a core below one, that may stand below these
abbrev pub NoRunLeft : SystemModel → (ticks cores : ℕ) → List Item → (rest : List ℕ) → Type 0
NoRunLeft model ticks cores items rest = (task from to : ℕ) (after : List ℕ) → IsStretchWithin model ticks task from to → core_of model task < cores
    → All (IsAboveRun model task from) items → rest ≢ item_text model (Runs task from to) ++ after

-- entries of a core that the lines which a text begins with have given so far, and what follows them; the last of them
-- is of a task
pub record AreEntriesOf (model : SystemModel) (ticks core : ℕ) (text : List ℕ) (entries : List (Option ℕ)) (rest : List ℕ) : Type 0 where
  pub in_time : length entries ≤ ticks
  pub of_core : All (IsEntryOf (system_of model) core) entries
  pub parts : text ≡ text_of model (stretch_items 0 (stretches_of entries)) ++ rest

-- all entries of a core, where no further line of it may stand next
pub record AreAllEntriesOf (model : SystemModel) (ticks core : ℕ) (text : List ℕ) (entries : List (Option ℕ)) (rest : List ℕ) : Type 0 where
  pub read : AreEntriesOf model ticks core text entries rest
  pub filled : length entries ≡ ticks
  pub none_left : (task from to : ℕ) (after : List ℕ) → IsStretchWithin model ticks task from to → core_of model task ≡ core
      → All (IsAboveRun model task from) (stretch_items 0 (stretches_of entries)) → rest ≢ item_text model (Runs task from to) ++ after

-- the entries of a core were replaced, and nothing else
pub record IsRunWith (old new : Run) (core : ℕ) (entries : List (Option ℕ)) : Type 0 where
  pub table : new.table ≡ old.table
  pub entries_are : new.entries ≡ slice_set old.entries core entries

-- all entries of the first cores, where no further line of them may stand next
pub record AreCores (model : SystemModel) (ticks cores : ℕ) (text : List ℕ) (run : Run) (rest : List ℕ) : Type 0 where
  pub filled : (core : ℕ) → core < cores → length (core_entries run core) ≡ ticks
  pub of_core : (core : ℕ) → core < cores → All (IsEntryOf (system_of model) core) (core_entries run core)
  pub parts : text ≡ text_of model (flat_map (core_items run) (range_with_len 0 cores)) ++ rest
  pub none_left : NoRunLeft model ticks cores (flat_map (core_items run) (range_with_len 0 cores)) rest

-- the job lines and the run lines of a run, as many as a text begins with, and what follows them
pub record IsBody (model : SystemModel) (ticks : ℕ) (text : List ℕ) (run : Run) (rest : List ℕ) : Type 0 where
  pub ticks_are : run.table.ticks ≡ ticks
  pub tasks : length run.table.jobs ≡ length model.tasks
  pub cores : length run.entries ≡ length model.cores
  pub between : List ℕ
  pub jobs : AreJobLists model text run.table.jobs between
  pub runs : AreCores model ticks (length model.cores) between run rest

-- the two first lines, the job lines and the run lines of a run, as many as a text begins with, and what follows them
pub record IsReadSoFar (model : SystemModel) (text : List ℕ) (run : Run) (rest : List ℕ) : Type 0 where
  pub within : run.table.ticks ≤ MOST_TRACE_TICKS
  pub behind : List ℕ
  pub head : text ≡ text_of model (Title ∷ Ticks run.table.ticks ∷ []) ++ behind
  pub body : IsBody model run.table.ticks behind run rest
