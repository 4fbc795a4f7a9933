-- What is said of the first bad line of a trace: what stands there, and what is wanted in its place.
use Rattle.std.specs.Prelude.{ℕ, ◌-◌, ◌&&◌, ◌==◌, nat_lt, if◌then◌else◌, List, ◌++◌, length, Option, Some, None, unwrap_or, codes, decimal}
use Rattle.std.specs.Str.{bytes_eq}
use Rattle.cl_text.specs.Line.{line}
use Rattle.cl_model.specs.{declared.{model.{SystemModel.SystemModel, CoreDef.CoreDef}, task.TaskDef.TaskDef}, ByNumber.{task_at, core_at, core_of, task_named}}
use Rattle.cl_advice.specs.Shown.{quoted}
use Rattle.cl_traces.specs.{declared.run_line.RunLine.RunLine, TraceLines.{trace_line, is_fed, is_at_end, line_words, line_word, printed_number}}

-- ---- job lines

-- the task whose jobs may come next: that of the line above where it is a job line, else the first
abbrev pub least_task : SystemModel → (above : List ℕ) → ℕ
least_task model above = if bytes_eq (line_word above 0) (codes "job") then unwrap_or (task_named model (line_word above 1)) 0 else 0

-- that a task is wanted, this or a later one
abbrev pub task_from : SystemModel → (least : ℕ) → List ℕ
task_from model least = codes "a task from " ++ (task_at model least).name ++ codes " on"

-- the shape of the job lines of a task
abbrev pub job_shape : TaskDef → List ℕ
job_shape task = codes "job " ++ task.name ++ codes " ARRIVAL RELEASE and " ++ decimal (length task.runnables) ++ codes " times"

-- of a job line that names a task, or none of the model, where jobs of a task and of later ones may stand
abbrev pub wanted_job_of : SystemModel → (least : ℕ) → Option ℕ → List ℕ
wanted_job_of model least None = task_from model least
wanted_job_of model least (Some task) = if nat_lt task least then task_from model least else job_shape (task_at model task)

-- of a job line below a line
abbrev pub wanted_job : SystemModel → (above line : List ℕ) → List ℕ
wanted_job model above line = if bytes_eq (line_word above 0) (codes "run") then codes "no job line behind a run line"
    else wanted_job_of model (least_task model above) (task_named model (line_word line 1))

-- ---- run lines

-- a run line that says these, where it lasts for a tick at least
abbrev pub run_of : (task from to : Option ℕ) → Option RunLine
run_of (Some task) (Some from) (Some to) = if nat_lt from to then Some (record { task = task; from = from; to = to }) else None
run_of task from to = None

-- what a run line says, of words with one blank between each two
abbrev pub run_line : SystemModel → (line : List ℕ) → Option RunLine
run_line model line = if (length (line_words line) == 4) && bytes_eq (line_word line 0) (codes "run")
    then run_of (task_named model (line_word line 1)) (printed_number (line_word line 2)) (printed_number (line_word line 3))
    else None

-- what the run line of a number says
abbrev pub run_line_at : SystemModel → (trace : List ℕ) → (number : ℕ) → Option RunLine
run_line_at model trace number = if is_fed trace number then run_line model (trace_line trace number) else None

-- the ticks of the trace, as line 2 says
abbrev pub ticks_of_trace : (trace : List ℕ) → ℕ
ticks_of_trace trace = unwrap_or (printed_number (line_word (trace_line trace 2) 1)) 0

-- that a core is wanted, this or a later one
abbrev pub core_from : CoreDef → List ℕ
core_from core = codes "a core from " ++ core.name ++ codes " on"

-- that another task is wanted where this one ends
abbrev pub other_task : TaskDef → (end : ℕ) → List ℕ
other_task task end = codes "another task than " ++ task.name ++ codes " at " ++ decimal end

-- of a run line below another: its core isn't before that one's, and on the same core it begins at its end or later, and at
-- its end it is of another task
abbrev pub wanted_below : SystemModel → (above run : RunLine) → List ℕ
wanted_below model above run =
    if nat_lt (core_of model run.task) (core_of model above.task) then core_from (core_at model (core_of model above.task))
    else if (core_of model run.task == core_of model above.task) && nat_lt run.from above.to then codes "FROM at least " ++ decimal above.to
    else other_task (task_at model above.task) above.to

-- of a run line in time, below a line that may be one
abbrev pub wanted_behind : SystemModel → (above : Option RunLine) → (run : RunLine) → List ℕ
wanted_behind model None run = codes "job, run or end"
wanted_behind model (Some above) run = wanted_below model above run

-- of a line that begins as run lines do
abbrev pub wanted_run : SystemModel → (ticks : ℕ) → (above run : Option RunLine) → List ℕ
wanted_run model ticks above None = codes "run TASK FROM TO"
wanted_run model ticks above (Some run) = if nat_lt ticks run.to then codes "TO at most " ++ decimal ticks else wanted_behind model above run

-- ---- the lines

-- of a line below the first two, by the word with which it begins
abbrev pub wanted_by_word : SystemModel → (trace : List ℕ) → (number : ℕ) → List ℕ
wanted_by_word model trace number =
    if bytes_eq (line_word (trace_line trace number) 0) (codes "job")
    then wanted_job model (trace_line trace (number - 1)) (trace_line trace number)
    else if bytes_eq (line_word (trace_line trace number) 0) (codes "run")
    then wanted_run model (ticks_of_trace trace) (run_line_at model trace (number - 1)) (run_line_at model trace number)
    else codes "job, run or end"

-- what is wanted in place of a line
abbrev pub wanted_in_trace : SystemModel → (trace : List ℕ) → (number : ℕ) → List ℕ
wanted_in_trace model trace number =
    if number == 1 then codes "chainlat trace 1"
    else if number == 2 then codes "ticks N, N at most 1000000000"
    else if bytes_eq (trace_line trace (number - 1)) (codes "end") then codes "nothing behind end"
    else if is_at_end trace number then codes "end"
    else wanted_by_word model trace number

-- what stands there, and what is wanted
unfoldable pub bad_trace_text : SystemModel → (trace : List ℕ) → (number : ℕ) → List ℕ
bad_trace_text model trace number =
    line (codes "found " ++ quoted (trace_line trace number)) ++ line (codes "wanted " ++ wanted_in_trace model trace number)
