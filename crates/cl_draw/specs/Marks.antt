-- The marks of a row: arrivals, deadlines and jitter. Times are in ticks.
use Rattle.std.specs.Prelude.{ℕ, Bool, ◌+◌, ◌&&◌, nat_lt, if◌then◌else◌, List, [], length, map, filter}
use Rattle.std.specs.List.{range_with_len}
use Rattle.cl_runs.specs.{declared.job.Job.Job, Table.job_at}
use Rattle.cl_picture.specs.{declared.window.Window.Window, Window.is_inside}
use Rattle.cl_draw.specs.declared.{spans.Span.Span, marks.{Arrival.Arrival, Marks.Marks, TheConstants.MOST_ARRIVALS}}

-- the arrival of a job
abbrev pub arrival_of : List Job → (job : ℕ) → Arrival
arrival_of jobs job = record { job = job; tick = (job_at jobs job).arrival }

-- whether an arrival is inside
abbrev pub is_seen : Window → Arrival → Bool
is_seen window arrival = is_inside window arrival.tick

-- the arrivals that are inside
abbrev pub arrivals : Window → List Job → List Arrival
arrivals window jobs = filter (is_seen window) (map (arrival_of jobs) (range_with_len 0 (length jobs)))

-- when a job is due
abbrev pub due_of : (deadline : ℕ) → Job → ℕ
due_of deadline job = job.arrival + deadline

-- the deadlines that are inside
abbrev pub dues : Window → List Job → (deadline : ℕ) → List ℕ
dues window jobs deadline = filter (is_inside window) (map (due_of deadline) jobs)

-- from the arrival of a job to its release
abbrev pub wait_of : Job → Span
wait_of job = record { from = job.arrival; to = job.release }

-- a job waits where it is released after its arrival, and its wait shares a tick with the window
abbrev pub is_wait : Window → Span → Bool
is_wait window wait = nat_lt wait.from wait.to && nat_lt wait.from window.to && nat_lt window.from wait.to

-- the waits of jobs
abbrev pub waits : Window → List Job → List Span
waits window jobs = filter (is_wait window) (map wait_of jobs)

-- no marks
abbrev pub no_marks : Marks
no_marks = record { arrivals = []; dues = []; waits = [] }

-- the marks of a row: none where there are more arrivals than can be told apart
abbrev pub marks_of : Window → List Job → (deadline : ℕ) → Marks
marks_of window jobs deadline =
    if nat_lt MOST_ARRIVALS (length (arrivals window jobs)) then no_marks
    else (record { arrivals = arrivals window jobs; dues = dues window jobs deadline; waits = waits window jobs })
