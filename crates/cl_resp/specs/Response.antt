-- The response of a task: how long after its arrival a job has finished at the latest.
-- Source: Audsley et al. 1993, with release jitter, and with blocking by non-preemptive regions.
use Rattle.std.specs.Prelude.{◌≡◌, ◌≢◌, ℕ, ◌+◌, ◌-◌, ◌*◌, ◌<◌, ◌≤◌, nat_le, length, sum_by, Option, Some, find}
use Rattle.std.specs.List.{range_with_len}
use Rattle.std.specs.Option.{option_map}
use Rattle.cl_runs.specs.TaskTiming.{System, timing_at}
use Rattle.cl_stim.specs.{AnyStimulus.kind_of, Releases.most_releases}
use Rattle.cl_resp.specs.{declared.question.{Above.Above, Question.Question}, Question.{question_of, tight_question_of}}

-- the most ticks that a job of the task and what goes before it need of a window of `width` ticks
unfoldable pub demand : Question → (width : ℕ) → ℕ
demand question width =
    question.block + question.time + sum_by (λ (above : Above). most_releases (kind_of above.stimulus) width * above.time) question.above

-- the window of a task: the least one, from 1 tick up to the deadline without the jitter, that holds its own demand
unfoldable pub busy_window : Question → Option ℕ
busy_window question = find (λ width. nat_le (demand question width) width) (range_with_len 1 (question.deadline - question.jitter))

-- the window of a task, and its response, which counts from arrival
pub record Response : Type 0 where
  pub window : ℕ
  pub response : ℕ

-- the response of a task, where it has a window
abbrev pub response_to : Question → Option Response
response_to question = option_map (λ window. record { window = window; response = question.jitter + window }) (busy_window question)

-- the task of a number is settled: it has this response
pub record IsSettled (system : System) (task response : ℕ) : Type 0 where
  pub is_task : task < length system.tasks
  pub window : ℕ
  pub answered : response_to (question_of system (timing_at system task)) ≡ Some (record { window = window; response = response })

-- the task of a number is settled by its tight question: that has this response
pub record IsTightlySettled (system : System) (task response : ℕ) : Type 0 where
  pub is_task : task < length system.tasks
  pub window : ℕ
  pub answered : response_to (tight_question_of system (timing_at system task)) ≡ Some (record { window = window; response = response })

-- in words: a window holds its own demand, and no lesser one does
pub record IsWindow (question : Question) (width : ℕ) : Type 0 where
  pub some : 1 ≤ width
  pub within : width ≤ question.deadline - question.jitter
  pub enough : demand question width ≤ width
  pub least : (lesser : ℕ) → 1 ≤ lesser → demand question lesser ≤ lesser → width ≤ lesser

-- in other words: it is its own demand, a fixpoint, and no lesser one is
pub record IsLeastFixpoint (question : Question) (width : ℕ) : Type 0 where
  pub some : 1 ≤ width
  pub within : width ≤ question.deadline - question.jitter
  pub fixpoint : demand question width ≡ width
  pub least : (other : ℕ) → 1 ≤ other → demand question other ≡ other → width ≤ other

-- there is no fixpoint within the deadline: no width from 1 tick up to the deadline without the jitter is its own
-- demand
abbrev pub HasNoFixpoint : Question → Type 0
HasNoFixpoint question = (width : ℕ) → 1 ≤ width → width ≤ question.deadline - question.jitter → demand question width ≢ width

-- no width below this holds its own demand
abbrev pub NoneServesBelow : Question → (start : ℕ) → Type 0
NoneServesBelow question start = (width : ℕ) → width < start → width < demand question width

-- ---- a question that asks no more

-- a question asks no more than another: its task has as long, and no window of a tick or more holds a greater demand
pub record AsksNoMore (question other : Question) : Type 0 where
  pub deadline : question.deadline ≡ other.deadline
  pub jitter : question.jitter ≡ other.jitter
  pub needs : (width : ℕ) → 1 ≤ width → demand question width ≤ demand other width

-- a question has a response, and one that is no later than this
pub record IsAnsweredBy (question : Question) (latest : Response) : Type 0 where
  pub answer : Response
  pub answered : response_to question ≡ Some answer
  pub no_wider : answer.window ≤ latest.window
  pub no_later : answer.response ≤ latest.response
