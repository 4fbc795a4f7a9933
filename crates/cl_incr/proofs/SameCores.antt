-- Where the tasks of a core have the timings that they had, they have the questions that they had, and so their answers.
use Rattle.std.proofs.Common.{◌≡◌, ℕ, ◌<◌, Bool, ◌&&◌, ◌==◌, nat_lt, length, sym, ap, ◌∙◌}
use Rattle.std.specs.Prelude.{filter, map, nat_le}
use Rattle.std.specs.List.{range_with_len}
use Rattle.std.proofs.lemmas.Simd.{map-map}
use Rattle.cl_model.specs.{declared.model.SystemModel.SystemModel, ByNumber.{no_task, task_at, core_of, tasks_of_core}, Timing.greatest_jitter, Holds.greatest_by}
use Rattle.cl_runs.specs.{SystemOf.{timing_of, system_of}, TaskTiming.{Timing, System, timing_at}, Priorities.is_above, ExecutionTimes.greatest_execution}
use Rattle.cl_runs.proofs.ModelSystem.{timing_is}
use Rattle.cl_resp.specs.{Question.{longest_hold, block_of, taken_by, question_of}, Response.response_to}
use Rattle.cl_resp.proofs.Filters.{by_number, filter-map, filter-both}
use Rattle.cl_bound.specs.Answers.{answer_with, answer_to}
use Rattle.cl_incr.specs.Inner.Standing.{timing_in, HasSameTimings, StandsAs}
use Rattle.cl_incr.proofs.KeptAnswers.{answer_is}

-- ---- questions

-- the tasks of a core
abbrev pub on_core : (core : ℕ) → Timing → Bool
on_core core other = other.core == core

module _ (old new : System) (task : Timing) (same : filter (on_core task.core) old.tasks ≡ filter (on_core task.core) new.tasks) where
  same_among : (q : Timing → Bool) → filter (λ other. on_core task.core other && q other) old.tasks ≡ filter (λ other. on_core task.core other && q other) new.tasks
  same_among q = filter-both (on_core task.core) q old.tasks ∙ ap (filter q) same ∙ sym (filter-both (on_core task.core) q new.tasks)

  same_block : block_of old task ≡ block_of new task
  unfolding block_of
  same_block = ap (greatest_by longest_hold) (same_among (λ other. nat_le other.priority task.priority))

  same_above : map taken_by (filter (is_above task) old.tasks) ≡ map taken_by (filter (is_above task) new.tasks)
  same_above = ap (map taken_by) (same_among (λ other. nat_lt task.priority other.priority))

  pub same_question : question_of old task ≡ question_of new task
  unfolding question_of
  same_question = λ i. record {
    time = greatest_execution task;
    block = same_block i;
    jitter = greatest_jitter task.pattern;
    deadline = task.deadline;
    above = same_above i;
  }

-- ---- tasks of a core

-- the timings of the tasks of a core are those of its numbers
core_timings : (model : SystemModel) (core : ℕ) → filter (on_core core) (system_of model).tasks ≡ map (timing_in model) (tasks_of_core model core)
unfolding system_of
core_timings model core =
    let all = range_with_len 0 (length model.tasks) in
    ap (λ tasks. filter (on_core core) (map (timing_of model) tasks)) (sym (by_number model.tasks no_task))
    ∙ ap (filter (on_core core)) (map-map (timing_of model) (task_at model) all)
    ∙ filter-map (on_core core) (timing_in model) all

module _ (old new : SystemModel) (core : ℕ) (same : HasSameTimings old new core) where
  core_same : filter (on_core core) (system_of old).tasks ≡ filter (on_core core) (system_of new).tasks
  core_same = core_timings old core ∙ same ∙ sym (core_timings new core)

  -- a task of the core with the timing of one that was there stands as that did
  pub stands_on_core : (was task : ℕ) → was < length old.tasks → task < length new.tasks → core_of new task ≡ core → timing_in old was ≡ timing_in new task
      → StandsAs old new was task
  stands_on_core was task known within on same_timing =
      let timing : timing_at (system_of old) was ≡ timing_at (system_of new) task = timing_is old was known ∙ same_timing ∙ sym (timing_is new task within) in
      let here : (timing_at (system_of new) task).core ≡ core = ap (λ (t : Timing). t.core) (timing_is new task within) ∙ on in
      let among : filter (on_core (timing_at (system_of new) task).core) (system_of old).tasks ≡ filter (on_core (timing_at (system_of new) task).core) (system_of new).tasks
      = ap (λ c. filter (on_core c) (system_of old).tasks) here ∙ core_same ∙ sym (ap (λ c. filter (on_core c) (system_of new).tasks) here) in
      record {
        timing = timing;
        answer =
            answer_is old was known
            ∙ ap (answer_to (system_of old)) timing
            ∙ ap (λ question. answer_with (response_to question)) (same_question (system_of old) (system_of new) (timing_at (system_of new) task) among)
            ∙ sym (answer_is new task within);
      }
