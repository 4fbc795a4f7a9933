-- What an explanation promises: its numbers hold in every legal run, and add up. Times are in ticks.
use Rattle.std.specs.Prelude.{◌≡◌, ℕ, ◌+◌, ◌-◌, ◌<◌, ◌≤◌, true, false, None, ℤ, pos, ◌+ℤ◌, ◌-ℤ◌, List, ◌∷◌, length, filter, sum_by, slice_index_or}
use Rattle.cl_model.specs.{declared.{group.Group.Group, model.SystemModel.SystemModel}, ByNumber.chain_at, Groups.groups_at}
use Rattle.cl_runs.specs.{SystemOf.system_of, Responses.AlwaysFinishesWithin, TaskTiming.{System, timing_at}, Priorities.is_above, ExecutionTimes.greatest_execution}
use Rattle.cl_hop.specs.{Bounds.{Lengths, last_of}, Promises.AreSafe, Hops.{forward_hop, backward_hop, hops}, declared.group_timing.GroupTiming.GroupTiming}
use Rattle.cl_resp.specs.{Asked.AnswersWithin, ByPhase.{asked_by_phase, response_by_phase}, Question.{question_of, tight_question_of}, Response.{Response, HasNoFixpoint}}
use Rattle.cl_bound.specs.declared.answer.TaskAnswer.TheVariants as answer
use Rattle.cl_bound.specs.{Answers.{answers_of, answer_at, is_late}, Bounds.settled_timings}
use Rattle.cl_phase.specs.{TightBounds.span_of, Walked.walked_of}
use Rattle.cl_analyse.specs.{declared.findings.ChainAnswer.TheVariants.Bounds, ChainAnswers.chain_answer_of}
use Rattle.cl_tight.specs.{TightAnswers.tight_answers_of, TightTimings.tight_timing, TightFindings.tight_chain_answer_of}
use Rattle.cl_explain.specs.{Accepted.accepted_text, Explanation.explanation, Parts.{time_above, time_over}}

-- the sum of the parts of a task over a window
abbrev pub sum_of_parts : System → (task width : ℕ) → ℕ
sum_of_parts system task width =
    let timing = timing_at system task in
    let question = question_of system timing in
    question.jitter + question.block + question.time + sum_by (time_above width) (filter (is_above timing) system.tasks)

-- the parts of a settled task add up to its response
abbrev pub AddUpToResponse : System → (task : ℕ) → Response → Type 0
AddUpToResponse system task response = sum_of_parts system task response.window ≡ response.response

-- those of a late task, counted over all of its deadline that the jitter leaves, to the deadline and more
pub record AddUpPastDeadline (system : System) (task over : ℕ) : Type 0 where
  pub some : 1 ≤ over
  pub sum : sum_of_parts system task ((question_of system (timing_at system task)).deadline - (question_of system (timing_at system task)).jitter)
      ≡ (question_of system (timing_at system task)).deadline + over

-- the distances, reads, writes and hops of a chain's groups add up to its bounds
pub record AddUpToBounds (first : GroupTiming) (later : List GroupTiming) (bounds : Lengths) : Type 0 where
  pub reaction : pos bounds.reaction ≡ ((pos first.distance -ℤ pos first.read) +ℤ hops forward_hop first later) +ℤ pos (last_of first later).write
  pub reduced : pos bounds.reduced ≡ (pos (last_of first later).write -ℤ pos first.read) +ℤ hops backward_hop first later
  pub age : bounds.age ≡ bounds.reduced + (last_of first later).distance

-- the walk that is shown lasts as long as the tight reaction: from the read after the arrival of the first job that misses,
-- to the write after that of the last that takes
pub record LastsAsLong (missed taken : List ℤ) (span : ℤ) (reaction : ℕ) : Type 0 where
  pub misses : 0 < length missed
  pub takes : 0 < length taken
  pub lasts : pos reaction ≡ ((slice_index_or taken (length taken - 1) (pos 0) -ℤ slice_index_or missed 0 (pos 0)) +ℤ span)

-- so it is for groups of a system
abbrev pub ShowsItsWalk : System → (groups : List Group) → (reaction : ℕ) → Type 0
ShowsItsWalk system groups reaction =
    let walk = walked_of system (tight_timing system) groups reaction in
    LastsAsLong walk.missed walk.taken (span_of (tight_timing system) groups) reaction

-- ---- all of it

-- What an explanation shows of a model is safe. In every legal run, of any length, each job of a settled task finishes
-- within its response, and each bound, plain or tight, is at least the length of every complete chain of its kind. The
-- parts of a task add up to its response, or past its deadline; those of a chain to its bounds; and the walk that is shown
-- lasts as long as the tight reaction.
pub record IsSafelyExplained (model : SystemModel) : Type 0 where
  pub responses : (task : ℕ) (response : Response) → task < length model.tasks
      → answer_at (answers_of (system_of model)) task ≡ answer.Settled response
      → AlwaysFinishesWithin (system_of model) task response.response × AddUpToResponse (system_of model) task response
  pub late : (task : ℕ) → task < length model.tasks → answer_at (answers_of (system_of model)) task ≡ answer.Late
      → AddUpPastDeadline (system_of model) task (time_over (question_of (system_of model) (timing_at (system_of model) task)))
  pub bounds : (chain : ℕ) (bounds : Lengths) → chain < length model.chains
      → chain_answer_of model (chain_at model chain) ≡ Bounds bounds → AreSafe (system_of model) (groups_at model chain) bounds
  pub sums : (chain : ℕ) (bounds : Lengths) → chain < length model.chains → chain_answer_of model (chain_at model chain) ≡ Bounds bounds
      → (first : GroupTiming) (later : List GroupTiming) → settled_timings (system_of model) (groups_at model chain) ≡ first ∷ later
      → AddUpToBounds first later bounds
  pub tight : (chain : ℕ) (bounds : Lengths) → chain < length model.chains
      → tight_chain_answer_of model (chain_at model chain) ≡ Bounds bounds
      → AreSafe (system_of model) (groups_at model chain) bounds × ShowsItsWalk (system_of model) (groups_at model chain) bounds.reaction

-- the text explains the model, and what it shows is safe
pub record IsSafeExplanation (model : SystemModel) (text : List ℕ) : Type 0 where
  pub printed : text ≡ explanation model
  pub safe : IsSafelyExplained model

-- A task has no response by phases: within no number of ticks from 1 up to its deadline are all of its arrivals answered,
-- where the tasks above it take what their phases allow. So its tight question, which knows no phases, has no fixpoint.
pub record HasNoResponse (system : System) (task : ℕ) : Type 0 where
  pub by_phase : response_by_phase system task ≡ None
  pub unanswered : (response : ℕ) → 1 ≤ response → response ≤ (timing_at system task).deadline
      → AnswersWithin (asked_by_phase system task (greatest_execution (timing_at system task))) response → ⊥
  pub no_fixpoint : HasNoFixpoint (tight_question_of system (timing_at system task))

-- what is known of an accepted model's tasks: one that is called late has no response within its deadline by phases, and
-- each other always finishes within its deadline
pub record AreRightlyLate (model : SystemModel) : Type 0 where
  pub late : (task : ℕ) → task < length model.tasks → is_late (answer_at (tight_answers_of (system_of model)) task) ≡ true
      → HasNoResponse (system_of model) task
  pub timely : (task : ℕ) → task < length model.tasks → is_late (answer_at (tight_answers_of (system_of model)) task) ≡ false
      → AlwaysFinishesWithin (system_of model) task (timing_at (system_of model) task).deadline

-- the text is what to know of the accepted model, and it calls those tasks late that it should
pub record IsSafeAcceptance (model : SystemModel) (text : List ℕ) : Type 0 where
  pub printed : text ≡ accepted_text model
  pub late : AreRightlyLate model
