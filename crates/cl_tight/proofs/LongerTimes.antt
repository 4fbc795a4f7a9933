-- Where the times of a group are no longer, it reads no earlier and writes no later; so where those of all groups of a chain
-- are, no tight bound is greater.
use Rattle.std.proofs.Common.{◌≡◌, ℕ, ◌<◌, ◌≤◌, inl, inr, false, Option, List, length, get_or, refl, ap, sym, ◌∙◌, subst, arith}
use Rattle.std.specs.Prelude.{unwrap_or, All}
use Rattle.std.proofs.Math.ListN.{length-map}
use Rattle.std.proofs.lemmas.Bool.{true≢false, cases_lt}
use Rattle.std.proofs.lemmas.List.{get_or_past}
use Rattle.std.proofs.lemmas.List.FromFn.{length-map-range_with_len}
use Rattle.cl_model.specs.{declared.{group.Group.Group, task.AccessKind.{AccessKind, TheVariants.{Explicit, Implicit, Timed}}}, Kinds.is_timed, Timing.{greatest_distance, greatest_jitter}}
use Rattle.cl_runs.specs.TaskTiming.{TimeRange, System, timing_at, IsSound}
use Rattle.cl_lead.specs.LeastTimes.{HaveSameLeastTimes}
use Rattle.cl_lead.proofs.SameLeads.{same_lead}
use Rattle.cl_hop.specs.{NoGreater.{StaysWithin, AreNoGreater}, Timings.IsGroupOfTask}
use Rattle.cl_resp.specs.{ByPhase.IsSettledByPhase, LesserTimes.TakesNoMore}
use Rattle.cl_resp.proofs.{AskedLess.{settled_sooner, through_sooner}, LeastBehind.part_leaves_room}
use Rattle.cl_bound.specs.{declared.answer.TaskAnswer.TheVariants.Late, Answers.{answer_with, answer_at, is_late, response_in, NoneIsLate}}
use Rattle.cl_phase.specs.TightBounds.{tight_bounds}
use Rattle.cl_phase.proofs.{SamePatterns.same_bounds, WiderWalks.tight_within_wider}
use Rattle.cl_tight.specs.{LongerTimes.IsNoLonger, TightAnswers.{tight_answer_to, tight_answers_of, tight_response}, TightTimings.{part_response, write_by, latest_write, tight_timing}}
use Rattle.cl_tight.proofs.TightTasks.{phased_answer, tight_task, timely_by_phase}

-- by any kind of access, a job has written no later where it and its runnables up to the last of the group finish no later
writes_no_later : (access : AccessKind) (part response deadline part_by by : ℕ) → part ≤ part_by → response ≤ by
    → write_by access part response deadline ≤ write_by access part_by by deadline
writes_no_later Explicit part response deadline part_by by parts responses = parts
writes_no_later Implicit part response deadline part_by by parts responses = responses
writes_no_later Timed part response deadline part_by by parts responses = omega arith

-- a task that takes no longer isn't late where it isn't with longer times
pub task_timely : (less more : System) → IsSound less → IsSound more → (task : ℕ) → TakesNoMore less more task
    → is_late (answer_at (tight_answers_of more) task) ≡ false → is_late (answer_at (tight_answers_of less) task) ≡ false
unfolding tight_answers_of
task_timely less more sound sound_more task takes timely = elim (cases_lt task (length more.tasks)) [
  | inl within ↦
      let response = tight_response more task in
      let (sooner, answered, by) = settled_sooner less more sound sound_more task takes response (tight_task more task within timely) in
      timely_by_phase less task (omega (arith, within, takes.alike.count)) sooner answered
  | inr past ↦ absurd (true≢false (sym (ap is_late (get_or_past (tight_answers_of more) task Late
      (omega (arith, past, length-map-range_with_len (tight_answer_to more) 0 (length more.tasks))))) ∙ timely))
]

module _ (less more : System) (sound : IsSound less) (sound_more : IsSound more) (same : HaveSameLeastTimes less more) where
  module _ (group : Group) (is : IsGroupOfTask less group) (no_longer : IsNoLonger less more group)
      (timely : is_late (answer_at (tight_answers_of more) group.task) ≡ false) where
    abbrev task : ℕ
    task = group.task

    is_task : task < length more.tasks
    is_task = omega (arith, is.is_task, same.alike.count)

    -- its task has as many runnables in both
    as_many : length (timing_at less task).ranges ≡ length (timing_at more task).ranges
    as_many = sym (length-map (timing_at less task).ranges (λ (range : TimeRange). range.least)) ∙ ap length (same.least task)
        ∙ length-map (timing_at more task).ranges (λ (range : TimeRange). range.least)

    settled : IsSettledByPhase more task (tight_response more task)
    settled = tight_task more task is_task timely

    -- it isn't late in the other either
    pub timely_too : is_late (answer_at (tight_answers_of less) task) ≡ false
    timely_too = task_timely less more sound sound_more task no_longer.task timely

    -- and the response is no later
    response_no_later : tight_response less task ≤ tight_response more task
    response_no_later =
        let (sooner, answered, by) = settled_sooner less more sound sound_more task no_longer.task (tight_response more task) settled in
        let found : tight_response less task ≡ sooner = ap response_in (phased_answer less task is.is_task ∙ ap answer_with answered.answered) in
        omega (arith, found, by)

    -- nor is that of its runnables up to the last of the group
    part_no_later : part_response less task group.last ≤ part_response more task group.last
    part_no_later =
        let (through, answered, room) = part_leaves_room more sound_more task (tight_response more task) settled group.last
        (omega (arith, is.is_runnable, as_many)) in
        let (sooner, sooner_answered, by) = through_sooner less more sound sound_more task no_longer.task is_task group.last no_longer.through
        through answered in
        let part : part_response more task group.last ≡ through = ap (λ (found : Option ℕ). unwrap_or found 0) answered in
        let sooner_part : part_response less task group.last ≡ sooner = ap (λ (found : Option ℕ). unwrap_or found 0) sooner_answered in
        omega (arith, part, sooner_part, by)

    write_no_later : latest_write less group ≤ latest_write more group
    write_no_later =
        let part : ℕ = part_response more task group.last in
        let response : ℕ = tight_response more task in
        let alike : write_by (timing_at less task).access part response (timing_at less task).deadline ≡ latest_write more group
        = λ i. write_by (same.alike.accesses task i) part response (same.alike.deadlines task i) in
        omega (
          arith,
          alike,
          writes_no_later (timing_at less task).access (part_response less task group.last) (tight_response less task) (timing_at less task).deadline
              part response part_no_later response_no_later,
        )

    -- so the group stays within what is known of it where times are longer
    pub stays_within_longer : StaysWithin (tight_timing less group) (tight_timing more group)
    unfolding tight_timing
    stays_within_longer = record {
      task = refl;
      core = same.alike.cores task;
      priority = same.alike.priorities task;
      is_timed = ap is_timed (same.alike.accesses task);
      jitter = ap greatest_jitter (same.alike.patterns task);
      distance = ap greatest_distance (same.alike.patterns task);
      read = omega (arith, same_lead less more same task group.first);
      write = write_no_later;
    }

  -- and no tight bound of a chain is greater
  pub longer_no_less : (groups : List Group) → All (IsGroupOfTask less) groups → All (IsNoLonger less more) groups
      → NoneIsLate (tight_answers_of more) groups
      → AreNoGreater (tight_bounds less (tight_timing less) groups) (tight_bounds more (tight_timing more) groups)
  longer_no_less groups of_tasks no_longer timely =
      subst (AreNoGreater (tight_bounds less (tight_timing less) groups)) (same_bounds less more same.alike.patterns (tight_timing more) groups)
      (tight_within_wider less sound (tight_timing less) (tight_timing more) groups of_tasks
      (λ place d h. stays_within_longer (get_or groups place d) (of_tasks place d h) (no_longer place d h) (timely place d h)))
