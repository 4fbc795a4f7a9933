-- The two timed tasks: their system is that of a model, sound, and neither is late.
use Rattle.std.proofs.Common.{◌≡◌, ℕ, false, ◌<◌, refl, sym, ◌∙◌, arith}
use Rattle.std.proofs.lemmas.List.Elements.{All-from_recursion}
use Rattle.cl_model.specs.{declared.{group.Group.Group, task.AccessKind.TheVariants.Timed}, Groups.groups_of}
use Rattle.cl_runs.specs.{TaskTiming.{timing_at, IsSoundTask, IsSound}, SystemOf.system_of, ExecutionTimes.greatest_execution}
use Rattle.cl_resp.specs.{Question.{longest_hold, block_of, question_of}, Response.{demand, busy_window, IsSettled}}
use Rattle.cl_resp.proofs.BusyWindowTask.{settled_timely}
use Rattle.cl_exact.specs.{TimedPeriodic.are_timed_periodic, RunPromises.{HasResponse, HasItsRunnables, IsSettledTimedChain}}
use Rattle.cl_examples.specs.{Examples.from_a_to_b, ExampleModel.{chain_ab, two_tasks_model}, TimedExample.timed_tasks, TimedModel.timed_model}
use Rattle.cl_examples.proofs.ExampleFacts.{both, plain_task_sound}

pub timed_system : system_of timed_model ≡ timed_tasks
unfolding system_of timed_tasks timed_model two_tasks_model
timed_system = refl

pub timed_groups : groups_of timed_model chain_ab ≡ from_a_to_b
unfolding groups_of timed_model two_tasks_model
timed_groups = refl

core_is : (i : ℕ) → i < 2 → (timing_at timed_tasks i).core ≡ i
unfolding timed_tasks
core_is = both (λ i. (timing_at timed_tasks i).core ≡ i) refl refl

pub timed_sound : IsSound timed_tasks
unfolding timed_tasks
timed_sound = record {
  tasks = both (λ i. IsSoundTask 2 (timing_at timed_tasks i))
      (plain_task_sound 2 0 2 10 10 0 1 Timed false (omega arith) (omega arith) (omega arith) (omega arith))
      (plain_task_sound 2 1 1 15 15 0 1 Timed false (omega arith) (omega arith) (omega arith) (omega arith));
  distinct = λ i j hi hj cores priorities. sym (core_is i hi) ∙ cores ∙ core_is j hj;
}

settled_a : IsSettled timed_tasks 0 1
unfolding timed_tasks question_of greatest_execution longest_hold block_of demand busy_window
settled_a = record { is_task = omega arith; window = 1; answered = refl }

settled_b : IsSettled timed_tasks 1 1
unfolding timed_tasks question_of greatest_execution longest_hold block_of demand busy_window
settled_b = record { is_task = omega arith; window = 1; answered = refl }

pub timed_settled : IsSettledTimedChain timed_tasks from_a_to_b
unfolding timed_tasks are_timed_periodic
timed_settled = record {
  runnables = All-from_recursion (HasItsRunnables timed_tasks) from_a_to_b
      (record { first = omega arith; last = omega arith }, (record { first = omega arith; last = omega arith }, _));
  timed = refl;
  settled = All-from_recursion (λ (group : Group). HasResponse timed_tasks group.task) from_a_to_b (
    record { response = 1; timely = settled_timely timed_tasks timed_sound 0 1 settled_a },
    (record { response = 1; timely = settled_timely timed_tasks timed_sound 1 1 settled_b }, _),
  );
}
