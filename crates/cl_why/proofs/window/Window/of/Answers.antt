use Rattle.std.proofs.Common.{◌≡◌, ◌<◌, length, refl, sym, ap, ◌∙◌, arith}
use Rattle.std.proofs.lemmas.Int.{ints}
use Rattle.cl_runs.specs.{TaskTiming.{System, Timing, timing_at}, SystemOf.system_of, ExecutionTimes.greatest_execution}
use Rattle.cl_resp.specs.{declared.question.Question.Question, Question.{lower_block_of, tight_question_of}}
use Rattle.cl_bound.specs.Answers.{answer_at}
use Rattle.cl_tight.proofs.TightTimings.{answer_count}
use Rattle.cl_report.proofs.ReportLines.{task_answer}
use Rattle.cl_verify.specs.Witnesses.{settled_response}
use Rattle.cl_verify.proofs.ByFindings.{response_by_answer}
use Rattle.cl_why.proofs.WindowRanges.{reach_few, ends_there}
use Rattle.cl_why.proofs.window.Window.of.Goals as goal

-- ---- what is read off the tight question

module _ (system : System) (timing : Timing) (question : Question) (is : question ≡ tight_question_of system timing) where
  deadline_is : question.deadline ≡ timing.deadline
  unfolding tight_question_of
  deadline_is = ap (λ (q : Question). q.deadline) is

  block_is : question.block ≡ lower_block_of system timing
  unfolding tight_question_of
  block_is = ap (λ (q : Question). q.block) is

  time_is : question.time ≡ greatest_execution timing
  unfolding tight_question_of
  time_is = ap (λ (q : Question). q.time) is

pub bounds-as_slice-task : goal.bounds-as_slice-task
bounds-as_slice-task c =
    omega (arith, c.requires.task, ap length c.as_slice.ensures, answer_count c.args.model.now c.args.answers.now c.requires.answers)

pub window_of_run-requires-clause-response : goal.window_of_run-requires-clause-response
window_of_run-requires-clause-response c =
    let model = c.args.model.now in
    let as_many : c.args.task < length c.as_slice.result.now = omega (arith, c.requires.task, ap length c.as_slice.ensures, answer_count model c.args.answers.now c.requires.answers) in
    let found = task_answer c.as_slice.result.now c.args.task c.index-as_slice-task.result as_many c.index-as_slice-task.is in
    response_by_answer model c.args.task c.requires.task
    ∙ ap (λ answers. settled_response (answer_at answers c.args.task)) (sym (c.as_slice.ensures ∙ c.requires.answers))
    ∙ ap settled_response (sym found)
    ∙ sym c.response_of.ensures

pub overflow_cast-result : goal.overflow_cast-result
overflow_cast-result c =
    let model = c.args.model.now in
    let as_many : c.args.task < length c.as_slice.result.now = omega (arith, c.requires.task, ap length c.as_slice.ensures, answer_count model c.args.answers.now c.requires.answers) in
    let found = task_answer c.as_slice.result.now c.args.task c.index-as_slice-task.result as_many c.index-as_slice-task.is in
    let given = found ∙ ap (λ answers. answer_at answers c.args.task) (c.as_slice.ensures ∙ c.requires.answers) in
    let few = reach_few model c.args.task c.requires.task c.index-as_slice-task.result c.reach_of.result c.in_ok-question.question.deadline given c.reach_of.ensures
    (deadline_is (system_of model) (timing_at (system_of model) c.args.task) c.in_ok-question.question c.in_ok-question.ensures.question) c.in_ok-question.ensures.in_range.deadline in
    omega (arith, ints, few)

pub overflow_add-result : goal.overflow_add-result
overflow_add-result c =
    let model = c.args.model.now in
    let as_many : c.args.task < length c.as_slice.result.now = omega (arith, c.requires.task, ap length c.as_slice.ensures, answer_count model c.args.answers.now c.requires.answers) in
    let found = task_answer c.as_slice.result.now c.args.task c.index-as_slice-task.result as_many c.index-as_slice-task.is in
    let given = found ∙ ap (λ answers. answer_at answers c.args.task) (c.as_slice.ensures ∙ c.requires.answers) in
    let few = reach_few model c.args.task c.requires.task c.index-as_slice-task.result c.reach_of.result c.in_ok-question.question.deadline given c.reach_of.ensures
    (deadline_is (system_of model) (timing_at (system_of model) c.args.task) c.in_ok-question.question c.in_ok-question.ensures.question) c.in_ok-question.ensures.in_range.deadline in
    omega (arith, ints, few, c.in_ok-worst.ensures.near.arrival)

pub returns : goal.returns
returns c =
    let model = c.args.model.now in
    let timing = timing_at (system_of model) c.args.task in
    let question = c.in_ok-question.question in
    let as_many : c.args.task < length c.as_slice.result.now = omega (arith, c.requires.task, ap length c.as_slice.ensures, answer_count model c.args.answers.now c.requires.answers) in
    let found = task_answer c.as_slice.result.now c.args.task c.index-as_slice-task.result as_many c.index-as_slice-task.is in
    let given = found ∙ ap (λ answers. answer_at answers c.args.task) (c.as_slice.ensures ∙ c.requires.answers) in
    let in_time = deadline_is (system_of model) timing question c.in_ok-question.ensures.question in
    let few = reach_few model c.args.task c.requires.task c.index-as_slice-task.result c.reach_of.result question.deadline given c.reach_of.ensures in_time c.in_ok-question.ensures.in_range.deadline in
    let there = ends_there model c.args.task c.requires.task c.index-as_slice-task.result c.reach_of.result question.deadline given c.reach_of.ensures in_time c.in_ok-worst.worst in
    record {
      is_task = c.requires.task;
      of_task = refl;
      is_worst = c.in_ok-worst.ensures.window;
      near = c.in_ok-worst.ensures.near;
      ends = omega (arith, ints, few, there, c.in_ok-worst.ensures.near.arrival);
      block = block_is (system_of model) timing question c.in_ok-question.ensures.question;
      time = time_is (system_of model) timing question c.in_ok-question.ensures.question;
      cycle = c.of.ensures;
    }
