use Rattle.std.proofs.Common.{rules, ◌≡◌, ℕ, ◌<◌, List, length, get_or, sym, ap, subst, ◌∙◌, arith}
use Rattle.std.specs.Prelude.{IsPermutation}
use Rattle.std.specs.List.{range_with_len}
use Rattle.std.proofs.lemmas.List.{length-replicate}
use Rattle.std.proofs.lemmas.List.FromFn.{length-range_with_len}
use Rattle.std.proofs.lemmas.List.Sorted.{length_permutation}
use Rattle.cl_model.specs.declared.model.SystemModel.{SystemModel}
use Rattle.cl_runs.specs.{SystemOf.system_of, TaskTiming.{Timing, timing_at}}
use Rattle.cl_runs.proofs.ModelSystem.{count_is}
use Rattle.cl_resp.specs.{declared.question.{Block.Block, Question.Question}, Question.either_question, Response.response_to}
use Rattle.cl_bound.specs.{declared.answer.TaskAnswer.{TaskAnswer, TheVariants.Late}, Answers.answer_with}
use Rattle.cl_analyse.proofs.TaskAnswers.{AreAnswered, none_answered, one_answered, known_along, all_answered}
use Rattle.cl_analyse.proofs.task_answers.answer_tasks.Goals as goal

-- the answer to a question of a task
abbrev answer_of : SystemModel → (blocking : Block) → Timing → TaskAnswer
answer_of model blocking timing = answer_with (response_to (either_question blocking (system_of model) timing))

module _ (model : SystemModel) (order items : List ℕ) (permuted : IsPermutation (range_with_len 0 (length model.tasks)) order) (is : items ≡ order) where
  -- each task is an item
  each_task : IsPermutation (range_with_len 0 (length (system_of model).tasks)) items
  each_task =
      subst (λ count. IsPermutation (range_with_len 0 count) items) (sym (count_is model))
      (subst (λ (l : List ℕ). IsPermutation (range_with_len 0 (length model.tasks)) l) (sym is) permuted)

  as_many : length items ≡ length model.tasks
  as_many = ap length is ∙ length_permutation (range_with_len 0 (length model.tasks)) order permuted ∙ length-range_with_len 0 (length model.tasks)

  known : (blocking : Block) (index : ℕ) → index < length items → get_or items index 0 < length model.tasks
  known blocking index within = omega (arith, known_along (answer_of model blocking) (system_of model).tasks items each_task index within, count_is model)

pub loop-task-init : goal.loop-task-init
loop-task-init g c = record {
  answered = none_answered (answer_of c.args.model.now c.args.blocking) (system_of c.args.model.now).tasks c.deref-task-items.result.now c.in_ok-answers.answers
      (ap length c.in_ok-answers.ensures.late ∙ length-replicate (length c.args.model.now.tasks) Late ∙ sym (count_is c.args.model.now));
  last = tt;
  steps = omega arith;
}

pub ask_either-requires : goal.ask_either-requires
ask_either-requires g c =
    known c.args.model.now c.in_ok-order.order.items c.deref-task-items.result.now c.in_ok-order.ensures c.deref-task-items.ensures.value c.args.blocking c.loop-task.task-index c.loop-task-test.true

pub returns-in_err-question-clause-steps : goal.returns-in_err-question-clause-steps
returns-in_err-question-clause-steps g c = omega (
  arith,
  c.loop-task.invariant.steps,
  c.loop-task-test.true,
  as_many c.args.model.now c.in_ok-order.order.items c.deref-task-items.result.now c.in_ok-order.ensures c.deref-task-items.ensures.value,
)

pub answer_below-answer-requires-clause-task : goal.answer_below-answer-requires-clause-task
answer_below-answer-requires-clause-task g c =
    known c.args.model.now c.in_ok-order.order.items c.deref-task-items.result.now c.in_ok-order.ensures c.deref-task-items.ensures.value c.args.blocking c.loop-task.task-index c.loop-task-test.true

pub item_mut-requires : goal.item_mut-requires
item_mut-requires g c = omega (
  arith,
  known c.args.model.now c.in_ok-order.order.items c.deref-task-items.result.now c.in_ok-order.ensures c.deref-task-items.ensures.value c.args.blocking c.loop-task.task-index c.loop-task-test.true,
  c.loop-task.invariant.answered.one_a_task,
  count_is c.args.model.now,
)

pub loop-task-preserved : goal.loop-task-preserved
loop-task-preserved g c =
    let task = get_or c.deref-task-items.result.now c.loop-task.task-index 0 in
    let within : task < length (system_of c.args.model.now).tasks = omega (
      arith,
      known c.args.model.now c.in_ok-order.order.items c.deref-task-items.result.now c.in_ok-order.ensures c.deref-task-items.ensures.value c.args.blocking c.loop-task.task-index c.loop-task-test.true,
      count_is c.args.model.now,
    ) in
    let is : c.answer_below-answer.result ≡ answer_of c.args.model.now c.args.blocking (timing_at (system_of c.args.model.now) task) =
    c.answer_below-answer.ensures.answer ∙ ap (λ (q : Question). answer_with (response_to q)) c.in_ok-question.ensures.question in
    record {
      answered = one_answered (answer_of c.args.model.now c.args.blocking) (system_of c.args.model.now).tasks c.deref-task-items.result.now c.loop-task.task-index
          c.loop-task.answers _ c.answer_below-answer.result c.loop-task.invariant.answered within is (search rules);
      last = c.answer_below-answer.ensures.last;
      steps = omega (arith, c.loop-task.invariant.steps, c.answer_below-answer.ensures.steps);
    }

pub returns-clause-answers : goal.returns-clause-answers
returns-clause-answers g c =
    let model = c.args.model.now in
    let items = c.deref-task-items.result.now in
    let each = each_task model c.in_ok-order.order.items items c.in_ok-order.ensures c.deref-task-items.ensures.value in
    let done : c.loop-task.task-index ≡ length items = omega (arith, c.loop-task-test.false, c.loop-task.auto.task-index-end) in
    all_answered (answer_of model c.args.blocking) (system_of model).tasks items each c.loop-task.answers
    (subst (λ index. AreAnswered (answer_of model c.args.blocking) (system_of model).tasks items index c.loop-task.answers) done c.loop-task.invariant.answered)

pub returns-clause-steps : goal.returns-clause-steps
returns-clause-steps g c = omega (
  arith,
  c.loop-task.invariant.steps,
  c.loop-task.auto.task-index-end,
  as_many c.args.model.now c.in_ok-order.order.items c.deref-task-items.result.now c.in_ok-order.ensures c.deref-task-items.ensures.value,
)
