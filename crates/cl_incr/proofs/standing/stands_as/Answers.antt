use Rattle.std.proofs.Common.{◌≡◌, ℕ, ◌<◌, List, length, get_or, sym, ap, ◌∙◌, arith}
use Rattle.std.proofs.lemmas.List.{get_or_default}
use Rattle.cl_model.specs.declared.model.SystemModel.{SystemModel}
use Rattle.cl_runs.specs.SystemOf.{system_of}
use Rattle.cl_runs.proofs.ModelSystem.{timing_is}
use Rattle.cl_bound.specs.{declared.answer.TaskAnswer.{TaskAnswer, TheVariants.Late}, Answers.{answer_at, answers_of}}
use Rattle.cl_incr.proofs.KeptAnswers.{answer_count}
use Rattle.cl_incr.proofs.standing.stands_as.Goals as goal

pub bounds-as_slice-was : goal.bounds-as_slice-was
bounds-as_slice-was c =
    omega (arith, ap length c.as_slice.ensures, answer_count c.args.old.now c.args.old_answers.now c.requires.old_answers, c.tasks.ensures.count, c.if-was-tasks.false)

pub bounds-as_slice-task : goal.bounds-as_slice-task
bounds-as_slice-task c =
    omega (arith, ap length c.as_slice-2.ensures, answer_count c.args.new.now c.args.new_answers.now c.requires.new_answers, c.requires.task)

-- an answer in a list is the one of its number
there : (model : SystemModel) (answers slice : List TaskAnswer) (task : ℕ) (found : TaskAnswer) → answers ≡ answers_of (system_of model) → slice ≡ answers
    → task < length model.tasks → found ≡ get_or slice task found → found ≡ answer_at (answers_of (system_of model)) task
there model answers slice task found are is within at =
    at ∙ ap (λ (l : List TaskAnswer). get_or l task found) (is ∙ are)
    ∙ get_or_default (answers_of (system_of model)) task found Late (omega (arith, within, answer_count model answers are, ap length are))

pub returns : goal.returns
returns c = λ same.
    let known : c.args.was < length c.args.old.now.tasks = omega (arith, c.tasks.ensures.count, c.if-was-tasks.false) in
    record {
      timing = timing_is c.args.old.now c.args.was known ∙ c.has_same_timing.ensures c.if-not-has_same_timing.false ∙ sym (timing_is c.args.new.now c.args.task c.requires.task);
      answer =
          sym (there c.args.old.now c.args.old_answers.now c.as_slice.result.now c.args.was c.index-as_slice-was.result c.requires.old_answers c.as_slice.ensures known c.index-as_slice-was.is)
          ∙ c.is_same_answer.ensures.0 same
          ∙ there c.args.new.now c.args.new_answers.now c.as_slice-2.result.now c.args.task c.index-as_slice-task.result c.requires.new_answers c.as_slice-2.ensures c.requires.task
          c.index-as_slice-task.is;
    }
