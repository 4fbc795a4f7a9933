use Rattle.std.proofs.Common.{◌≡◌, ℕ, List, ◌++◌, sym, ap, ◌∙◌}
use Rattle.std.proofs.lemmas.List.{append_assoc}
use Rattle.cl_runs.specs.SystemOf.{system_of}
use Rattle.cl_resp.specs.{declared.question.Question.Question, Response.response_to}
use Rattle.cl_bound.specs.{declared.answer.TaskAnswer.TaskAnswer, Answers.{answer_with, answers_of, answer_at}}
use Rattle.cl_report.specs.Report.{task_line}
use Rattle.cl_explain.specs.Parts.{part_lines}
use Rattle.cl_explain.proofs.AnswersByNumber.{answer_is}
use Rattle.cl_explain.proofs.explaining.put_task_parts.Goals as goal

pub returns-clause-answer : goal.returns-clause-answer
returns-clause-answer c =
    c.answer_to-answer.ensures ∙ ap (λ (question : Question). answer_with (response_to question)) c.in_ok-question.ensures.question
    ∙ sym (answer_is c.args.model.now c.args.task c.requires)

pub returns-clause-text : goal.returns-clause-text
returns-clause-text c =
    let model = c.args.model.now in
    let task = c.args.task in
    let answer = c.answer_to-answer.result in
    let found : answer ≡ answer_at (answers_of (system_of model)) task =
    c.answer_to-answer.ensures ∙ ap (λ (question : Question). answer_with (response_to question)) c.in_ok-question.ensures.question ∙ sym (answer_is model task c.requires) in
    c.in_ok-put_parts.ensures ∙ ap (λ (t : List ℕ). t ++ part_lines model task answer) c.in_ok-put_task.ensures.ok
    ∙ append_assoc c.args.text.now (task_line model answer task) (part_lines model task answer)
    ∙ ap (λ (a : TaskAnswer). c.args.text.now ++ (task_line model a task ++ part_lines model task a)) found
