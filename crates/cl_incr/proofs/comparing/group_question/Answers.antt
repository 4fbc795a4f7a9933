use Rattle.std.proofs.Common.{sym, ap, ◌∙◌}
use Rattle.cl_model.specs.declared.task.TaskDef.{TaskDef}
use Rattle.cl_incr.proofs.SameQuestions.{question_is}
use Rattle.cl_incr.proofs.comparing.group_question.Goals as goal

pub returns : goal.returns
returns c =
    let access = ap (λ (t : TaskDef). t.access) c.task.ensures.task in
    (λ i. record {
      pattern = c.stimulus_of.ensures i;
      deadline = c.deadline_of.ensures i;
      access = access i;
      before = (c.spot_of.ensures i).before;
      after = (c.spot_of-2.ensures i).after;
      response = c.response_of.ensures i;
    })
    ∙ sym (question_is c.args.model.now c.args.answers.now c.args.group c.requires.known)
