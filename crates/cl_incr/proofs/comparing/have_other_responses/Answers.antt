use Rattle.std.proofs.Common.{sym, ap, ◌∙◌, arith}
use Rattle.cl_model.specs.{declared.group.Group.Group, Groups.{no_group, groups_at}}
use Rattle.cl_runs.specs.SystemOf.{system_of}
use Rattle.cl_bound.specs.Answers.{answer_at, response_in}
use Rattle.cl_incr.specs.{declared.question.GroupQuestion.GroupQuestion, Questions.group_question}
use Rattle.cl_incr.proofs.SameQuestions.{maps_at}
use Rattle.cl_incr.proofs.comparing.have_other_responses.Goals as goal

-- groups that ask the same have the same response
pub returns-then-old_response-new_response : goal.returns-then-old_response-new_response
unfolding group_question
returns-then-old_response-new_response c = λ is same.
    let here = maps_at (group_question (system_of c.args.old.now) c.args.old_answers.now) (group_question (system_of c.args.new.now) c.args.new_answers.now)
    (groups_at c.args.old.now c.args.before) (groups_at c.args.new.now c.args.chain) no_group no_group same c.loop-place.place
    (omega (arith, c.loop-place-test.true, c.requires.count, c.group_count-place-end.ensures.count)) in
    c.if-old_response-new_response.true
    (c.response_of-old_response.ensures
    ∙ ap (λ (group : Group). response_in (answer_at c.args.old_answers.now group.task)) c.group.ensures.group
    ∙ ap (λ (question : GroupQuestion). question.response) here
    ∙ ap (λ (group : Group). response_in (answer_at c.args.new_answers.now group.task)) (sym c.group-in-loop-place.ensures.group)
    ∙ sym c.response_of-new_response.ensures)
