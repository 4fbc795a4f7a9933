use Rattle.std.proofs.Common.{◌∙◌}
use Rattle.std.specs.Prelude.{Some}
use Rattle.std.proofs.lemmas.Option.{slice_get_within}
use Rattle.cl_model.specs.declared.refusal.Code.TheVariants.{M42}
use Rattle.cl_edit.proofs.{ListAnswers.answers_when, NewTaskChecks.{outpaced_is, kind_is}}
use Rattle.cl_edit.proofs.new_deadlines.check_below.Goals as goal

pub stimulus_of-requires : goal.stimulus_of-requires
stimulus_of-requires c = slice_get_within c.args.model.now.tasks c.args.i c.args.task.now c.requires.task

pub returns : goal.returns
returns c =
    answers_when c.refuse_when.result c.is_outpaced_by-is_late.result _ M42 c.task_key.result _
    (c.is_outpaced_by-is_late.ensures
    ∙ outpaced_is c.args.model.now c.args.task.now c.args.new.now (Some c.stimulus_of.result) c.args.new_kind (kind_is c.args.model.now c.requires.valid c.args.i c.args.task.now c.stimulus_of.result c.requires.task c.stimulus_of.ensures) c.requires.kind)
    c.task_key.ensures c.refuse_when.ensures
