use Rattle.std.proofs.Common.{◌∙◌}
use Rattle.std.specs.Prelude.{Some}
use Rattle.std.proofs.lemmas.Option.{slice_get_within}
use Rattle.cl_edit.proofs.NewTaskChecks.{outpaced_is, kind_is}
use Rattle.cl_edit.proofs.new_deadlines.is_above.Goals as goal

pub stimulus_of-requires : goal.stimulus_of-requires
stimulus_of-requires c = slice_get_within c.args.model.now.tasks c.args.i c.args.task.now c.requires.task

pub returns : goal.returns
returns c =
    c.is_outpaced_by.ensures
    ∙ outpaced_is c.args.model.now c.args.new.now c.args.task.now c.args.kind (Some c.stimulus_of.result) c.requires.kind (kind_is c.args.model.now c.requires.valid c.args.i c.args.task.now c.stimulus_of.result c.requires.task c.stimulus_of.ensures)
