use Rattle.cl_edit.proofs.FewAnswers.{whole_passes, access_passes, dropped_passes, nothing_passes}
use Rattle.cl_edit.proofs.check.check_change.Goals as goal

pub returns-in-Whole : goal.returns-in-Whole
returns-in-Whole c = whole_passes c.args.model.now c.requires.valid c.args.change.now c.requires.known c.in-Whole.step c.in-Whole.whole c.in-Whole.is

pub returns-in-Access : goal.returns-in-Access
returns-in-Access c = access_passes c.args.model.now c.requires.valid c.args.change.now c.requires.known c.in-Access.task c.in-Access.access c.in-Access.is

pub returns-in-DropRequirement : goal.returns-in-DropRequirement
returns-in-DropRequirement c = dropped_passes c.args.model.now c.requires.valid c.args.change.now c.requires.known c.in-DropRequirement.requirement c.in-DropRequirement.is

pub returns-in-Nothing : goal.returns-in-Nothing
returns-in-Nothing c = nothing_passes c.args.model.now c.requires.valid c.args.change.now c.requires.known c.in-Nothing.is
