use Rattle.std.proofs.Common.{ap, ◌∙◌}
use Rattle.cl_valid.specs.declared.tasks.TasksSoFar.{TasksSoFar}
use Rattle.cl_valid.proofs.validation.check_links.Goals as goal

pub check_deadlines-requires-clause-shares : goal.check_deadlines-requires-clause-shares
check_deadlines-requires-clause-shares c = ap (λ (k : TasksSoFar). k.shares) c.requires.kept

pub check_chains-requires-clause-uses : goal.check_chains-requires-clause-uses
check_chains-requires-clause-uses c = c.as_slice.ensures ∙ ap (λ (k : TasksSoFar). k.uses.each) c.requires.kept
