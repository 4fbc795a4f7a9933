use Rattle.std.proofs.Common.{take}
use Rattle.cl_model.specs.Groups.{groups_at}
use Rattle.cl_bound.specs.Answers.{NoneIsLate}
use Rattle.cl_analyse.proofs.analysing.first_late.Given as goal

abbrev pub invariant-loop-place : goal.invariant-loop-place
invariant-loop-place l = NoneIsLate l.answers (take l.place (groups_at l.model l.chain))
