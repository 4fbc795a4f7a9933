use Rattle.std.proofs.Common.{◌≡◌, take}
use Rattle.cl_analyse.specs.Verdicts.{verdicts_of}
use Rattle.cl_analyse.proofs.judging.judge_all.Given as goal

abbrev pub invariant-loop-requirement : goal.invariant-loop-requirement
invariant-loop-requirement l = l.verdicts ≡ take l.requirement-index (verdicts_of l.model l.chains l.exacts)
