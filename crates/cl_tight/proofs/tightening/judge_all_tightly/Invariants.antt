use Rattle.std.proofs.Common.{◌≡◌, take, map}
use Rattle.cl_tight.specs.TightFindings.{tight_verdict_of}
use Rattle.cl_tight.proofs.tightening.judge_all_tightly.Given as goal

abbrev pub invariant-loop-requirement : goal.invariant-loop-requirement
invariant-loop-requirement l = l.verdicts ≡ take l.requirement-index (map (tight_verdict_of l.model l.chains) l.model.requirements)
