use Rattle.std.proofs.Common.{arith}
use Rattle.std.proofs.lemmas.Option.{gets}
use Rattle.std.proofs.lemmas.Grind.{common_steps}
use Rattle.cl_incr.proofs.comparing.response_of.Goals as goal

pub returns-in-Some-Late-2 : goal.returns-in-Some-Late-2
returns-in-Some-Late-2 c = grind (arith, common_steps, gets)
