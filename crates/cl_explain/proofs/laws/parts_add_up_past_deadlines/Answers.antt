use Rattle.cl_explain.proofs.AddedUp.{late_parts}
use Rattle.cl_explain.proofs.laws.parts_add_up_past_deadlines.Goals as goal

pub returns : goal.returns
returns c = late_parts
