use Rattle.cl_resp.proofs.{LeastBehind.part_leaves_room, LeastParts.execution_in_response}
use Rattle.cl_resp.proofs.laws.by_phase.responses_by_phase_lie_between.Goals as goal

pub returns-clause-execution : goal.returns-clause-execution
returns-clause-execution c = execution_in_response

pub returns-clause-through : goal.returns-clause-through
returns-clause-through c = part_leaves_room
