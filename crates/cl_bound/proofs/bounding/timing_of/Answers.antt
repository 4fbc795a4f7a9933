use Rattle.std.proofs.Common.{ℕ, ◌∙◌, arith}
use Rattle.cl_runs.specs.SystemOf.{system_of}
use Rattle.cl_hop.proofs.ModelGroups.{timing_with_response}
use Rattle.cl_resp.proofs.SettledTasks.{execution_in_response}
use Rattle.cl_bound.specs.Answers.{answers_of, answer_at, response_in}
use Rattle.cl_bound.proofs.{SettledTasks.in_deadline, ModelGroups.{response_found, settled_response}}
use Rattle.cl_bound.proofs.bounding.timing_of.Goals as goal

pub of-requires-clause-holds_execution : goal.of-requires-clause-holds_execution
of-requires-clause-holds_execution c = omega (
  arith,
  execution_in_response (system_of c.args.model.now) c.args.group.task c.response-response.result
      (settled_response c.args.model.now c.args.settled.now c.args.group.task c.index-as_slice-group.result c.response-response.result
      c.requires.group.known c.requires.answers c.requires.not_late (rw c.as_slice.ensures at c.index-as_slice-group.is) c.response-response.ensures),
)

pub of-requires-clause-by_deadline : goal.of-requires-clause-by_deadline
of-requires-clause-by_deadline c = in_deadline (system_of c.args.model.now) c.args.group.task c.response-response.result
    (settled_response c.args.model.now c.args.settled.now c.args.group.task c.index-as_slice-group.result c.response-response.result
    c.requires.group.known c.requires.answers c.requires.not_late (rw c.as_slice.ensures at c.index-as_slice-group.is) c.response-response.ensures)

pub returns-clause-timing : goal.returns-clause-timing
returns-clause-timing c =
    c.of.ensures.timing ∙ timing_with_response (system_of c.args.model.now) (λ (task : ℕ). response_in (answer_at (answers_of (system_of c.args.model.now)) task))
    c.args.group c.response-response.result
    (response_found c.args.model.now c.args.settled.now c.args.group.task c.index-as_slice-group.result c.response-response.result c.requires.group.known
    c.requires.answers (rw c.as_slice.ensures at c.index-as_slice-group.is) c.response-response.ensures)
