use Rattle.cl_model.proofs.{RunnableChecks.labels_known, StepsApart.one_writer}
use Rattle.cl_model.proofs.laws.links.labels_are_known.Goals as goal

pub returns-clause-known : goal.returns-clause-known
returns-clause-known c = labels_known

pub returns-clause-one_writer : goal.returns-clause-one_writer
returns-clause-one_writer c = one_writer
