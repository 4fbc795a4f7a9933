use Rattle.std.proofs.Common.{rules}
use Rattle.std.proofs.lemmas.List.{append_assoc}
use Rattle.std.proofs.lemmas.Result.{IfOk-equal}
use Rattle.cl_why.specs.Walks.{job_line}
use Rattle.cl_why.proofs.walks.put_job.Goals as goal

pub returns : goal.returns
unfolding job_line
returns c = search (rules, IfOk-equal, append_assoc)
