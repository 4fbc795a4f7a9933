use Rattle.cl_cut.proofs.OneCutAnswer.{all_safe, all_no_worse}
use Rattle.cl_cut.proofs.laws.cut_answers_are_safe.Goals as goal

pub returns-clause-safe : goal.returns-clause-safe
returns-clause-safe c = all_safe

pub returns-clause-no_worse : goal.returns-clause-no_worse
returns-clause-no_worse c = all_no_worse
