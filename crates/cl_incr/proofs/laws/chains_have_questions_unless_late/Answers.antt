use Rattle.cl_incr.proofs.ByQuestions.{bounded_where_asked, late_where_not_asked}
use Rattle.cl_incr.proofs.laws.chains_have_questions_unless_late.Goals as goal

pub returns-clause-bounded : goal.returns-clause-bounded
returns-clause-bounded c = bounded_where_asked

pub returns-clause-late : goal.returns-clause-late
returns-clause-late c = late_where_not_asked
