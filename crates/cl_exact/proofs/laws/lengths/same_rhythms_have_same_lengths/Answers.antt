use Rattle.cl_exact.proofs.SameRhythms.{lengths_also, same_timed, same_limit, within_also, past_also}
use Rattle.cl_exact.proofs.laws.lengths.same_rhythms_have_same_lengths.Goals as goal

pub returns-clause-lengths : goal.returns-clause-lengths
returns-clause-lengths c = lengths_also

pub returns-clause-timed : goal.returns-clause-timed
returns-clause-timed c = same_timed

pub returns-clause-limit : goal.returns-clause-limit
returns-clause-limit c = same_limit

pub returns-clause-within : goal.returns-clause-within
returns-clause-within c = within_also

pub returns-clause-past : goal.returns-clause-past
returns-clause-past c = past_also
