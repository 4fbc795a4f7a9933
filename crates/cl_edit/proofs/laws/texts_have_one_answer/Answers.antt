use Rattle.cl_edit.proofs.OneAnswer.{edits_unique, bad_lines_unique, never_both}
use Rattle.cl_edit.proofs.laws.texts_have_one_answer.Goals as goal

pub returns-clause-edits : goal.returns-clause-edits
returns-clause-edits c = edits_unique

pub returns-clause-line : goal.returns-clause-line
returns-clause-line c = bad_lines_unique

pub returns-clause-apart : goal.returns-clause-apart
returns-clause-apart c = never_both
