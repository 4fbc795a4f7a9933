use Rattle.cl_edit.proofs.FirstLists.{lines_of, listed_of}
use Rattle.cl_edit.proofs.laws.versions.first_lists_are_lines.Goals as goal

pub returns-clause-lines : goal.returns-clause-lines
returns-clause-lines c = lines_of

pub returns-clause-listed : goal.returns-clause-listed
returns-clause-listed c = listed_of
