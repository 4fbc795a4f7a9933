use Rattle.cl_edit.proofs.laws.listed_edits_are_in_range.Goals as goal

pub returns : goal.returns
returns c = λ text listed are k d within. (are.may.lines k d within).in_range
