use Rattle.cl_valid.proofs.names.add_section.Goals as goal

pub returns-clause-checked : goal.returns-clause-checked
returns-clause-checked g c = rw (c.reserve.ensures, c.requires.empty, c.as_slice.ensures) at c.add_entries.ensures.checked

pub returns-clause-names : goal.returns-clause-names
returns-clause-names g c = rw (c.reserve.ensures, c.requires.empty, c.as_slice.ensures) at c.add_entries.ensures.names
