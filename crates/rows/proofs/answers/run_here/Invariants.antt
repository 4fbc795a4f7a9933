use Rattle.rows.proofs.answers.run_here.Given as goal

-- the ledger of the blank that the counter is made of
abbrev pub ghosts-run_uncounted : goal.ghosts-run_uncounted
ghosts-run_uncounted g a = record { name = a.blank.name; parts = a.blank.parts }
