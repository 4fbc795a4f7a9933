use Rattle.cl_engine.proofs.starting.start.Given as goal

-- the ledger of the blank that the counter is made of
abbrev pub ghosts-start_with : goal.ghosts-start_with
ghosts-start_with g a = record { name = a.blank.name; parts = a.blank.parts }
