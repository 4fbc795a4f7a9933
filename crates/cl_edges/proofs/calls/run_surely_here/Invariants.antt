use Rattle.cl_edges.proofs.calls.run_surely_here.Given as goal

-- the ledger of the blank that the counter is made of
abbrev pub ghosts-run_surely_uncounted : goal.ghosts-run_surely_uncounted
ghosts-run_surely_uncounted a = record { name = a.blank.name; parts = a.blank.parts }
