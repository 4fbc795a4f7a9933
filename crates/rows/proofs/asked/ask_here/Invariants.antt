use Rattle.rows.proofs.asked.ask_here.Given as goal

-- the ledger of the blank that the counter is made of
abbrev pub ghosts-ask_uncounted : goal.ghosts-ask_uncounted
ghosts-ask_uncounted a = record { name = a.blank.name; parts = a.blank.parts }
