use Rattle.test_code.proofs.player.played.Given as goal

-- each sink's count has a ledger of its own
abbrev pub ghosts-played_with-K-Ledger : goal.ghosts-played_with-K-Ledger
ghosts-played_with-K-Ledger g a = record { name = a.first.name; parts = a.first.parts }

abbrev pub ghosts-played_with-L-Ledger : goal.ghosts-played_with-L-Ledger
ghosts-played_with-L-Ledger g a = record { name = a.second.name; parts = a.second.parts }
