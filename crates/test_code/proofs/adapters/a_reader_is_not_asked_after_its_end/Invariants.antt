use Rattle.test_code.proofs.adapters.a_reader_is_not_asked_after_its_end.Given as goal

-- the count of failures has a ledger of its own
abbrev pub ghosts-reads : goal.ghosts-reads
ghosts-reads g a = record { name = a.blank.name; parts = a.blank.parts }
