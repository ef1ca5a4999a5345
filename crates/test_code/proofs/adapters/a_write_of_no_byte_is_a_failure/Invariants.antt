use Rattle.test_code.proofs.adapters.a_write_of_no_byte_is_a_failure.Given as goal

-- the count of failures has a ledger of its own
abbrev pub ghosts-writes : goal.ghosts-writes
ghosts-writes g a = record { name = a.blank.name; parts = a.blank.parts }
