use Rattle.streams.proofs.over.convert_over.Given as goal

-- each device counts its failures in a book of its own
abbrev pub ghosts-convert_counting-S-Ledger : goal.ghosts-convert_counting-S-Ledger
ghosts-convert_counting-S-Ledger g a = record { name = a.books.source.name; parts = a.books.source.parts }

abbrev pub ghosts-convert_counting-T-Ledger : goal.ghosts-convert_counting-T-Ledger
ghosts-convert_counting-T-Ledger g a = record { name = a.books.out.name; parts = a.books.out.parts }
