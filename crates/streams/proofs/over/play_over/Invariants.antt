use Rattle.streams.proofs.over.play_over.Given as goal

-- each device counts its failures in a book of its own
abbrev pub ghosts-play_counting-S-Ledger : goal.ghosts-play_counting-S-Ledger
ghosts-play_counting-S-Ledger g a = record { name = a.books.source.name; parts = a.books.source.parts }

abbrev pub ghosts-play_counting-T-Ledger : goal.ghosts-play_counting-T-Ledger
ghosts-play_counting-T-Ledger g a = record { name = a.books.out.name; parts = a.books.out.parts }

abbrev pub ghosts-play_counting-U-Ledger : goal.ghosts-play_counting-U-Ledger
ghosts-play_counting-U-Ledger g a = record { name = a.books.rec.name; parts = a.books.rec.parts }
