use Rattle.turn_lock.proofs.turn.Turn.mark.Given as goal

abbrev pub ghosts-mark_history : goal.ghosts-mark_history
ghosts-mark_history g a = record { list = g.B.Counted.history a.book.now }
