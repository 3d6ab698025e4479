use Rattle.qss_hand.proofs.Common.{◌≡◌, row_room, take}
use Rattle.qss_hand.proofs.work.work_row_room.Given as goal

-- the rows of the clauses so far
abbrev pub invariant-loop-clause : goal.invariant-loop-clause
invariant-loop-clause l = l.room ≡ row_room (take l.clause-index l.clauses)
