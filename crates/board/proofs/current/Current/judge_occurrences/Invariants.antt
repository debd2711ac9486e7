use Rattle.board.specs.Current.{file_under, place, seen}
use Rattle.board.proofs.Tallying.{Tallied}
use Rattle.board.proofs.current.Current.judge_occurrences.Given as goal

abbrev pub invariant-loop-i : goal.invariant-loop-i
invariant-loop-i l =
    Tallied (file_under l.self) (seen l.self) (place l.self) l.i l.tally.wires.driven l.tally.wires.reach l.tally.sizes l.tally.cells l.tally.depth l.tally.places
