use Rattle.walk.specs.Walks.{last}
use Rattle.walk.proofs.Goes
use Rattle.walk.proofs.stack.Walk.turn.Goals as goal

pub go_on-requires : goal.go_on-requires
go_on-requires g c = record { some = c.requires.some; pass = Goes.no_storing (last c.args.self.now).pass c.in-ForBoth.is; shown = c.requires.shown }
