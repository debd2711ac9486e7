use Rattle.board.proofs.Lending.{right}
use Rattle.board.proofs.board.Board.tables.Goals as goal

pub returns : goal.returns
returns c =
    let e = c.lend.ensures in
    record { file = e.file; right = right c.args.self.now.judged c.args.self.now.accepted c.lend.result e.file e.modules e.starts }
