use Rattle.std.proofs.Common.{rules}
use Rattle.walk.proofs.Fills.{all_filled}
use Rattle.run.proofs.Run.clear.Goals as goal

pub returns-clause-clear : goal.returns-clause-clear
returns-clause-clear g c =
    let f = c.fill_with.ensures in
    let filled = all_filled _ _ c.low-low.result (λ x q s. search rules) c.args.cells.now c.fill_with.new.self f.ran.0 f.len f.ran.1 in
    search rules
