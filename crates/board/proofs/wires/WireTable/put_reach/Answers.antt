use Rattle.std.proofs.Common.{◌<◌, length, get_or, sym, ◌∙◌, arith, length-set, rules}
use Rattle.board.proofs.Pins.{fill_more}
use Rattle.board.proofs.wires.WireTable.put_reach.Goals as goal

pub loop-w-preserved : goal.loop-w-preserved
loop-w-preserved c =
    let xs = c.args.pins.now in
    let i = c.loop-w.w-index in
    let l : get_or xs i 0 < length c.loop-w.self.reach = search rules in
    (simp length-set c.loop-w.invariant.0, sym (fill_more xs i c.args.mask c.loop-w.self.reach (omega arith) l) ∙ c.loop-w.invariant.1, c.loop-w.invariant.2)
