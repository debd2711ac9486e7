use Rattle.std.proofs.Common.{◌<◌, length, get_or, sym, ◌∙◌, arith, length-set, rules}
use Rattle.board.proofs.Pins.{fresh_yes, drive_more}
use Rattle.board.proofs.wires.WireTable.drive.Goals as goal

pub loop-w-preserved : goal.loop-w-preserved
loop-w-preserved c =
    let xs = c.args.pins.now in
    let i = c.loop-w.w-index in
    let l : get_or xs i 0 < length c.loop-w.self.driven = search rules in (
      simp length-set c.loop-w.invariant.0,
      sym (fresh_yes xs i c.loop-w.self.driven (omega arith) l c.if-self-w.false) ∙ c.loop-w.invariant.1,
      sym (drive_more xs i c.loop-w.self.driven (omega arith) l) ∙ c.loop-w.invariant.2,
      c.loop-w.invariant.3,
    )
