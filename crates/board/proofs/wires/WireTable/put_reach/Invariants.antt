use Rattle.std.proofs.Common.{◌≡◌, length, drop}
use Rattle.board.specs.WireTables.{bit, reaches, fill}
use Rattle.board.proofs.wires.WireTable.put_reach.Given as goal

abbrev pub invariant-loop-w : goal.invariant-loop-w
invariant-loop-w l =
    (length l.self.reach ≡ 256)
    × (fill (drop l.w-index l.pins) (bit l.mask) (reaches l.self.reach) ≡ fill l.pins (bit l.mask) (reaches l.initial.self.reach))
    × (l.self.driven ≡ l.initial.self.driven)
