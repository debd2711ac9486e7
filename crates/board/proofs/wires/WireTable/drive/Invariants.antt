use Rattle.std.proofs.Common.{◌≡◌, length, drop}
use Rattle.rules.specs.Wires.{fresh}
use Rattle.rules.specs.Wires.{drive}
use Rattle.board.specs.WireTables.{driven_by}
use Rattle.board.proofs.wires.WireTable.drive.Given as goal

abbrev pub invariant-loop-w : goal.invariant-loop-w
invariant-loop-w l =
    (length l.self.driven ≡ 256)
    × (fresh (drop l.w-index l.pins) (driven_by l.self.driven) ≡ fresh l.pins (driven_by l.initial.self.driven))
    × (drive (drop l.w-index l.pins) (driven_by l.self.driven) ≡ drive l.pins (driven_by l.initial.self.driven))
    × (l.self.reach ≡ l.initial.self.reach)
