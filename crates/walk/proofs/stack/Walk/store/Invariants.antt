use Rattle.std.proofs.Common.{◌≡◌, ◌-◌, set}
use Rattle.flat.specs.Machine.{Machine}
use Rattle.board.specs.Lent.{board_in}
use Rattle.walk.specs.Levels.{advanced}
use Rattle.walk.specs.Shown.{Later}
use Rattle.walk.specs.Walks.{last, ShownBy}
use Rattle.walk.proofs.stack.Walk.store.Given as goal

-- the last level stands at the place and the cell, and the walk shows a later machine
abbrev pub invariant-loop-place : goal.invariant-loop-place
invariant-loop-place g l =
    let K = g.K.Signal.kind in
    let w = l.fn.self in
    let ls = set w.levels.now (w.depth - 1) (advanced (last w) l.place l.cell) in
    record {
      levels : l.levels ≡ ls;
      later : (M : Machine g.row.K.Denot) → ShownBy K w M → Later K (board_in w.top.tables) l.cells w.work.now ls w.depth w.count M;
    }
