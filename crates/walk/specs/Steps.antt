-- What a walk gives: when memory fits a board, and a step in it.
use Rattle.std.specs.Prelude.{◌≡◌, ℕ, Bool, ◌&&◌, List, length, ◌==◌, nat_le}
use Rattle.signal.specs.Kinds.{Kind}
use Rattle.rules.specs.Boards.{Design, top, in_count, out_wires, cells}
use Rattle.rules.specs.Judging.{board_of}
use Rattle.flat.specs.Passes.{step_of}
use Rattle.board.specs.declared.board.Board.{Board}
use Rattle.walk.specs.declared.level.Level.{Level}

-- the top of the board that a board's file describes
abbrev pub design_in : Board → Design
design_in b = top (board_of b.judged.file.now)

-- so many inputs, cells and outputs are the board's, and so many working values and levels are enough
abbrev pub fits_board : Design → (inputs stored outputs values levels : ℕ) → Bool
fits_board d inputs stored outputs values levels =
    (inputs == in_count d) && (stored == cells d && (outputs == length (out_wires d) && (nat_le 1024 values && nat_le 8 levels)))

-- a step of the module d on the inputs and the cells: the outputs, the next cells, and how many gates were evaluated
pub record Step {V : Type 0} (K : Kind V) (d : Design) (ins cs : List V) (outputs' cells' : List V) (count' : ℕ) : Type 0 where
  pub outputs : outputs' ≡ (step_of K d ins cs).outs
  pub cells : cells' ≡ (step_of K d ins cs).cells
  pub count : count' ≡ (step_of K d ins cs).count

-- all memory is as it was
pub record Untouched {V : Type 0} (cells cells' outputs outputs' work work' : List V) (levels levels' : List Level) : Type 0 where
  pub cells_same : cells' ≡ cells
  pub outputs_same : outputs' ≡ outputs
  pub work_same : work' ≡ work
  pub levels_same : levels' ≡ levels
