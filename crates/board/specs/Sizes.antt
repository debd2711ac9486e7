-- The figures of the board that a file describes.
use Rattle.std.specs.Prelude.{◌≡◌, ℕ, List, length}
use Rattle.rules.specs.Boards.{top, in_count, out_wires, cells, depth, places}
use Rattle.rules.specs.Judging.{board_of}
use Rattle.board.specs.declared.figures.Figures.{Figures}
use Rattle.board.specs.declared.tables.Summary.{Summary}

-- the figures are those of a top with such a summary
pub record Figured (modules : ℕ) (top : Summary) (r : Figures) : Type 0 where
  pub modules_is : r.modules ≡ modules
  pub inputs : r.inputs ≡ top.inputs
  pub outputs : r.outputs ≡ top.outputs
  pub cells : r.cells ≡ top.cells
  pub places : r.places ≡ top.places
  pub depth : r.depth ≡ top.depth

-- the figures are those of the file
pub record FiguresOf (f : List ℕ) (r : Figures) : Type 0 where
  pub modules : r.modules ≡ length (board_of f)
  pub inputs : r.inputs ≡ in_count (top (board_of f))
  pub outputs : r.outputs ≡ length (out_wires (top (board_of f)))
  pub cells : r.cells ≡ cells (top (board_of f))
  pub places : r.places ≡ places (top (board_of f))
  pub depth : r.depth ≡ depth (top (board_of f))
