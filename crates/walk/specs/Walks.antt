-- A walk under way: its last level, the machine that it shows, and what its methods give.
use Rattle.std.specs.Prelude.{◌≡◌, ◌+◌, ◌-◌, ◌<◌, ◌^◌, map, slice_index_or, slice_set}
use Rattle.signal.specs.Kinds.{Kind}
use Rattle.flat.specs.Machine.{Machine, result}
use Rattle.flat.specs.Windows.{writes}
use Rattle.board.specs.Lent.{board_in}
use Rattle.walk.specs.declared.level.Level.{Level}
use Rattle.walk.specs.declared.level.Pass.{Pass}
use Rattle.walk.specs.declared.reading.Child.{Child}
use Rattle.walk.specs.declared.stack.Walk.{Walk}
use Rattle.walk.specs.Levels.{level_at, module_in, use_in, placed, advanced, child_base, child_level, Opened}
use Rattle.walk.specs.Shown.{State, Later, After}

module _ {V : Type 0} where
  -- the last level, and the one above it
  abbrev pub last : Walk V → Level
  last w = level_at w.levels.now (w.depth - 1)

  abbrev pub above : Walk V → Level
  above w = level_at w.levels.now (w.depth - 1 - 1)

  -- the same board, in the same memory
  pub record SameMemory (v w : Walk V) : Type 0 where
    pub top : w.top ≡ v.top
    pub cells : w.cells.ghost_name ≡ v.cells.ghost_name
    pub work : w.work.ghost_name ≡ v.work.ghost_name
    pub levels : w.levels.ghost_name ≡ v.levels.ghost_name

  -- the level above the last one, past its entry of the state list
  pub record RisenAs (v w : Walk V) : Type 0 where
    pub same : SameMemory v w
    pub cells : w.cells.now ≡ v.cells.now
    pub work : w.work.now ≡ v.work.now
    pub count : w.count ≡ v.count
    pub depth : w.depth ≡ v.depth - 1
    pub levels : w.levels.now ≡ slice_set v.levels.now (v.depth - 1 - 1) (advanced (above v) ((above v).place + 1) (last v).cell)

module _ {V : Type 0} (K : Kind V) where
  -- a walk shows a machine
  abbrev pub ShownBy : Walk V → Machine V → Type 0
  ShownBy w M = State K (board_in w.top.tables) w.cells.now w.work.now w.levels.now w.depth w.count M

  -- it shows one whose gates can all be counted
  abbrev pub Ready : Walk V → Type 0
  Ready w = (M : Machine V) × ShownBy w M × ((result K M).count + 1 < 2 ^ 32)

  abbrev pub LaterBy : Walk V → Machine V → Type 0
  LaterBy w M = Later K (board_in w.top.tables) w.cells.now w.work.now w.levels.now w.depth w.count M

  abbrev pub AfterBy : Walk V → Machine V → Type 0
  AfterBy w M = After K (board_in w.top.tables) w.cells.now w.work.now w.levels.now w.depth w.count M

  -- a child has a level of its own, with its window open
  pub record EnteredAs (v : Walk V) (child : Child) (pass : Pass) (w : Walk V) : Type 0 where
    pub same : SameMemory v w
    pub cells : w.cells.now ≡ v.cells.now
    pub count : w.count ≡ v.count
    pub depth : w.depth ≡ v.depth + 1
    pub work : Opened K (last v).base child.ins.now (child_base (board_in v.top.tables) (last v)) (module_in v.top.tables child.number).wires v.work.now w.work.now
    pub levels : w.levels.now ≡ slice_set v.levels.now v.depth (child_level (board_in v.top.tables) (last v) child.number pass child.cell)

  -- the level above the last one, past its occurrence, which has its outputs
  pub record LeftAs (v w : Walk V) : Type 0 where
    pub same : SameMemory v w
    pub cells : w.cells.now ≡ v.cells.now
    pub count : w.count ≡ v.count
    pub depth : w.depth ≡ v.depth - 1
    pub work : w.work.now ≡ writes K (above v).base (use_in v.top.tables (above v).number (above v).place).outs (map (λ i. slice_index_or v.work.now ((last v).base + i) K.low) (module_in v.top.tables (last v).number).outs) v.work.now
    pub levels : w.levels.now ≡ slice_set v.levels.now (v.depth - 1 - 1) (placed (above v) ((above v).place + 1))
