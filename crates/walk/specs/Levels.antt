-- Levels, and what entering and leaving a module rely on and give.
use Rattle.std.specs.Prelude.{◌≡◌, ℕ, ◌+◌, ◌<◌, ◌≤◌, List, length, slice_index, slice_index_or}
use Rattle.signal.specs.Kinds.{Kind}
use Rattle.rules.specs.Boards.{Occurrence, Module, module_number, occurrence_no, cells_at, ahead}
use Rattle.board.specs.declared.lent.Tables.{Tables}
use Rattle.board.specs.Lent.{board_in, behind}
use Rattle.walk.specs.declared.level.Level.{Level}
use Rattle.walk.specs.declared.level.Pass.{Pass}
use Rattle.walk.specs.declared.level.Pass.TheVariants.{ForBoth, Storing}

abbrev pub module_in : Tables → ℕ → Module
module_in t k = module_number (board_in t) k

abbrev pub use_in : Tables → ℕ → ℕ → Occurrence
use_in t k i = occurrence_no (module_in t k) i

-- the top at its start
abbrev pub no_level : Level
no_level = record { number = 0; place = 0; pass = ForBoth; base = 0; cell = 0 }

abbrev pub level_at : List Level → ℕ → Level
level_at ls k = slice_index_or ls k no_level

-- a level at another place
abbrev pub placed : Level → ℕ → Level
placed c k = record { number = c.number; place = k; pass = c.pass; base = c.base; cell = c.cell }

-- a level at another place and another cell
abbrev pub advanced : Level → ℕ → ℕ → Level
advanced c k cell = record { number = c.number; place = k; pass = c.pass; base = c.base; cell = cell }

-- a level whose second pass begins
abbrev pub turned : Level → Level
turned c = record { number = c.number; place = 0; pass = Storing; base = c.base; cell = c.cell }

-- how many of the cells of module k lie ahead of those of occurrence i
abbrev pub cells_ahead : List Module → ℕ → ℕ → ℕ
cells_ahead board k i = ahead (cells_at (module_number board k) (behind board k)) (module_number board k).states i

module _ (board : List Module) where
  abbrev pub module_of_level : Level → Module
  module_of_level c = module_number board c.number

  -- a module's window begins where its parent's ends
  abbrev pub child_base : Level → ℕ
  child_base c = c.base + (module_of_level c).wires

  abbrev pub child_level : Level → ℕ → Pass → ℕ → Level
  child_level c j pass cell = record { number = j; place = 0; pass = pass; base = child_base c; cell = cell }

  -- module j can be entered from a level, with the input wires `ins`, in `size` working values
  pub record Enterable (c : Level) (j : ℕ) (ins : List ℕ) (size : ℕ) : Type 0 where
    pub number : c.number < length board
    pub child : j < length board
    pub fits : child_base c + (module_number board j).wires ≤ size
    pub few : length ins ≤ (module_number board j).wires
    pub wired : (i : ℕ) → i < length ins → slice_index ins i < (module_of_level c).wires

  -- a level can hand its outputs to the level p above it, in `size` working values
  pub record Leavable (c p : Level) (size : ℕ) : Type 0 where
    pub number : c.number < length board
    pub above : p.number < length board
    pub place : p.place < length (module_of_level p).occurrences
    pub small : p.place < 64
    pub same : length (module_of_level c).outs ≡ length (occurrence_no (module_of_level p) p.place).outs
    pub reads : (i : ℕ) → i < length (module_of_level c).outs → c.base + slice_index (module_of_level c).outs i < size
    pub apart : (i : ℕ) → i < length (occurrence_no (module_of_level p) p.place).outs → p.base + slice_index (occurrence_no (module_of_level p) p.place).outs i < c.base

-- a window that begins at `child` and has `wires` wires is open: the inputs come from the wires `ins` of the window that
-- begins at `base`, the other wires are low, and what lies ahead stays
pub record Opened {V : Type 0} (K : Kind V) (base : ℕ) (ins : List ℕ) (child wires : ℕ) (work work' : List V) : Type 0 where
  pub given : (k : ℕ) → k < length ins → slice_index_or work' (child + k) K.low ≡ slice_index_or work (base + slice_index ins k) K.low
  pub rest : (k : ℕ) → length ins ≤ k → k < wires → slice_index_or work' (child + k) K.low ≡ K.low
  pub others : (k : ℕ) → k < child → slice_index_or work' k K.low ≡ slice_index_or work k K.low
