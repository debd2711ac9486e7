-- What the tables that a board lends hold, in the words of the board that the file describes.
use Rattle.std.specs.Prelude.{◌≡◌, ℕ, suc, ◌<◌, List, [], length, drop, slice_index, slice_index_or}
use Rattle.rules.specs.Refusals.{accepted}
use Rattle.rules.specs.Boards.{Module, Design, module_number, design_from, cells_at, ahead}
use Rattle.rules.specs.Files.{module_start, occurrence_start}
use Rattle.rules.specs.Judging.{board_of, verdict}
use Rattle.board.specs.declared.layout.ModuleRecords.{ModuleRecords}
use Rattle.board.specs.declared.lent.Tables.{Tables}
use Rattle.board.specs.Layouts.{no_records}

abbrev pub board_in : Tables → List Module
board_in t = board_of t.file.now

-- the modules that module k may use
abbrev pub behind : List Module → ℕ → ℕ → Design
behind board k = design_from (suc k) (drop (suc k) board)

-- the records of module k
pub record RecordsOf (board : List Module) (k : ℕ) (r : ModuleRecords) : Type 0 where
  pub place : r.place ≡ module_start board k
  pub inputs : r.counts.inputs ≡ (module_number board k).inputs
  pub outputs : r.counts.outputs ≡ length (module_number board k).outs
  pub wires : r.counts.wires ≡ (module_number board k).wires
  pub occurrences : r.counts.occurrences ≡ length (module_number board k).occurrences
  pub states : r.counts.states ≡ length (module_number board k).states
  pub starts : (i : ℕ) → i < length (module_number board k).occurrences → slice_index r.occurrences.starts i ≡ occurrence_start board k i

-- where the cells of each occurrence of module k begin among the module's
abbrev pub CellsBegin : List Module → ℕ → List ℕ → Type 0
CellsBegin board k ss =
    (i : ℕ) → i < length (module_number board k).occurrences → slice_index ss i ≡ ahead (cells_at (module_number board k) (behind board k)) (module_number board k).states i

-- the file is accepted, and the tables are its board's
pub record Right (t : Tables) : Type 0 where
  pub verdict_is : verdict t.file.now ≡ accepted
  pub modules : (k : ℕ) → k < length (board_in t) → RecordsOf (board_in t) k (slice_index_or t.modules.now k no_records)
  pub starts : (k : ℕ) → k < length (board_in t) → CellsBegin (board_in t) k (slice_index_or t.starts.now k [])
