-- What judging finds of a module by taking its occurrences.
use Rattle.std.specs.Prelude.{◌≡◌, ℕ, ◌+◌, ◌<◌, ◌≤◌, Bool, ◌&&◌, List, [], length, nat_le, nat_lt, slice_index, slice_index_or}
use Rattle.rules.specs.Boards.{Design, node, cells, cells_at, ahead, depth, places}
use Rattle.rules.specs.Wires.{drive_all, reach}
use Rattle.rules.specs.Records.{end_of, uses, module_at}
use Rattle.rules.specs.Judging.{PlacedModule, unit_no, module_of, occurrences_of, seen_from}
use Rattle.board.specs.WireTables.{driven_by, reaches}
use Rattle.board.specs.Summaries.{file_of}
use Rattle.board.specs.declared.bodies.Counts.{Counts}
use Rattle.board.specs.declared.tables.Summary.{Summary}
use Rattle.board.specs.declared.tables.Judged.{Judged}
use Rattle.board.specs.declared.modules.Tally.{Tally}
use Rattle.board.specs.declared.modules.Lists.{Lists}

pub record TallyOf (below : ℕ → Design) (u : PlacedModule) (s : Tally) : Type 0 where
  pub driven : driven_by s.wires.driven ≡ drive_all (occurrences_of u.placed) (λ w. nat_lt w u.inputs)
  pub reach : reaches s.wires.reach ≡ reach (node (module_of u) below)
  pub sizes : (i : ℕ) → i < length u.placed → slice_index s.sizes i ≡ cells_at (module_of u) below i
  pub cells : s.cells ≡ cells (node (module_of u) below)
  pub depth : 1 + s.depth ≡ depth (node (module_of u) below)
  pub places : s.places ≡ places (node (module_of u) below)
  pub shallow : s.depth ≤ 8

-- the module's depth, which is one more, its cells and its places are within the limits
abbrev pub within_limits : Tally → Bool
within_limits t = nat_le t.depth 7 && (nat_le t.cells 4096 && nat_le t.places 65535)

-- the summary of a module with such counts, such a tally and such a set of through inputs
pub record Summed (c : Counts) (t : Tally) (through : ℕ) (s : Summary) : Type 0 where
  pub inputs : s.inputs ≡ c.inputs
  pub outputs : s.outputs ≡ c.outputs
  pub through_is : s.through ≡ through
  pub cells : s.cells ≡ t.cells
  pub depth : s.depth ≡ 1 + t.depth
  pub places : s.places ≡ t.places

-- where the cells of each occurrence of module k begin among the module's
abbrev pub StartsOf : List ℕ → ℕ → List ℕ → Type 0
StartsOf f k ss =
    (i : ℕ) → i < uses f (module_at f (end_of f 0) k) → slice_index ss i ≡ ahead (cells_at (module_of (unit_no f k)) (seen_from f (k + 1))) (unit_no f k).states i

-- the table has these of the modules from number k on
abbrev pub StartedFrom : Judged → ℕ → Type 0
StartedFrom b k = (j : ℕ) → k ≤ j → j < b.count → StartsOf (file_of b) j (slice_index_or b.starts j [])

-- a module's output wires and state list
pub record ListsOf (u : PlacedModule) (l : Lists) : Type 0 where
  pub outs : l.outs.now ≡ u.outs
  pub states : l.states.now ≡ u.states
  pub few_outs : length l.outs.now ≤ 16
  pub few_states : length l.states.now ≤ 64
