-- What the tables of records hold.
use Rattle.std.specs.Prelude.{◌≡◌, ℕ, ◌<◌, ◌≤◌, List, [], length, slice_index, slice_index_or}
use Rattle.std.proofs.Common.{arith}
use Rattle.rules.specs.Refusals.{accepted}
use Rattle.rules.specs.Records.{end_of, body, after, read, uses, occurrence_shape, module_shape, module_at, module_count}
use Rattle.board.specs.declared.layout.OccurrenceRecords.{OccurrenceRecords}
use Rattle.board.specs.declared.layout.ModuleRecords.{ModuleRecords}
use Rattle.board.specs.declared.layout.Layout.{Layout}
use Rattle.board.specs.Bodies.{CountsOf}

-- the n occurrences from `at` on
pub record OccurrencesOf (f : List ℕ) (at n : ℕ) (r : OccurrenceRecords) : Type 0 where
  pub starts : (i : ℕ) → i < n → slice_index r.starts i ≡ after f at i
  pub reads : (i : ℕ) → i < n → read f (after f at i) 3 occurrence_shape ≡ accepted
  pub end : r.end ≡ after f at n
  pub inside : r.end ≤ length f

pub record ModuleOf (f : List ℕ) (at : ℕ) (m : ModuleRecords) : Type 0 where
  pub place : m.place ≡ at
  pub whole : end_of f at ≤ length f
  pub reads : read f at 2 module_shape ≡ accepted
  pub counts : CountsOf (body f at) m.counts
  pub occurrences : OccurrencesOf f (end_of f at) (uses f at) m.occurrences

abbrev pub no_records : ModuleRecords
no_records =
    record { place = 0; counts = record { inputs = 0; outputs = 0; wires = 0; occurrences = 0; states = 0; few_inputs = omega arith; few_occurrences = omega arith }; occurrences = record { starts = []; end = 0 } }

-- the n modules from `at` on, which end the file
abbrev pub ModulesOf : (f : List ℕ) (at n : ℕ) → List ModuleRecords → Type 0
ModulesOf f at n ms = (k : ℕ) → k < n → ModuleOf f (module_at f at k) (slice_index_or ms k no_records)

pub record LayoutOf (f : List ℕ) (l : Layout) : Type 0 where
  pub count : l.count ≡ module_count f
  pub some : 1 ≤ l.count
  pub few : l.count ≤ 64
  pub short : length f ≤ 32768
  pub modules : ModulesOf f (end_of f 0) (module_count f) l.modules
