-- A board file in its own words: which bytes are the records of which modules.
use Rattle.std.specs.Prelude.{◌≡◌, ℕ, ◌+◌, ◌*◌, ◌<◌, ◌≤◌, List, [], ◌∷◌, ◌++◌, length, take, drop}
use Rattle.rules.specs.Boards.{Occurrence, Module, module_number, occurrence_no, sum_of}

-- the number that two bytes are, the low one first
abbrev pub word : ℕ → ℕ → ℕ
word low high = low + 256 * high

-- a whole record stands at `at`: its length, its kind, its body
pub record RecordAt (f : List ℕ) (at kind : ℕ) (body : List ℕ) : Type 0 where
  pub length_low : ℕ
  pub length_high : ℕ
  pub kind_low : ℕ
  pub kind_high : ℕ
  pub rest : List ℕ
  pub bytes : drop at f ≡ length_low ∷ length_high ∷ kind_low ∷ kind_high ∷ (body ++ rest)
  pub long : word length_low length_high ≡ length body
  pub kind_is : word kind_low kind_high ≡ kind

-- The bodies

pub record BoardBody (modules : ℕ) (body : List ℕ) : Type 0 where
  pub low : ℕ
  pub high : ℕ
  pub bytes : body ≡ low ∷ high ∷ []
  pub modules_is : word low high ≡ modules

abbrev pub module_body : Module → List ℕ
module_body m = m.inputs ∷ length m.outs ∷ m.wires ∷ length m.occurrences ∷ length m.states ∷ (m.outs ++ m.states)

pub record OccurrenceBody (o : Occurrence) (body : List ℕ) : Type 0 where
  pub low : ℕ
  pub high : ℕ
  pub bytes : body ≡ low ∷ high ∷ length o.ins ∷ length o.outs ∷ (o.ins ++ o.outs)
  pub reference_is : word low high ≡ o.reference

-- The places: a record has four bytes ahead of its body

abbrev pub occurrence_size : Occurrence → ℕ
occurrence_size o = 4 + (4 + length o.ins + length o.outs)

abbrev pub head_size : Module → ℕ
head_size m = 4 + (5 + length m.outs + length m.states)

abbrev pub module_size : Module → ℕ
module_size m = head_size m + sum_of occurrence_size m.occurrences

-- the first byte of module k's record
abbrev pub module_start : List Module → ℕ → ℕ
module_start board k = 6 + sum_of module_size (take k board)

-- the first byte of the record of occurrence i of module k
abbrev pub occurrence_start : List Module → ℕ → ℕ → ℕ
occurrence_start board k i =
    module_start board k + head_size (module_number board k) + sum_of occurrence_size (take i (module_number board k).occurrences)

-- the file is the records of the board, laid end to end
pub record LaidOut (f : List ℕ) (board : List Module) : Type 0 where
  pub head_body : List ℕ
  pub head : RecordAt f 0 1 head_body
  pub head_is : BoardBody (length board) head_body
  pub modules : (k : ℕ) → k < length board → RecordAt f (module_start board k) 2 (module_body (module_number board k))
  pub occurrences : (k : ℕ) → k < length board → (i : ℕ) → i < length (module_number board k).occurrences → (body : List ℕ) × RecordAt f (occurrence_start board k i) 3 body × OccurrenceBody (occurrence_no (module_number board k) i) body
  pub ends : module_start board (length board) ≡ length f

-- Counts in range

pub record OccurrenceRange (o : Occurrence) : Type 0 where
  pub inputs : length o.ins ≤ 16
  pub outputs : length o.outs ≤ 16

pub record ModuleRange (m : Module) : Type 0 where
  pub inputs : m.inputs ≤ 16
  pub outputs : length m.outs ≤ 16
  pub inputs_wired : m.inputs ≤ m.wires
  pub wires : m.wires ≤ 128
  pub occurrences : length m.occurrences ≤ 64
  pub states : length m.states ≤ length m.occurrences
  pub each : (i : ℕ) → i < length m.occurrences → OccurrenceRange (occurrence_no m i)

pub record BoardRange (board : List Module) : Type 0 where
  pub some : 1 ≤ length board
  pub few : length board ≤ 64
  pub each : (k : ℕ) → k < length board → ModuleRange (module_number board k)
