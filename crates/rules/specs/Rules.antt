-- The rules of a board, in their own words.
use Rattle.std.specs.Prelude.{◌≡◌, ℕ, suc, ◌<◌, ◌≤◌, ◌⊎◌, List, length, drop, Some, None, Option, slice_index}
use Rattle.gates.specs.declared.Part.{Part}
use Rattle.gates.specs.declared.Part.TheVariants.{Gate as gate, Cell as cell, Module as module_no}
use Rattle.gates.specs.declared.Gate.{Gate}
use Rattle.gates.specs.Gates.{inputs_of}
use Rattle.rules.specs.declared.refusal.Refusal.{Refusal}
use Rattle.rules.specs.declared.refusal.Refusal.TheVariants.{Refer, Pins, Wire, Order, Drive, State, Size}
use Rattle.rules.specs.Boards.{Occurrence, Module, part, module_number, occurrence_no, design_from, design_number, cells, cells_at, depth, places}

-- x stands at position p of the list
abbrev pub At : List ℕ → ℕ → ℕ → Type 0
At xs p x = (p < length xs) × (slice_index xs p ≡ x)

abbrev pub In : List ℕ → ℕ → Type 0
In xs x = (p : ℕ) × At xs p x

-- x stands in the list, at one position only
abbrev pub Once : List ℕ → ℕ → Type 0
Once xs x = (p : ℕ) × At xs p x × ((q : ℕ) → At xs q x → q ≡ p)

-- no number stands at two positions
abbrev pub Distinct : List ℕ → Type 0
Distinct xs = (p q x : ℕ) → At xs p x → At xs q x → p ≡ q

abbrev pub occurrence_number : List Module → ℕ → ℕ → Occurrence
occurrence_number board k i = occurrence_no (module_number board k) i

-- Reach: the least relation closed under these clauses. Input x of module k reaches its wire w.
pub data Reaches (board : List Module) : ℕ → ℕ → ℕ → Type 0 where
  -- an input wire reaches itself
  itself : (k x : ℕ) → x < (module_number board k).inputs → Reaches board k x x
  -- it reaches a gate's output if it reaches one of the gate's inputs
  through_gate : (k x i : ℕ) (g : Gate) (w o : ℕ) → i < length (module_number board k).occurrences → part (occurrence_number board k i) ≡ Some (gate g) → In (occurrence_number board k i).ins w → In (occurrence_number board k i).outs o → Reaches board k x w → Reaches board k x o
  -- it reaches all outputs of a module occurrence if it reaches one of that occurrence's through inputs: input p of module j,
  -- which reaches one of module j's output wires v
  through_module : (k x i j p v w o : ℕ) → i < length (module_number board k).occurrences → part (occurrence_number board k i) ≡ Some (module_no j) → At (occurrence_number board k i).ins p w → In (occurrence_number board k i).outs o → Reaches board j p v → In (module_number board j).outs v → Reaches board k x w → Reaches board k x o

-- input x of module k is through: it reaches one of the module's output wires
abbrev pub Through : List Module → ℕ → ℕ → Type 0
Through board k x = (w : ℕ) × In (module_number board k).outs w × Reaches board k x w

-- input p of a part is through: each of a gate, none of a cell, those of a module that are
abbrev pub ThroughInput : List Module → Option Part → ℕ → Type 0
ThroughInput board (Some (gate g)) p = Unit {0}
ThroughInput board (Some cell) p = ⊥
ThroughInput board (Some (module_no j)) p = Through board j p
ThroughInput board None p = ⊥

-- wire w of module k is an input of the module, or an output of an occurrence ahead of occurrence i
abbrev pub Driven : List Module → ℕ → ℕ → ℕ → Type 0
Driven board k i w = (w < (module_number board k).inputs) ⊎ ((h : ℕ) × (h < i) × In (occurrence_number board k h).outs w)

-- A cell, and a module with a cell, is cell-holding.
abbrev pub CellHolding : List Module → ℕ → ℕ → Type 0
CellHolding board k i = 0 < cells_at (module_number board k) (design_from (suc k) (drop (suc k) board)) i

-- The rules of an occurrence

pub data OccurrenceRule : Type 0 where
  reference pins wires order drive : OccurrenceRule

-- a gate, a cell, or a module of a greater number than the one it stands in
abbrev pub ReferenceRight : List Module → ℕ → Option Part → Type 0
ReferenceRight board k (Some (gate g)) = Unit {0}
ReferenceRight board k (Some cell) = Unit {0}
ReferenceRight board k (Some (module_no j)) = (k < j) × (j < length board)
ReferenceRight board k None = ⊥

-- as many input and output wires as the part has inputs and outputs
abbrev pub PinsRight : List Module → Option Part → ℕ → ℕ → Type 0
PinsRight board (Some (gate g)) ins outs = (ins ≡ inputs_of g) × (outs ≡ 1)
PinsRight board (Some cell) ins outs = (ins ≡ 1) × (outs ≡ 1)
PinsRight board (Some (module_no j)) ins outs = (ins ≡ (module_number board j).inputs) × (outs ≡ length (module_number board j).outs)
PinsRight board None ins outs = Unit {0}

abbrev pub WiresRight : ℕ → List ℕ → Type 0
WiresRight limit ws = (w : ℕ) → In ws w → w < limit

-- occurrence i of module k keeps a rule
abbrev pub OccurrenceKeeps : List Module → ℕ → ℕ → OccurrenceRule → Type 0
OccurrenceKeeps board k i reference = ReferenceRight board k (part (occurrence_number board k i))
OccurrenceKeeps board k i pins = PinsRight board (part (occurrence_number board k i)) (length (occurrence_number board k i).ins) (length (occurrence_number board k i).outs)
OccurrenceKeeps board k i wires = WiresRight (module_number board k).wires (occurrence_number board k i).ins × WiresRight (module_number board k).wires (occurrence_number board k i).outs
OccurrenceKeeps board k i order = (p w : ℕ) → At (occurrence_number board k i).ins p w → ThroughInput board (part (occurrence_number board k i)) p → Driven board k i w
OccurrenceKeeps board k i drive = ((w : ℕ) → In (occurrence_number board k i).outs w → Driven board k i w → ⊥) × Distinct (occurrence_number board k i).outs

-- what a broken rule is refused by, at the occurrence's place
abbrev pub occurrence_refusal : OccurrenceRule → ℕ → Refusal
occurrence_refusal reference place = Refer place
occurrence_refusal pins place = Pins place
occurrence_refusal wires place = Wire place
occurrence_refusal order place = Order place
occurrence_refusal drive place = Drive place

-- The rules of a module

pub data ModuleRule : Type 0 where
  output_wires all_driven state_list size : ModuleRule

-- the state list is each cell-holding occurrence exactly once
pub record StateListRight (board : List Module) (k : ℕ) : Type 0 where
  pub holding : (s : ℕ) → In (module_number board k).states s → (s < length (module_number board k).occurrences) × CellHolding board k s
  pub each_once : (i : ℕ) → i < length (module_number board k).occurrences → CellHolding board k i → Once (module_number board k).states i

pub record SizeRight (board : List Module) (k : ℕ) : Type 0 where
  pub shallow : depth (design_number board k) ≤ 8
  pub few_cells : cells (design_number board k) ≤ 4096
  pub few_places : places (design_number board k) ≤ 65535

-- module k keeps a rule
abbrev pub ModuleKeeps : List Module → ℕ → ModuleRule → Type 0
ModuleKeeps board k output_wires = WiresRight (module_number board k).wires (module_number board k).outs
ModuleKeeps board k all_driven = (w : ℕ) → w < (module_number board k).wires → Driven board k (length (module_number board k).occurrences) w
ModuleKeeps board k state_list = StateListRight board k
ModuleKeeps board k size = SizeRight board k

abbrev pub module_refusal : ModuleRule → ℕ → Refusal
module_refusal output_wires place = Wire place
module_refusal all_driven place = Drive place
module_refusal state_list place = State place
module_refusal size place = Size place

-- every module keeps every rule
pub record BoardKeeps (board : List Module) : Type 0 where
  pub occurrences : (k : ℕ) → k < length board → (i : ℕ) → i < length (module_number board k).occurrences → (r : OccurrenceRule) → OccurrenceKeeps board k i r
  pub modules : (k : ℕ) → k < length board → (r : ModuleRule) → ModuleKeeps board k r
