-- The flat board: bits on all wires of all places, when they agree, and a step of it. Nothing here is taken from the passes.
use Rattle.std.specs.Prelude.{◌≡◌, ℕ, suc, ◌+◌, ◌<◌, Bool, false, cond, List, [], ◌∷◌, ◌++◌, map, length, Some, None, Option, nat_lt, slice_index_or}
use Rattle.gates.specs.declared.Part.{Part}
use Rattle.gates.specs.declared.Part.TheVariants.{Gate as gate, Cell as cell, Module as module_no}
use Rattle.gates.specs.Gates.{gate_bit}
use Rattle.rules.specs.Boards.{Occurrence, Design, absent, node, part, occurrence_no, out_wires, sum_of}

-- A place is a way down from the top to an occurrence: the numbers of the occurrences on it, the outermost first. The
-- empty way is the top itself.
abbrev pub Place : Type 0
Place = List ℕ

-- a bit for each wire of the top and of each module place, which have wires of their own
abbrev pub Bits : Type 0
Bits = Place → ℕ → Bool

-- a stored bit for each cell place
abbrev pub Store : Type 0
Store = Place → Bool

-- what the places inside occurrence i have, by their ways from there
abbrev pub inside : {X : Type 0} → ℕ → (Place → X) → Place → X
inside i f way = f (i ∷ way)

-- The bits agree at occurrence i, which is this part: a gate's output is its function of the inputs, a cell's output is
-- its stored bit, and a module's outer wires equal the inner wires that they are joined to, inside of which the bits agree.
abbrev pub AgreesAt : (ℕ → List Bool → Store → Bits → Type 0) → (ℕ → Design) → Store → Bits → ℕ → Occurrence → Option Part → Type 0
AgreesAt agrees below store b i o (Some (gate g)) = map (b []) o.outs ≡ gate_bit g (map (b []) o.ins) ∷ []
AgreesAt agrees below store b i o (Some cell) = map (b []) o.outs ≡ store (i ∷ []) ∷ []
AgreesAt agrees below store b i o (Some (module_no j)) =
    (map (b []) o.outs ≡ map (b (i ∷ [])) (out_wires (below j))) × agrees j (map (b []) o.ins) (inside i store) (inside i b)
AgreesAt agrees below store b i o None = Unit {0}

-- the bits on all wires agree: the inputs are those given, and they agree at every occurrence
abbrev pub Agrees : Design → List Bool → Store → Bits → Type 0
Agrees absent ins store b = Unit {0}
Agrees (node m below) ins store b =
    ((w : ℕ) → w < m.inputs → b [] w ≡ slice_index_or ins w false) × ((i : ℕ) → i < length m.occurrences → AgreesAt (λ j. Agrees (below j)) below store b i (occurrence_no m i) (part (occurrence_no m i)))

-- the wires of the places
abbrev pub WireInside : (ℕ → Place → ℕ → Type 0) → Option Part → Place → ℕ → Type 0
WireInside has_wire (Some (gate g)) way w = ⊥
WireInside has_wire (Some cell) way w = ⊥
WireInside has_wire (Some (module_no j)) way w = has_wire j way w
WireInside has_wire None way w = ⊥

abbrev pub HasWire : Design → Place → ℕ → Type 0
HasWire absent way w = ⊥
HasWire (node m below) [] w = w < m.wires
HasWire (node m below) (i ∷ way) w = (i < length m.occurrences) × WireInside (λ j. HasWire (below j)) (part (occurrence_no m i)) way w

-- exactly one set of bits agrees, for any inputs and stored bits
abbrev pub OneAgrees : Design → Type 0
OneAgrees d = (ins : List Bool) (store : Store) → (b : Bits) × Agrees d ins store b × ((a : Bits) → Agrees d ins store a → (way : Place) (w : ℕ) → HasWire d way w → a way w ≡ b way w)

-- A flat step

-- the bits on the output wires
abbrev pub flat_outputs : Design → Bits → List Bool
flat_outputs d b = map (b []) (out_wires d)

-- the bit on the input wire of the cell at a place
abbrev pub input_inside : (ℕ → Place → Bool) → Option Part → List Bool → Place → Bool
input_inside input_bit (Some (gate g)) ins way = false
input_inside input_bit (Some cell) ins way = slice_index_or ins 0 false
input_inside input_bit (Some (module_no j)) ins way = input_bit j way
input_inside input_bit None ins way = false

abbrev pub input_bit : Design → Bits → Place → Bool
input_bit absent b way = false
input_bit (node m below) b [] = false
input_bit (node m below) b (i ∷ way) =
    input_inside (λ j. input_bit (below j) (inside i b)) (part (occurrence_no m i)) (map (b []) (occurrence_no m i).ins) way

-- Cells and gates by their places

abbrev pub joined : {X Y : Type 0} → (X → List Y) → List X → List Y
joined f [] = []
joined f (x ∷ xs) = f x ++ joined f xs

abbrev pub cells_inside : (ℕ → List Place) → ℕ → Option Part → List Place
cells_inside cell_places i (Some (gate g)) = []
cells_inside cell_places i (Some cell) = (i ∷ []) ∷ []
cells_inside cell_places i (Some (module_no j)) = map (λ way. i ∷ way) (cell_places j)
cells_inside cell_places i None = []

-- the places that hold a cell, in the order of the state lists
abbrev pub cell_places : Design → List Place
cell_places absent = []
cell_places (node m below) = joined (λ s. cells_inside (λ j. cell_places (below j)) s (part (occurrence_no m s))) m.states

-- the stored bits in that order
abbrev pub cell_bits : Design → Store → List Bool
cell_bits d store = map store (cell_places d)

abbrev pub gates_inside : (ℕ → List Place) → ℕ → Option Part → List Place
gates_inside flat_gates i (Some (gate g)) = (i ∷ []) ∷ []
gates_inside flat_gates i (Some cell) = []
gates_inside flat_gates i (Some (module_no j)) = map (λ way. i ∷ way) (flat_gates j)
gates_inside flat_gates i None = []

abbrev pub gates_from : (ℕ → List Place) → ℕ → List Occurrence → List Place
gates_from flat_gates i [] = []
gates_from flat_gates i (o ∷ os) = gates_inside flat_gates i (part o) ++ gates_from flat_gates (suc i) os

-- a flat gate is a place that holds a gate
abbrev pub flat_gates : Design → List Place
flat_gates absent = []
flat_gates (node m below) = gates_from (λ j. flat_gates (below j)) 0 m.occurrences

-- The count

abbrev pub holders_inside : (ℕ → Place → ℕ) → (ℕ → Design) → Option Part → Place → ℕ
holders_inside holders below (Some (gate g)) way = 0
holders_inside holders below (Some cell) way = 0
holders_inside holders below (Some (module_no j)) way = cond (nat_lt 0 (length (cell_places (below j)))) 1 0 + holders j way
holders_inside holders below None way = 0

-- the cell-holding modules on the way to a place, the one that the way begins in not counted
abbrev pub holders : Design → Place → ℕ
holders absent way = 0
holders (node m below) [] = 0
holders (node m below) (i ∷ way) = holders_inside (λ j. holders (below j)) below (part (occurrence_no m i)) way

-- each flat gate once, and once more for every cell-holding module below the top on the way to it
abbrev pub flat_count : Design → ℕ
flat_count d = sum_of (λ way. 1 + holders d way) (flat_gates d)
