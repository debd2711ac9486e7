-- A board as a list of modules, a module together with the modules that it may use, and what a module comes to:
-- its cells, its depth and its places.
use Rattle.std.specs.Prelude.{ℕ, suc, ◌+◌, max, Bool, true, false, cond, List, [], ◌∷◌, drop, Some, None, Option, ◌==◌, slice_index_or}
use Rattle.gates.specs.declared.Part.{Part}
use Rattle.gates.specs.declared.Part.TheVariants.{Gate as gate, Cell as cell, Module as module_no}
use Rattle.gates.specs.Gates.{part_of, inputs_of}

-- one use of a part in a module: the reference number, the wires on its inputs and on its outputs
pub record Occurrence : Type 0 where
  pub reference : ℕ
  pub ins : List ℕ
  pub outs : List ℕ

-- wires 0 to inputs - 1 are the module's inputs; `states` lists the occurrences that hold cells
pub record Module : Type 0 where
  pub inputs : ℕ
  pub wires : ℕ
  pub outs : List ℕ
  pub occurrences : List Occurrence
  pub states : List ℕ

-- what the occurrence refers to, by the table of references
unfoldable pub part : Occurrence → Option Part
part o = part_of o.reference

abbrev pub no_occurrence : Occurrence
no_occurrence = record { reference = 0; ins = []; outs = [] }

abbrev pub occurrence_no : Module → ℕ → Occurrence
occurrence_no m i = slice_index_or m.occurrences i no_occurrence

abbrev pub no_module : Module
no_module = record { inputs = 0; wires = 0; outs = []; occurrences = []; states = [] }

abbrev pub module_number : List Module → ℕ → Module
module_number board k = slice_index_or board k no_module

-- A module with what its references stand for: `below j` is module j, or `absent` if there is none that it may use.
pub data Design : Type 0 where
  absent : Design
  node : Module → (ℕ → Design) → Design

abbrev pub present : Design → Bool
present absent = false
present (node m below) = true

abbrev pub in_count : Design → ℕ
in_count absent = 0
in_count (node m below) = m.inputs

abbrev pub out_wires : Design → List ℕ
out_wires absent = []
out_wires (node m below) = m.outs

-- module j of the modules ms, whose numbers begin at k; each may use those behind it
abbrev pub design_from : ℕ → List Module → ℕ → Design
design_from k [] j = absent
design_from k (m ∷ ms) j = cond (j == k) (node m (design_from (suc k) ms)) (design_from (suc k) ms j)

-- module 0 is the top
abbrev pub top : List Module → Design
top board = design_from 0 board 0

-- module k with the modules that it may use: those of greater number
abbrev pub design_number : List Module → ℕ → Design
design_number board k = node (module_number board k) (design_from (suc k) (drop (suc k) board))

abbrev pub sum_of : {X : Type 0} → (X → ℕ) → List X → ℕ
sum_of f [] = 0
sum_of f (x ∷ xs) = f x + sum_of f xs

abbrev pub most_of : {X : Type 0} → (X → ℕ) → List X → ℕ
most_of f [] = 0
most_of f (x ∷ xs) = max (f x) (most_of f xs)

-- f of the module that a part is, and 0 of any other part
abbrev pub of_module : (ℕ → ℕ) → Option Part → ℕ
of_module f (Some (gate g)) = 0
of_module f (Some cell) = 0
of_module f (Some (module_no j)) = f j
of_module f None = 0

-- Cells

abbrev pub cells_of : (ℕ → ℕ) → Option Part → ℕ
cells_of f (Some (gate g)) = 0
cells_of f (Some cell) = 1
cells_of f (Some (module_no j)) = f j
cells_of f None = 0

-- a module's cells: its cell occurrences and the cells of its module occurrences, each use counted
abbrev pub cells : Design → ℕ
cells absent = 0
cells (node m below) = sum_of (λ o. cells_of (λ j. cells (below j)) (part o)) m.occurrences

-- the cells of occurrence i
abbrev pub cells_at : Module → (ℕ → Design) → ℕ → ℕ
cells_at m below i = cells_of (λ j. cells (below j)) (part (occurrence_no m i))

-- the cells that lie ahead of those of occurrence i, by the state list
abbrev pub ahead : (ℕ → ℕ) → List ℕ → ℕ → ℕ
ahead size [] i = 0
ahead size (s ∷ ss) i = cond (s == i) 0 (size s + ahead size ss i)

-- Depth and places

abbrev pub depth : Design → ℕ
depth absent = 0
depth (node m below) = 1 + most_of (λ o. of_module (λ j. depth (below j)) (part o)) m.occurrences

-- a module's places: each of its occurrences, and the places of each module occurrence
abbrev pub places : Design → ℕ
places absent = 0
places (node m below) = sum_of (λ o. 1 + of_module (λ j. places (below j)) (part o)) m.occurrences

-- Pins

abbrev pub inputs_due : (ℕ → Design) → Option Part → ℕ
inputs_due below (Some (gate g)) = inputs_of g
inputs_due below (Some cell) = 1
inputs_due below (Some (module_no j)) = in_count (below j)
inputs_due below None = 0

-- one entry for each output of a part
abbrev pub outputs_due : (ℕ → Design) → Option Part → List ℕ
outputs_due below (Some (gate g)) = 0 ∷ []
outputs_due below (Some cell) = 0 ∷ []
outputs_due below (Some (module_no j)) = out_wires (below j)
outputs_due below None = []
