-- The table of references: which number stands for which gate, how many inputs the gate has, and its output bit
-- for each setting of its inputs. Everything that speaks of gates reads it here.
use Rattle.std.specs.Prelude.{ℕ, ◌+◌, ◌-◌, ◌*◌, Bool, cond, List, [], ◌∷◌, Some, None, Option, ◌==◌, nat_lt, slice_index}
use Rattle.gates.specs.declared.Gate.{Gate}
use Rattle.gates.specs.declared.Gate.TheVariants.{Low, High, Buf, Not, And, Or, Xor, Nand, Nor, Xnor, Pick}
use Rattle.gates.specs.declared.Part.{Part}
use Rattle.gates.specs.declared.Part.TheVariants.{Cell, Module}
use Rattle.gates.specs.declared.Part.TheVariants as part

-- a row of the table: `truth` has the output bit for each setting of the inputs, read as a number whose highest digit
-- is the first input
pub record Row : Type 0 where
  pub reference : ℕ
  pub inputs : ℕ
  pub truth : List ℕ

abbrev pub row : Gate → Row
row Low = record { reference = 0; inputs = 0; truth = 0 ∷ [] }
row High = record { reference = 1; inputs = 0; truth = 1 ∷ [] }
row Buf = record { reference = 2; inputs = 1; truth = 0 ∷ 1 ∷ [] }
row Not = record { reference = 3; inputs = 1; truth = 1 ∷ 0 ∷ [] }
row And = record { reference = 4; inputs = 2; truth = 0 ∷ 0 ∷ 0 ∷ 1 ∷ [] }
row Or = record { reference = 5; inputs = 2; truth = 0 ∷ 1 ∷ 1 ∷ 1 ∷ [] }
row Xor = record { reference = 6; inputs = 2; truth = 0 ∷ 1 ∷ 1 ∷ 0 ∷ [] }
row Nand = record { reference = 7; inputs = 2; truth = 1 ∷ 1 ∷ 1 ∷ 0 ∷ [] }
row Nor = record { reference = 8; inputs = 2; truth = 1 ∷ 0 ∷ 0 ∷ 0 ∷ [] }
row Xnor = record { reference = 9; inputs = 2; truth = 1 ∷ 0 ∷ 0 ∷ 1 ∷ [] }
row Pick = record { reference = 10; inputs = 3; truth = 0 ∷ 1 ∷ 0 ∷ 1 ∷ 0 ∷ 0 ∷ 1 ∷ 1 ∷ [] }

abbrev pub inputs_of : Gate → ℕ
inputs_of g = (row g).inputs

abbrev pub gates : List Gate
gates = Low ∷ High ∷ Buf ∷ Not ∷ And ∷ Or ∷ Xor ∷ Nand ∷ Nor ∷ Xnor ∷ Pick ∷ []

-- the gate among gs that has the reference number r
abbrev pub gate_among : List Gate → ℕ → Option Part
gate_among [] r = None
gate_among (g ∷ gs) r = cond ((row g).reference == r) (Some (part.Gate g)) (gate_among gs r)

-- what a reference number stands for: a gate, 11 the cell, 256 + m module m, and the others nothing
abbrev pub part_of : ℕ → Option Part
part_of r = cond (nat_lt r 256) (cond (r == 11) (Some Cell) (gate_among gates r)) (Some (Module (r - 256)))

-- the bits as digits of a number, behind those of n
abbrev pub digits : ℕ → List Bool → ℕ
digits n [] = n
digits n (b ∷ bs) = digits (2 * n + cond b 1 0) bs

-- the output bit of a gate, from the bits on its inputs
abbrev pub gate_bit : Gate → List Bool → Bool
gate_bit g bits = slice_index (row g).truth (digits 0 bits) == 1
