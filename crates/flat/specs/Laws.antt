-- What holds of the two passes: they keep what the gates keep, on bits they are the flat step, and their count is that of
-- the flat gates.
use Rattle.std.specs.Prelude.{◌≡◌, ◌*◌, ◌≤◌, Bool, true, List, [], ◌∷◌, length}
use Rattle.gates.specs.declared.Gate.{Gate}
use Rattle.gates.specs.Gates.{inputs_of}
use Rattle.signal.specs.Kinds.{Kind}
use Rattle.signal.specs.Bits.{bits}
use Rattle.signal.specs.GateValues.{gate_value}
use Rattle.rules.specs.Boards.{Design, cells, depth, places}
use Rattle.rules.specs.Sound.{Sound}
use Rattle.flat.specs.Passes.{outputs, next, step_of}
use Rattle.flat.specs.Flat.{Store, Bits, Agrees, OneAgrees, flat_outputs, input_bit, cell_bits, flat_count}

-- the relation holds of the elements one by one
abbrev pub All2 : {V W : Type 0} → (V → W → Type 0) → List V → List W → Type 0
All2 R [] [] = Unit {0}
All2 R [] (w ∷ ws) = ⊥
All2 R (v ∷ vs) [] = ⊥
All2 R (v ∷ vs) (w ∷ ws) = R v w × All2 R vs ws

-- the gates of two kinds keep a relation between their values
pub record GatesKeep {V W : Type 0} (K : Kind V) (L : Kind W) (R : V → W → Type 0) : Type 0 where
  pub low : R K.low L.low
  pub gates : (g : Gate) (vs : List V) (ws : List W) → length vs ≡ inputs_of g → All2 R vs ws → R (gate_value K g vs) (gate_value L g ws)

-- both passes keep such a relation
abbrev pub Keep : (V W : Type 0) → (V → W → Type 0) → Type 0
Keep V W R = (K : Kind V) (L : Kind W) → GatesKeep K L R → (d : Design) → Sound d → (ins : List V) (js : List W) (cs : List V) (ds : List W) → All2 R ins js → All2 R cs ds → All2 R (outputs K d ins cs) (outputs L d js ds) × All2 R (next K d ins cs) (next L d js ds)

abbrev pub PassesKeep : Type 0 → Type 0 → Type 0
PassesKeep V W = (R : V → W → Bool) → Keep V W (λ v w. R v w ≡ true)

abbrev pub BitsAgree : Type 0
BitsAgree = (d : Design) → Sound d → OneAgrees d

-- the flat step is the two passes on bits
abbrev pub FlatStep : Type 0
FlatStep = (d : Design) → Sound d → (ins : List Bool) (store : Store) (b : Bits) → Agrees d ins store b → (flat_outputs d b ≡ outputs bits d ins (cell_bits d store)) × (cell_bits d (input_bit d b) ≡ next bits d ins (cell_bits d store))

pub record Counts (V : Type 0) : Type 0 where
  pub counted : (K : Kind V) (d : Design) → Sound d → (ins cs : List V) → (step_of K d ins cs).count ≡ flat_count d
  pub small : (K : Kind V) (d : Design) → Sound d → (ins cs : List V) → (step_of K d ins cs).count ≤ places d * depth d

-- a step keeps the number of cells
abbrev pub CellsStay : Type 0 → Type 0
CellsStay V = (K : Kind V) (d : Design) → Sound d → (ins cs : List V) → length (next K d ins cs) ≡ cells d
