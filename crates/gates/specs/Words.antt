-- What the table of references says, in words: which number stands for what, and when a gate's output is 1.
use Rattle.std.specs.Prelude.{◌≡◌, ℕ, ◌+◌, ◌^◌, ◌<◌, ◌≤◌, Bool, true, false, ◌≢◌, ◌↔◌, [], ◌∷◌, length, Some, None}
use Rattle.gates.specs.declared.Gate.{Gate}
use Rattle.gates.specs.declared.Gate.TheVariants.{Low, High, Buf, Not, And, Or, Xor, Nand, Nor, Xnor, Pick}
use Rattle.gates.specs.declared.Part.TheVariants.{Cell, Module}
use Rattle.gates.specs.declared.Part.TheVariants as part
use Rattle.gates.specs.Gates.{row, part_of, gate_bit}

-- the gate has an output bit for each setting of its inputs
abbrev pub Full : Gate → Type 0
Full g = length (row g).truth ≡ 2 ^ (row g).inputs

-- on two inputs the output is 1 exactly when P holds of them
abbrev pub HighWhen : Gate → (Bool → Bool → Type 0) → Type 0
HighWhen g P = (a b : Bool) → (gate_bit g (a ∷ b ∷ []) ≡ true) ↔ P a b

-- on two inputs the output is 0 exactly when P holds of them
abbrev pub LowWhen : Gate → (Bool → Bool → Type 0) → Type 0
LowWhen g P = (a b : Bool) → (gate_bit g (a ∷ b ∷ []) ≡ false) ↔ P a b

pub record TableStands : Type 0 where
  pub reference_of_gate : (g : Gate) (r : ℕ) → (part_of r ≡ Some (part.Gate g)) ↔ (r ≡ (row g).reference)
  pub reference_of_cell : (r : ℕ) → (part_of r ≡ Some Cell) ↔ (r ≡ 11)
  pub reference_of_module : (m r : ℕ) → (part_of r ≡ Some (Module m)) ↔ (r ≡ 256 + m)
  pub reference_of_nothing : (r : ℕ) → (part_of r ≡ None) ↔ ((12 ≤ r) × (r < 256))
  pub low_is_0 : (row Low).reference ≡ 0
  pub high_is_1 : (row High).reference ≡ 1
  pub buf_is_2 : (row Buf).reference ≡ 2
  pub not_is_3 : (row Not).reference ≡ 3
  pub and_is_4 : (row And).reference ≡ 4
  pub or_is_5 : (row Or).reference ≡ 5
  pub xor_is_6 : (row Xor).reference ≡ 6
  pub nand_is_7 : (row Nand).reference ≡ 7
  pub nor_is_8 : (row Nor).reference ≡ 8
  pub xnor_is_9 : (row Xnor).reference ≡ 9
  pub pick_is_10 : (row Pick).reference ≡ 10
  pub full : (g : Gate) → Full g
  pub low : gate_bit Low [] ≡ false
  pub high : gate_bit High [] ≡ true
  pub buf : (a : Bool) → gate_bit Buf (a ∷ []) ≡ a
  pub not : (a : Bool) → gate_bit Not (a ∷ []) ≢ a
  pub and : HighWhen And (λ a b. (a ≡ true) × (b ≡ true))
  pub or : LowWhen Or (λ a b. (a ≡ false) × (b ≡ false))
  pub xor : LowWhen Xor (λ a b. a ≡ b)
  pub nand : LowWhen Nand (λ a b. (a ≡ true) × (b ≡ true))
  pub nor : HighWhen Nor (λ a b. (a ≡ false) × (b ≡ false))
  pub xnor : HighWhen Xnor (λ a b. a ≡ b)
  pub pick_first : (first second : Bool) → gate_bit Pick (true ∷ first ∷ second ∷ []) ≡ first
  pub pick_second : (first second : Bool) → gate_bit Pick (false ∷ first ∷ second ∷ []) ≡ second
