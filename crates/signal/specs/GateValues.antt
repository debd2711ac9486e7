-- The eleven gates on values of any kind.
use Rattle.std.specs.Prelude.{◌≡◌, ℕ, Bool, List, [], ◌∷◌, length, take, slice_index_or}
use Rattle.gates.specs.declared.Gate.{Gate}
use Rattle.gates.specs.declared.Gate.TheVariants.{Low, High, Buf, Not, And, Or, Xor, Nand, Nor, Xnor, Pick}
use Rattle.gates.specs.Gates.{inputs_of, gate_bit}
use Rattle.signal.specs.Kinds.{Kind, Situation, Admits, Settled}
use Rattle.signal.specs.Bits.{bits}

-- input i of a gate; one that is missing is low
abbrev pub input : {V : Type 0} → Kind V → List V → ℕ → V
input k vs i = slice_index_or vs i k.low

abbrev pub gate_value : {V : Type 0} → Kind V → Gate → List V → V
gate_value k Low vs = k.low
gate_value k High vs = k.high
gate_value k Buf vs = input k vs 0
gate_value k Not vs = k.not (input k vs 0)
gate_value k And vs = k.and (input k vs 0) (input k vs 1)
gate_value k Or vs = k.or (input k vs 0) (input k vs 1)
gate_value k Xor vs = k.xor (input k vs 0) (input k vs 1)
gate_value k Nand vs = k.not (k.and (input k vs 0) (input k vs 1))
gate_value k Nor vs = k.not (k.or (input k vs 0) (input k vs 1))
gate_value k Xnor vs = k.not (k.xor (input k vs 0) (input k vs 1))
gate_value k Pick vs = k.pick (input k vs 0) (input k vs 1) (input k vs 2)

-- on bits the gates give what the truth table says
abbrev pub GatesOnBits : Type 0
GatesOnBits = (g : Gate) (bs : List Bool) → length bs ≡ inputs_of g → gate_value bits g bs ≡ gate_bit g bs

module _ {V : Type 0} (k : Kind V) where
  -- the values admit the bits, one by one
  abbrev pub AllAdmit : List V → Situation → List Bool → Type 0
  AllAdmit [] s [] = Unit {0}
  AllAdmit [] s (b ∷ bs) = ⊥
  AllAdmit (v ∷ vs) s [] = ⊥
  AllAdmit (v ∷ vs) s (b ∷ bs) = Admits k v s b × AllAdmit vs s bs

  abbrev pub AllSettled : List V → Situation → Type 0
  AllSettled [] s = Unit {0}
  AllSettled (v ∷ vs) s = Settled k v s × AllSettled vs s

  -- how the gates stand on the kind: a gate reads no more values than it has inputs; if its inputs admit certain bits,
  -- its output admits the bit that the truth table has for these; if they are settled, so is its output
  pub record GatesStand : Type 0 where
    pub reads : (g : Gate) (vs : List V) → gate_value k g (take (inputs_of g) vs) ≡ gate_value k g vs
    pub admits_bit : (g : Gate) (vs : List V) (s : Situation) (bs : List Bool) → length vs ≡ inputs_of g → AllAdmit vs s bs → Admits k (gate_value k g vs) s (gate_bit g bs)
    pub stays_settled : (g : Gate) (vs : List V) (s : Situation) → AllSettled vs s → Settled k (gate_value k g vs) s
