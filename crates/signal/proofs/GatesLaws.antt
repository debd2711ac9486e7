-- The gates keep to the truth table, on bits and on any kind that keeps the rules.
use Rattle.std.proofs.Common.{◌≡◌, ℕ, zero, suc, ◌<◌, Bool, true, false, List, [], ◌∷◌, map, length, get_or, take, sym, refl, ap, ◌∙◌, subst, arith, get_or-take}
use Rattle.gates.specs.declared.Gate.{Gate}
use Rattle.gates.specs.declared.Gate.TheVariants.{Low, High, Buf, Not, And, Or, Xor, Nand, Nor, Xnor, Pick}
use Rattle.gates.specs.Gates.{inputs_of, gate_bit}
use Rattle.signal.specs.Kinds.{Kind, Lawful, Situation, Admits, Settled}
use Rattle.signal.specs.Bits.{bits}
use Rattle.signal.specs.GateValues.{input, gate_value, GatesOnBits, AllAdmit, AllSettled, GatesStand}

-- Bits

pub gates_on_bits : GatesOnBits
gates_on_bits g [] e = grind arith
gates_on_bits g (a ∷ []) e = grind arith
gates_on_bits g (a ∷ b ∷ []) e = grind arith
gates_on_bits g (a ∷ b ∷ c ∷ []) e = grind arith
gates_on_bits g (a ∷ b ∷ c ∷ d ∷ bs) e = grind arith

module _ {V : Type 0} (k : Kind V) where
  -- a gate reads its inputs and nothing else
  pub gate_value_same : (g : Gate) (vs ws : List V) → ((i : ℕ) → i < inputs_of g → input k vs i ≡ input k ws i) → gate_value k g vs ≡ gate_value k g ws
  gate_value_same g vs ws h = grind arith

  pub gate_value_take : (g : Gate) (vs : List V) → gate_value k g (take (inputs_of g) vs) ≡ gate_value k g vs
  gate_value_take g vs = gate_value_same g (take (inputs_of g) vs) vs (λ i l. get_or-take (inputs_of g) vs i k.low l)

  -- values that admit bits one by one, or are settled each; an input that is missing is low, and its bit 0
  pub all_admit_map : {A : Type 0} (s : Situation) (f : A → V) (g : A → Bool) → ((x : A) → Admits k (f x) s (g x)) → (xs : List A) → AllAdmit k (map f xs) s (map g xs)
  all_admit_map s f g h [] = tt
  all_admit_map s f g h (x ∷ xs) = (h x, all_admit_map s f g h xs)

  pub all_admit_length : (vs : List V) (s : Situation) (bs : List Bool) → AllAdmit k vs s bs → length vs ≡ length bs
  all_admit_length [] s [] h = refl
  all_admit_length [] s (b ∷ bs) h = absurd h
  all_admit_length (v ∷ vs) s [] h = absurd h
  all_admit_length (v ∷ vs) s (b ∷ bs) (a, h) = ap suc (all_admit_length vs s bs h)

  pub all_settled_map : {A : Type 0} (s : Situation) (f : A → V) → ((x : A) → Settled k (f x) s) → (xs : List A) → AllSettled k (map f xs) s
  all_settled_map s f h [] = tt
  all_settled_map s f h (x ∷ xs) = (h x, all_settled_map s f h xs)

  module _ (law : Lawful k) where
    pub input_admits : (vs : List V) (s : Situation) (bs : List Bool) → AllAdmit k vs s bs → (i : ℕ) → Admits k (input k vs i) s (get_or bs i false)
    input_admits [] s [] h i = (law.low_only s).0
    input_admits [] s (b ∷ bs) h i = absurd h
    input_admits (v ∷ vs) s [] h i = absurd h
    input_admits (v ∷ vs) s (b ∷ bs) (a, h) zero = a
    input_admits (v ∷ vs) s (b ∷ bs) (a, h) (suc i) = input_admits vs s bs h i

    pub input_settled : (vs : List V) (s : Situation) → AllSettled k vs s → (i : ℕ) → Settled k (input k vs i) s
    input_settled [] s h i = (false, law.low_only s)
    input_settled (v ∷ vs) s (a, h) zero = a
    input_settled (v ∷ vs) s (a, h) (suc i) = input_settled vs s h i

    -- the gate's value follows its bit, input by input
    pub gate_follows : (g : Gate) (vs : List V) (s : Situation) (bs : List Bool) → ((i : ℕ) → Admits k (input k vs i) s (get_or bs i false)) → Admits k (gate_value k g vs) s (gate_value bits g bs)
    gate_follows Low vs s bs h = (law.low_only s).0
    gate_follows High vs s bs h = (law.high_only s).0
    gate_follows Buf vs s bs h = h 0
    gate_follows Not vs s bs h = law.not_follows s _ _ (h 0)
    gate_follows And vs s bs h = law.and_follows s _ _ _ _ (h 0) (h 1)
    gate_follows Or vs s bs h = law.or_follows s _ _ _ _ (h 0) (h 1)
    gate_follows Xor vs s bs h = law.xor_follows s _ _ _ _ (h 0) (h 1)
    gate_follows Nand vs s bs h = law.not_follows s _ _ (law.and_follows s _ _ _ _ (h 0) (h 1))
    gate_follows Nor vs s bs h = law.not_follows s _ _ (law.or_follows s _ _ _ _ (h 0) (h 1))
    gate_follows Xnor vs s bs h = law.not_follows s _ _ (law.xor_follows s _ _ _ _ (h 0) (h 1))
    gate_follows Pick vs s bs h = law.pick_follows s _ _ _ _ _ _ (h 0) (h 1) (h 2)

    pub gate_admits : (g : Gate) (vs : List V) (s : Situation) (bs : List Bool) → length vs ≡ inputs_of g → AllAdmit k vs s bs → Admits k (gate_value k g vs) s (gate_bit g bs)
    gate_admits g vs s bs e h =
        let P : Bool → Type 0 = λ b. Admits k (gate_value k g vs) s b in
        subst P (gates_on_bits g bs (sym (all_admit_length vs s bs h) ∙ e)) (gate_follows g vs s bs (input_admits vs s bs h))

    pub gate_settles : (g : Gate) (vs : List V) (s : Situation) → ((i : ℕ) → Settled k (input k vs i) s) → Settled k (gate_value k g vs) s
    gate_settles Low vs s h = (false, law.low_only s)
    gate_settles High vs s h = (true, law.high_only s)
    gate_settles Buf vs s h = h 0
    gate_settles Not vs s h = law.not_settles s _ (h 0)
    gate_settles And vs s h = law.and_settles s _ _ (h 0) (h 1)
    gate_settles Or vs s h = law.or_settles s _ _ (h 0) (h 1)
    gate_settles Xor vs s h = law.xor_settles s _ _ (h 0) (h 1)
    gate_settles Nand vs s h = law.not_settles s _ (law.and_settles s _ _ (h 0) (h 1))
    gate_settles Nor vs s h = law.not_settles s _ (law.or_settles s _ _ (h 0) (h 1))
    gate_settles Xnor vs s h = law.not_settles s _ (law.xor_settles s _ _ (h 0) (h 1))
    gate_settles Pick vs s h = law.pick_settles s _ _ _ (h 0) (h 1) (h 2)

    pub gate_settled : (g : Gate) (vs : List V) (s : Situation) → AllSettled k vs s → Settled k (gate_value k g vs) s
    gate_settled g vs s h = gate_settles g vs s (input_settled vs s h)

    pub gates_stand : GatesStand k
    gates_stand = record { reads = gate_value_take; admits_bit = gate_admits; stays_settled = gate_settled }
