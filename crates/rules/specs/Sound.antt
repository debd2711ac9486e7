-- What the checks say of a module, as facts: what running relies on.
use Rattle.std.specs.Prelude.{◌≡◌, ℕ, ◌<◌, Bool, true, false, List, [], ◌∷◌, length, Some, None, Option, nat_lt}
use Rattle.gates.specs.declared.Part.{Part}
use Rattle.gates.specs.declared.Part.TheVariants.{Gate as gate, Cell as cell, Module as module_no}
use Rattle.rules.specs.Boards.{Occurrence, Module, Design, absent, node, part, cells_at, inputs_due, outputs_due}
use Rattle.rules.specs.Wires.{times, mark, drive, drive_all, through_of, through}
use Rattle.rules.specs.Judging.{times_due}

abbrev pub All : {X : Type 0} → (X → Type 0) → List X → Type 0
All P [] = Unit {0}
All P (x ∷ xs) = P x × All P xs

-- none of the wires is driven, and none is named twice
abbrev pub Fresh : List ℕ → (ℕ → Bool) → Type 0
Fresh [] dr = Unit {0}
Fresh (w ∷ ws) dr = (dr w ≡ false) × Fresh ws (mark w dr)

abbrev pub Refers : (ℕ → Type 0) → Option Part → Type 0
Refers P (Some (gate g)) = Unit {0}
Refers P (Some cell) = Unit {0}
Refers P (Some (module_no j)) = P j
Refers P None = ⊥

-- checks 6 to 10 of an occurrence: `dr` says which wires are driven ahead of it
pub record Fits (S : ℕ → Type 0) (below : ℕ → Design) (wires : ℕ) (dr : ℕ → Bool) (o : Occurrence) : Type 0 where
  pub refer : Refers S (part o)
  pub pins_in : length o.ins ≡ inputs_due below (part o)
  pub pins_out : length o.outs ≡ length (outputs_due below (part o))
  pub wire_in : All (λ w. w < wires) o.ins
  pub wire_out : All (λ w. w < wires) o.outs
  pub order : All (λ w. dr w ≡ true) (through_of (λ j. through (below j)) (part o) o.ins)
  pub fresh : Fresh o.outs dr

abbrev pub FitAll : (S : ℕ → Type 0) (below : ℕ → Design) (wires : ℕ) → List Occurrence → (ℕ → Bool) → Type 0
FitAll S below wires [] dr = Unit {0}
FitAll S below wires (o ∷ os) dr = Fits S below wires dr o × FitAll S below wires os (drive o.outs dr)

pub record SoundModule (S : ℕ → Type 0) (m : Module) (below : ℕ → Design) : Type 0 where
  pub fits : FitAll S below m.wires m.occurrences (λ w. nat_lt w m.inputs)
  pub wire : All (λ w. w < m.wires) m.outs
  pub drives : (w : ℕ) → w < m.wires → drive_all m.occurrences (λ x. nat_lt x m.inputs) w ≡ true
  pub state_in : All (λ s. s < length m.occurrences) m.states
  pub state : (i : ℕ) → i < length m.occurrences → times i m.states ≡ times_due (cells_at m below i)

-- a module that judging accepts, with all modules that it uses
abbrev pub Sound : Design → Type 0
Sound absent = ⊥
Sound (node m below) = SoundModule (λ j. Sound (below j)) m below
