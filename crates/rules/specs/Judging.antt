-- The verdict on a file: its records by checks 1 to 5, then its modules by 6 to 12.
use Rattle.std.specs.Prelude.{ℕ, zero, suc, ◌+◌, Bool, true, false, cond, ◌&&◌, ltb, List, [], ◌∷◌, map, length, take, drop, Some, None, Option, ◌==◌, nat_eq, nat_le, nat_lt, slice_index}
use Rattle.gates.specs.declared.Part.{Part}
use Rattle.gates.specs.declared.Part.TheVariants.{Gate as gate, Cell as cell, Module as module_no}
use Rattle.rules.specs.declared.refusal.Refusal.TheVariants.{Refer, Pins, Wire, Order, Drive, State, Size}
use Rattle.rules.specs.Refusals.{Verdict, accepted, ◌then◌, asked}
use Rattle.rules.specs.Records.{number_at, end_of, body, uses, module_end, module_count, module_at, records_read, inputs_in, outputs_in, wires_in, states_in}
use Rattle.rules.specs.Boards.{Occurrence, Module, Design, node, part, present, design_from, cells, cells_at, depth, places, inputs_due, outputs_due}
use Rattle.rules.specs.Wires.{all, every, times, drive, drive_all, fresh, through_of, through}

-- The modules that a file describes, with the places of their records

abbrev pub occurrence_in : List ℕ → Occurrence
occurrence_in b = record { reference = number_at b 0; ins = take (slice_index b 2) (drop 4 b); outs = take (slice_index b 3) (drop (4 + slice_index b 2) b) }

-- an occurrence and the first byte of its record
pub record PlacedOccurrence : Type 0 where
  pub place : ℕ
  pub occurrence : Occurrence

-- a module and the first byte of its record
pub record PlacedModule : Type 0 where
  pub place : ℕ
  pub inputs : ℕ
  pub wires : ℕ
  pub outs : List ℕ
  pub placed : List PlacedOccurrence
  pub states : List ℕ

abbrev pub occurrences_of : List PlacedOccurrence → List Occurrence
occurrences_of ps = map (λ p. p.occurrence) ps

abbrev pub module_of : PlacedModule → Module
module_of u = record { inputs = u.inputs; wires = u.wires; outs = u.outs; occurrences = occurrences_of u.placed; states = u.states }

abbrev pub occurrence_at : List ℕ → ℕ → PlacedOccurrence
occurrence_at f at = record { place = at; occurrence = occurrence_in (body f at) }

-- the n occurrences from `at` on
unfoldable pub placed_at : List ℕ → ℕ → ℕ → List PlacedOccurrence
placed_at f at zero = []
placed_at f at (suc n) = occurrence_at f at ∷ placed_at f (end_of f at) n

abbrev pub unit_at : List ℕ → ℕ → PlacedModule
unit_at f at =
    record {
      place = at;
      inputs = inputs_in (body f at);
      wires = wires_in (body f at);
      outs = take (outputs_in (body f at)) (drop 5 (body f at));
      placed = placed_at f (end_of f at) (uses f at);
      states = take (states_in (body f at)) (drop (5 + outputs_in (body f at)) (body f at));
    }

-- the n modules from `at` on
unfoldable pub units_at : List ℕ → ℕ → ℕ → List PlacedModule
units_at f at zero = []
units_at f at (suc n) = unit_at f at ∷ units_at f (module_end f at) n

abbrev pub units_of : List ℕ → List PlacedModule
units_of f = units_at f (end_of f 0) (module_count f)

-- the board that a file describes
abbrev pub board_of : List ℕ → List Module
board_of f = map module_of (units_of f)

-- The checks

-- a part that an occurrence may refer to
abbrev pub known : (ℕ → Design) → Option Part → Bool
known below (Some (gate g)) = true
known below (Some cell) = true
known below (Some (module_no j)) = present (below j)
known below None = false

-- checks 7 to 10 of an occurrence that refers to something of a inputs and b outputs, whose through inputs lie on the wires
-- `thr`; `dr` says which wires are driven ahead of it
abbrev pub pins_judged : (a b : ℕ) → List ℕ → ℕ → (ℕ → Bool) → ℕ → List ℕ → List ℕ → Verdict
pins_judged a b thr wires dr place ins outs =
    asked (length ins == a && length outs == b) (Pins place)
    then (asked (all (λ w. ltb w wires) ins && all (λ w. ltb w wires) outs) (Wire place)
    then (asked (all dr thr) (Order place)
    then asked (fresh outs dr) (Drive place)))

-- checks 6 to 10
abbrev pub occurrence_judged : (ℕ → Design) → ℕ → (ℕ → Bool) → PlacedOccurrence → Verdict
occurrence_judged below wires dr p =
    asked (known below (part p.occurrence)) (Refer p.place)
    then pins_judged (inputs_due below (part p.occurrence)) (length (outputs_due below (part p.occurrence))) (through_of (λ j. through (below j)) (part p.occurrence) p.occurrence.ins) wires dr p.place p.occurrence.ins p.occurrence.outs

unfoldable pub occurrences_judged : (ℕ → Design) → ℕ → (ℕ → Bool) → List PlacedOccurrence → Verdict
occurrences_judged below wires dr [] = accepted
occurrences_judged below wires dr (p ∷ ps) = occurrence_judged below wires dr p then occurrences_judged below wires (drive p.occurrence.outs dr) ps

-- how often an occurrence of n cells is due in the state list
abbrev pub times_due : ℕ → ℕ
times_due n = cond (nat_lt 0 n) 1 0

abbrev pub states_right : Module → (ℕ → Design) → Bool
states_right m below =
    all (λ s. ltb s (length m.occurrences)) m.states && every (length m.occurrences) (λ i. nat_eq (times i m.states) (times_due (cells_at m below i)))

abbrev pub size_right : Design → Bool
size_right d = nat_le (depth d) 8 && (nat_le (cells d) 4096 && nat_le (places d) 65535)

-- the module by 8, 10, 11, 12, after its occurrences
abbrev pub module_judged : (ℕ → Design) → PlacedModule → Verdict
module_judged below u =
    occurrences_judged below u.wires (λ w. ltb w u.inputs) u.placed
    then (asked (all (λ w. ltb w u.wires) u.outs) (Wire u.place)
    then (asked (every u.wires (drive_all (occurrences_of u.placed) (λ w. ltb w u.inputs))) (Drive u.place)
    then (asked (states_right (module_of u) below) (State u.place)
    then asked (size_right (node (module_of u) below)) (Size u.place))))

-- the modules from the last to the first, of which the first has number k
unfoldable pub modules_judged : ℕ → List PlacedModule → Verdict
modules_judged k [] = accepted
modules_judged k (u ∷ us) = modules_judged (suc k) us then module_judged (design_from (suc k) (map module_of us)) u

-- the verdict on a file
abbrev pub verdict : List ℕ → Verdict
verdict f = records_read f then modules_judged 0 (units_of f)

-- module k of a file, and the modules from number k on, as a module ahead of them sees them
abbrev pub unit_no : List ℕ → ℕ → PlacedModule
unit_no f k = unit_at f (module_at f (end_of f 0) k)

abbrev pub seen_from : List ℕ → ℕ → ℕ → Design
seen_from f k = design_from k (map module_of (drop k (units_of f)))
