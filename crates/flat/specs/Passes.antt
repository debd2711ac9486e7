-- The two passes over a module on any signal kind, and how many gates they evaluate.
use Rattle.std.specs.Prelude.{ℕ, suc, ◌+◌, cond, List, [], ◌∷◌, ◌++◌, map, take, drop, Some, None, Option, nat_lt}
use Rattle.gates.specs.declared.Part.{Part}
use Rattle.gates.specs.declared.Part.TheVariants.{Gate as gate, Cell as cell, Module as module_no}
use Rattle.signal.specs.Kinds.{Kind}
use Rattle.signal.specs.GateValues.{input, gate_value}
use Rattle.rules.specs.Boards.{Occurrence, Module, Design, absent, node, part, occurrence_no, out_wires, cells_at, ahead}
use Rattle.rules.specs.Wires.{Wires, put}

-- values, and the number of gates that were evaluated for them
pub record Counted (X : Type 0) : Type 0 where
  pub values : X
  pub count : ℕ

abbrev pub counting : {X : Type 0} → ℕ → X → Counted X
counting n x = record { values = x; count = n }

-- one part of a step, and then the next, which is handed what the first gave
abbrev pub and_then : {X Y : Type 0} → Counted X → (X → Counted Y) → Counted Y
and_then c next = record { values = (next c.values).values; count = c.count + (next c.values).count }

-- A module's cells lie in the order of its state list, each occurrence's cells together: of the cells cs those of
-- occurrence i.
abbrev pub own : {V : Type 0} → Module → (ℕ → Design) → List V → ℕ → List V
own m below cs i = take (cells_at m below i) (drop (ahead (cells_at m below) m.states i) cs)

module _ {V : Type 0} (K : Kind V) where
  -- a module's wires at first: its inputs, and the kind's low on the others
  abbrev pub start : ℕ → List V → Wires V
  start inputs ins w = cond (nat_lt w inputs) (input K ins w) K.low

  -- what an occurrence gives to its output wires, from the values on its input wires and its cells: a gate's value comes
  -- from the kind, and a cell gives its stored value
  abbrev pub given : (ℕ → List V → List V → Counted (List V)) → Option Part → List V → List V → Counted (List V)
  given by_module (Some (gate g)) ins cs = counting 1 (gate_value K g ins ∷ [])
  given by_module (Some cell) ins cs = counting 0 (input K cs 0 ∷ [])
  given by_module (Some (module_no j)) ins cs = by_module j ins cs
  given by_module None ins cs = counting 0 []

  -- the occurrences in file order, of which the first has number i
  abbrev pub pass : (ℕ → Occurrence → Wires V → Counted (List V)) → ℕ → List Occurrence → Wires V → Counted (Wires V)
  pass gives i [] ws = counting 0 ws
  pass gives i (o ∷ os) ws = and_then (gives i o ws) (λ vs. pass gives (suc i) os (put o.outs vs ws))

  -- the values that a first pass left on a module's output wires
  abbrev pub on_outputs : Design → Counted (Wires V) → Counted (List V)
  on_outputs d ws = counting ws.count (map ws.values (out_wires d))

  -- The first pass: a module's wires, from its inputs and its cells. A module occurrence gives the outputs of that
  -- module's first pass.
  abbrev pub first : Design → List V → List V → Counted (Wires V)
  first absent ins cs = counting 0 (λ w. K.low)
  first (node m below) ins cs =
      pass (λ i o ws. given (λ j is ds. on_outputs (below j) (first (below j) is ds)) (part o) (map ws o.ins) (own m below cs i)) 0 m.occurrences (start m.inputs ins)

  -- what an entry of the state list stores: a cell stores the value on its input wire
  abbrev pub stored : (ℕ → List V → List V → Counted (List V)) → Option Part → List V → List V → Counted (List V)
  stored by_module (Some (gate g)) ins cs = counting 0 []
  stored by_module (Some cell) ins cs = counting 0 (input K ins 0 ∷ [])
  stored by_module (Some (module_no j)) ins cs = by_module j ins cs
  stored by_module None ins cs = counting 0 []

  -- the entries of a state list in order
  abbrev pub in_order : (ℕ → Counted (List V)) → List ℕ → Counted (List V)
  in_order stores [] = counting 0 []
  in_order stores (s ∷ ss) = record { values = (stores s).values ++ (in_order stores ss).values; count = (stores s).count + (in_order stores ss).count }

  -- The second pass: a module's next cells, from the wires of its first pass and its cells. A module occurrence does its
  -- own first pass, and then its second.
  abbrev pub second : Design → Wires V → List V → Counted (List V)
  second absent ws cs = counting 0 []
  second (node m below) ws cs =
      in_order (λ s. stored (λ j is ds. and_then (first (below j) is ds) (λ us. second (below j) us ds)) (part (occurrence_no m s)) (map ws (occurrence_no m s).ins) (own m below cs s)) m.states

  abbrev pub outputs : Design → List V → List V → List V
  outputs d ins cs = map (first d ins cs).values (out_wires d)

  abbrev pub next : Design → List V → List V → List V
  next d ins cs = (second d (first d ins cs).values cs).values

-- what a step gives: the outputs, the next cells, and the number of gates evaluated
pub record Stepped (V : Type 0) : Type 0 where
  pub outs : List V
  pub cells : List V
  pub count : ℕ

-- a step: the first pass, its outputs, and the second pass
abbrev pub step_of : {V : Type 0} → Kind V → Design → List V → List V → Stepped V
step_of K d ins cs =
    record {
      outs = outputs K d ins cs;
      cells = next K d ins cs;
      count = (first K d ins cs).count + (second K d (first K d ins cs).values cs).count;
    }
