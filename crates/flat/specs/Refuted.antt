-- Ways of running a board that are wrong, and which part of the law each of them breaks.
use Rattle.std.specs.Prelude.{◌+◌, ◌*◌, true, false, cond, [], ◌∷◌, ◌++◌, length, replicate, ◌==◌, nat_le}
use Rattle.signal.specs.declared.levels.Level.TheVariants.{Zero, Unknown}
use Rattle.signal.specs.Kinds.{Kind}
use Rattle.signal.specs.Bits.{bits}
use Rattle.signal.specs.Levels.{levels}
use Rattle.rules.specs.Boards.{Design, top, out_wires}
use Rattle.flat.specs.Runs.{Call, step, set_cell, clear, read, look, Answer, refused, counted, done, value_is, Run, Outcome, start_with, power, call}
use Rattle.flat.specs.RunLaws.{AsDefined, NeverDenies, StaysSettled, CountsFlatGates}

-- a cell whose output goes through an inverter to its input
abbrev pub toggle : Design
toggle =
    top (record { inputs = 0; wires = 2; outs = 0 ∷ []; occurrences = record { reference = 11; ins = 1 ∷ []; outs = 0 ∷ [] } ∷ record { reference = 3; ins = 0 ∷ []; outs = 1 ∷ [] } ∷ []; states = 0 ∷ [] } ∷ [])

-- two inputs, of which the second is the output
abbrev pub second_input : Design
second_input = top (record { inputs = 2; wires = 2; outs = 1 ∷ []; occurrences = []; states = [] } ∷ [])

module _ {V : Type 0} (K : Kind V) (d : Design) where
  -- right, but for what an accepted step leaves and answers
  abbrev pub changed : (Run V → Outcome V → Outcome V) → Run V → Outcome V → Answer V → Outcome V
  changed f s o (refused n) = o
  changed f s o (counted n) = f s o
  changed f s o done = o
  changed f s o (value_is v) = o

  abbrev pub with_steps : (Run V → Outcome V → Outcome V) → Run V → Call V → Outcome V
  with_steps f s c = changed f s (call K d s c) (call K d s c).answer

  -- all outputs have the value v
  abbrev pub outputs_all : V → Run V → Call V → Outcome V
  outputs_all v = with_steps (λ s o. record { run = record { cells = o.run.cells; tape = s.tape ++ replicate (length (out_wires d)) v; cycle = o.run.cycle }; answer = o.answer })

  abbrev pub cells_never_move : Run V → Call V → Outcome V
  cells_never_move = with_steps (λ s o. record { run = record { cells = s.cells; tape = o.run.tape; cycle = o.run.cycle }; answer = o.answer })

  abbrev pub cells_move_once : Run V → Call V → Outcome V
  cells_move_once = with_steps (λ s o. record { run = record { cells = cond (s.cycle == 0) o.run.cells s.cells; tape = o.run.tape; cycle = o.run.cycle }; answer = o.answer })

  abbrev pub count_invented : Run V → Call V → Outcome V
  count_invented = with_steps (λ s o. record { run = o.run; answer = counted 0 })

  -- refused one cycle early
  abbrev pub tape_said_early : Run V → Call V → Outcome V
  tape_said_early s (step ins r) = cond (nat_le ((s.cycle + 2) * length (out_wires d)) r.tape) (call K d s (step ins r)) (record { run = s; answer = refused 16 })
  tape_said_early s (set_cell k v n) = call K d s (set_cell k v n)
  tape_said_early s (clear n) = call K d s (clear n)
  tape_said_early s (read k n) = call K d s (read k n)
  tape_said_early s (look k j n t) = call K d s (look k j n t)

-- a kind whose functions hand on their first operand
abbrev pub unasked : {V : Type 0} → Kind V → Kind V
unasked K =
    record {
      letter = K.letter;
      low = K.low;
      high = K.high;
      not = λ a. a;
      and = λ a b. a;
      or = λ a b. a;
      xor = λ a b. a;
      pick = λ a b c. a;
      told = K.told;
      admits = K.admits;
    }

pub record Refuted : Type 0 where
  -- a.
  pub outputs_always_low : NeverDenies bits toggle (power bits toggle) (outputs_all bits toggle false) (λ p. false) → ⊥
  pub cells_that_never_move : NeverDenies bits toggle (power bits toggle) (cells_never_move bits toggle) (λ p. false) → ⊥
  pub cells_that_move_once : NeverDenies bits toggle (power bits toggle) (cells_move_once bits toggle) (λ p. false) → ⊥
  pub tape_early : NeverDenies bits toggle (power bits toggle) (tape_said_early bits toggle) (λ p. false) → ⊥
  pub kind_not_consulted : NeverDenies bits toggle (power bits toggle) (call (unasked bits) toggle) (λ p. false) → ⊥
  pub cold_makes_low : NeverDenies levels toggle (start_with toggle Zero) (call levels toggle) (λ p. true) → ⊥
  pub unknown_beside_an_open_input : AsDefined levels second_input (power levels second_input) (outputs_all levels second_input Unknown) → ⊥
  -- b.
  pub unknown_on_settled_inputs : StaysSettled levels toggle (power levels toggle) (outputs_all levels toggle Unknown) → ⊥
  -- c.
  pub invented_count : CountsFlatGates bits toggle (power bits toggle) (count_invented bits toggle) → ⊥
