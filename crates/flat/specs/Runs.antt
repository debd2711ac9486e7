-- Runs: the calls on any signal kind, by the two passes.
use Rattle.std.specs.Prelude.{ℕ, zero, suc, ◌+◌, ◌*◌, Bool, cond, not, ◌&&◌, List, [], ◌∷◌, ◌++◌, length, replicate, ◌==◌, nat_le, nat_lt, slice_index_or, slice_set}
use Rattle.signal.specs.Kinds.{Kind}
use Rattle.rules.specs.Boards.{Design, in_count, out_wires, cells}
use Rattle.flat.specs.Passes.{step_of}

-- how many cells, tape values, working values and level records a step is handed
pub record Room : Type 0 where
  pub cells : ℕ
  pub tape : ℕ
  pub values : ℕ
  pub levels : ℕ

-- A call with its values, its numbers and the lengths of what it is handed.
pub data Call (V : Type 0) : Type 0 where
  -- inputs
  step : List V → Room → Call V
  -- the number of a cell, a value, how many cells
  set_cell : ℕ → V → ℕ → Call V
  -- how many cells
  clear : ℕ → Call V
  -- the number of a cell, how many cells
  read : ℕ → ℕ → Call V
  -- a cycle, the number of an output, how many cells and tape values
  look : ℕ → ℕ → ℕ → ℕ → Call V

pub data Answer (V : Type 0) : Type 0 where
  -- refused by this number
  refused : ℕ → Answer V
  -- a step's number of gates evaluated
  counted : ℕ → Answer V
  done : Answer V
  value_is : V → Answer V

-- what starting a run gives: a refusal's number, or the run
pub data Start (S : Type 0) : Type 0 where
  not_started : ℕ → Start S
  started : S → Start S

-- the cells, the tape values of the cycles so far, and how many cycles these are
pub record Run (V : Type 0) : Type 0 where
  pub cells : List V
  pub tape : List V
  pub cycle : ℕ

-- what a call leaves and what it answers
pub record Outcome (V : Type 0) : Type 0 where
  pub run : Run V
  pub answer : Answer V

-- Refusals of a simulated run

abbrev pub unless : Bool → ℕ → ℕ → ℕ
unless right n rest = cond right rest n

-- The number that refuses a call, or 0. The checks come in rising order: 13 COUNT, 14 INDEX, 15 FIT, 16 TAPE, 17 UNSEEN.
abbrev pub refusal : {V : Type 0} → Design → ℕ → Call V → ℕ
refusal d cycle (step ins r) =
    unless (length ins == in_count d) 13
    (unless (r.cells == cells d && (nat_le 1024 r.values && nat_le 8 r.levels)) 15
    (unless (nat_le ((cycle + 1) * length (out_wires d)) r.tape && not (cycle == 65535)) 16 0))
refusal d cycle (set_cell k v n) = unless (nat_lt k (cells d)) 14 (unless (n == cells d) 15 0)
refusal d cycle (clear n) = unless (n == cells d) 15 0
refusal d cycle (read k n) = unless (nat_lt k (cells d)) 14 (unless (n == cells d) 15 0)
refusal d cycle (look k j n t) =
    unless (nat_lt j (length (out_wires d))) 14 (unless (n == cells d && nat_le (cycle * length (out_wires d)) t) 15 (unless (nat_lt k cycle) 17 0))

-- A simulated run

-- a start with as many cells as are handed over: all of the board's cells have the value v
abbrev pub start_with : {V : Type 0} → Design → V → ℕ → Start (Run V)
start_with d v n = cond (n == cells d) (started (record { cells = replicate (cells d) v; tape = []; cycle = 0 })) (not_started 15)

module _ {V : Type 0} (K : Kind V) (d : Design) where
  -- powered: all cells low
  abbrev pub power : ℕ → Start (Run V)
  power n = start_with d K.low n

  abbrev pub performed : Run V → Call V → Outcome V
  performed s (step ins r) =
      record {
        run = record { cells = (step_of K d ins s.cells).cells; tape = s.tape ++ (step_of K d ins s.cells).outs; cycle = s.cycle + 1 };
        answer = counted (step_of K d ins s.cells).count;
      }
  performed s (set_cell k v n) = record { run = record { cells = slice_set s.cells k v; tape = s.tape; cycle = s.cycle }; answer = done }
  performed s (clear n) = record { run = record { cells = replicate (cells d) K.low; tape = s.tape; cycle = s.cycle }; answer = done }
  performed s (read k n) = record { run = s; answer = value_is (slice_index_or s.cells k K.low) }
  performed s (look k j n t) = record { run = s; answer = value_is (slice_index_or s.tape (k * length (out_wires d) + j) K.low) }

  -- a refused call changes nothing
  abbrev pub carried_out : Run V → Call V → ℕ → Outcome V
  carried_out s c zero = performed s c
  carried_out s c (suc n) = record { run = s; answer = refused (suc n) }

  abbrev pub call : Run V → Call V → Outcome V
  call s c = carried_out s c (refusal d s.cycle c)

-- what each call of a sequence leaves and answers, by a way of carrying out calls
abbrev pub trace : {V : Type 0} → (Run V → Call V → Outcome V) → Run V → List (Call V) → List (Outcome V)
trace carry s [] = []
trace carry s (c ∷ cs) = carry s c ∷ trace carry (carry s c).run cs
