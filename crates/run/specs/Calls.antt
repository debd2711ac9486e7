-- What the calls leave in the caller's memory, and what they answer.
--
-- Of a board, I is the number of the top's inputs, O that of its outputs, and C that of its cells.
use Rattle.std.specs.Prelude.{◌≡◌, ℕ, ◌+◌, ◌*◌, List, [], ◌++◌, length, take, drop, replicate, IfOk, Ok, Err, Result, MatchResult, slice_set}
use Rattle.signal.specs.Kinds.{Kind}
use Rattle.signal.specs.GateValues.{input}
use Rattle.rules.specs.Boards.{Design, out_wires, cells}
use Rattle.flat.specs.Passes.{step_of}
use Rattle.flat.specs.Runs as runs
use Rattle.flat.specs.Runs.{Room, Start, not_started, started, step, set_cell, clear, read, look}
use Rattle.board.specs.declared.board.Board.{Board}
use Rattle.walk.specs.declared.level.Level.{Level}
use Rattle.walk.specs.Steps.{design_in}
use Rattle.run.specs.declared.Run.{Run}
use Rattle.run.specs.declared.refusal.CallRefusal.{CallRefusal}
use Rattle.run.specs.Refusals.{number_of, refused_by}

-- the board of a run
abbrev pub board_under : Run → Board
board_under run = run.board.now

abbrev pub run_top : Run → Design
run_top run = design_in (board_under run)

-- Starting a run

-- a start as the definition of runs has it, with the cells that it left
abbrev pub start_in : {V : Type 0} → Result Run CallRefusal → List V → Start (runs.Run V)
start_in (Ok run) cs = started (record { cells = cs; tape = []; cycle = run.cycle })
start_in (Err e) cs = not_started (number_of e)

-- A step

-- the cycle of a run, and what the caller lends a step on it
pub record Memory (V : Type 0) : Type 0 where
  pub cycle : ℕ
  pub cells : List V
  pub tape : List V
  pub work : List V
  pub levels : List Level

abbrev pub memory : {V : Type 0} → Run → List V → List V → List V → List Level → Memory V
memory run cs tape work levels = record { cycle = run.cycle; cells = cs; tape = tape; work = work; levels = levels }

abbrev pub room : {V : Type 0} → Memory V → Room
room m = record { cells = length m.cells; tape = length m.tape; values = length m.work; levels = length m.levels }

-- the tape with the outputs of one more cycle at cycle × O: its first cycle × O values, the outputs, and the rest as it was
abbrev pub with_cycle : {V : Type 0} → Design → ℕ → List V → List V → List V
with_cycle d cycle outs tape = take (cycle * length (out_wires d)) tape ++ (outs ++ drop (cycle * length (out_wires d) + length (out_wires d)) tape)

-- what the working values and the level records hold after an accepted step is free, but for how many they are
pub record ScratchFree {V : Type 0} (before after : Memory V) : Type 0 where
  pub work : length after.work ≡ length before.work
  pub levels : length after.levels ≡ length before.levels

-- what an accepted step leaves, and the count that it answers
pub record Stepped {V : Type 0} (K : Kind V) (d : Design) (ins : List V) (before after : Memory V) (n : ℕ) : Type 0 where
  pub cycle : after.cycle ≡ before.cycle + 1
  pub cells : after.cells ≡ (step_of K d ins before.cells).cells
  pub tape : after.tape ≡ with_cycle d before.cycle (step_of K d ins before.cells).outs before.tape
  pub count : n ≡ (step_of K d ins before.cells).count
  pub scratch : ScratchFree before after

pub record StepContract {V : Type 0} (K : Kind V) (d : Design) (ins : List V) (before after : Memory V) (r : Result ℕ CallRefusal) : Type 0 where
  pub refusal : refused_by r ≡ runs.refusal d before.cycle (step ins (room before))
  pub outcome : MatchResult r (Stepped K d ins before after) (λ _. after ≡ before)

-- The other calls

-- the value v goes to cell k
pub record SetContract {V X : Type 0} (d : Design) (cycle k : ℕ) (v : V) (before after : List V) (r : Result X CallRefusal) : Type 0 where
  pub refusal : refused_by r ≡ runs.refusal d cycle (set_cell k v (length before))
  pub outcome : MatchResult r (λ _. after ≡ slice_set before k v) (λ _. after ≡ before)

pub record ClearContract {V X : Type 0} (K : Kind V) (d : Design) (cycle : ℕ) (before after : List V) (r : Result X CallRefusal) : Type 0 where
  pub refusal : refused_by r ≡ runs.refusal {V = V} d cycle (clear (length before))
  pub outcome : MatchResult r (λ _. after ≡ replicate (cells d) K.low) (λ _. after ≡ before)

-- the answer is cell k
pub record ReadContract {V : Type 0} (K : Kind V) (d : Design) (cycle k : ℕ) (held : List V) (r : Result V CallRefusal) : Type 0 where
  pub refusal : refused_by r ≡ runs.refusal {V = V} d cycle (read k (length held))
  pub answer : IfOk r (λ v. v ≡ input K held k)

-- the answer is output j of cycle k
pub record LookContract {V : Type 0} (K : Kind V) (d : Design) (cycle k j : ℕ) (held tape : List V) (r : Result V CallRefusal) : Type 0 where
  pub refusal : refused_by r ≡ runs.refusal {V = V} d cycle (look k j (length held) (length tape))
  pub answer : IfOk r (λ v. v ≡ input K tape (k * length (out_wires d) + j))

-- the number that refuses a call on cell k with n cells, or 0
abbrev pub cell_refusal : Design → ℕ → ℕ → ℕ
cell_refusal d k n = runs.refusal {V = ℕ} d 0 (read k n)
