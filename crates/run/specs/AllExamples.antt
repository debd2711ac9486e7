-- More worked examples: verdicts, runs powered and cold, refused calls, and values of the kinds.
use Rattle.std.specs.Prelude.{◌≡◌, ℕ, ◌^◌, true, false, List, [], ◌∷◌, ◌++◌, map, take}
use Rattle.signal.specs.declared.levels.Level.{Level}
use Rattle.signal.specs.declared.levels.Level.TheVariants.{Zero, One, Unknown}
use Rattle.signal.specs.Bits.{bits}
use Rattle.signal.specs.Levels.{levels}
use Rattle.signal.specs.Marked.{marked, with_marks}
use Rattle.rules.specs.declared.refusal.Refusal.TheVariants.{Cut, Trail, Order, Size}
use Rattle.rules.specs.Refusals.{accepted, refused}
use Rattle.rules.specs.Boards.{Design, top, cells}
use Rattle.rules.specs.Judging.{board_of, verdict}
use Rattle.flat.specs.Runs.{Call, step, set_cell, clear, read, look, refused as refused_by, counted, Run, Outcome, Start, not_started, started, start_with, power, call, trace}
use Rattle.run.specs.ExampleFiles.{exchanged, chain}
use Rattle.run.specs.Examples.{toggle, two_cells, not_and_cell, not_alone, empty_top, answers, tape_behind, cells_behind}

-- Verdicts

pub record Verdicts : Type 0 where
  pub toggle_accepted : verdict toggle ≡ accepted
  pub toggle_exchanged : verdict exchanged ≡ refused (Order 17)
  pub toggle_cut_short : verdict (take 36 toggle) ≡ refused (Cut 27)
  pub toggle_and_one_byte : verdict (toggle ++ 0 ∷ []) ≡ refused (Trail 37)
  pub empty_file : verdict [] ≡ refused (Cut 0)
  pub two_cells_accepted : verdict two_cells ≡ accepted
  pub not_and_cell_accepted : verdict not_and_cell ≡ accepted
  pub not_alone_accepted : verdict not_alone ≡ accepted
  pub empty_top_accepted : verdict empty_top ≡ accepted
  pub depth_8_accepted : verdict (chain 8) ≡ accepted
  pub depth_9_refused : verdict (chain 9) ≡ refused (Size 6)

-- Runs

abbrev pub top_of : List ℕ → Design
top_of f = top (board_of f)

-- what each call leaves and answers, behind a start
abbrev pub behind : Design → Start (Run Level) → List (Call Level) → List (Outcome Level)
behind d (not_started n) calls = []
behind d (started run) calls = trace (call levels d) run calls

abbrev pub powered : List ℕ → List (Call Level) → List (Outcome Level)
powered f calls = behind (top_of f) (power levels (top_of f) (cells (top_of f))) calls

abbrev pub cold : List ℕ → List (Call Level) → List (Outcome Level)
cold f calls = behind (top_of f) (start_with (top_of f) Unknown (cells (top_of f))) calls

-- a step on all of the board's cells and a tape of so many values, with these inputs
abbrev pub whole_step : List ℕ → ℕ → List Level → Call Level
whole_step f tape ins = step ins (record { cells = cells (top_of f); tape = tape; values = 1024; levels = 8 })

abbrev pub whole_steps : List ℕ → ℕ → List (List Level) → List (Call Level)
whole_steps f tape inputs = map (whole_step f tape) inputs

pub record PoweredRuns : Type 0 where
  pub toggle_outputs : tape_behind (powered toggle (whole_steps toggle 3 ([] ∷ [] ∷ [] ∷ []))) ≡ Zero ∷ One ∷ Zero ∷ []
  pub toggle_counts : answers (powered toggle (whole_steps toggle 3 ([] ∷ [] ∷ [] ∷ []))) ≡ counted 1 ∷ counted 1 ∷ counted 1 ∷ []
  pub two_cells_outputs : tape_behind (powered two_cells (whole_steps two_cells 4 ((One ∷ []) ∷ (Zero ∷ []) ∷ (Zero ∷ []) ∷ (Zero ∷ []) ∷ []))) ≡ Zero ∷ Zero ∷ One ∷ Zero ∷ []
  pub two_cells_after_one_step : cells_behind (powered two_cells (whole_steps two_cells 4 ((One ∷ []) ∷ []))) ≡ One ∷ Zero ∷ []
  pub not_and_cell_count : answers (powered not_and_cell (whole_steps not_and_cell 1 ((Zero ∷ []) ∷ []))) ≡ counted 2 ∷ []
  pub not_alone_count : answers (powered not_alone (whole_steps not_alone 1 ((Zero ∷ []) ∷ []))) ≡ counted 1 ∷ []
  pub empty_top_count : answers (powered empty_top (whole_steps empty_top 0 ([] ∷ []))) ≡ counted 0 ∷ []

-- A cold start: nothing is claimed until what was unknown has left the cells.
pub record ColdRuns : Type 0 where
  pub toggle_outputs : tape_behind (cold toggle (whole_steps toggle 2 ([] ∷ [] ∷ []))) ≡ Unknown ∷ Unknown ∷ []
  pub toggle_counts : answers (cold toggle (whole_steps toggle 2 ([] ∷ [] ∷ []))) ≡ counted 1 ∷ counted 1 ∷ []
  pub toggle_cells : cells_behind (cold toggle (whole_steps toggle 2 ([] ∷ [] ∷ []))) ≡ Unknown ∷ []
  pub toggle_cleared : tape_behind (cold toggle (whole_step toggle 3 [] ∷ clear 1 ∷ whole_step toggle 3 [] ∷ whole_step toggle 3 [] ∷ [])) ≡ Unknown ∷ Zero ∷ One ∷ []
  pub two_cells_outputs : tape_behind (cold two_cells (whole_steps two_cells 3 ((One ∷ []) ∷ (Zero ∷ []) ∷ (Zero ∷ []) ∷ []))) ≡ Unknown ∷ Unknown ∷ One ∷ []
  pub two_cells_after_one_step : cells_behind (cold two_cells (whole_steps two_cells 1 ((One ∷ []) ∷ []))) ≡ One ∷ Unknown ∷ []

-- The toggle has no input, one output and one cell.
pub record RefusedCalls : Type 0 where
  pub step_with_an_input : answers (powered toggle (whole_step toggle 1 (One ∷ []) ∷ [])) ≡ refused_by 13 ∷ []
  pub no_such_cell : answers (powered toggle (set_cell 1 One 1 ∷ read 1 1 ∷ [])) ≡ refused_by 14 ∷ refused_by 14 ∷ []
  pub no_such_output : answers (powered toggle (whole_step toggle 1 [] ∷ look 0 1 1 1 ∷ [])) ≡ counted 1 ∷ refused_by 14 ∷ []
  pub start_on_two_cells : power levels (top_of toggle) 2 ≡ not_started 15
  pub clear_of_two_cells : answers (powered toggle (clear 2 ∷ [])) ≡ refused_by 15 ∷ []
  pub working_values_too_few : answers (powered toggle (step [] (record { cells = 1; tape = 1; values = 1023; levels = 8 }) ∷ [])) ≡ refused_by 15 ∷ []
  pub level_records_too_few : answers (powered toggle (step [] (record { cells = 1; tape = 1; values = 1024; levels = 7 }) ∷ [])) ≡ refused_by 15 ∷ []
  pub look_on_a_short_tape : answers (powered toggle (whole_step toggle 1 [] ∷ look 0 0 1 0 ∷ [])) ≡ counted 1 ∷ refused_by 15 ∷ []
  pub tape_of_two : answers (powered toggle (whole_steps toggle 2 ([] ∷ [] ∷ [] ∷ []))) ≡ counted 1 ∷ counted 1 ∷ refused_by 16 ∷ []
  pub cycle_not_yet_seen : answers (powered toggle (whole_step toggle 1 [] ∷ look 1 0 1 1 ∷ [])) ≡ counted 1 ∷ refused_by 17 ∷ []
  pub nothing_changed : tape_behind (powered toggle (whole_step toggle 1 (One ∷ []) ∷ set_cell 1 One 1 ∷ set_cell 0 One 2 ∷ whole_step toggle 0 [] ∷ whole_step toggle 1 [] ∷ [])) ≡ Zero ∷ []

-- Signal kinds

pub record Kinds : Type 0 where
  pub zero_and_unknown : levels.and Zero Unknown ≡ Zero
  pub unknown_xor_itself : levels.xor Unknown Unknown ≡ Unknown
  pub one_with_mark_3_and_zero : (marked bits).and (with_marks true (2 ^ 3)) (with_marks false 0) ≡ with_marks false (2 ^ 3)

-- All of them

pub record AllExamples : Type 0 where
  pub verdicts : Verdicts
  pub powered_runs : PoweredRuns
  pub cold_runs : ColdRuns
  pub refused_calls : RefusedCalls
  pub kinds : Kinds
