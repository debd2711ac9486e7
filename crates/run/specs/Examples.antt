-- Worked examples, from the bytes of a file through its verdict and its modules to the calls of a run on three levels.
use Rattle.std.specs.Prelude.{◌≡◌, ℕ, List, [], ◌∷◌, map}
use Rattle.signal.specs.declared.levels.Level.{Level}
use Rattle.signal.specs.declared.levels.Level.TheVariants.{Zero, One}
use Rattle.signal.specs.Levels.{levels}
use Rattle.rules.specs.Refusals.{accepted}
use Rattle.rules.specs.Boards.{Design, top, cells}
use Rattle.rules.specs.Judging.{board_of, verdict}
use Rattle.flat.specs.Runs.{Call, step, Answer, refused, counted, Run, Outcome, Start, not_started, started, power, call, trace}

-- Files

-- a cell whose output is the top's, and a not from the cell's output to its input
abbrev pub toggle : List ℕ
toggle =
    2 ∷ 0 ∷ 1 ∷ 0 ∷ 1 ∷ 0
    ∷ 7 ∷ 0 ∷ 2 ∷ 0 ∷ 0 ∷ 1 ∷ 2 ∷ 2 ∷ 1 ∷ 0 ∷ 0
    ∷ 6 ∷ 0 ∷ 3 ∷ 0 ∷ 11 ∷ 0 ∷ 1 ∷ 1 ∷ 1 ∷ 0
    ∷ 6 ∷ 0 ∷ 3 ∷ 0 ∷ 3 ∷ 0 ∷ 1 ∷ 1 ∷ 0 ∷ 1 ∷ []

-- module 1 is one cell; the top uses it twice: occurrence 0 from wire 2 to wire 1, its output, and occurrence 1 from its input
-- to wire 2; the state list is 1, 0
abbrev pub two_cells : List ℕ
two_cells =
    2 ∷ 0 ∷ 1 ∷ 0 ∷ 2 ∷ 0
    ∷ 8 ∷ 0 ∷ 2 ∷ 0 ∷ 1 ∷ 1 ∷ 3 ∷ 2 ∷ 2 ∷ 1 ∷ 1 ∷ 0
    ∷ 6 ∷ 0 ∷ 3 ∷ 0 ∷ 1 ∷ 1 ∷ 1 ∷ 1 ∷ 2 ∷ 1
    ∷ 6 ∷ 0 ∷ 3 ∷ 0 ∷ 1 ∷ 1 ∷ 1 ∷ 1 ∷ 0 ∷ 2
    ∷ 7 ∷ 0 ∷ 2 ∷ 0 ∷ 1 ∷ 1 ∷ 2 ∷ 1 ∷ 1 ∷ 1 ∷ 0
    ∷ 6 ∷ 0 ∷ 3 ∷ 0 ∷ 11 ∷ 0 ∷ 1 ∷ 1 ∷ 0 ∷ 1 ∷ []

-- module 1 is a not and a cell behind it; the top uses it once
abbrev pub not_and_cell : List ℕ
not_and_cell =
    2 ∷ 0 ∷ 1 ∷ 0 ∷ 2 ∷ 0
    ∷ 7 ∷ 0 ∷ 2 ∷ 0 ∷ 1 ∷ 1 ∷ 2 ∷ 1 ∷ 1 ∷ 1 ∷ 0
    ∷ 6 ∷ 0 ∷ 3 ∷ 0 ∷ 1 ∷ 1 ∷ 1 ∷ 1 ∷ 0 ∷ 1
    ∷ 7 ∷ 0 ∷ 2 ∷ 0 ∷ 1 ∷ 1 ∷ 3 ∷ 2 ∷ 1 ∷ 2 ∷ 1
    ∷ 6 ∷ 0 ∷ 3 ∷ 0 ∷ 3 ∷ 0 ∷ 1 ∷ 1 ∷ 0 ∷ 1
    ∷ 6 ∷ 0 ∷ 3 ∷ 0 ∷ 11 ∷ 0 ∷ 1 ∷ 1 ∷ 1 ∷ 2 ∷ []

-- module 1 is a not; the top uses it once
abbrev pub not_alone : List ℕ
not_alone =
    2 ∷ 0 ∷ 1 ∷ 0 ∷ 2 ∷ 0
    ∷ 6 ∷ 0 ∷ 2 ∷ 0 ∷ 1 ∷ 1 ∷ 2 ∷ 1 ∷ 0 ∷ 1
    ∷ 6 ∷ 0 ∷ 3 ∷ 0 ∷ 1 ∷ 1 ∷ 1 ∷ 1 ∷ 0 ∷ 1
    ∷ 6 ∷ 0 ∷ 2 ∷ 0 ∷ 1 ∷ 1 ∷ 2 ∷ 1 ∷ 0 ∷ 1
    ∷ 6 ∷ 0 ∷ 3 ∷ 0 ∷ 3 ∷ 0 ∷ 1 ∷ 1 ∷ 0 ∷ 1 ∷ []

abbrev pub empty_top : List ℕ
empty_top = 2 ∷ 0 ∷ 1 ∷ 0 ∷ 1 ∷ 0 ∷ 5 ∷ 0 ∷ 2 ∷ 0 ∷ 0 ∷ 0 ∷ 0 ∷ 0 ∷ 0 ∷ []

-- Runs

-- a step that is handed so many cells and tape values
abbrev pub step_on : ℕ → ℕ → List Level → Call Level
step_on cs tape ins = step ins (record { cells = cs; tape = tape; values = 1024; levels = 8 })

-- what each call leaves and answers, from a powered start
abbrev pub from_start : Design → Start (Run Level) → List (Call Level) → List (Outcome Level)
from_start d (not_started n) calls = []
from_start d (started run) calls = trace (call levels d) run calls

abbrev pub outcomes : List ℕ → List (Call Level) → List (Outcome Level)
outcomes f calls = from_start (top (board_of f)) (power levels (top (board_of f)) (cells (top (board_of f)))) calls

abbrev pub answers : List (Outcome Level) → List (Answer Level)
answers os = map (λ o. o.answer) os

-- the tape behind the calls
abbrev pub tape_behind : List (Outcome Level) → List Level
tape_behind [] = []
tape_behind (o ∷ []) = o.run.tape
tape_behind (o ∷ p ∷ os) = tape_behind (p ∷ os)

abbrev pub cells_behind : List (Outcome Level) → List Level
cells_behind [] = []
cells_behind (o ∷ []) = o.run.cells
cells_behind (o ∷ p ∷ os) = cells_behind (p ∷ os)

pub record WorkedExamples : Type 0 where
  pub toggle_accepted : verdict toggle ≡ accepted
  pub toggle_outputs : tape_behind (outcomes toggle (step_on 1 3 [] ∷ step_on 1 3 [] ∷ step_on 1 3 [] ∷ [])) ≡ Zero ∷ One ∷ Zero ∷ []
  pub toggle_counts : answers (outcomes toggle (step_on 1 3 [] ∷ step_on 1 3 [] ∷ step_on 1 3 [] ∷ [])) ≡ counted 1 ∷ counted 1 ∷ counted 1 ∷ []
  pub tape_of_two : answers (outcomes toggle (step_on 1 2 [] ∷ step_on 1 2 [] ∷ step_on 1 2 [] ∷ [])) ≡ counted 1 ∷ counted 1 ∷ refused 16 ∷ []
  pub two_cells_accepted : verdict two_cells ≡ accepted
  pub two_cells_outputs : tape_behind (outcomes two_cells (step_on 2 4 (One ∷ []) ∷ step_on 2 4 (Zero ∷ []) ∷ step_on 2 4 (Zero ∷ []) ∷ step_on 2 4 (Zero ∷ []) ∷ [])) ≡ Zero ∷ Zero ∷ One ∷ Zero ∷ []
  pub two_cells_moved : cells_behind (outcomes two_cells (step_on 2 4 (One ∷ []) ∷ [])) ≡ One ∷ Zero ∷ []
  pub not_and_cell_accepted : verdict not_and_cell ≡ accepted
  pub not_and_cell_count : answers (outcomes not_and_cell (step_on 1 1 (Zero ∷ []) ∷ [])) ≡ counted 2 ∷ []
  pub not_alone_accepted : verdict not_alone ≡ accepted
  pub not_alone_count : answers (outcomes not_alone (step_on 0 1 (Zero ∷ []) ∷ [])) ≡ counted 1 ∷ []
  pub empty_top_accepted : verdict empty_top ≡ accepted
  pub empty_top_count : answers (outcomes empty_top (step_on 0 0 [] ∷ [])) ≡ counted 0 ∷ []
