-- The whole text, as a function of a board file and an input.
use Rattle.std.specs.Prelude.{ℕ, Bool, true, false, List, [], ◌∷◌, ◌++◌, length, drop, replicate, Some, None, Option}
use Rattle.signal.specs.Kinds.{Kind}
use Rattle.rules.specs.Refusals.{Verdict, accepted, refused}
use Rattle.rules.specs.Judging.{verdict, board_of}
use Rattle.rules.specs.Boards.{Design, in_count, cells, top}
use Rattle.flat.specs.Runs.{Room, step, Answer, refused as refused_by, counted, done, value_is, Run, Outcome, call}
use Rattle.transcript.specs.Lines.{inputs_of, lines_of}
use Rattle.transcript.specs.Printed.{board_line, ended_line, kind_line, refused_line, step_line}

module _ {V : Type 0} (K : Kind V) (unknown : V) (d : Design) where
  -- all cells low
  abbrev pub powered : Run V
  powered = record { cells = replicate (cells d) K.low; tape = []; cycle = 0 }

  -- a step is lent the run's cells, a tape of 4,096 values, 1,024 working values and 8 level records
  abbrev pub room_of : Run V → Room
  room_of s = record { cells = length s.cells; tape = 4096; values = 1024; levels = 8 }

  -- what a line does to a run: a step on the inputs that it stands for, or nothing if it is ill formed
  abbrev pub line_done : Run V → Option (List V) → Outcome V
  line_done s None = record { run = s; answer = refused_by 13 }
  line_done s (Some ins) = call K d s (step ins (room_of s))

  -- the line that is printed, by the run ahead of the call, the tape after it, and the answer: a step shows the outputs that
  -- it put on the tape
  abbrev pub answer_line : Run V → List V → Answer V → List ℕ
  answer_line s tape (refused_by n) = refused_line n
  answer_line s tape (counted n) = step_line K s.cycle (drop (length s.tape) tape) n
  answer_line s tape done = []
  answer_line s tape (value_is v) = []

  -- the answers to the lines, and the end
  unfoldable pub answers : Run V → List (List ℕ) → List ℕ
  answers s [] = ended_line s.cycle
  answers s (l ∷ ls) =
      answer_line s (line_done s (inputs_of K unknown (in_count d) l)).run.tape (line_done s (inputs_of K unknown (in_count d) l)).answer ++ answers (line_done s (inputs_of K unknown (in_count d) l)).run ls

abbrev pub is_accepted : Verdict → Bool
is_accepted accepted = true
is_accepted (refused e) = false

-- a refused board has one line, and an accepted one the text
abbrev pub by_verdict : Verdict → List ℕ → List ℕ
by_verdict accepted text = text
by_verdict (refused e) text = board_line e

-- the text for a board file and an input, on any kind with an unknown
abbrev pub transcript : {V : Type 0} → Kind V → V → List ℕ → List ℕ → List ℕ
transcript K unknown file input = by_verdict (verdict file) (kind_line K ++ answers K unknown (top (board_of file)) (powered K unknown (top (board_of file))) (lines_of input))
