-- A run with the memory that it is lent.
use Rattle.std.specs.Prelude.{◌≡◌, ℕ, ◌+◌, ◌*◌, List, ◌++◌, length, take, Ok, Err, vec_items, Result, MatchResult}
use Rattle.signal.specs.Kinds.{Kind}
use Rattle.rules.specs.Boards.{Design, in_count, out_wires}
use Rattle.flat.specs.Runs.{Answer, refused, counted, Run, Outcome}
use Rattle.board.specs.declared.board.Board.{Board}
use Rattle.walk.specs.Steps.{design_in}
use Rattle.run.specs.declared.refusal.CallRefusal.{CallRefusal}
use Rattle.run.specs.Refusals.{number_of}
use Rattle.run.specs.Calls.{run_top}
use Rattle.transcript.specs.declared.session.Desk.{Desk}
use Rattle.transcript.specs.Lines.{inputs_of}
use Rattle.transcript.specs.Sessions.{answer_line, powered, line_done}

module _ {V : Type 0} where
  abbrev pub design_of : Desk V → Design
  design_of s = run_top s.run

  abbrev pub cycle_of : Desk V → ℕ
  cycle_of s = s.run.cycle

  -- how many tape values the cycles so far have
  abbrev pub taped : Desk V → ℕ
  taped s = cycle_of s * length (out_wires (design_of s))

  -- the run of the definitions that a desk stands for
  abbrev pub run_of : Desk V → Run V
  run_of s = record { cells = vec_items s.cells; tape = take (taped s) (vec_items s.tape); cycle = cycle_of s }

  -- the desk of a board at its start
  pub record Fresh (K : Kind V) (b : Board) (s : Desk V) : Type 0 where
    pub design : design_of s ≡ design_in b
    pub run : run_of s ≡ powered K K.low (design_of s)

  abbrev pub answer_of : Result ℕ CallRefusal → Answer V
  answer_of (Ok n) = counted n
  answer_of (Err e) = refused (number_of e)

  -- what a line does to the run that a desk stands for
  abbrev pub done_by : Kind V → V → Desk V → List ℕ → Outcome V
  done_by K unknown s line = line_done K unknown (design_of s) (run_of s) (inputs_of K unknown (in_count (design_of s)) line)

  -- a step was made on the line
  pub record Told (K : Kind V) (unknown : V) (s : Desk V) (line : List ℕ) (t : Desk V) (r : Result ℕ CallRefusal) : Type 0 where
    pub design : design_of t ≡ design_of s
    pub run : run_of t ≡ (done_by K unknown s line).run
    pub cycle : MatchResult r (λ _. cycle_of t ≡ cycle_of s + 1) (λ _. cycle_of t ≡ cycle_of s)
    pub answer : answer_of r ≡ (done_by K unknown s line).answer

  -- the line has its answer in the text
  pub record Answered (K : Kind V) (unknown : V) (s : Desk V) (line : List ℕ) (t : Desk V) (was text : List ℕ) : Type 0 where
    pub design : design_of t ≡ design_of s
    pub run : run_of t ≡ (done_by K unknown s line).run
    pub printed : text ≡ was ++ answer_line K unknown (design_of s) (run_of s) (done_by K unknown s line).run.tape (done_by K unknown s line).answer
