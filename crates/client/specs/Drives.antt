-- What a drive answers.
use Rattle.std.specs.Prelude.{◌≡◌, ℕ, Bool, false, List, [], ◌∷◌, replicate, IfOk, Ok, Err, Result}
use Rattle.signal.specs.Bits.{bits}
use Rattle.signal.specs.GateValues.{input}
use Rattle.rules.specs.Boards.{Design, top, cells}
use Rattle.rules.specs.Refusals.{Verdict, accepted, refused}
use Rattle.rules.specs.Judging.{board_of, verdict}
use Rattle.flat.specs.Passes.{step_of}
use Rattle.client.specs.declared.trouble.Trouble.{Trouble}
use Rattle.client.specs.declared.trouble.Trouble.TheVariants.{File, Call}

-- the verdict that an answer tells: a refused file is answered by its refusal, and no call is made on it
abbrev pub told_verdict : {X : Type 0} → Result X Trouble → Verdict
told_verdict (Ok x) = accepted
told_verdict (Err (File e)) = refused e
told_verdict (Err (Call e)) = accepted

-- output 0 in each step on these inputs, one after the other, from the stored cells cs on
abbrev pub turns_from : Design → List Bool → List (List Bool) → List Bool
turns_from d cs [] = []
turns_from d cs (ins ∷ more) = input bits (step_of bits d ins cs).outs 0 ∷ turns_from d (step_of bits d ins cs).cells more

-- the same of the file's board after power: all cells low
abbrev pub turns_of : List ℕ → List (List Bool) → List Bool
turns_of f rows = turns_from (top (board_of f)) (replicate (cells (top (board_of f))) false) rows

-- what a drive of the file f on these inputs answers
pub record Driven (f : List ℕ) (rows : List (List Bool)) (r : Result (List Bool) Trouble) : Type 0 where
  pub told : told_verdict r ≡ verdict f
  pub turns : IfOk r (λ ts. ts ≡ turns_of f rows)
