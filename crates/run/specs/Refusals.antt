-- The refusals of calls, with their numbers.
use Rattle.std.specs.Prelude.{ℕ, Ok, Err, Result}
use Rattle.run.specs.declared.refusal.CallRefusal.{CallRefusal}
use Rattle.run.specs.declared.refusal.CallRefusal.TheVariants.{Count, Index, Fit, Tape, Unseen}

-- Count: a step's inputs aren't as many as the top's.
-- Index: the board has no cell, or no output, of that number.
-- Fit: the cells handed over aren't as many as the board's; the working values or the level records are too few; or, at look,
--   the tape is shorter than the cycles so far.
-- Tape: the tape has no room for one more cycle, or no cycle is left to count.
-- Unseen: the cycle has not been yet.
abbrev pub number_of : CallRefusal → ℕ
number_of Count = 13
number_of Index = 14
number_of Fit = 15
number_of Tape = 16
number_of Unseen = 17

-- the number that refused a call, or 0
abbrev pub refused_by : {X : Type 0} → Result X CallRefusal → ℕ
refused_by (Ok x) = 0
refused_by (Err e) = number_of e
