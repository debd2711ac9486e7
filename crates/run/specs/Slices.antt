-- The caller's slices and the definition of runs: calls made one after the other on slices of any length follow the
-- definition, as long as what is handed over builds on the run.
use Rattle.std.specs.Prelude.{◌≡◌, ℕ, ◌<◌, List, [], ◌∷◌, ◌++◌, length, take, drop, Ok, Err, Result, slice_index_or}
use Rattle.signal.specs.Kinds.{Kind}
use Rattle.rules.specs.Boards.{Design}
use Rattle.rules.specs.Sound.{Sound}
use Rattle.flat.specs.Runs.{Call, step, set_cell, clear, read, look, Answer, refused, counted, done, value_is, Run, Outcome, call}
use Rattle.flat.specs.RunLaws.{Sized}
use Rattle.run.specs.declared.refusal.CallRefusal.{CallRefusal}
use Rattle.run.specs.Refusals.{number_of}
use Rattle.run.specs.Calls.{Memory, room, StepContract, SetContract, ClearContract, ReadContract, LookContract}

-- A call that was made: what was handed over, what was left, and the answer.
pub data Made (V : Type 0) : Type 0 where
  -- inputs, memory before and after
  step_made : List V → Memory V → Memory V → Result ℕ CallRefusal → Made V
  -- the number of a cell, a value, cells before and after
  set_made : ℕ → V → List V → List V → Result (Unit {0}) CallRefusal → Made V
  -- cells before and after
  clear_made : List V → List V → Result (Unit {0}) CallRefusal → Made V
  -- the number of a cell, cells
  read_made : ℕ → List V → Result V CallRefusal → Made V
  -- a cycle, the number of an output, cells and tape
  look_made : ℕ → ℕ → List V → List V → Result V CallRefusal → Made V

module _ {V : Type 0} where
  abbrev pub call_of : Made V → Call V
  call_of (step_made ins before after r) = step ins (room before)
  call_of (set_made k v before after r) = set_cell k v (length before)
  call_of (clear_made before after r) = clear (length before)
  call_of (read_made k cells r) = read k (length cells)
  call_of (look_made k j cells tape r) = look k j (length cells) (length tape)

  abbrev pub answer_in : {X : Type 0} → (X → Answer V) → Result X CallRefusal → Answer V
  answer_in given (Ok x) = given x
  answer_in given (Err e) = refused (number_of e)

  abbrev pub answer_of : Made V → Answer V
  answer_of (step_made ins before after r) = answer_in counted r
  answer_of (set_made k v before after r) = answer_in (λ _. done) r
  answer_of (clear_made before after r) = answer_in (λ _. done) r
  answer_of (read_made k cells r) = answer_in value_is r
  answer_of (look_made k j cells tape r) = answer_in value_is r

  -- the cycle that a call left, from the one that it found
  abbrev pub cycle_behind : ℕ → Made V → ℕ
  cycle_behind cycle (step_made ins before after r) = after.cycle
  cycle_behind cycle (set_made k v before after r) = cycle
  cycle_behind cycle (clear_made before after r) = cycle
  cycle_behind cycle (read_made k cells r) = cycle
  cycle_behind cycle (look_made k j cells tape r) = cycle

  -- below its length a slice has what a run holds there
  abbrev pub BuildsOn : List V → List V → Type 0
  BuildsOn slice held = (k : ℕ) (v : V) → k < length slice → k < length held → slice_index_or slice k v ≡ slice_index_or held k v

  -- the cells and the tape that a call was handed; a call that is handed no tape has none
  abbrev pub cells_handed : Made V → List V
  cells_handed (step_made ins before after r) = before.cells
  cells_handed (set_made k v before after r) = before
  cells_handed (clear_made before after r) = before
  cells_handed (read_made k cells r) = cells
  cells_handed (look_made k j cells tape r) = cells

  abbrev pub tape_handed : Made V → List V
  tape_handed (step_made ins before after r) = before.tape
  tape_handed (set_made k v before after r) = []
  tape_handed (clear_made before after r) = []
  tape_handed (read_made k cells r) = []
  tape_handed (look_made k j cells tape r) = tape

  -- and those that it left
  abbrev pub cells_left : Made V → List V
  cells_left (step_made ins before after r) = after.cells
  cells_left (set_made k v before after r) = after
  cells_left (clear_made before after r) = after
  cells_left (read_made k cells r) = cells
  cells_left (look_made k j cells tape r) = cells

  abbrev pub tape_left : Made V → List V
  tape_left (step_made ins before after r) = after.tape
  tape_left (set_made k v before after r) = []
  tape_left (clear_made before after r) = []
  tape_left (read_made k cells r) = []
  tape_left (look_made k j cells tape r) = tape

  -- what a call was handed builds on a run
  pub record Handed (s : Run V) (m : Made V) : Type 0 where
    pub cells : BuildsOn (cells_handed m) s.cells
    pub tape : BuildsOn (tape_handed m) s.tape

  module _ (K : Kind V) (d : Design) where
    -- a call that was made at a cycle met its contract
    abbrev pub Met : ℕ → Made V → Type 0
    Met cycle (step_made ins before after r) = (before.cycle ≡ cycle) × StepContract K d ins before after r
    Met cycle (set_made k v before after r) = SetContract d cycle k v before after r
    Met cycle (clear_made before after r) = ClearContract K d cycle before after r
    Met cycle (read_made k cells r) = ReadContract K d cycle k cells r
    Met cycle (look_made k j cells tape r) = LookContract K d cycle k j cells tape r

    -- a call was as the definition has it, which gives the outcome o; what it left builds on the run
    pub record Follows (cycle : ℕ) (m : Made V) (o : Outcome V) : Type 0 where
      pub answer : answer_of m ≡ o.answer
      pub cells : BuildsOn (cells_left m) o.run.cells
      pub tape : BuildsOn (tape_left m) o.run.tape
      pub cycle_is : cycle_behind cycle m ≡ o.run.cycle

    -- calls made one after the other, each handed what builds on the run
    abbrev pub HandedOn : ℕ → Run V → List (Made V) → Type 0
    HandedOn cycle s [] = Unit {0}
    HandedOn cycle s (m ∷ ms) = Handed s m × Met cycle m × HandedOn (cycle_behind cycle m) (call K d s (call_of m)).run ms

    abbrev pub FollowOn : ℕ → Run V → List (Made V) → Type 0
    FollowOn cycle s [] = Unit {0}
    FollowOn cycle s (m ∷ ms) = Follows cycle m (call K d s (call_of m)) × FollowOn (cycle_behind cycle m) (call K d s (call_of m)).run ms

-- calls on slices follow the definition of runs
abbrev pub SlicesFollow : {V : Type 0} → Kind V → Type 0
SlicesFollow {V} K =
    (d : Design) → Sound d → (s : Run V) → Sized d s → (made : List (Made V)) → HandedOn K d s.cycle s made → FollowOn K d s.cycle s made

-- The caller's memory for cells and tape, of which each call is lent a part: from the first value on, at any length.
pub record Owned (V : Type 0) : Type 0 where
  pub cells : List V
  pub tape : List V

module _ {V : Type 0} where
  abbrev pub FrontOf : List V → List V → Type 0
  FrontOf slice whole = slice ≡ take (length slice) whole

  pub record Lent (own : Owned V) (m : Made V) : Type 0 where
    pub cells : FrontOf (cells_handed m) own.cells
    pub tape : FrontOf (tape_handed m) own.tape

  -- the memory behind a call: what the call left, and the rest as it was
  abbrev pub memory_behind : Owned V → Made V → Owned V
  memory_behind own m = record { cells = cells_left m ++ drop (length (cells_handed m)) own.cells; tape = tape_left m ++ drop (length (tape_handed m)) own.tape }

  module _ (K : Kind V) (d : Design) where
    -- calls made one after the other on one memory
    abbrev pub LentOn : ℕ → Owned V → List (Made V) → Type 0
    LentOn cycle own [] = Unit {0}
    LentOn cycle own (m ∷ ms) = Lent own m × Met K d cycle m × LentOn (cycle_behind cycle m) (memory_behind own m) ms

-- what calls on one memory are handed builds on the run, if the memory did at first
abbrev pub MemoryBuilds : {V : Type 0} → Kind V → Type 0
MemoryBuilds {V} K =
    (d : Design) → Sound d → (s : Run V) → Sized d s → (own : Owned V) → BuildsOn own.cells s.cells → BuildsOn own.tape s.tape → (made : List (Made V)) → LentOn K d s.cycle own made → HandedOn K d s.cycle s made
