-- The lines of an input, and the inputs that a line stands for.
use Rattle.std.specs.Prelude.{ℕ, Bool, true, false, cond, List, [], ◌∷◌, length, Some, None, Option, ◌==◌}
use Rattle.signal.specs.Kinds.{Kind}

-- a byte ahead of the first line
abbrev pub onto_first : ℕ → List (List ℕ) → List (List ℕ)
onto_first b [] = (b ∷ []) ∷ []
onto_first b (l ∷ ls) = (b ∷ l) ∷ ls

-- the lines of an input: byte 10 ends a line, and so does the end of the input if the line is not empty
unfoldable pub lines_of : List ℕ → List (List ℕ)
lines_of [] = []
lines_of (b ∷ bs) = cond (b == 10) ([] ∷ lines_of bs) (onto_first b (lines_of bs))

-- the first line, and what follows it
unfoldable pub first_line : List ℕ → List ℕ
first_line [] = []
first_line (b ∷ bs) = cond (b == 10) [] (b ∷ first_line bs)

unfoldable pub after_line : List ℕ → List ℕ
after_line [] = []
after_line (b ∷ bs) = cond (b == 10) bs (after_line bs)

-- a value ahead of others, if all are there
abbrev pub onto_values : {V : Type 0} → Option V → Option (List V) → Option (List V)
onto_values None vs = None
onto_values (Some v) None = None
onto_values (Some v) (Some vs) = Some (v ∷ vs)

module _ {V : Type 0} (K : Kind V) (unknown : V) where
  -- what a character stands for: 0, 1 or ?
  abbrev pub value_of : ℕ → Option V
  value_of c = cond (c == 48) (Some K.low) (cond (c == 49) (Some K.high) (cond (c == 63) (Some unknown) None))

  unfoldable pub values_of : List ℕ → Option (List V)
  values_of [] = Some []
  values_of (c ∷ cs) = onto_values (value_of c) (values_of cs)

  -- the n inputs that a line stands for, if it is well formed
  abbrev pub inputs_of : ℕ → List ℕ → Option (List V)
  inputs_of n line = cond (length line == n) (values_of line) None

-- the values that were read, if the line was found well formed
abbrev pub read_as : {V : Type 0} → Bool → List V → Option (List V)
read_as true vs = Some vs
read_as false vs = None
