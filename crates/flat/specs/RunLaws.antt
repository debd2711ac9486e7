-- The law for runs: a simulated run never denies what the flat run does.
use Rattle.std.specs.Prelude.{◌≡◌, ℕ, ◌*◌, Bool, false, List, length}
use Rattle.signal.specs.Kinds.{Kind, Situation, Admits, Settled}
use Rattle.signal.specs.GateValues.{AllSettled}
use Rattle.rules.specs.Boards.{Design, out_wires, cells}
use Rattle.rules.specs.Sound.{All}
use Rattle.flat.specs.Flat.{Store, OneAgrees, cell_bits, flat_count}
use Rattle.flat.specs.Laws.{All2}
use Rattle.flat.specs.Runs.{Room, Call, step, set_cell, clear, read, look, Answer, refused, counted, done, value_is, Start, not_started, started, Run, Outcome, start_with, power, call, trace}
use Rattle.flat.specs.FlatRuns.{Flat, FlatAnswer, refused_by, stepped, completed, bit_is, FlatOutcome, FlatRun, FlatStart}

-- A run and a flat run

-- the same call: the same numbers and lengths, and a related value for each value
pub data Fed {V W : Type 0} (R : V → W → Type 0) : Call V → Call W → Type 0 where
  fed_step : (ins : List V) (js : List W) (r : Room) → All2 R ins js → Fed R (step ins r) (step js r)
  fed_set : (k : ℕ) (v : V) (w : W) (n : ℕ) → R v w → Fed R (set_cell k v n) (set_cell k w n)
  fed_clear : (n : ℕ) → Fed R (clear n) (clear n)
  fed_read : (k n : ℕ) → Fed R (read k n) (read k n)
  fed_look : (k j n t : ℕ) → Fed R (look k j n t) (look k j n t)

-- the same answer, with a related bit for a value; the flat run counts no gates
pub data Answered {V : Type 0} (R : V → Bool → Type 0) : Answer V → FlatAnswer → Type 0 where
  both_refused : (n : ℕ) → Answered R (refused n) (refused_by n)
  both_stepped : (n : ℕ) → Answered R (counted n) stepped
  both_done : Answered R done completed
  both_value : (v : V) (b : Bool) → R v b → Answered R (value_is v) (bit_is b)

-- all cells and the tape values, one by one, and the cycle
pub record Alike {V : Type 0} (R : V → Bool → Type 0) (d : Design) (s : Run V) (f : Flat) : Type 0 where
  pub cells : All2 R s.cells (cell_bits d f.store)
  pub tape : All2 R s.tape f.tape
  pub cycle : s.cycle ≡ f.cycle

pub record Matches {V : Type 0} (R : V → Bool → Type 0) (d : Design) (o : Outcome V) (p : FlatOutcome) : Type 0 where
  pub run : Alike R d o.run p.run
  pub answer : Answered R o.answer p.answer

-- both starts are refused by the same number, or both give runs of which P holds
abbrev pub BothStart : {V : Type 0} → (Run V → Flat → Type 0) → Start (Run V) → Start Flat → Type 0
BothStart P (not_started n) (not_started m) = n ≡ m
BothStart P (not_started n) (started f) = ⊥
BothStart P (started s) (not_started m) = ⊥
BothStart P (started s) (started f) = P s f

module _ {V : Type 0} (K : Kind V) (s : Situation) where
  abbrev pub AdmitsThere : V → Bool → Type 0
  AdmitsThere v b = Admits K v s b

  -- the values handed in, and those given back, are settled in the situation
  abbrev pub SettledIn : Call V → Type 0
  SettledIn (step ins r) = AllSettled K ins s
  SettledIn (set_cell k v n) = Settled K v s
  SettledIn (clear n) = Unit {0}
  SettledIn (read k n) = Unit {0}
  SettledIn (look k j n t) = Unit {0}

  abbrev pub SettledAnswer : Answer V → Type 0
  SettledAnswer (refused n) = Unit {0}
  SettledAnswer (counted n) = Unit {0}
  SettledAnswer done = Unit {0}
  SettledAnswer (value_is v) = Settled K v s

  pub record SettledOut (o : Outcome V) : Type 0 where
    pub cells : AllSettled K o.run.cells s
    pub tape : AllSettled K o.run.tape s
    pub answer : SettledAnswer o.answer

-- a step's count is that of the flat gates
abbrev pub CountsRight : {V : Type 0} → Design → Answer V → Type 0
CountsRight d (refused n) = Unit {0}
CountsRight d (counted n) = n ≡ flat_count d
CountsRight d done = Unit {0}
CountsRight d (value_is v) = Unit {0}

-- there are as many cells as the board has, and as many tape values as its outputs have given in the cycles so far
pub record Sized {V : Type 0} (d : Design) (s : Run V) : Type 0 where
  pub cells : length s.cells ≡ cells d
  pub tape : length s.tape ≡ s.cycle * length (out_wires d)

-- The parts of the law, for a way of starting runs and a way of carrying out calls

module _ {V : Type 0} (K : Kind V) (d : Design) (begin : ℕ → Start (Run V)) (carry : Run V → Call V → Outcome V) where
  -- a. every value given back is the one that the definitions give
  abbrev pub AsDefined : Type 0
  AsDefined = (n : ℕ) (run : Run V) → begin n ≡ started run → (calls : List (Call V)) → trace carry run calls ≡ trace (call K d) run calls

  -- Whatever bits are put for the values handed in, of those that these admit in the situation: after every call every value
  -- given back admits the flat run's bit there, both refuse by the same number and stand at the same cycle.
  abbrev pub Follows : Situation → Run V → Flat → Type 0
  Follows s run flat =
      Alike (AdmitsThere K s) d run flat × ((calls : List (Call V)) (flat_calls : List (Call Bool)) → All2 (Fed (AdmitsThere K s)) calls flat_calls → (os : List FlatOutcome) → FlatRun d flat flat_calls os → All2 (Matches (AdmitsThere K s) d) (trace carry run calls) os)

  -- so it is from a start on, where the flat run starts from these bits
  abbrev pub NeverDenies : Store → Type 0
  NeverDenies store = (s : Situation) (n : ℕ) (f : Start Flat) → FlatStart d store n f → BothStart (Follows s) (begin n) f

  -- b. where each value handed in is settled, each value given back is
  abbrev pub StaysSettled : Type 0
  StaysSettled = (s : Situation) (n : ℕ) (run : Run V) → begin n ≡ started run → (calls : List (Call V)) → All (SettledIn K s) calls → All (SettledOut K s) (trace carry run calls)

  -- c. an accepted step counts each flat gate once, and once more for every cell-holding module below the top on the way to it
  abbrev pub CountsFlatGates : Type 0
  CountsFlatGates = (n : ℕ) (run : Run V) → begin n ≡ started run → (calls : List (Call V)) → All (λ o. CountsRight d o.answer) (trace carry run calls)

  abbrev pub KeepsSizes : Type 0
  KeepsSizes = (n : ℕ) (run : Run V) → begin n ≡ started run → (calls : List (Call V)) → All (λ o. Sized d o.run) (trace carry run calls)

-- there is one, and no other
abbrev pub One : {X : Type 0} → (X → Type 0) → Type 0
One {X} P = (x : X) × P x × ((y : X) → P y → y ≡ x)

-- one set of bits agrees with any inputs and stored bits, and there is one flat run for any start and calls
pub record OneFlatRun (d : Design) : Type 0 where
  pub bits : OneAgrees d
  pub start : (store : Store) (n : ℕ) → One (FlatStart d store n)
  pub run : (flat : Flat) (calls : List (Call Bool)) → One (FlatRun d flat calls)

-- The law

module _ {V : Type 0} (K : Kind V) (d : Design) where
  pub record LawForPoweredRuns : Type 0 where
    pub as_defined : AsDefined K d (power K d) (call K d)
    pub never_denies : NeverDenies K d (power K d) (call K d) (λ p. false)
    pub stays_settled : StaysSettled K d (power K d) (call K d)
    pub counts : CountsFlatGates K d (power K d) (call K d)
    pub sizes : KeepsSizes K d (power K d) (call K d)
    pub one : OneFlatRun d

  -- started cold, with u in all cells: the flat run starts from any bits
  pub record LawForColdRuns (u : V) : Type 0 where
    pub as_defined : AsDefined K d (start_with d u) (call K d)
    pub never_denies : (store : Store) → NeverDenies K d (start_with d u) (call K d) store
    pub counts : CountsFlatGates K d (start_with d u) (call K d)
    pub sizes : KeepsSizes K d (start_with d u) (call K d)

  pub record LawForRuns (u : V) : Type 0 where
    pub powered : LawForPoweredRuns
    pub cold : LawForColdRuns u
