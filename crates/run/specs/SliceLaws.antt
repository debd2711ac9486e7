-- The law for runs on the caller's slices: of any calls made one after the other, each handed what builds on the run.
use Rattle.std.specs.Prelude.{◌≡◌, ℕ, ◌*◌, ◌<◌, Bool, false, List, [], ◌∷◌, map, length, slice_index_or}
use Rattle.signal.specs.Kinds.{Kind, Situation, Admits, Settled}
use Rattle.rules.specs.Boards.{Design, out_wires, cells}
use Rattle.rules.specs.Sound.{All}
use Rattle.flat.specs.Flat.{Store, cell_bits}
use Rattle.flat.specs.Laws.{All2}
use Rattle.flat.specs.Runs.{Call, Start, started, Run, start_with, power}
use Rattle.flat.specs.FlatRuns.{Flat, FlatOutcome, FlatRun, FlatStart}
use Rattle.flat.specs.RunLaws.{Fed, Answered, AdmitsThere, SettledIn, SettledAnswer, CountsRight}
use Rattle.run.specs.Slices.{Made, call_of, answer_of, cycle_behind, cells_left, tape_left, HandedOn}

module _ {V : Type 0} (K : Kind V) (d : Design) where
  module _ (s : Situation) where
    -- every value that a call gave back admits the flat run's bit: its answer, the cells, and the tape values of the cycles so
    -- far; both refuse by the same number and stand at the same cycle
    pub record AdmitsFlat (cycle : ℕ) (m : Made V) (p : FlatOutcome) : Type 0 where
      pub answer : Answered (AdmitsThere K s) (answer_of m) p.answer
      pub cell : (k : ℕ) (v : V) → k < length (cells_left m) → k < cells d → Admits K (slice_index_or (cells_left m) k v) s (slice_index_or (cell_bits d p.run.store) k false)
      pub tape : (k : ℕ) (v : V) → k < length (tape_left m) → k < p.run.cycle * length (out_wires d) → Admits K (slice_index_or (tape_left m) k v) s (slice_index_or p.run.tape k false)
      pub cycle_is : cycle_behind cycle m ≡ p.run.cycle

    abbrev pub AllAdmitFlat : ℕ → List (Made V) → List FlatOutcome → Type 0
    AllAdmitFlat cycle [] [] = Unit {0}
    AllAdmitFlat cycle [] (p ∷ ps) = ⊥
    AllAdmitFlat cycle (m ∷ ms) [] = ⊥
    AllAdmitFlat cycle (m ∷ ms) (p ∷ ps) = AdmitsFlat cycle m p × AllAdmitFlat (cycle_behind cycle m) ms ps

    -- every value that a call gave back is settled
    pub record SettledBack (cycle : ℕ) (m : Made V) : Type 0 where
      pub answer : SettledAnswer K s (answer_of m)
      pub cell : (k : ℕ) (v : V) → k < length (cells_left m) → k < cells d → Settled K (slice_index_or (cells_left m) k v) s
      pub tape : (k : ℕ) (v : V) → k < length (tape_left m) → k < cycle_behind cycle m * length (out_wires d) → Settled K (slice_index_or (tape_left m) k v) s

    abbrev pub AllSettledBack : ℕ → List (Made V) → Type 0
    AllSettledBack cycle [] = Unit {0}
    AllSettledBack cycle (m ∷ ms) = SettledBack cycle m × AllSettledBack (cycle_behind cycle m) ms

  -- The parts of the law, from a way of starting runs

  -- a. whatever bits are put for the values handed in, of those that these admit
  abbrev pub SlicesNeverDeny : (ℕ → Start (Run V)) → Store → Type 0
  SlicesNeverDeny begin store =
      (s : Situation) (n : ℕ) (run : Run V) → begin n ≡ started run → (flat : Flat) → FlatStart d store n (started flat) → (made : List (Made V)) → HandedOn K d 0 run made → (flat_calls : List (Call Bool)) → All2 (Fed (AdmitsThere K s)) (map call_of made) flat_calls → (ps : List FlatOutcome) → FlatRun d flat flat_calls ps → AllAdmitFlat s 0 made ps

  -- b. where each value handed in is settled
  abbrev pub SlicesStaySettled : (ℕ → Start (Run V)) → Type 0
  SlicesStaySettled begin =
      (s : Situation) (n : ℕ) (run : Run V) → begin n ≡ started run → (made : List (Made V)) → HandedOn K d 0 run made → All (SettledIn K s) (map call_of made) → AllSettledBack s 0 made

  -- c. the count of each accepted step
  abbrev pub SlicesCount : (ℕ → Start (Run V)) → Type 0
  SlicesCount begin = (n : ℕ) (run : Run V) → begin n ≡ started run → (made : List (Made V)) → HandedOn K d 0 run made → All (λ m. CountsRight d (answer_of m)) made

  pub record LawForPoweredSlices : Type 0 where
    pub never_deny : SlicesNeverDeny (power K d) (λ p. false)
    pub stay_settled : SlicesStaySettled (power K d)
    pub count : SlicesCount (power K d)

  -- started cold, with u in all cells: the flat run starts from any bits
  pub record LawForColdSlices (u : V) : Type 0 where
    pub never_deny : (store : Store) → SlicesNeverDeny (start_with d u) store
    pub count : SlicesCount (start_with d u)
