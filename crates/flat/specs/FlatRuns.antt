-- Flat runs, as a relation. They are fed the calls of simulated runs, and share nothing else with them.
use Rattle.std.specs.Prelude.{◌≡◌, ℕ, ◌+◌, ◌*◌, ◌<◌, ◌≤◌, Bool, true, false, cond, ◌&&◌, ◌≢◌, ◌⊎◌, List, [], ◌∷◌, ◌++◌, length, ◌==◌, slice_index_or}
use Rattle.rules.specs.Boards.{Design, in_count, out_wires}
use Rattle.flat.specs.Flat.{Place, Store, Bits, Agrees, flat_outputs, input_bit, cell_places}
use Rattle.flat.specs.Runs.{Call, step, set_cell, clear, read, look, Start, not_started, started}

-- a stored bit for each cell place, the tape and the cycle
pub record Flat : Type 0 where
  pub store : Store
  pub tape : List Bool
  pub cycle : ℕ

pub data FlatAnswer : Type 0 where
  -- refused by this number
  refused_by : ℕ → FlatAnswer
  stepped completed : FlatAnswer
  bit_is : Bool → FlatAnswer

-- what a call leaves and what it answers
pub record FlatOutcome : Type 0 where
  pub run : Flat
  pub answer : FlatAnswer

-- Refusals

module _ (d : Design) (cycle : ℕ) where
  -- The condition of number m holds, by the flat run's own cycle and the lengths handed over.
  -- 13 COUNT: a step's inputs aren't as many as the top's
  -- 14 INDEX: there is no cell of that number, or no output
  -- 15 FIT: the cells handed over aren't as many as the board's; the working values or the level records are too few; or,
  --   at look, the tape is too short for the cycles so far
  -- 16 TAPE: the tape is too short for one more cycle, or there are no more cycles
  -- 17 UNSEEN: that cycle has not been yet
  abbrev pub Wrong : Call Bool → ℕ → Type 0
  Wrong (step ins r) m =
      ((m ≡ 13) × (length ins ≢ in_count d))
      ⊎ (((m ≡ 15) × ((r.cells ≢ length (cell_places d)) ⊎ ((r.values < 1024) ⊎ (r.levels < 8))))
      ⊎ ((m ≡ 16) × ((r.tape < (cycle + 1) * length (out_wires d)) ⊎ (cycle ≡ 65535))))
  Wrong (set_cell k b n) m = ((m ≡ 14) × (length (cell_places d) ≤ k)) ⊎ ((m ≡ 15) × (n ≢ length (cell_places d)))
  Wrong (clear n) m = (m ≡ 15) × (n ≢ length (cell_places d))
  Wrong (read k n) m = ((m ≡ 14) × (length (cell_places d) ≤ k)) ⊎ ((m ≡ 15) × (n ≢ length (cell_places d)))
  Wrong (look k j n t) m =
      ((m ≡ 14) × (length (out_wires d) ≤ j))
      ⊎ (((m ≡ 15) × ((n ≢ length (cell_places d)) ⊎ (t < cycle * length (out_wires d))))
      ⊎ ((m ≡ 17) × (cycle ≤ k)))

  -- a number refuses a call if its condition holds and no smaller one's does
  abbrev pub Refuses : Call Bool → ℕ → Type 0
  Refuses c n = Wrong c n × ((m : ℕ) → m < n → Wrong c m → ⊥)

  abbrev pub Accepts : Call Bool → Type 0
  Accepts c = (n : ℕ) → Wrong c n → ⊥

-- Calls

abbrev pub same_place : Place → Place → Bool
same_place [] [] = true
same_place [] (j ∷ q) = false
same_place (i ∷ p) [] = false
same_place (i ∷ p) (j ∷ q) = i == j && same_place p q

-- the bit b stored at the place p
abbrev pub written : Place → Bool → Store → Store
written p b store q = cond (same_place q p) b (store q)

module _ (d : Design) where
  -- the place of cell k
  abbrev pub cell_place : ℕ → Place
  cell_place k = slice_index_or (cell_places d) k []

  abbrev pub FlatPerformed : Flat → Call Bool → FlatOutcome → Type 0
  -- a flat step: the output bits of the bits that agree go behind the tape, and each cell stores its input wire's bit
  FlatPerformed s (step ins r) o =
      (b : Bits) × Agrees d ins s.store b × (o ≡ record { run = record { store = input_bit d b; tape = s.tape ++ flat_outputs d b; cycle = s.cycle + 1 }; answer = stepped })
  FlatPerformed s (set_cell k b n) o = o ≡ record { run = record { store = written (cell_place k) b s.store; tape = s.tape; cycle = s.cycle }; answer = completed }
  FlatPerformed s (clear n) o = o ≡ record { run = record { store = λ p. false; tape = s.tape; cycle = s.cycle }; answer = completed }
  FlatPerformed s (read k n) o = o ≡ record { run = s; answer = bit_is (s.store (cell_place k)) }
  FlatPerformed s (look k j n t) o = o ≡ record { run = s; answer = bit_is (slice_index_or s.tape (k * length (out_wires d) + j) false) }

  abbrev pub FlatRefused : Flat → Call Bool → FlatOutcome → Type 0
  FlatRefused s c o = (n : ℕ) × Refuses d s.cycle c n × (o ≡ record { run = s; answer = refused_by n })

  abbrev pub FlatCall : Flat → Call Bool → FlatOutcome → Type 0
  FlatCall s c o = FlatRefused s c o ⊎ (Accepts d s.cycle c × FlatPerformed s c o)

  -- a sequence of calls, with what each leaves and answers
  abbrev pub FlatRun : Flat → List (Call Bool) → List FlatOutcome → Type 0
  FlatRun s [] [] = Unit {0}
  FlatRun s [] (o ∷ os) = ⊥
  FlatRun s (c ∷ cs) [] = ⊥
  FlatRun s (c ∷ cs) (o ∷ os) = FlatCall s c o × FlatRun o.run cs os

  -- a start from stored bits, handed n cells; power starts from zeros, and cold from any bits
  abbrev pub FlatStart : Store → ℕ → Start Flat → Type 0
  FlatStart store n (not_started m) = (m ≡ 15) × (n ≢ length (cell_places d))
  FlatStart store n (started f) = (n ≡ length (cell_places d)) × (f ≡ record { store = store; tape = []; cycle = 0 })
