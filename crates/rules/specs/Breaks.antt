-- Which rule a file breaks, at which place and in which rank; and what the verdict is in these words.
use Rattle.std.specs.Prelude.{◌≡◌, ℕ, zero, suc, ◌+◌, ◌-◌, ◌<◌, ◌≤◌, ◌≢◌, ◌⊎◌, ◌↔◌, List, [], ◌∷◌, ◌++◌, length, Some, None, Option, slice_index}
use Rattle.rules.specs.declared.refusal.Refusal.{Refusal}
use Rattle.rules.specs.declared.refusal.Refusal.TheVariants.{Long, Cut, Kind, Shape, Trail}
use Rattle.rules.specs.Refusals.{Verdict, accepted, refused, number_of}
use Rattle.rules.specs.Boards.{Module, module_number}
use Rattle.rules.specs.Files.{word, RecordAt, LaidOut, BoardRange, module_start, occurrence_start}
use Rattle.rules.specs.Rules.{OccurrenceRule, OccurrenceKeeps, occurrence_refusal, ModuleRule, ModuleKeeps, module_refusal, BoardKeeps}
use Rattle.rules.specs.Judging.{verdict}

-- Reading front to back

-- the record that is due: the board, a module with so many more to come, or an occurrence with so many more of its module
-- and so many more modules to come
pub data DueRecord : Type 0 where
  a_board : DueRecord
  a_module : ℕ → DueRecord
  an_occurrence : ℕ → ℕ → DueRecord

abbrev pub kind_of : DueRecord → ℕ
kind_of a_board = 1
kind_of (a_module modules) = 2
kind_of (an_occurrence occurrences modules) = 3

abbrev pub modules_due : ℕ → Option DueRecord
modules_due zero = None
modules_due (suc n) = Some (a_module n)

abbrev pub occurrences_due : ℕ → ℕ → Option DueRecord
occurrences_due zero modules = modules_due modules
occurrences_due (suc n) modules = Some (an_occurrence n modules)

-- what is due behind a record with such a body, if anything is
abbrev pub due_behind : DueRecord → List ℕ → Option DueRecord
due_behind a_board body = modules_due (word (slice_index body 0) (slice_index body 1))
due_behind (a_module modules) body = occurrences_due (slice_index body 3) modules
due_behind (an_occurrence occurrences modules) body = occurrences_due occurrences modules

pub record BoardShape (body : List ℕ) : Type 0 where
  pub low : ℕ
  pub high : ℕ
  pub bytes : body ≡ low ∷ high ∷ []
  pub some : 1 ≤ word low high
  pub few : word low high ≤ 64

pub record ModuleShape (body : List ℕ) : Type 0 where
  pub inputs : ℕ
  pub wires : ℕ
  pub occurrences : ℕ
  pub outs : List ℕ
  pub states : List ℕ
  pub bytes : body ≡ inputs ∷ length outs ∷ wires ∷ occurrences ∷ length states ∷ (outs ++ states)
  pub few_inputs : inputs ≤ 16
  pub few_outputs : length outs ≤ 16
  pub inputs_wired : inputs ≤ wires
  pub few_wires : wires ≤ 128
  pub few_occurrences : occurrences ≤ 64
  pub few_states : length states ≤ occurrences

pub record OccurrenceShape (body : List ℕ) : Type 0 where
  pub low : ℕ
  pub high : ℕ
  pub ins : List ℕ
  pub outs : List ℕ
  pub bytes : body ≡ low ∷ high ∷ length ins ∷ length outs ∷ (ins ++ outs)
  pub few_inputs : length ins ≤ 16
  pub few_outputs : length outs ≤ 16

-- the counts are there and in range, and the length is what they say
abbrev pub ShapeRight : DueRecord → List ℕ → Type 0
ShapeRight a_board body = BoardShape body
ShapeRight (a_module modules) body = ModuleShape body
ShapeRight (an_occurrence occurrences modules) body = OccurrenceShape body

-- what is due at a place, where all that stands ahead of it is as it should be
pub data Due (f : List ℕ) : ℕ → Option DueRecord → Type 0 where
  begin : Due f 0 (Some a_board)
  next : (at : ℕ) (due : DueRecord) (body : List ℕ) → Due f at (Some due) → RecordAt f at (kind_of due) body → ShapeRight due body → Due f (at + (4 + length body)) (due_behind due body)

-- Rank: what is checked first has the lesser rank. The file's length comes first; then the records by their places, each by
-- the number of the refusal; then what is behind the last record; then the modules from the last to the top, in each the
-- occurrences in file order and then the module, each by the number of the refusal.

abbrev pub Rank : Type 0
Rank = List ℕ

-- the order of the first place in which two ranks differ
abbrev pub Before : Rank → Rank → Type 0
Before [] ys = ⊥
Before (x ∷ xs) [] = ⊥
Before (x ∷ xs) (y ∷ ys) = (x < y) ⊎ ((x ≡ y) × Before xs ys)

-- the file breaks a rule
pub data Breaks (f : List ℕ) : Rank → Refusal → Type 0 where
  long : 32768 < length f → Breaks f (0 ∷ []) Long
  -- a record is due, and no whole one stands there
  cut : (at : ℕ) (due : DueRecord) → Due f at (Some due) → ((kind : ℕ) (body : List ℕ) → RecordAt f at kind body → ⊥) → Breaks f (1 ∷ at ∷ 2 ∷ []) (Cut at)
  -- a whole record of another kind stands there
  wrong_kind : (at kind : ℕ) (due : DueRecord) (body : List ℕ) → Due f at (Some due) → RecordAt f at kind body → kind ≢ kind_of due → Breaks f (1 ∷ at ∷ 3 ∷ []) (Kind at)
  wrong_shape : (at kind : ℕ) (due : DueRecord) (body : List ℕ) → Due f at (Some due) → RecordAt f at kind body → (ShapeRight due body → ⊥) → Breaks f (1 ∷ at ∷ 4 ∷ []) (Shape at)
  -- nothing more is due, and the file goes on
  trail : (at : ℕ) → Due f at None → at < length f → Breaks f (2 ∷ []) (Trail at)
  of_occurrence : (board : List Module) (k i : ℕ) (r : OccurrenceRule) → LaidOut f board → BoardRange board → k < length board → i < length (module_number board k).occurrences → (OccurrenceKeeps board k i r → ⊥) → Breaks f (3 ∷ (length board - k) ∷ i ∷ number_of (occurrence_refusal r 0) ∷ []) (occurrence_refusal r (occurrence_start board k i))
  of_module : (board : List Module) (k : ℕ) (r : ModuleRule) → LaidOut f board → BoardRange board → k < length board → (ModuleKeeps board k r → ⊥) → Breaks f (3 ∷ (length board - k) ∷ length (module_number board k).occurrences ∷ number_of (module_refusal r 0) ∷ []) (module_refusal r (module_start board k))

-- The theorems

-- a file that is the records of a board that keeps the rules
pub record BoardFile (f : List ℕ) : Type 0 where
  pub board : List Module
  pub short : length f ≤ 32768
  pub laid_out : LaidOut f board
  pub range : BoardRange board
  pub keeps : BoardKeeps board

-- a file is accepted exactly when it is the records of a board that keeps the rules
abbrev pub AcceptedExactly : List ℕ → Type 0
AcceptedExactly f = (verdict f ≡ accepted) ↔ BoardFile f

-- the refusal is that of a broken rule, and no rule of lesser rank is broken
pub record FirstBroken (f : List ℕ) (e : Refusal) : Type 0 where
  pub rank : Rank
  pub broken : Breaks f rank e
  pub first : (other : Rank) (e' : Refusal) → Breaks f other e' → Before other rank → ⊥

-- an accepted file breaks no rule; a refused one is refused by the first that it breaks
abbrev pub VerdictFirst : List ℕ → Verdict → Type 0
VerdictFirst f accepted = (rank : Rank) (e : Refusal) → Breaks f rank e → ⊥
VerdictFirst f (refused e) = FirstBroken f e
