-- The two passes as a walk over a stack of levels, one for each module on the way down.
use Rattle.std.specs.Prelude.{◌≡◌, ℕ, suc, ◌+◌, ◌<◌, ◌≤◌, true, List, [], ◌∷◌, ◌++◌, map, length, take, drop, Some, None, Option, slice_index}
use Rattle.gates.specs.declared.Part.{Part}
use Rattle.gates.specs.declared.Part.TheVariants.{Gate as gate, Cell as cell, Module as module_no}
use Rattle.signal.specs.Kinds.{Kind}
use Rattle.signal.specs.GateValues.{input, gate_value}
use Rattle.rules.specs.Boards.{Occurrence, Module, Design, absent, node, part, occurrence_no, design_number, design_from, present, sum_of, cells_at, depth}
use Rattle.rules.specs.Wires.{Wires, put}
use Rattle.rules.specs.Sound.{Sound}
use Rattle.flat.specs.Passes.{Counted, counting, and_then, own, start, given, pass, on_outputs, first, stored, second, Stepped, step_of}

-- what a level is doing: its first pass, for its outputs alone or with its second pass to come, or its second pass,
-- with the cells that it has stored and those that are left
pub data Doing (V : Type 0) : Type 0 where
  for_outputs : Doing V
  for_both : Doing V
  storing : List V → List V → Doing V

-- a module on the way down: its cells, its wires as far as they have come, and the number of the occurrence, or of the
-- entry of the state list, that it stands at
pub record Level (V : Type 0) : Type 0 where
  pub owner : Module
  pub below : ℕ → Design
  pub cs : List V
  pub ws : Wires V
  pub place : ℕ
  pub doing : Doing V

-- the innermost level, those above it and the gates evaluated so far; or what the step gives
pub data Machine (V : Type 0) : Type 0 where
  busy : Level V → List (Level V) → ℕ → Machine V
  halted : Stepped V → Machine V

module _ {V : Type 0} (K : Kind V) where
  -- what occurrence i gives in a first pass
  abbrev pub gives : Module → (ℕ → Design) → List V → ℕ → Occurrence → Wires V → Counted (List V)
  gives m below cs i o ws = given K (λ j is ds. on_outputs K (below j) (first K (below j) is ds)) (part o) (map ws o.ins) (own m below cs i)

  -- what occurrence s stores in a second pass, from its cells
  abbrev pub stores : Module → (ℕ → Design) → Wires V → ℕ → List V → Counted (List V)
  stores m below ws s cs = stored K (λ j is ds. and_then (first K (below j) is ds) (λ us. second K (below j) us ds)) (part (occurrence_no m s)) (map ws (occurrence_no m s).ins) cs

  -- a second pass that takes the cells as they lie: each entry of the state list the next ones
  abbrev pub walk : Module → (ℕ → Design) → Wires V → List ℕ → List V → Counted (List V)
  walk m below ws [] cs = counting 0 []
  walk m below ws (s ∷ ss) cs =
      record {
        values = (stores m below ws s (take (cells_at m below s) cs)).values ++ (walk m below ws ss (drop (cells_at m below s) cs)).values;
        count = (stores m below ws s (take (cells_at m below s) cs)).count + (walk m below ws ss (drop (cells_at m below s) cs)).count;
      }

  -- a level past its present occurrence, which gave vs
  abbrev pub passed : Level V → Occurrence → List V → Level V
  passed f o vs = record { owner = f.owner; below = f.below; cs = f.cs; ws = put o.outs vs f.ws; place = suc f.place; doing = f.doing }

  -- a level past its present entry of the state list, which stored ds
  abbrev pub kept : ℕ → List V → Doing V → Doing V
  kept n ds for_outputs = for_outputs
  kept n ds for_both = for_both
  kept n ds (storing done rest) = storing (done ++ ds) (drop n rest)

  -- the entry of the state list that a level stands at
  abbrev pub entry : Level V → ℕ
  entry f = slice_index f.owner.states f.place

  abbrev pub saved : Level V → ℕ → List V → Level V
  saved f s ds = record { owner = f.owner; below = f.below; cs = f.cs; ws = f.ws; place = suc f.place; doing = kept (cells_at f.owner f.below s) ds f.doing }

  -- a new level for a module
  abbrev pub entered : Design → List V → List V → Doing V → Level V → Level V
  entered absent ins cs doing f = f
  entered (node m below) ins cs doing f = record { owner = m; below = below; cs = cs; ws = start K m.inputs ins; place = 0; doing = doing }

  -- the tick at an occurrence, and that at an entry of the state list
  abbrev pub part_ticks : Level V → List (Level V) → ℕ → Occurrence → Option Part → Machine V
  part_ticks f fs n o (Some (gate g)) = busy (passed f o (gate_value K g (map f.ws o.ins) ∷ [])) fs (n + 1)
  part_ticks f fs n o (Some cell) = busy (passed f o (input K (own f.owner f.below f.cs f.place) 0 ∷ [])) fs n
  part_ticks f fs n o (Some (module_no j)) = busy (entered (f.below j) (map f.ws o.ins) (own f.owner f.below f.cs f.place) for_outputs f) (f ∷ fs) n
  part_ticks f fs n o None = busy (passed f o []) fs n

  abbrev pub entry_ticks : Level V → List (Level V) → ℕ → List V → ℕ → Occurrence → Option Part → Machine V
  entry_ticks f fs n rest s o (Some (gate g)) = busy (saved f s []) fs n
  entry_ticks f fs n rest s o (Some cell) = busy (saved f s (input K (map f.ws o.ins) 0 ∷ [])) fs n
  entry_ticks f fs n rest s o (Some (module_no j)) = busy (entered (f.below j) (map f.ws o.ins) (take (cells_at f.owner f.below s) rest) for_both f) (f ∷ fs) n
  entry_ticks f fs n rest s o None = busy (saved f s []) fs n

  abbrev pub occurrence_of : Level V → Occurrence
  occurrence_of f = occurrence_no f.owner f.place

  -- the outputs go to the level above
  abbrev pub returned : List V → List (Level V) → ℕ → Machine V
  returned vs [] n = halted (record { outs = vs; cells = []; count = n })
  returned vs (p ∷ ps) n = busy (passed p (occurrence_of p) vs) ps n

  abbrev pub stored_up : List V → List V → List (Level V) → ℕ → Machine V
  stored_up vs ds [] n = halted (record { outs = vs; cells = ds; count = n })
  stored_up vs ds (p ∷ ps) n = busy (saved p (entry p) ds) ps n

  -- one tick of a first pass and of a second, by what is left of the occurrences and of the state list
  abbrev pub first_tick : Level V → List (Level V) → ℕ → Doing V → List Occurrence → Machine V
  first_tick f fs n doing (o ∷ os) = part_ticks f fs n o (part o)
  first_tick f fs n for_outputs [] = returned (map f.ws f.owner.outs) fs n
  first_tick f fs n for_both [] = busy (record { owner = f.owner; below = f.below; cs = f.cs; ws = f.ws; place = 0; doing = storing [] f.cs }) fs n
  first_tick f fs n (storing done rest) [] = busy f fs n

  abbrev pub second_tick : Level V → List (Level V) → ℕ → List V → List V → List ℕ → Machine V
  second_tick f fs n done rest [] = stored_up (map f.ws f.owner.outs) done fs n
  second_tick f fs n done rest (s ∷ ss) = entry_ticks f fs n rest s (occurrence_no f.owner s) (part (occurrence_no f.owner s))

  abbrev pub level_tick : Level V → List (Level V) → ℕ → Doing V → Machine V
  level_tick f fs n for_outputs = first_tick f fs n for_outputs (drop f.place f.owner.occurrences)
  level_tick f fs n for_both = first_tick f fs n for_both (drop f.place f.owner.occurrences)
  level_tick f fs n (storing done rest) = second_tick f fs n done rest (drop f.place f.owner.states)

  abbrev pub tick : Machine V → Machine V
  tick (busy f fs n) = level_tick f fs n f.doing
  tick (halted r) = halted r

  -- What a machine comes to

  -- what the levels above make of a level's outputs, and of its outputs and next cells, with the gates evaluated so far
  pub record Onward : Type 0 where
    pub with_outputs : List V → ℕ → Stepped V
    pub with_cells : List V → List V → ℕ → Stepped V

  -- the rest of a level's first pass
  abbrev pub finished : Level V → Counted (Wires V)
  finished f = pass K (gives f.owner f.below f.cs) f.place (drop f.place f.owner.occurrences) f.ws

  -- what a level comes to
  abbrev pub comes : Onward → Level V → ℕ → Doing V → Stepped V
  comes up f n for_outputs = up.with_outputs (map (finished f).values f.owner.outs) (n + (finished f).count)
  comes up f n for_both =
      up.with_cells (map (finished f).values f.owner.outs) (walk f.owner f.below (finished f).values f.owner.states f.cs).values (n + (finished f).count + (walk f.owner f.below (finished f).values f.owner.states f.cs).count)
  comes up f n (storing done rest) =
      up.with_cells (map f.ws f.owner.outs) (done ++ (walk f.owner f.below f.ws (drop f.place f.owner.states) rest).values) (n + (walk f.owner f.below f.ws (drop f.place f.owner.states) rest).count)

  abbrev pub onward : List (Level V) → Onward
  onward [] = record { with_outputs = λ vs n. record { outs = vs; cells = []; count = n }; with_cells = λ vs ds n. record { outs = vs; cells = ds; count = n } }
  onward (p ∷ ps) =
      record {
        with_outputs = λ vs n. comes (onward ps) (passed p (occurrence_of p) vs) n p.doing;
        with_cells = λ vs ds n. comes (onward ps) (saved p (entry p) ds) n (saved p (entry p) ds).doing;
      }

  abbrev pub result : Machine V → Stepped V
  result (busy f fs n) = comes (onward fs) f n f.doing
  result (halted r) = r

  -- every level's module is sound
  abbrev pub SoundLevels : List (Level V) → Type 0
  SoundLevels [] = Unit {0}
  SoundLevels (f ∷ fs) = Sound (node f.owner f.below) × SoundLevels fs

  abbrev pub SoundMachine : Machine V → Type 0
  SoundMachine (busy f fs n) = Sound (node f.owner f.below) × SoundLevels fs
  SoundMachine (halted r) = Unit {0}

  abbrev pub begun : Module → (ℕ → Design) → List V → List V → Machine V
  begun m below ins cs = busy (entered (node m below) ins cs for_both (record { owner = m; below = below; cs = cs; ws = λ w. K.low; place = 0; doing = for_both })) [] 0

pub record MachineKeeps (V : Type 0) : Type 0 where
  pub sound : (K : Kind V) (M : Machine V) → SoundMachine K M → SoundMachine K (tick K M)
  -- a tick changes nothing of what the machine comes to
  pub same : (K : Kind V) (M : Machine V) → SoundMachine K M → result K (tick K M) ≡ result K M
  -- a machine that has begun comes to the two passes
  pub begins : (K : Kind V) (m : Module) (below : ℕ → Design) → Sound (node m below) → (ins cs : List V) → result K (begun K m below ins cs) ≡ step_of K (node m below) ins cs

-- How many ticks are left

abbrev pub ticks_of : (ℕ → ℕ) → Option Part → ℕ
ticks_of f (Some (gate g)) = 1
ticks_of f (Some cell) = 1
ticks_of f (Some (module_no j)) = 1 + f j
ticks_of f None = 1

abbrev pub first_ticks : Design → ℕ
first_ticks absent = 0
first_ticks (node m below) = sum_of (λ o. ticks_of (λ j. first_ticks (below j)) (part o)) m.occurrences + 1

abbrev pub second_ticks : Design → ℕ
second_ticks absent = 0
second_ticks (node m below) = sum_of (λ s. ticks_of (λ j. first_ticks (below j) + second_ticks (below j)) (part (occurrence_no m s))) m.states + 1

abbrev pub first_left : (ℕ → Design) → List Occurrence → ℕ
first_left below os = sum_of (λ o. ticks_of (λ j. first_ticks (below j)) (part o)) os

abbrev pub second_left : Module → (ℕ → Design) → List ℕ → ℕ
second_left m below ss = sum_of (λ s. ticks_of (λ j. first_ticks (below j) + second_ticks (below j)) (part (occurrence_no m s))) ss

-- of a level at a place
abbrev pub level_left : {V : Type 0} → Module → (ℕ → Design) → ℕ → Doing V → ℕ
level_left m below k for_outputs = first_left below (drop k m.occurrences) + 1
level_left m below k for_both = first_left below (drop k m.occurrences) + 1 + (second_left m below m.states + 1)
level_left m below k (storing done rest) = second_left m below (drop k m.states) + 1

abbrev pub levels_left : {V : Type 0} → List (Level V) → ℕ
levels_left [] = 0
levels_left (p ∷ ps) = level_left p.owner p.below (suc p.place) p.doing + levels_left ps

abbrev pub ticks_left : {V : Type 0} → Machine V → ℕ
ticks_left (busy f fs n) = level_left f.owner f.below f.place f.doing + levels_left fs
ticks_left (halted r) = 0

-- each tick is one less
abbrev pub TicksFall : Type 0 → Type 0
TicksFall V = (K : Kind V) (f : Level V) (fs : List (Level V)) (n : ℕ) → SoundMachine K (busy f fs n) → ticks_left (tick K (busy f fs n)) + 1 ≡ ticks_left (busy f fs n)

-- How deep the stack grows

-- each level with those above it and those that it may yet need
abbrev pub DeepLevels : {V : Type 0} → ℕ → List (Level V) → Type 0
DeepLevels limit [] = Unit {0}
DeepLevels limit (f ∷ fs) = (depth (node f.owner f.below) + length fs ≤ limit) × DeepLevels limit fs

abbrev pub Deep : {V : Type 0} → ℕ → Machine V → Type 0
Deep limit (busy f fs n) = DeepLevels limit (f ∷ fs)
Deep limit (halted r) = Unit {0}

pub record StaysDeep (V : Type 0) : Type 0 where
  pub keeps : (K : Kind V) (limit : ℕ) (M : Machine V) → SoundMachine K M → Deep limit M → Deep limit (tick K M)
  pub few : (limit : ℕ) (f : Level V) (fs : List (Level V)) (n : ℕ) → Deep limit (busy f fs n) → length (f ∷ fs) ≤ limit

-- Modules by their numbers

pub record ByNumber : Type 0 where
  pub here : (board : List Module) (i : ℕ) → i < length board → design_from 0 board i ≡ design_number board i
  -- a module that module i may use is the board's module of that number
  pub there : (board : List Module) (i j : ℕ) → present (design_from (suc i) (drop (suc i) board) j) ≡ true → (i < j) × (design_from (suc i) (drop (suc i) board) j ≡ design_from 0 board j)
