-- The cells in place: one row that holds what is stored and what is left, level within level.
use Rattle.std.specs.Prelude.{◌≡◌, ℕ, suc, ◌+◌, List, [], ◌∷◌, ◌++◌, map, length, drop, Some, None, Option, slice_set}
use Rattle.gates.specs.declared.Part.{Part}
use Rattle.gates.specs.declared.Part.TheVariants.{Gate as gate, Cell as cell, Module as module_no}
use Rattle.signal.specs.Kinds.{Kind}
use Rattle.signal.specs.GateValues.{input}
use Rattle.rules.specs.Boards.{Occurrence, part, occurrence_no, sum_of, cells_at}
use Rattle.flat.specs.Machine.{Doing, for_outputs, for_both, storing, Level, Machine, busy, halted, entry, tick, SoundMachine}

module _ {V : Type 0} (K : Kind V) where
  -- a level's own cells
  abbrev pub region : List V → Doing V → List V
  region cs for_outputs = cs
  region cs for_both = cs
  region cs (storing done rest) = done ++ rest

  -- the same with the cells of the level below it, of which there are n
  abbrev pub around : ℕ → List V → Doing V → List V → List V
  around n cs for_outputs inner = cs
  around n cs for_both inner = cs
  around n cs (storing done rest) inner = done ++ (inner ++ drop n rest)

  abbrev pub row : List (Level V) → List V → List V
  row [] inner = inner
  row (p ∷ ps) inner = row ps (around (cells_at p.owner p.below (entry K p)) p.cs p.doing inner)

  abbrev pub in_place : Machine V → List V
  in_place (busy f fs n) = row fs (region f.cs f.doing)
  in_place (halted r) = r.cells

  -- where the cells of the innermost level begin
  abbrev pub stored_length : Doing V → ℕ
  stored_length for_outputs = 0
  stored_length for_both = 0
  stored_length (storing done rest) = length done

  abbrev pub base : List (Level V) → ℕ
  base [] = 0
  base (p ∷ ps) = base ps + stored_length p.doing

  -- the one write of a tick
  abbrev pub write_part : Level V → List (Level V) → List V → Occurrence → Option Part → List V → List V
  write_part f fs done o (Some (gate g)) cells = cells
  write_part f fs done o (Some cell) cells = slice_set cells (base fs + length done) (input K (map f.ws o.ins) 0)
  write_part f fs done o (Some (module_no j)) cells = cells
  write_part f fs done o None cells = cells

  abbrev pub write_entry : Level V → List (Level V) → List V → List ℕ → List V → List V
  write_entry f fs done [] cells = cells
  write_entry f fs done (s ∷ ss) cells = write_part f fs done (occurrence_no f.owner s) (part (occurrence_no f.owner s)) cells

  abbrev pub write_as : Level V → List (Level V) → Doing V → List V → List V
  write_as f fs for_outputs cells = cells
  write_as f fs for_both cells = cells
  write_as f fs (storing done rest) cells = write_entry f fs done (drop f.place f.owner.states) cells

  -- Levels in order: those above one that works for its outputs are in their first pass, and all others above are storing.

  abbrev pub sizes : Level V → List ℕ → ℕ
  sizes f ss = sum_of (cells_at f.owner f.below) ss

  abbrev pub OwnFits : Level V → Doing V → Type 0
  OwnFits f for_outputs = Unit {0}
  OwnFits f for_both = length f.cs ≡ sizes f f.owner.states
  OwnFits f (storing done rest) = length rest ≡ sizes f (drop f.place f.owner.states)

  abbrev pub Looks : Level V → Doing V → Type 0
  Looks p for_outputs = Unit {0}
  Looks p for_both = length p.cs ≡ sizes p p.owner.states
  Looks p (storing done rest) = ⊥

  abbrev pub Stores : Level V → Doing V → Type 0
  Stores p for_outputs = ⊥
  Stores p for_both = ⊥
  Stores p (storing done rest) = length rest ≡ cells_at p.owner p.below (entry K p) + sizes p (drop (suc p.place) p.owner.states)

  abbrev pub Under : Doing V → List (Level V) → Type 0
  Under for_outputs [] = ⊥
  Under for_outputs (p ∷ ps) = Looks p p.doing × Under p.doing ps
  Under for_both [] = Unit {0}
  Under for_both (p ∷ ps) = Stores p p.doing × Under p.doing ps
  Under (storing done rest) [] = Unit {0}
  Under (storing done rest) (p ∷ ps) = Stores p p.doing × Under p.doing ps

  abbrev pub InOrder : Machine V → Type 0
  InOrder (busy f fs n) = OwnFits f f.doing × Under f.doing fs
  InOrder (halted r) = Unit {0}

pub record CellsInPlace (V : Type 0) : Type 0 where
  pub orders : (K : Kind V) (f : Level V) (fs : List (Level V)) (n : ℕ) → SoundMachine K (busy f fs n) → InOrder K (busy f fs n) → InOrder K (tick K (busy f fs n))
  pub writes : (K : Kind V) (f : Level V) (fs : List (Level V)) (n : ℕ) → SoundMachine K (busy f fs n) → InOrder K (busy f fs n) → in_place K (tick K (busy f fs n)) ≡ write_as K f fs f.doing (in_place K (busy f fs n))
