-- The machine that levels, working values and cells show.
use Rattle.std.specs.Prelude.{◌≡◌, ℕ, zero, suc, ◌+◌, ◌*◌, ◌<◌, ◌≤◌, List, [], ◌∷◌, map, length, get_or, Some, None, Option, slice_index, slice_index_or}
use Rattle.gates.specs.declared.Part.TheVariants.{Module as module_no}
use Rattle.signal.specs.Kinds.{Kind}
use Rattle.rules.specs.Boards.{Module, Design, node, part, occurrence_no, module_number, cells}
use Rattle.board.specs.Lent.{behind}
use Rattle.flat.specs.Machine.{Doing, for_outputs, for_both, storing, Level as Frame, Machine, busy, halted, occurrence_of, SoundMachine, Deep, level_left, result, ticks_left}
use Rattle.flat.specs.InPlace.{in_place, base, InOrder}
use Rattle.flat.specs.Windows.{Shows}
use Rattle.walk.specs.declared.level.Level.{Level}
use Rattle.walk.specs.declared.level.Pass.{Pass}
use Rattle.walk.specs.declared.level.Pass.TheVariants.{ForOutputs, ForBoth, Storing}
use Rattle.walk.specs.declared.reading.Child.{Child}
use Rattle.walk.specs.Levels.{level_at, module_of_level, cells_ahead}

module _ {V : Type 0} (K : Kind V) where
  -- n cells lie from `from` on
  abbrev pub Holds : List V → ℕ → ℕ → List V → Type 0
  Holds held from n cs = (from + n ≤ length held) × ((k : ℕ) → k < n → slice_index_or held (from + k) K.low ≡ slice_index_or cs k K.low)

  -- the level above waits at an occurrence of module `number`, or at an entry of its state list
  abbrev pub Waits : ℕ → List (Frame V) → Type 0
  Waits number [] = ⊥
  Waits number (p ∷ ps) = (p.place < length p.owner.occurrences) × (part (occurrence_of K p) ≡ Some (module_no number))

  abbrev pub Stands : List (Frame V) → Type 0
  Stands [] = Unit {0}
  Stands (p ∷ ps) = p.place < length p.owner.states

  -- a level's pass and cell show what it is doing, with n cells cs and the levels fs above it
  abbrev pub Does : List V → Level → ℕ → List V → List (Frame V) → Doing V → Type 0
  Does held c n cs fs for_outputs = (c.pass ≡ ForOutputs) × Holds held c.cell n cs × Waits c.number fs
  Does held c n cs fs for_both = (c.pass ≡ ForBoth) × Holds held c.cell n cs × (c.cell ≡ base K fs) × Stands fs
  Does held c n cs fs (storing done rest) = (c.pass ≡ Storing) × (c.cell ≡ base K fs + length done) × Stands fs

  module _ (board : List Module) where
    -- a level shows a level of the machine, above which are the levels fs
    pub record ShowsLevel (held work : List V) (c : Level) (f : Frame V) (fs : List (Frame V)) : Type 0 where
      pub number : c.number < length board
      pub first : length fs ≡ 0 → c.number ≡ 0
      pub owner : f.owner ≡ module_of_level board c
      pub below : f.below ≡ behind board c.number
      pub place : f.place ≡ c.place
      pub low : c.base ≤ 128 * length fs
      pub wires : Shows K work c.base f.owner.wires f.ws
      pub doing : Does held c (cells (node f.owner f.below)) f.cs fs f.doing

    -- the windows lie one behind the other, the last of them up to `end`
    abbrev pub Stack : List V → List V → List Level → ℕ → List (Frame V) → Type 0
    Stack held work ls end [] = Unit {0}
    Stack held work ls end (f ∷ fs) =
        ShowsLevel held work (level_at ls (length fs)) f fs × ((level_at ls (length fs)).base + f.owner.wires ≤ end) × Stack held work ls (level_at ls (length fs)).base fs

    abbrev pub Frames : List V → List V → List Level → ℕ → ℕ → Machine V → Type 0
    Frames held work ls depth count (busy f fs n) = (depth ≡ length (f ∷ fs)) × (n ≡ count) × Stack held work ls ((level_at ls (length fs)).base + f.owner.wires) (f ∷ fs)
    Frames held work ls depth count (halted r) = (depth ≡ 0) × (r.count ≡ count) × (r.outs ≡ map (λ w. get_or work w K.low) (module_number board 0).outs)

    pub record State (held work : List V) (ls : List Level) (depth count : ℕ) (M : Machine V) : Type 0 where
      pub frames : Frames held work ls depth count M
      pub row : in_place K M ≡ held
      pub sound : SoundMachine K M
      pub deep : Deep 8 M
      pub order : InOrder K M

    -- a machine that comes to the same is shown, with no more ticks left, or with fewer
    abbrev pub Later : List V → List V → List Level → ℕ → ℕ → Machine V → Type 0
    Later held work ls depth count M = (N : Machine V) × State held work ls depth count N × (result K N ≡ result K M) × (ticks_left N ≤ ticks_left M)

    abbrev pub After : List V → List V → List Level → ℕ → ℕ → Machine V → Type 0
    After held work ls depth count M = (N : Machine V) × State held work ls depth count N × (result K N ≡ result K M) × (ticks_left N < ticks_left M)

-- Where a pass stops

-- a child stands for occurrence i of a level's module
pub record ChildOf (board : List Module) (c : Level) (i : ℕ) (ch : Child) : Type 0 where
  pub within : i < length (module_of_level board c).occurrences
  pub part_is : part (occurrence_no (module_of_level board c) i) ≡ Some (module_no ch.number)
  pub ins_are : ch.ins.now ≡ (occurrence_no (module_of_level board c) i).ins

-- a first pass stops at its end, or at an occurrence of a module
abbrev pub StopFirst : List Module → Level → Option Child → Type 0
StopFirst board c None = length (module_of_level board c).occurrences ≤ c.place
StopFirst board c (Some ch) =
    ChildOf board c c.place ch × (ch.cell ≡ c.cell + cells_ahead board c.number c.place)

-- a second pass stops at its end, or at an entry that is a module
abbrev pub StopSecond : List Module → Level → Option Child → Type 0
StopSecond board c None = length (module_of_level board c).states ≤ c.place
StopSecond board c (Some ch) =
    (c.place < length (module_of_level board c).states) × ChildOf board c (slice_index (module_of_level board c).states c.place) ch × (ch.cell ≡ c.cell)

-- How many ticks are left, by the levels

abbrev pub pass_left : Pass → Module → (ℕ → Design) → ℕ → ℕ
pass_left ForOutputs m below k = level_left {V = ℕ} m below k for_outputs
pass_left ForBoth m below k = level_left {V = ℕ} m below k for_both
pass_left Storing m below k = level_left {V = ℕ} m below k (storing [] [])

abbrev pub one_left : List Module → Level → ℕ → ℕ
one_left board c k = pass_left c.pass (module_of_level board c) (behind board c.number) k

-- the levels below number k, each past its present place
unfoldable pub above_left : List Module → List Level → ℕ → ℕ
above_left board ls zero = 0
above_left board ls (suc k) = one_left board (level_at ls k) (suc (level_at ls k).place) + above_left board ls k

unfoldable pub left : List Module → List Level → ℕ → ℕ
left board ls zero = 0
left board ls (suc k) = one_left board (level_at ls k) (level_at ls k).place + above_left board ls k
