-- Wires and inputs as the tables hold them.
use Rattle.std.specs.Prelude.{ℕ, suc, ◌/◌, ◌%◌, ◌^◌, Bool, false, cond, List, [], ◌∷◌, ◌==◌, slice_index, slice_index_or}
use Rattle.rules.specs.Wires.{Wires, upd}

-- a number as a set of inputs
abbrev pub bit : ℕ → ℕ → Bool
bit n x = n / 2 ^ x % 2 == 1

-- which wires are driven
abbrev pub driven_by : List Bool → ℕ → Bool
driven_by ds w = slice_index_or ds w false

-- which inputs reach which wires
abbrev pub reaches : List ℕ → Wires (ℕ → Bool)
reaches rs w x = bit (slice_index rs w) x

-- the elements at the places that pass, of which the first is i
abbrev pub picked_from : {X : Type 0} → (ℕ → Bool) → ℕ → List X → List X
picked_from f i [] = []
picked_from f i (x ∷ xs) = cond (f i) (x ∷ picked_from f (suc i) xs) (picked_from f (suc i) xs)

-- one value on several wires
abbrev pub fill : {V : Type 0} → List ℕ → V → Wires V → Wires V
fill [] v ws = ws
fill (w ∷ os) v ws = fill os v (upd w v ws)

-- the cells of an occurrence, as a table has them
abbrev pub size_in : List ℕ → ℕ → ℕ
size_in ss i = slice_index ss i
