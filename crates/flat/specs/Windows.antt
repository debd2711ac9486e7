-- A module's wires as a part of the working values.
use Rattle.std.specs.Prelude.{◌≡◌, ℕ, ◌+◌, ◌<◌, ◌≤◌, List, [], ◌∷◌, map, length, get_or, slice_index_or, slice_set}
use Rattle.signal.specs.Kinds.{Kind}
use Rattle.signal.specs.GateValues.{input}
use Rattle.rules.specs.Wires.{Wires, put}
use Rattle.rules.specs.Sound.{All}
use Rattle.flat.specs.Passes.{start}

module _ {V : Type 0} (K : Kind V) where
  -- the part of the values from `base` on shows the wires below W
  abbrev pub Shows : List V → ℕ → ℕ → Wires V → Type 0
  Shows values base wires ws = (w : ℕ) → w < wires → slice_index_or values (base + w) K.low ≡ ws w

  -- writes to the output wires, in order
  abbrev pub writes : ℕ → List ℕ → List V → List V → List V
  writes base [] vs values = values
  writes base (o ∷ os) [] values = values
  writes base (o ∷ os) (v ∷ vs) values = writes base os vs (slice_set values (base + o) v)

  pub record Windows : Type 0 where
    pub reads : (values : List V) (base wires : ℕ) (ws : Wires V) → Shows values base wires ws → (is : List ℕ) → All (λ w. w < wires) is → map (λ w. get_or values (base + w) K.low) is ≡ map ws is
    pub written : (values : List V) (base wires : ℕ) (ws : Wires V) → base + wires ≤ length values → Shows values base wires ws → (os : List ℕ) (vs : List V) → All (λ w. w < wires) os → Shows (writes base os vs values) base wires (put os vs ws)
    -- a part ahead of the one written stays
    pub others : (values : List V) (base wires b w : ℕ) (us : Wires V) → b + w ≤ base → Shows values b w us → (os : List ℕ) (vs : List V) → Shows (writes base os vs values) b w us
    pub begins : (values : List V) (base wires inputs : ℕ) (ins : List V) → ((k : ℕ) → k < inputs → slice_index_or values (base + k) K.low ≡ input K ins k) → ((k : ℕ) → inputs ≤ k → k < wires → slice_index_or values (base + k) K.low ≡ K.low) → Shows values base wires (start K inputs ins)

abbrev pub WindowsShow : Type 0 → Type 0
WindowsShow V = (K : Kind V) → Windows K
