-- Values on a module's wires, which wires are driven, and which inputs reach which wires, computed in one pass over the
-- occurrences.
use Rattle.std.specs.Prelude.{ℕ, zero, suc, ◌+◌, Bool, true, false, cond, not, ◌&&◌, ◌||◌, List, [], ◌∷◌, map, Some, None, Option, ◌==◌, nat_lt}
use Rattle.gates.specs.declared.Part.{Part}
use Rattle.gates.specs.declared.Part.TheVariants.{Gate as gate, Cell as cell, Module as module_no}
use Rattle.rules.specs.Boards.{Occurrence, Design, absent, node, part, out_wires, outputs_due}

abbrev pub Wires : Type 0 → Type 0
Wires V = ℕ → V

module _ {V : Type 0} where
  abbrev pub upd : ℕ → V → Wires V → Wires V
  upd w v ws x = cond (x == w) v (ws x)

  -- the values vs put on the wires
  abbrev pub put : List ℕ → List V → Wires V → Wires V
  put [] vs ws = ws
  put (w ∷ outs) [] ws = ws
  put (w ∷ outs) (v ∷ vs) ws = put outs vs (upd w v ws)

  -- a pass over the occurrences in file order, of which the first has number i
  abbrev pub run : (ℕ → Occurrence → Wires V → List V) → ℕ → List Occurrence → Wires V → Wires V
  run step i [] ws = ws
  run step i (o ∷ os) ws = run step (suc i) os (put o.outs (step i o ws) ws)

-- Tests

abbrev pub any : {X : Type 0} → (X → Bool) → List X → Bool
any f [] = false
any f (x ∷ xs) = f x || any f xs

abbrev pub all : {X : Type 0} → (X → Bool) → List X → Bool
all f [] = true
all f (x ∷ xs) = f x && all f xs

-- f of each number below n
abbrev pub every : ℕ → (ℕ → Bool) → Bool
every zero f = true
every (suc n) f = f 0 && every n (λ i. f (suc i))

-- the elements at the places that pass
abbrev pub picked : {X : Type 0} → (ℕ → Bool) → List X → List X
picked f [] = []
picked f (x ∷ xs) = cond (f 0) (x ∷ picked (λ k. f (suc k)) xs) (picked (λ k. f (suc k)) xs)

abbrev pub times : ℕ → List ℕ → ℕ
times i [] = 0
times i (s ∷ ss) = cond (s == i) 1 0 + times i ss

-- Driven wires

abbrev pub mark : ℕ → (ℕ → Bool) → ℕ → Bool
mark w dr x = cond (x == w) true (dr x)

abbrev pub drive : List ℕ → (ℕ → Bool) → ℕ → Bool
drive [] dr = dr
drive (w ∷ ws) dr = drive ws (mark w dr)

abbrev pub drive_all : List Occurrence → (ℕ → Bool) → ℕ → Bool
drive_all [] dr = dr
drive_all (o ∷ os) dr = drive_all os (drive o.outs dr)

-- none of the wires is driven, and none is named twice
abbrev pub fresh : List ℕ → (ℕ → Bool) → Bool
fresh [] dr = true
fresh (w ∷ ws) dr = not (dr w) && fresh ws (mark w dr)

-- Reach: a wire has the set of the inputs that reach it

-- the through inputs of an occurrence, by their wires
abbrev pub through_of : (ℕ → ℕ → Bool) → Option Part → List ℕ → List ℕ
through_of f (Some (gate g)) ins = ins
through_of f (Some cell) ins = []
through_of f (Some (module_no j)) ins = picked (f j) ins
through_of f None ins = []

-- does input x reach one of the wires
abbrev pub reached : Wires (ℕ → Bool) → List ℕ → ℕ → Bool
reached ws is x = any (λ w. ws w x) is

-- `reach d w x`: input x reaches wire w
abbrev pub reach : Design → Wires (ℕ → Bool)
reach absent = λ w x. false
reach (node m below) =
    run (λ i o ws. map (λ _. reached ws (through_of (λ j. reached (reach (below j)) (out_wires (below j))) (part o) o.ins)) (outputs_due below (part o))) 0 m.occurrences (λ w x. nat_lt w m.inputs && w == x)

-- an input is through if it reaches one of the module's output wires
abbrev pub through : Design → ℕ → Bool
through d = reached (reach d) (out_wires d)
