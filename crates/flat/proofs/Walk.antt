-- The second pass in one walk along the cells, and how many there are after it.
use Rattle.std.proofs.Common.{◌≡◌, ℕ, ◌+◌, ◌<◌, ◌≤◌, Bool, true, false, cond, eqb, ltb, List, [], ◌∷◌, ◌++◌, map, length, take, drop, Some, None, Option, sym, refl, ap, ◌∙◌, ap₂, arith, length-append}
use Rattle.std.proofs.lemmas.List.{drop-drop}
use Rattle.std.proofs.lemmas.Bool.{eq-eqb, eqb-true}
use Rattle.gates.specs.declared.Part.{Part}
use Rattle.gates.specs.declared.Part.TheVariants.{Gate as gate, Cell as cell, Module as module_no}
use Rattle.signal.specs.Kinds.{Kind}
use Rattle.rules.specs.Boards.{Module, occurrence_no, Design, absent, node, part, sum_of, cells_of, cells, cells_at, ahead}
use Rattle.rules.specs.Wires.{Wires, times}
use Rattle.rules.specs.Sound.{All, Refers, Sound}
use Rattle.flat.specs.Passes.{Counted, counting, and_then, own, first, stored, in_order, second, next}
use Rattle.flat.specs.Machine.{stores, walk}
use Rattle.flat.proofs.Lists.{refer_at}
use Rattle.flat.proofs.Sums.{cells_by_states}

one_here : (s p : ℕ) → eqb s p ≡ true → ◌≡◌ {A = ℕ} (cond (eqb s p) 1 0) 1
one_here s p e = ap (λ (c : Bool). cond {A = ℕ} c 1 0) e

-- no number stands twice in a list
abbrev pub Once : List ℕ → Type 0
Once [] = Unit {0}
Once (s ∷ ss) = (times s ss ≡ 0) × Once ss

once_from : (n : ℕ) (ss : List ℕ) → All (λ s. s < n) ss → ((i : ℕ) → i < n → times i ss ≤ 1) → Once ss
once_from n [] a h = tt
once_from n (s ∷ ss) a h =
    let here = one_here s s (eq-eqb s s refl) in
    let t = h s a.0 in
    (omega arith, once_from n ss a.1 (λ i l. let u = h i l in omega arith))

at_most_one : (c : Bool) (t : ℕ) → t ≡ cond c 1 0 → t ≤ 1
at_most_one true t e = omega arith
at_most_one false t e = omega arith

pub sound_once : (m : Module) (below : ℕ → Design) → Sound (node m below) → Once m.states
sound_once m below sound = once_from (length m.occurrences) m.states sound.state_in (λ i h. at_most_one (ltb 0 (cells_at m below i)) (times i m.states) (sound.state i h))

pub not_among : (p : ℕ) (ss : List ℕ) → times p ss ≡ 0 → All (λ s. eqb p s ≡ false) ss
not_among p [] e = tt
not_among p (s ∷ ss) e =
    let by : (c : Bool) → eqb p s ≡ c → eqb p s ≡ false =
    elim [
      | true ↦ λ q. let here = one_here s p (eq-eqb s p (sym (eqb-true p s q))) in let z : ⊥ = omega arith in absurd z
      | false ↦ λ q. q
    ] in
    (by (eqb p s) refl, not_among p ss (omega arith))

module _ {V : Type 0} (K : Kind V) where
  abbrev both : Counted (List V) → Counted (List V) → Counted (List V)
  both c e = record { values = c.values ++ e.values; count = c.count + e.count }

  pub in_order_on : (P : ℕ → Type 0) (f g : ℕ → Counted (List V)) → ((s : ℕ) → P s → f s ≡ g s) → (ss : List ℕ) → All P ss → in_order K f ss ≡ in_order K g ss
  in_order_on P f g h [] a = refl
  in_order_on P f g h (s ∷ ss) a = ap₂ both (h s a.0) (in_order_on P f g h ss a.1)

  -- each entry's cells are the next ones
  module _ (size : ℕ → ℕ) (F : ℕ → List V → Counted (List V)) where
    abbrev along : List ℕ → List V → Counted (List V)
    along [] cs = counting 0 []
    along (s ∷ ss) cs = both (F s (take (size s) cs)) (along ss (drop (size s) cs))

    in_order_along : (ss : List ℕ) → Once ss → (cs : List V) → in_order K (λ s. F s (take (size s) (drop (ahead size ss s) cs))) ss ≡ along ss cs
    in_order_along [] once cs = refl
    in_order_along (p ∷ ss) once cs =
        let here : cond (eqb p p) 0 (size p + ahead size ss p) ≡ 0 = ap (λ (c : Bool). cond c 0 (size p + ahead size ss p)) (eq-eqb p p refl) in
        ap₂ both (ap (λ n. F p (take (size p) (drop n cs))) here)
        (in_order_on (λ s. eqb p s ≡ false) (λ s. F s (take (size s) (drop (ahead size (p ∷ ss) s) cs))) (λ s. F s (take (size s) (drop (ahead size ss s) (drop (size p) cs))))
        (λ s e. ap (λ (c : Bool). F s (take (size s) (drop (cond c 0 (size p + ahead size ss s)) cs))) e ∙ ap (λ l. F s (take (size s) l)) (sym (drop-drop (ahead size ss s) (size p) cs)))
        ss (not_among p ss once.0)
        ∙ in_order_along ss once.1 (drop (size p) cs))

    walk_along : (W : List ℕ → List V → Counted (List V)) → ((cs : List V) → W [] cs ≡ counting 0 []) → ((s : ℕ) (ss : List ℕ) (cs : List V) → W (s ∷ ss) cs ≡ both (F s (take (size s) cs)) (W ss (drop (size s) cs))) → (ss : List ℕ) (cs : List V) → along ss cs ≡ W ss cs
    walk_along W n c [] cs = sym (n cs)
    walk_along W n c (s ∷ ss) cs = ap (both (F s (take (size s) cs))) (walk_along W n c ss (drop (size s) cs)) ∙ sym (c s ss cs)

  pub second_walks : (m : Module) (below : ℕ → Design) → Sound (node m below) → (ws : Wires V) (cs : List V) → second K (node m below) ws cs ≡ walk K m below ws m.states cs
  second_walks m below sound ws cs =
      in_order_along (cells_at m below) (stores K m below ws) m.states (sound_once m below sound) cs
      ∙ walk_along (cells_at m below) (stores K m below ws) (walk K m below ws) (λ ds. refl) (λ s ss ds. refl) m.states cs

  in_order_length : (f : ℕ → Counted (List V)) (n : ℕ → ℕ) (P : ℕ → Type 0) → ((s : ℕ) → P s → length (f s).values ≡ n s) → (ss : List ℕ) → All P ss → length (in_order K f ss).values ≡ sum_of n ss
  in_order_length f n P h [] a = refl
  in_order_length f n P h (s ∷ ss) a = length-append (f s).values (in_order K f ss).values ∙ ap₂ ◌+◌ (h s a.0) (in_order_length f n P h ss a.1)

  module _ (below : ℕ → Design) (ih : (j : ℕ) → Sound (below j) → (ws : Wires V) (cs : List V) → length (second K (below j) ws cs).values ≡ cells (below j)) where
    stored_length : (p : Option Part) → Refers (λ j. Sound (below j)) p → (ins cs : List V) → length (stored K (λ j is ds. and_then (first K (below j) is ds) (λ us. second K (below j) us ds)) p ins cs).values ≡ cells_of (λ j. cells (below j)) p
    stored_length (Some (gate g)) refer ins cs = refl
    stored_length (Some cell) refer ins cs = refl
    stored_length (Some (module_no j)) refer ins cs = ih j refer (first K (below j) ins cs).values cs
    stored_length None refer ins cs = refl

  second_length : (d : Design) → Sound d → (ws : Wires V) (cs : List V) → length (second K d ws cs).values ≡ cells d
  second_length absent sound ws cs = refl
  second_length (node m below) sound ws cs =
      in_order_length (λ s. stores K m below ws s (own m below cs s)) (cells_at m below) (λ s. s < length m.occurrences)
      (λ s h. stored_length below (λ j. second_length (below j)) (part (occurrence_no m s)) (refer_at m below sound s h) (map ws (occurrence_no m s).ins) (own m below cs s)) m.states sound.state_in
      ∙ sym (cells_by_states m below sound)

  -- a step keeps the number of cells
  pub next_length : (d : Design) → Sound d → (ins cs : List V) → length (next K d ins cs) ≡ cells d
  next_length d sound ins cs = second_length d sound (first K d ins cs).values cs
