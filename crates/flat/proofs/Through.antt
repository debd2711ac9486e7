-- A first pass's outputs depend only on the through inputs.
use Rattle.std.proofs.Common.{◌≡◌, ℕ, zero, suc, Bool, true, false, cond, ◌&&◌, eqb, ltb, List, [], ◌∷◌, map, Some, None, Option, refl, ap, ap₂}
use Rattle.std.proofs.lemmas.Bool.{or_left, or_right, eq-eqb}
use Rattle.gates.specs.declared.Part.{Part}
use Rattle.gates.specs.declared.Part.TheVariants.{Gate as gate, Cell as cell, Module as module_no}
use Rattle.signal.specs.Kinds.{Kind}
use Rattle.signal.specs.GateValues.{input, gate_value}
use Rattle.rules.specs.Boards.{Occurrence, Design, absent, node, part, out_wires, outputs_due}
use Rattle.rules.specs.Wires.{Wires, upd, put, run, picked, through_of, reached, reach, through}
use Rattle.flat.specs.Passes.{Counted, own, start, given, pass, on_outputs, first, outputs}
use Rattle.flat.proofs.Lists.{heads, tails}

-- what a module occurrence gives in a first pass
abbrev pub by_outputs : {V : Type 0} → Kind V → (ℕ → Design) → ℕ → List V → List V → Counted (List V)
by_outputs K below j is ds = on_outputs K (below j) (first K (below j) is ds)

module _ {V : Type 0} (K : Kind V) (ins js : List V) where
  -- each input in the set has one value in both rows of inputs
  abbrev SameOn : (ℕ → Bool) → Type 0
  SameOn u = (x : ℕ) → u x ≡ true → input K ins x ≡ input K js x

  abbrev Inv : Wires (ℕ → Bool) → Wires V → Wires V → Type 0
  Inv re ws us = (w : ℕ) → SameOn (re w) → ws w ≡ us w

  map_same : (re : Wires (ℕ → Bool)) (ws us : Wires V) → Inv re ws us → (is : List ℕ) → SameOn (reached re is) → map ws is ≡ map us is
  map_same re ws us inv [] h = refl
  map_same re ws us inv (w ∷ is) h =
      ap₂ {C = List V} (λ a b. a ∷ b) (inv w (λ x e. h x (or_left (re w x) (reached re is x) e))) (map_same re ws us inv is (λ x e. h x (or_right (re w x) (reached re is x) e)))

  picked_same : (re : Wires (ℕ → Bool)) (ws us : Wires V) → Inv re ws us → (t : ℕ → Bool) (is : List ℕ) → SameOn (reached re (picked t is)) → (p : ℕ) → t p ≡ true → input K (map ws is) p ≡ input K (map us is) p
  picked_same re ws us inv t [] h p e = refl
  picked_same re ws us inv t (w ∷ is) h zero e =
      inv w (λ x r. h x (rw e (or_left (re w x) (reached re (picked (λ k. t (suc k)) is) x) r)))
  picked_same re ws us inv t (w ∷ is) h (suc p) e =
      let rest = picked (λ k. t (suc k)) is in
      picked_same re ws us inv (λ k. t (suc k)) is (λ x r. h x (elim (t 0) as (λ b. reached re (cond b (w ∷ rest) rest) x ≡ true) [ true ↦ or_right (re w x) (reached re rest x) r | false ↦ r ])) p e

  put_same : (os ow : List ℕ) (u : ℕ → Bool) (f g : ℕ → V) → (SameOn u → map f ow ≡ map g ow) → (re : Wires (ℕ → Bool)) (ws us : Wires V) → Inv re ws us → Inv (put os (map (λ _. u) ow) re) (put os (map f ow) ws) (put os (map g ow) us)
  put_same [] ow u f g h re ws us inv = inv
  put_same (o ∷ os) [] u f g h re ws us inv = inv
  put_same (o ∷ os) (k ∷ ow) u f g h re ws us inv =
      put_same os ow u f g (λ s. tails (h s)) (upd o u re) (upd o (f k) ws) (upd o (g k) us)
      (λ x. elim (eqb x o) as (λ b. SameOn (cond b u (re x)) → cond b (f k) (ws x) ≡ cond b (g k) (us x)) [ true ↦ λ s. heads (h s) | false ↦ inv x ])

  start_same : (inputs : ℕ) → Inv (λ w x. ltb w inputs && eqb w x) (start K inputs ins) (start K inputs js)
  start_same inputs w =
      elim (ltb w inputs) as (λ b. SameOn (λ x. b && eqb w x) → cond b (input K ins w) K.low ≡ cond b (input K js w) K.low) [ true ↦ λ s. s w (eq-eqb w w refl) | false ↦ λ s. refl ]

  -- one occurrence
  module _ (below : ℕ → Design) (ih : (j : ℕ) (is ks cs : List V) → ((x : ℕ) → through (below j) x ≡ true → input K is x ≡ input K ks x) → outputs K (below j) is cs ≡ outputs K (below j) ks cs) where
    step_same : (p : Option Part) (os is : List ℕ) (cs : List V) (re : Wires (ℕ → Bool)) (ws us : Wires V) → Inv re ws us →
        Inv (put os (map (λ _. reached re (through_of (λ j. through (below j)) p is)) (outputs_due below p)) re) (put os (given K (by_outputs K below) p (map ws is) cs).values ws) (put os (given K (by_outputs K below) p (map us is) cs).values us)
    step_same (Some (gate g)) os is cs re ws us inv =
        put_same os (0 ∷ []) (reached re is) (λ _. gate_value K g (map ws is)) (λ _. gate_value K g (map us is)) (λ s. ap (λ vs. gate_value K g vs ∷ []) (map_same re ws us inv is s)) re ws us inv
    step_same (Some cell) os is cs re ws us inv =
        put_same os (0 ∷ []) (reached re []) (λ _. input K cs 0) (λ _. input K cs 0) (λ s. refl) re ws us inv
    step_same (Some (module_no j)) os is cs re ws us inv =
        put_same os (out_wires (below j)) (reached re (picked (through (below j)) is)) (first K (below j) (map ws is) cs).values (first K (below j) (map us is) cs).values (λ s. ih j (map ws is) (map us is) cs (picked_same re ws us inv (through (below j)) is s)) re ws us inv
    step_same None os is cs re ws us inv = put_same os [] (reached re []) (λ _. K.low) (λ _. K.low) (λ s. refl) re ws us inv

    run_same : (own_cells : ℕ → List V) (i : ℕ) (os : List Occurrence) (re : Wires (ℕ → Bool)) (ws us : Wires V) → Inv re ws us →
        Inv (run (λ i o re. map (λ _. reached re (through_of (λ j. through (below j)) (part o) o.ins)) (outputs_due below (part o))) i os re) (pass K (λ i o ws. given K (by_outputs K below) (part o) (map ws o.ins) (own_cells i)) i os ws).values (pass K (λ i o ws. given K (by_outputs K below) (part o) (map ws o.ins) (own_cells i)) i os us).values
    run_same own_cells i [] re ws us inv = inv
    run_same own_cells i (o ∷ os) re ws us inv =
        run_same own_cells (suc i) os _ _ _ (step_same (part o) o.outs o.ins (own_cells i) re ws us inv)

pub same_outputs : {V : Type 0} (K : Kind V) (d : Design) (ins js cs : List V) → ((x : ℕ) → through d x ≡ true → input K ins x ≡ input K js x) → outputs K d ins cs ≡ outputs K d js cs
same_outputs K absent ins js cs h = refl
same_outputs K (node m below) ins js cs h =
    map_same K ins js (reach (node m below)) (first K (node m below) ins cs).values (first K (node m below) js cs).values
    (run_same K ins js below (λ j. same_outputs K (below j)) (own m below cs) 0 m.occurrences (λ w x. ltb w m.inputs && eqb w x) (start K m.inputs ins) (start K m.inputs js) (start_same K ins js m.inputs))
    m.outs h
