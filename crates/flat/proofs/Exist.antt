-- The bits of the first passes agree.
use Rattle.std.proofs.Common.{◌≡◌, ℕ, zero, suc, ◌+◌, ◌<◌, Bool, true, false, cond, eqb, ltb, List, [], ◌∷◌, map, length, get_or, Some, None, Option, sym, refl, ap, ◌∙◌, subst, ap₂, inl, inr, le_of_suc-le-suc, not-suc-le-zero, arith}
use mathlib.Core.Path.{fun_ext}
use mathlib.Core.List.{map-map}
use lib.ListN.{length-map}
use Rattle.std.proofs.lemmas.Bool.{eq-eqb, lt-ltb}
use Rattle.gates.specs.declared.Part.{Part}
use Rattle.gates.specs.declared.Part.TheVariants.{Gate as gate, Cell as cell, Module as module_no}
use Rattle.gates.specs.Gates.{gate_bit}
use Rattle.signal.specs.Kinds.{Kind}
use Rattle.signal.specs.Bits.{bits}
use Rattle.signal.proofs.GatesLaws.{gates_on_bits}
use Rattle.rules.specs.Boards.{Occurrence, no_occurrence, Design, absent, node, part, occurrence_no, out_wires, inputs_due, outputs_due}
use Rattle.rules.specs.Wires.{Wires, upd, put, through_of, through, mark, drive}
use Rattle.rules.specs.Sound.{All, Fresh, Refers, Fits, FitAll, Sound}
use Rattle.rules.proofs.Reaching.{mark_from, drive_from, put_keeps}
use Rattle.flat.specs.Passes.{Counted, own, start, given, pass, first, outputs}
use Rattle.flat.specs.Flat.{Place, Bits, Store, inside, AgreesAt, Agrees, cell_places, cell_bits}
use Rattle.flat.specs.Laws.{BitsAgree}
use Rattle.flat.proofs.Lists.{map_on}
use Rattle.flat.proofs.Through.{by_outputs, same_outputs}
use Rattle.flat.proofs.CellPlaces.{inside_bits, own_bits}
use Rattle.flat.proofs.Settle.{Known, picked_known, alone}

drive_own : (os : List ℕ) (dr : ℕ → Bool) → All (λ w. drive os dr w ≡ true) os
drive_own [] dr = tt
drive_own (o ∷ os) dr = (drive_from os (mark o dr) o (inl (mark_from o dr o (inr refl))), drive_own os (mark o dr))

put_read : {V : Type 0} (os : List ℕ) (vs : List V) (dr : ℕ → Bool) (ws : Wires V) → Fresh os dr → length os ≡ length vs → map (put os vs ws) os ≡ vs
put_read [] [] dr ws fresh e = refl
put_read [] (v ∷ vs) dr ws fresh e = let z : ⊥ = omega arith in absurd z
put_read (o ∷ os) [] dr ws fresh e = let z : ⊥ = omega arith in absurd z
put_read {V} (o ∷ os) (v ∷ vs) dr ws fresh e =
    let here : eqb o o ≡ true = eq-eqb o o refl in
    let head : put os vs (upd o v ws) o ≡ v = put_keeps os vs (mark o dr) (upd o v ws) fresh.1 o (rw here refl) ∙ ap (λ (c : Bool). cond c v (ws o)) here in
    let l : length os ≡ length vs = omega arith in
    ap₂ {C = List V} (λ x xs. x ∷ xs) head (put_read os vs (mark o dr) (upd o v ws) fresh.1 l)

-- A pass, of which each step gives as many values as there are output wires.
module _ {V : Type 0} (S : ℕ → Type 0) (below : ℕ → Design) (wires : ℕ) (K : Kind V) (step : ℕ → Occurrence → Wires V → Counted (List V)) (full : (i : ℕ) (o : Occurrence) (ws : Wires V) → length (step i o ws).values ≡ length (outputs_due below (part o))) where
  pub pass_keeps : (k : ℕ) (os : List Occurrence) (dr : ℕ → Bool) (ws : Wires V) → FitAll S below wires os dr → Known (pass K step k os ws).values dr ws
  pass_keeps k [] dr ws fits w h = refl
  pass_keeps k (o ∷ os) dr ws fits w h =
      pass_keeps (suc k) os (drive o.outs dr) (put o.outs (step k o ws).values ws) fits.1 w (drive_from o.outs dr w (inl h)) ∙ put_keeps o.outs (step k o ws).values dr ws fits.0.fresh w h

  -- how the pass stood at occurrence i
  pub record At (fin : Wires V) (i : ℕ) (o : Occurrence) : Type 0 where
    pub dr : ℕ → Bool
    pub ws : Wires V
    pub fits : Fits S below wires dr o
    pub known : Known fin dr ws
    pub wrote : map fin o.outs ≡ (step i o ws).values

  pub pass_at : (k : ℕ) (os : List Occurrence) (dr : ℕ → Bool) (ws : Wires V) → FitAll S below wires os dr → (i : ℕ) → i < length os → At (pass K step k os ws).values (k + i) (get_or os i no_occurrence)
  pass_at k [] dr ws fits i h = absurd (not-suc-le-zero h)
  pass_at k (o ∷ os) dr ws fits zero h =
      let vs = (step k o ws).values in
      let fin = (pass K step k (o ∷ os) ws).values in
      let z : k ≡ k + 0 = omega arith in
      let wrote : map fin o.outs ≡ vs =
      map_on (λ w. drive o.outs dr w ≡ true) fin (put o.outs vs ws) (pass_keeps (suc k) os (drive o.outs dr) (put o.outs vs ws) fits.1) o.outs (drive_own o.outs dr)
      ∙ put_read o.outs vs dr ws fits.0.fresh (fits.0.pins_out ∙ sym (full k o ws)) in
      subst (λ n. At fin n o) z (record { dr = dr; ws = ws; fits = fits.0; known = pass_keeps k (o ∷ os) dr ws fits; wrote = wrote })
  pass_at k (o ∷ os) dr ws fits (suc i) h =
      let s : suc k + i ≡ k + suc i = omega arith in
      subst (λ n. At (pass K step k (o ∷ os) ws).values n (get_or os i no_occurrence)) s (pass_at (suc k) os (drive o.outs dr) (put o.outs (step k o ws).values ws) fits.1 i (le_of_suc-le-suc h))

-- the first passes' bits at each place
abbrev solved : (ℕ → Bits) → Option Part → Bits
solved f (Some (gate g)) way w = false
solved f (Some cell) way w = false
solved f (Some (module_no j)) way w = f j way w
solved f None way w = false

abbrev pub solve : Design → List Bool → Store → Bits
solve absent ins store way w = false
solve (node m below) ins store [] w = (first bits (node m below) ins (cell_bits (node m below) store)).values w
solve (node m below) ins store (i ∷ way) w =
    solved (λ j. solve (below j) (map (first bits (node m below) ins (cell_bits (node m below) store)).values (occurrence_no m i).ins) (inside i store)) (part (occurrence_no m i)) way w

solve_top : (d : Design) (ins : List Bool) (store : Store) (w : ℕ) → solve d ins store [] w ≡ (first bits d ins (cell_bits d store)).values w
solve_top absent ins store w = refl
solve_top (node m below) ins store w = refl

given_full : (below : ℕ → Design) (p : Option Part) (ins cs : List Bool) → length (given bits (by_outputs bits below) p ins cs).values ≡ length (outputs_due below p)
given_full below (Some (gate g)) ins cs = refl
given_full below (Some cell) ins cs = refl
given_full below (Some (module_no j)) ins cs = length-map (out_wires (below j)) (first bits (below j) ins cs).values
given_full below None ins cs = refl

module _ (below : ℕ → Design) (ih : (j : ℕ) → Sound (below j) → (ins : List Bool) (store : Store) → Agrees (below j) ins store (solve (below j) ins store)) (store : Store) (b : Bits) (dr : ℕ → Bool) (ws : Wires Bool) (known : Known (b []) dr ws) where
  agree_part : (i : ℕ) (o : Occurrence) (p : Option Part) → Refers (λ j. Sound (below j)) p → length o.ins ≡ inputs_due below p → All (λ w. dr w ≡ true) (through_of (λ j. through (below j)) p o.ins) →
      map (b []) o.outs ≡ (given bits (by_outputs bits below) p (map ws o.ins) (inside_bits below store i p)).values → ((way : Place) (w : ℕ) → b (i ∷ way) w ≡ solved (λ j. solve (below j) (map (b []) o.ins) (inside i store)) p way w) →
      AgreesAt (λ j. Agrees (below j)) below store b i o p
  agree_part i o (Some (gate g)) refer pins order wrote link =
      wrote ∙ ap (λ (v : Bool). v ∷ []) (gates_on_bits g (map ws o.ins) (length-map o.ins ws ∙ pins)) ∙ ap (λ vs. gate_bit g vs ∷ []) (sym (map_on (λ w. dr w ≡ true) (b []) ws known o.ins order))
  agree_part i o (Some cell) refer pins order wrote link = wrote
  agree_part i o (Some (module_no j)) refer pins order wrote link =
      let is = map (b []) o.ins in
      let cs = cell_bits (below j) (inside i store) in
      let same : inside i b ≡ solve (below j) is (inside i store) = fun_ext (λ way. fun_ext (λ w. link way w)) in
      let ows : map (b (i ∷ [])) (out_wires (below j)) ≡ outputs bits (below j) is cs = ap (λ (f : ℕ → Bool). map f (out_wires (below j))) (fun_ext (λ w. link [] w ∙ solve_top (below j) is (inside i store) w)) in (
        wrote
            ∙ ap (outputs bits (below j) (map ws o.ins)) (map-map store (λ way. i ∷ way) (cell_places (below j)))
            ∙ sym (same_outputs bits (below j) is (map ws o.ins) cs (picked_known (b []) dr ws known (through (below j)) o.ins order)) ∙ sym ows,
        subst (Agrees (below j) is (inside i store)) (sym same) (ih j refer is (inside i store)),
      )
  agree_part i o None refer pins order wrote link = elim refer [ ]

pub solve_agrees : (d : Design) → Sound d → (ins : List Bool) (store : Store) → Agrees d ins store (solve d ins store)
solve_agrees absent sound ins store = tt
solve_agrees (node m below) sound ins store =
    let b = solve (node m below) ins store in
    let cs = cell_bits (node m below) store in
    let step : ℕ → Occurrence → Wires Bool → Counted (List Bool) = λ i o ws. given bits (by_outputs bits below) (part o) (map ws o.ins) (own m below cs i) in
    let full : (i : ℕ) (o : Occurrence) (ws : Wires Bool) → length (step i o ws).values ≡ length (outputs_due below (part o)) = λ i o ws. given_full below (part o) (map ws o.ins) (own m below cs i) in
    let S : ℕ → Type 0 = λ j. Sound (below j) in
    let dr : ℕ → Bool = λ w. ltb w m.inputs in
    let inputs : (w : ℕ) → w < m.inputs → b [] w ≡ get_or ins w false =
    λ w h. let l : ltb w m.inputs ≡ true = lt-ltb w m.inputs h in
    pass_keeps S below m.wires bits step full 0 m.occurrences dr (start bits m.inputs ins) sound.fits w l ∙ ap (λ (c : Bool). cond c (get_or ins w false) false) l in
    let at_i : (i : ℕ) → i < length m.occurrences → AgreesAt (λ j. Agrees (below j)) below store b i (occurrence_no m i) (part (occurrence_no m i)) =
    λ i h. let z : 0 + i ≡ i = omega arith in
    let a : At S below m.wires bits step full (b []) i (occurrence_no m i) = subst (λ n. At S below m.wires bits step full (b []) n (occurrence_no m i)) z (pass_at S below m.wires bits step full 0 m.occurrences dr (start bits m.inputs ins) sound.fits i h) in
    let wrote = a.wrote ∙ ap (λ ds. (given bits (by_outputs bits below) (part (occurrence_no m i)) (map a.ws (occurrence_no m i).ins) ds).values) (own_bits m below sound store i h) in
    agree_part below (λ j. solve_agrees (below j)) store b a.dr a.ws a.known i (occurrence_no m i) (part (occurrence_no m i)) a.fits.refer a.fits.pins_in a.fits.order wrote (λ way w. refl) in
    (inputs, at_i)

pub bits_agree : BitsAgree
bits_agree d sound ins store = (solve d ins store, solve_agrees d sound ins store, λ a agree. alone d sound ins store a (solve d ins store) agree (solve_agrees d sound ins store))
