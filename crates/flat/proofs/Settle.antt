-- Bits that agree are those of the first passes: so no others agree, and the flat step is the two passes on bits.
use Rattle.std.proofs.Common.{◌≡◌, ℕ, zero, suc, ◌+◌, ◌<◌, Bool, true, false, cond, T, eqb, ltb, List, [], ◌∷◌, ◌++◌, map, length, get_or, Some, None, Option, sym, refl, ap, ◌∙◌, subst, ap₂, arith}
use mathlib.Core.Path.{fun_ext}
use mathlib.Core.List.{map-map}
use lib.ListN.{length-map}
use Rattle.std.proofs.lemmas.Bool.{eqb-true, ltb-true}
use Rattle.gates.specs.declared.Part.{Part}
use Rattle.gates.specs.declared.Part.TheVariants.{Gate as gate, Cell as cell, Module as module_no}
use Rattle.gates.specs.Gates.{gate_bit}
use Rattle.signal.specs.Bits.{bits}
use Rattle.signal.proofs.GatesLaws.{gates_on_bits}
use Rattle.rules.specs.Boards.{Occurrence, no_occurrence, Module, Design, absent, node, part, occurrence_no, inputs_due}
use Rattle.rules.specs.Wires.{Wires, upd, put, picked, through_of, through, mark, drive, drive_all}
use Rattle.rules.specs.Sound.{All, Refers, FitAll, Sound}
use Rattle.flat.specs.Passes.{Counted, and_then, own, start, given, pass, first, stored, in_order, second, outputs, next}
use Rattle.flat.specs.Flat.{Place, Bits, Store, inside, AgreesAt, Agrees, WireInside, HasWire, flat_outputs, input_inside, input_bit, joined, cells_inside, cell_places, cell_bits}
use Rattle.flat.specs.Laws.{FlatStep}
use Rattle.flat.proofs.Lists.{map_on, fits_at, refer_at}
use Rattle.flat.proofs.Through.{by_outputs, same_outputs}
use Rattle.flat.proofs.CellPlaces.{inside_bits, own_bits, map_joined}

-- P of each element with its number, of which the first is i
abbrev pub Each : {X : Type 0} → (ℕ → X → Type 0) → ℕ → List X → Type 0
Each P i [] = Unit {0}
Each P i (x ∷ xs) = P i x × Each P (suc i) xs

each_by : {X : Type 0} (P : ℕ → X → Type 0) (d : X) (k : ℕ) (xs : List X) → ((i : ℕ) → i < length xs → P (k + i) (get_or xs i d)) → Each P k xs
each_by P d k [] h = tt
each_by P d k (x ∷ xs) h =
    let z : k + 0 ≡ k = omega arith in
    (subst (λ n. P n x) z (h 0 (omega arith)), each_by P d (suc k) xs (λ i l. let s : k + suc i ≡ suc k + i = omega arith in subst (λ n. P n (get_or xs i d)) s (h (suc i) (omega arith))))

pub each_from : {X : Type 0} (P : ℕ → X → Type 0) (d : X) (xs : List X) → ((i : ℕ) → i < length xs → P i (get_or xs i d)) → Each P 0 xs
each_from P d xs h = each_by P d 0 xs (λ i l. let z : i ≡ 0 + i = omega arith in subst (λ n. P n (get_or xs i d)) z (h i l))

-- of bits b on a module's wires: those that are driven have the pass's values
abbrev pub Known : {V : Type 0} → Wires V → (ℕ → Bool) → Wires V → Type 0
Known b dr ws = (w : ℕ) → dr w ≡ true → b w ≡ ws w

pub picked_known : (b : ℕ → Bool) (dr : ℕ → Bool) (ws : Wires Bool) → Known b dr ws → (t : ℕ → Bool) (is : List ℕ) → All (λ w. dr w ≡ true) (picked t is) → (p : ℕ) → t p ≡ true → get_or (map b is) p false ≡ get_or (map ws is) p false
picked_known b dr ws k t [] a p e = refl
picked_known b dr ws k t (w ∷ is) a zero e =
    let rest = picked (λ n. t (suc n)) is in
    let a' : All (λ w. dr w ≡ true) (w ∷ rest) = subst (λ (c : Bool). All (λ w. dr w ≡ true) (cond c (w ∷ rest) rest)) e a in
    k w a'.0
picked_known b dr ws k t (w ∷ is) a (suc p) e =
    let rest = picked (λ n. t (suc n)) is in
    let less : (c : Bool) → All (λ w. dr w ≡ true) (cond c (w ∷ rest) rest) → All (λ w. dr w ≡ true) rest = elim [ true ↦ λ q. q.1 | false ↦ λ q. q ] in
    picked_known b dr ws k (λ n. t (suc n)) is (less (t 0) a) p e

pub put_known : (b : ℕ → Bool) (os : List ℕ) (dr : ℕ → Bool) (ws : Wires Bool) → Known b dr ws → Known b (drive os dr) (put os (map b os) ws)
put_known b [] dr ws k = k
put_known b (o ∷ os) dr ws k =
    let mark_known : (x : ℕ) (c : Bool) → eqb x o ≡ c → cond c true (dr x) ≡ true → b x ≡ cond c (b o) (ws x) =
    λ x. elim [ true ↦ λ e h. ap b (eqb-true x o e) | false ↦ λ e h. k x h ] in
    put_known b os (mark o dr) (upd o (b o) ws) (λ x. mark_known x (eqb x o) refl)

module _ (below : ℕ → Design) (ih : (j : ℕ) → Sound (below j) → (ins : List Bool) (store : Store) (b : Bits) → Agrees (below j) ins store b → flat_outputs (below j) b ≡ outputs bits (below j) ins (cell_bits (below j) store)) (store : Store) (b : Bits) where
  -- the cells of a module occurrence, seen from the inside
  bits_inside : (i j : ℕ) → inside_bits below store i (Some (module_no j)) ≡ cell_bits (below j) (inside i store)
  bits_inside i j = map-map store (λ way. i ∷ way) (cell_places (below j))

  given_known : (dr : ℕ → Bool) (ws : Wires Bool) → Known (b []) dr ws → (i : ℕ) (o : Occurrence) (p : Option Part) → Refers (λ j. Sound (below j)) p → length o.ins ≡ inputs_due below p → All (λ w. dr w ≡ true) (through_of (λ j. through (below j)) p o.ins) → AgreesAt (λ j. Agrees (below j)) below store b i o p →
      map (b []) o.outs ≡ (given bits (by_outputs bits below) p (map ws o.ins) (inside_bits below store i p)).values
  given_known dr ws k i o (Some (gate g)) refer pins order agree =
      agree ∙ ap (λ vs. gate_bit g vs ∷ []) (map_on (λ w. dr w ≡ true) (b []) ws k o.ins order) ∙ ap (λ (v : Bool). v ∷ []) (sym (gates_on_bits g (map ws o.ins) (length-map o.ins ws ∙ pins)))
  given_known dr ws k i o (Some cell) refer pins order agree = agree
  given_known dr ws k i o (Some (module_no j)) refer pins order agree =
      let is = map (b []) o.ins in
      let cs = cell_bits (below j) (inside i store) in
      agree.0
      ∙ ih j refer is (inside i store) (inside i b) agree.1
      ∙ same_outputs bits (below j) is (map ws o.ins) cs (picked_known (b []) dr ws k (through (below j)) o.ins order)
      ∙ ap (outputs bits (below j) (map ws o.ins)) (sym (bits_inside i j))
  given_known dr ws k i o None refer pins order agree = elim refer [ ]

  -- the bits agree at an occurrence, whose cells are where the passes look for them
  abbrev Fitting : (ℕ → List Bool) → ℕ → Occurrence → Type 0
  Fitting own_cells i o = AgreesAt (λ j. Agrees (below j)) below store b i o (part o) × (inside_bits below store i (part o) ≡ own_cells i)

  pass_known : (own_cells : ℕ → List Bool) (wires : ℕ) (i : ℕ) (os : List Occurrence) (dr : ℕ → Bool) (ws : Wires Bool) → Known (b []) dr ws → FitAll (λ j. Sound (below j)) below wires os dr → Each (Fitting own_cells) i os →
      Known (b []) (drive_all os dr) (pass bits (λ i o ws. given bits (by_outputs bits below) (part o) (map ws o.ins) (own_cells i)) i os ws).values
  pass_known own_cells wires i [] dr ws k fits each = k
  pass_known own_cells wires i (o ∷ os) dr ws k fits each =
      let vs = (given bits (by_outputs bits below) (part o) (map ws o.ins) (own_cells i)).values in
      let e : map (b []) o.outs ≡ vs =
      given_known dr ws k i o (part o) fits.0.refer fits.0.pins_in fits.0.order each.0.0
      ∙ ap (λ cs. (given bits (by_outputs bits below) (part o) (map ws o.ins) cs).values) each.0.1 in
      pass_known own_cells wires (suc i) os (drive o.outs dr) (put o.outs vs ws)
      (subst (λ us. Known (b []) (drive o.outs dr) (put o.outs us ws)) e (put_known (b []) o.outs dr ws k)) fits.1 each.1

  module_known : (m : Module) → Sound (node m below) → (ins : List Bool) → Agrees (node m below) ins store b → (w : ℕ) → w < m.wires → b [] w ≡ (first bits (node m below) ins (cell_bits (node m below) store)).values w
  module_known m sound ins agree w h =
      let start_known : (w : ℕ) (c : Bool) → ltb w m.inputs ≡ c → c ≡ true → b [] w ≡ cond c (get_or ins w false) false =
      λ w. elim [ true ↦ λ e h. agree.0 w (ltb-true w m.inputs e) | false ↦ λ e h. absurd (subst T (sym h) tt) ] in
      let own_cells = own m below (cell_bits (node m below) store) in
      pass_known own_cells m.wires 0 m.occurrences (λ w. ltb w m.inputs) (start bits m.inputs ins) (λ w. start_known w (ltb w m.inputs) refl) sound.fits
      (each_from (Fitting own_cells) no_occurrence m.occurrences (λ i l. (agree.1 i l, sym (own_bits m below sound store i l)))) w (sound.drives w h)

pub outputs_known : (d : Design) → Sound d → (ins : List Bool) (store : Store) (b : Bits) → Agrees d ins store b → flat_outputs d b ≡ outputs bits d ins (cell_bits d store)
outputs_known absent sound ins store b agree = elim sound [ ]
outputs_known (node m below) sound ins store b agree =
    map_on (λ w. w < m.wires) (b []) (first bits (node m below) ins (cell_bits (node m below) store)).values (module_known below (λ j. outputs_known (below j)) store b m sound ins agree) m.outs sound.wire

-- what is known of a sound module whose bits agree
module _ (m : Module) (below : ℕ → Design) (sound : Sound (node m below)) (ins : List Bool) (store : Store) (b : Bits) (agree : Agrees (node m below) ins store b) where
  wires_known : (w : ℕ) → w < m.wires → b [] w ≡ (first bits (node m below) ins (cell_bits (node m below) store)).values w
  wires_known = module_known below (λ j. outputs_known (below j)) store b m sound ins agree

  pub ins_known : (i : ℕ) → i < length m.occurrences → map (b []) (occurrence_no m i).ins ≡ map (first bits (node m below) ins (cell_bits (node m below) store)).values (occurrence_no m i).ins
  ins_known i h =
      map_on (λ w. w < m.wires) (b []) (first bits (node m below) ins (cell_bits (node m below) store)).values wires_known (occurrence_no m i).ins (fits_at m below sound i h).1.wire_in

-- no others agree
module _ (below : ℕ → Design) (ih : (j : ℕ) → Sound (below j) → (ins : List Bool) (store : Store) (a b : Bits) → Agrees (below j) ins store a → Agrees (below j) ins store b → (way : Place) (w : ℕ) → HasWire (below j) way w → a way w ≡ b way w) where
  inside_alone : (store : Store) (a b : Bits) (i : ℕ) (o : Occurrence) (p : Option Part) → Refers (λ j. Sound (below j)) p → map (b []) o.ins ≡ map (a []) o.ins → AgreesAt (λ j. Agrees (below j)) below store a i o p → AgreesAt (λ j. Agrees (below j)) below store b i o p →
      (way : Place) (w : ℕ) → WireInside (λ j. HasWire (below j)) p way w → a (i ∷ way) w ≡ b (i ∷ way) w
  inside_alone store a b i o (Some (gate g)) refer e agree_a agree_b way w has = elim has [ ]
  inside_alone store a b i o (Some cell) refer e agree_a agree_b way w has = elim has [ ]
  inside_alone store a b i o (Some (module_no j)) refer e agree_a agree_b way w has =
      ih j refer (map (a []) o.ins) (inside i store) (inside i a) (inside i b) agree_a.1 (subst (λ is. Agrees (below j) is (inside i store) (inside i b)) e agree_b.1) way w has
  inside_alone store a b i o None refer e agree_a agree_b way w has = elim has [ ]

pub alone : (d : Design) → Sound d → (ins : List Bool) (store : Store) (a b : Bits) → Agrees d ins store a → Agrees d ins store b → (way : Place) (w : ℕ) → HasWire d way w → a way w ≡ b way w
alone absent sound ins store a b agree_a agree_b way w has = elim has [ ]
alone (node m below) sound ins store a b agree_a agree_b [] w has = wires_known m below sound ins store a agree_a w has ∙ sym (wires_known m below sound ins store b agree_b w has)
alone (node m below) sound ins store a b agree_a agree_b (i ∷ way) w has =
    inside_alone below (λ j. alone (below j)) store a b i (occurrence_no m i) (part (occurrence_no m i)) (refer_at m below sound i has.0)
    (ins_known m below sound ins store b agree_b i has.0 ∙ sym (ins_known m below sound ins store a agree_a i has.0)) (agree_a.1 i has.0) (agree_b.1 i has.0) way w has.1

-- one entry of the state list
module _ (below : ℕ → Design) (ih : (j : ℕ) → Sound (below j) → (ins : List Bool) (store : Store) (b : Bits) → Agrees (below j) ins store b → cell_bits (below j) (input_bit (below j) b) ≡ next bits (below j) ins (cell_bits (below j) store)) where
  stored_known : (store : Store) (b : Bits) (after : Store) (s : ℕ) (o : Occurrence) (p : Option Part) (vs : List Bool) → Refers (λ j. Sound (below j)) p → map (b []) o.ins ≡ vs → AgreesAt (λ j. Agrees (below j)) below store b s o p →
      ((way : Place) → after (s ∷ way) ≡ input_inside (λ j. input_bit (below j) (inside s b)) p (map (b []) o.ins) way) →
      inside_bits below after s p ≡ (stored bits (λ j is ds. and_then (first bits (below j) is ds) (λ us. second bits (below j) us ds)) p vs (inside_bits below store s p)).values
  stored_known store b after s o (Some (gate g)) vs refer e agree link = refl
  stored_known store b after s o (Some cell) vs refer e agree link = ap (λ (v : Bool). v ∷ []) (link [] ∙ ap (λ (us : List Bool). get_or us 0 false) e)
  stored_known store b after s o (Some (module_no j)) vs refer e agree link =
      map-map after (λ way. s ∷ way) (cell_places (below j))
      ∙ ap (λ (f : Store). map f (cell_places (below j))) (fun_ext link)
      ∙ ih j refer (map (b []) o.ins) (inside s store) (inside s b) agree.1
      ∙ ap₂ (next bits (below j)) e (sym (map-map store (λ way. s ∷ way) (cell_places (below j))))
  stored_known store b after s o None vs refer e agree link = refl

joined_in_order : (P : ℕ → Type 0) (f : ℕ → List Bool) (g : ℕ → Counted (List Bool)) → ((s : ℕ) → P s → f s ≡ (g s).values) → (ss : List ℕ) → All P ss → joined f ss ≡ (in_order bits g ss).values
joined_in_order P f g h [] a = refl
joined_in_order P f g h (s ∷ ss) a = ap₂ (λ x y. x ++ y) (h s a.0) (joined_in_order P f g h ss a.1)

pub next_known : (d : Design) → Sound d → (ins : List Bool) (store : Store) (b : Bits) → Agrees d ins store b → cell_bits d (input_bit d b) ≡ next bits d ins (cell_bits d store)
next_known absent sound ins store b agree = refl
next_known (node m below) sound ins store b agree =
    let cs = cell_bits (node m below) store in
    let ws = (first bits (node m below) ins cs).values in
    let both : ℕ → List Bool → List Bool → Counted (List Bool) = λ j is ds. and_then (first bits (below j) is ds) (λ us. second bits (below j) us ds) in
    let after = input_bit (node m below) b in
    map_joined after (λ s. cells_inside (λ j. cell_places (below j)) s (part (occurrence_no m s))) m.states
    ∙ joined_in_order (λ s. s < length m.occurrences) (λ s. inside_bits below after s (part (occurrence_no m s))) (λ s. stored bits both (part (occurrence_no m s)) (map ws (occurrence_no m s).ins) (own m below cs s))
    (λ s h.
    stored_known below (λ j. next_known (below j)) store b after s (occurrence_no m s) (part (occurrence_no m s)) (map ws (occurrence_no m s).ins) (refer_at m below sound s h) (ins_known m below sound ins store b agree s h) (agree.1 s h) (λ way. refl)
    ∙ ap (λ ds. (stored bits both (part (occurrence_no m s)) (map ws (occurrence_no m s).ins) ds).values) (sym (own_bits m below sound store s h)))
    m.states sound.state_in

pub flat_step : FlatStep
flat_step d sound ins store b agree = (outputs_known d sound ins store b agree, next_known d sound ins store b agree)
