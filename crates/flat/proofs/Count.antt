-- The count of a step is a sum over the flat gates, and at most the module's places times its depth.
use Rattle.std.proofs.Common.{◌≡◌, ℕ, zero, suc, ◌+◌, ◌*◌, ◌<◌, ◌≤◌, Bool, true, false, cond, ltb, List, [], ◌∷◌, ◌++◌, map, length, Some, None, Option, sym, refl, ap, ◌∙◌, subst, ap₂, add-mul, mul-le-mul_left, zero-mul, mul-add, arith, length-append}
use lib.ListN.{length-map}
use Rattle.std.proofs.lemmas.Bool.{ltb-false}
use Rattle.gates.specs.declared.Part.{Part}
use Rattle.gates.specs.declared.Part.TheVariants.{Gate as gate, Cell as cell, Module as module_no}
use Rattle.signal.specs.Kinds.{Kind}
use Rattle.rules.specs.Boards.{Occurrence, no_occurrence, Module, Design, absent, node, part, occurrence_no, sum_of, most_of, of_module, cells_of, cells, cells_at, depth, places}
use Rattle.rules.specs.Wires.{Wires, put}
use Rattle.rules.specs.Sound.{Refers, Sound}
use Rattle.flat.specs.Passes.{Counted, and_then, own, start, given, pass, first, stored, in_order, second, step_of}
use Rattle.flat.specs.Flat.{Place, cell_places, gates_inside, gates_from, flat_gates, holders_inside, holders, flat_count}
use Rattle.flat.specs.Laws.{Counts}
use Rattle.flat.proofs.Lists.{refer_at}
use Rattle.flat.proofs.Sums.{upto, upto_on, upto_add, upto_zero, part_of_sum, sum_places, sum_states, most_at}
use Rattle.flat.proofs.Through.{by_outputs}
use Rattle.flat.proofs.CellPlaces.{places_length}
use Rattle.flat.proofs.Settle.{Each, each_from}

-- The counts of the passes do not depend on the values

abbrev gates_of : (ℕ → ℕ) → Option Part → ℕ
gates_of f (Some (gate g)) = 1
gates_of f (Some cell) = 0
gates_of f (Some (module_no j)) = f j
gates_of f None = 0

-- the gates that a first pass evaluates, and those that a second does
abbrev gates : Design → ℕ
gates absent = 0
gates (node m below) = sum_of (λ o. gates_of (λ j. gates (below j)) (part o)) m.occurrences

abbrev again : Design → ℕ
again absent = 0
again (node m below) = sum_of (λ s. of_module (λ j. gates (below j) + again (below j)) (part (occurrence_no m s))) m.states

module _ {V : Type 0} (K : Kind V) where
  pass_count : (f : ℕ → Occurrence → Wires V → Counted (List V)) (n : Occurrence → ℕ) → ((i : ℕ) (o : Occurrence) (ws : Wires V) → (f i o ws).count ≡ n o) → (i : ℕ) (os : List Occurrence) (ws : Wires V) → (pass K f i os ws).count ≡ sum_of n os
  pass_count f n h i [] ws = refl
  pass_count f n h i (o ∷ os) ws = ap₂ ◌+◌ (h i o ws) (pass_count f n h (suc i) os (put o.outs (f i o ws).values ws))

  given_count : (f : ℕ → List V → List V → Counted (List V)) (n : ℕ → ℕ) → ((j : ℕ) (ins cs : List V) → (f j ins cs).count ≡ n j) → (p : Option Part) (ins cs : List V) → (given K f p ins cs).count ≡ gates_of n p
  given_count f n h (Some (gate g)) ins cs = refl
  given_count f n h (Some cell) ins cs = refl
  given_count f n h (Some (module_no j)) ins cs = h j ins cs
  given_count f n h None ins cs = refl

  first_count : (d : Design) (ins cs : List V) → (first K d ins cs).count ≡ gates d
  first_count absent ins cs = refl
  first_count (node m below) ins cs =
      pass_count (λ i o ws. given K (by_outputs K below) (part o) (map ws o.ins) (own m below cs i)) (λ o. gates_of (λ j. gates (below j)) (part o))
      (λ i o ws. given_count (by_outputs K below) (λ j. gates (below j)) (λ j is ds. first_count (below j) is ds) (part o) (map ws o.ins) (own m below cs i))
      0 m.occurrences (start K m.inputs ins)

  stored_count : (f : ℕ → List V → List V → Counted (List V)) (n : ℕ → ℕ) → ((j : ℕ) (ins cs : List V) → (f j ins cs).count ≡ n j) → (p : Option Part) (ins cs : List V) → (stored K f p ins cs).count ≡ of_module n p
  stored_count f n h (Some (gate g)) ins cs = refl
  stored_count f n h (Some cell) ins cs = refl
  stored_count f n h (Some (module_no j)) ins cs = h j ins cs
  stored_count f n h None ins cs = refl

  in_order_count : (f : ℕ → Counted (List V)) (n : ℕ → ℕ) → ((s : ℕ) → (f s).count ≡ n s) → (ss : List ℕ) → (in_order K f ss).count ≡ sum_of n ss
  in_order_count f n h [] = refl
  in_order_count f n h (s ∷ ss) = ap₂ ◌+◌ (h s) (in_order_count f n h ss)

  second_count : (d : Design) (ws : Wires V) (cs : List V) → (second K d ws cs).count ≡ again d
  second_count absent ws cs = refl
  second_count (node m below) ws cs =
      let both : ℕ → List V → List V → Counted (List V) = λ j is ds. and_then (first K (below j) is ds) (λ us. second K (below j) us ds) in
      in_order_count (λ s. stored K both (part (occurrence_no m s)) (map ws (occurrence_no m s).ins) (own m below cs s)) (λ s. of_module (λ j. gates (below j) + again (below j)) (part (occurrence_no m s)))
      (λ s. stored_count both (λ j. gates (below j) + again (below j)) (λ j is ds. ap₂ ◌+◌ (first_count (below j) is ds) (second_count (below j) (first K (below j) is ds).values ds)) (part (occurrence_no m s)) (map ws (occurrence_no m s).ins) (own m below cs s))
      m.states

  step_count : (d : Design) (ins cs : List V) → (step_of K d ins cs).count ≡ gates d + again d
  step_count d ins cs = ap₂ ◌+◌ (first_count d ins cs) (second_count d (first K d ins cs).values cs)

-- Sums over places

sum_append : {X : Type 0} (f : X → ℕ) (xs ys : List X) → sum_of f (xs ++ ys) ≡ sum_of f xs + sum_of f ys
sum_append f [] ys = omega arith
sum_append f (x ∷ xs) ys = let ih = sum_append f xs ys in omega arith

sum_map : {X Y : Type 0} (f : Y → ℕ) (g : X → Y) (xs : List X) → sum_of f (map g xs) ≡ sum_of (λ x. f (g x)) xs
sum_map f g [] = refl
sum_map f g (x ∷ xs) = ap (λ n. f (g x) + n) (sum_map f g xs)

sum_same : {X : Type 0} (f g : X → ℕ) → ((x : X) → f x ≡ g x) → (xs : List X) → sum_of f xs ≡ sum_of g xs
sum_same f g h [] = refl
sum_same f g h (x ∷ xs) = ap₂ ◌+◌ (h x) (sum_same f g h xs)

sum_shift : {X : Type 0} (c : Bool) (f : X → ℕ) (xs : List X) → sum_of (λ x. 1 + (cond c 1 0 + f x)) xs ≡ sum_of (λ x. 1 + f x) xs + cond c (length xs) 0
sum_shift true f [] = refl
sum_shift false f [] = refl
sum_shift true f (x ∷ xs) = let ih = sum_shift true f xs in omega arith
sum_shift false f (x ∷ xs) = let ih = sum_shift false f xs in omega arith

-- as many flat gates as a first pass evaluates
gates_from_length : (F : ℕ → List Place) (n : ℕ → ℕ) → ((j : ℕ) → length (F j) ≡ n j) → (k : ℕ) (os : List Occurrence) → length (gates_from F k os) ≡ sum_of (λ o. gates_of n (part o)) os
gates_from_length F n h k [] = refl
gates_from_length F n h k (o ∷ os) = length-append (gates_inside F k (part o)) (gates_from F (suc k) os) ∙ ap₂ ◌+◌ (here (part o)) (gates_from_length F n h (suc k) os)
  where
    here : (p : Option Part) → length (gates_inside F k p) ≡ gates_of n p
    here (Some (gate g)) = refl
    here (Some cell) = refl
    here (Some (module_no j)) = length-map (F j) (λ way. k ∷ way) ∙ h j
    here None = refl

gates_length : (d : Design) → length (flat_gates d) ≡ gates d
gates_length absent = refl
gates_length (node m below) = gates_from_length (λ j. flat_gates (below j)) (λ j. gates (below j)) (λ j. gates_length (below j)) 0 m.occurrences

abbrev holding : Design → Bool
holding d = ltb 0 (length (cell_places d))

-- what the flat gates of an occurrence come to
abbrev weight : (ℕ → Design) → Option Part → ℕ
weight below (Some (gate g)) = 1
weight below (Some cell) = 0
weight below (Some (module_no j)) = flat_count (below j) + cond (holding (below j)) (gates (below j)) 0
weight below None = 0

module _ (below : ℕ → Design) (H : Place → ℕ) where
  abbrev Link : ℕ → Option Part → Type 0
  Link i p = (way : Place) → H (i ∷ way) ≡ holders_inside (λ j. holders (below j)) below p way

  part_weight : (i : ℕ) (p : Option Part) → Link i p → sum_of (λ way. 1 + H way) (gates_inside (λ j. flat_gates (below j)) i p) ≡ weight below p
  part_weight i (Some (gate g)) link = let e = link [] in omega arith
  part_weight i (Some cell) link = refl
  part_weight i (Some (module_no j)) link =
      let c = holding (below j) in
      sum_map (λ way. 1 + H way) (λ way. i ∷ way) (flat_gates (below j))
      ∙ sum_same (λ way. 1 + H (i ∷ way)) (λ way. 1 + (cond c 1 0 + holders (below j) way)) (λ way. ap (λ n. 1 + n) (link way)) (flat_gates (below j))
      ∙ sum_shift c (holders (below j)) (flat_gates (below j))
      ∙ ap (λ n. flat_count (below j) + cond c n 0) (gates_length (below j))
  part_weight i None link = refl

  from_weight : (k : ℕ) (os : List Occurrence) → Each (λ i o. Link i (part o)) k os → sum_of (λ way. 1 + H way) (gates_from (λ j. flat_gates (below j)) k os) ≡ sum_of (λ o. weight below (part o)) os
  from_weight k [] links = refl
  from_weight k (o ∷ os) links =
      sum_append (λ way. 1 + H way) (gates_inside (λ j. flat_gates (below j)) k (part o)) (gates_from (λ j. flat_gates (below j)) (suc k) os)
      ∙ ap₂ ◌+◌ (part_weight k (part o) links.0) (from_weight (suc k) os links.1)

flat_weight : (m : Module) (below : ℕ → Design) → flat_count (node m below) ≡ upto (length m.occurrences) (λ i. weight below (part (occurrence_no m i)))
flat_weight m below =
    from_weight below (holders (node m below)) 0 m.occurrences (each_from (λ i o. Link below (holders (node m below)) i (part o)) no_occurrence m.occurrences (λ i h way. refl))
    ∙ sum_places no_occurrence (λ o. weight below (part o)) m.occurrences

-- the second pass by occurrences
again_places : (m : Module) (below : ℕ → Design) → Sound (node m below) → again (node m below) ≡ upto (length m.occurrences) (λ i. cond (ltb 0 (cells_at m below i)) (of_module (λ j. gates (below j) + again (below j)) (part (occurrence_no m i))) 0)
again_places m below sound = sum_states m below sound (λ s. of_module (λ j. gates (below j) + again (below j)) (part (occurrence_no m s)))

-- a module with no cell evaluates nothing in its second pass
again_none : (d : Design) → Sound d → ltb 0 (cells d) ≡ false → again d ≡ 0
again_none absent sound e = refl
again_none (node m below) sound e =
    let n = length m.occurrences in
    let z : cells (node m below) ≡ 0 = let l = ltb-false 0 (cells (node m below)) e in omega arith in
    let none = sym (sum_places no_occurrence (λ o. cells_of (λ j. cells (below j)) (part o)) m.occurrences) ∙ z in
    let share : ℕ → ℕ = λ i. of_module (λ j. gates (below j) + again (below j)) (part (occurrence_no m i)) in
    again_places m below sound
    ∙ upto_zero n (λ i. cond (ltb 0 (cells_at m below i)) (share i) 0) (λ i h. ap (λ k. cond (ltb 0 k) (share i) 0) (part_of_sum n (cells_at m below) none i h))

module_weight : (c : Bool) (g a f : ℕ) → (c ≡ false → a ≡ 0) → g + a ≡ f → g + cond c (g + a) 0 ≡ f + cond c g 0
module_weight true g a f h e = omega arith
module_weight false g a f h e = let z = h refl in omega arith

module _ (below : ℕ → Design) (ih : (j : ℕ) → Sound (below j) → gates (below j) + again (below j) ≡ flat_count (below j)) where
  occurrence_weight : (p : Option Part) → Refers (λ j. Sound (below j)) p → gates_of (λ j. gates (below j)) p + cond (ltb 0 (cells_of (λ j. cells (below j)) p)) (of_module (λ j. gates (below j) + again (below j)) p) 0 ≡ weight below p
  occurrence_weight (Some (gate g)) refer = refl
  occurrence_weight (Some cell) refer = refl
  occurrence_weight (Some (module_no j)) refer =
      module_weight (ltb 0 (cells (below j))) (gates (below j)) (again (below j)) (flat_count (below j)) (again_none (below j) refer) (ih j refer)
      ∙ ap (λ n. flat_count (below j) + cond (ltb 0 n) (gates (below j)) 0) (sym (places_length (below j) refer))
  occurrence_weight None refer = refl

pub gates_again : (d : Design) → Sound d → gates d + again d ≡ flat_count d
gates_again absent sound = refl
gates_again (node m below) sound =
    let n = length m.occurrences in
    let g : ℕ → ℕ = λ i. gates_of (λ j. gates (below j)) (part (occurrence_no m i)) in
    let a : ℕ → ℕ = λ i. cond (ltb 0 (cells_at m below i)) (of_module (λ j. gates (below j) + again (below j)) (part (occurrence_no m i))) 0 in
    ap₂ ◌+◌ (sum_places no_occurrence (λ o. gates_of (λ j. gates (below j)) (part o)) m.occurrences) (again_places m below sound)
    ∙ sym (upto_add n g a)
    ∙ upto_on n (λ i. g i + a i) (λ i. weight below (part (occurrence_no m i))) (λ i h. occurrence_weight below (λ j. gates_again (below j)) (part (occurrence_no m i)) (refer_at m below sound i h))
    ∙ sym (flat_weight m below)

pub counted : {V : Type 0} (K : Kind V) (d : Design) → Sound d → (ins cs : List V) → (step_of K d ins cs).count ≡ flat_count d
counted K d sound ins cs = step_count K d ins cs ∙ gates_again d sound

-- The bound: each occurrence has its share of the places

upto_most : (n : ℕ) (f g : ℕ → ℕ) → ((i : ℕ) → i < n → f i ≤ g i) → upto n f ≤ upto n g
upto_most zero f g h = omega arith
upto_most (suc n) f g h = let a = h 0 (omega arith) in let ih = upto_most n (λ i. f (suc i)) (λ i. g (suc i)) (λ i l. h (suc i) (omega arith)) in omega arith

upto_times : (n : ℕ) (f : ℕ → ℕ) (k : ℕ) → upto n (λ i. f i * k) ≡ upto n f * k
upto_times zero f k = sym (zero-mul k)
upto_times (suc n) f k = ap (λ r. f 0 * k + r) (upto_times n (λ i. f (suc i)) k) ∙ sym (add-mul (f 0) (upto n (λ i. f (suc i))) k)

module _ (below : ℕ → Design) (ih : (j : ℕ) → gates (below j) ≤ places (below j)) where
  gates_of_small : (p : Option Part) → gates_of (λ j. gates (below j)) p ≤ 1 + of_module (λ j. places (below j)) p
  gates_of_small (Some (gate g)) = omega arith
  gates_of_small (Some cell) = omega arith
  gates_of_small (Some (module_no j)) = let l = ih j in omega arith
  gates_of_small None = omega arith

  gates_all_small : (os : List Occurrence) → sum_of (λ o. gates_of (λ j. gates (below j)) (part o)) os ≤ sum_of (λ o. 1 + of_module (λ j. places (below j)) (part o)) os
  gates_all_small [] = omega arith
  gates_all_small (o ∷ os) = let a = gates_of_small (part o) in let l = gates_all_small os in omega arith

gates_small : (d : Design) → gates d ≤ places d
gates_small absent = omega arith
gates_small (node m below) = gates_all_small below (λ j. gates_small (below j)) m.occurrences

-- g gates in a first pass and a more in a second, of a module of e places and depth d
share_small : (c : Bool) (g a e d D : ℕ) → g ≤ e → g + a ≤ e * d → d ≤ D → g + cond c (g + a) 0 ≤ (1 + e) * (1 + D)
share_small c g a e d D few count deep =
    let l : e * d ≤ e * D = mul-le-mul_left e deep in
    let x : (1 + e) * (1 + D) ≡ 1 * (1 + D) + e * (1 + D) = add-mul 1 e (1 + D) in
    let y : e * (1 + D) ≡ e * 1 + e * D = mul-add e 1 D in
    elim c as (λ b. g + cond b (g + a) 0 ≤ (1 + e) * (1 + D)) [ true ↦ omega arith | false ↦ omega arith ]

module _ (below : ℕ → Design) (ih : (j : ℕ) → Sound (below j) → gates (below j) + again (below j) ≤ places (below j) * depth (below j)) where
  part_small : (c : Bool) (D : ℕ) (p : Option Part) → Refers (λ j. Sound (below j)) p → of_module (λ j. depth (below j)) p ≤ D → gates_of (λ j. gates (below j)) p + cond c (of_module (λ j. gates (below j) + again (below j)) p) 0 ≤ (1 + of_module (λ j. places (below j)) p) * (1 + D)
  part_small c D (Some (gate g)) refer l = elim c as (λ b. 1 + cond b 0 0 ≤ (1 + 0) * (1 + D)) [ true ↦ omega arith | false ↦ omega arith ]
  part_small c D (Some cell) refer l = share_small c 0 0 0 0 D (omega arith) (omega arith) (omega arith)
  part_small c D (Some (module_no j)) refer l = share_small c (gates (below j)) (again (below j)) (places (below j)) (depth (below j)) D (gates_small (below j)) (ih j refer) l
  part_small c D None refer l = elim refer [ ]

small : (d : Design) → Sound d → gates d + again d ≤ places d * depth d
small absent sound = omega arith
small (node m below) sound =
    let n = length m.occurrences in
    let D = most_of (λ o. of_module (λ j. depth (below j)) (part o)) m.occurrences in
    let g : ℕ → ℕ = λ i. gates_of (λ j. gates (below j)) (part (occurrence_no m i)) in
    let a : ℕ → ℕ = λ i. cond (ltb 0 (cells_at m below i)) (of_module (λ j. gates (below j) + again (below j)) (part (occurrence_no m i))) 0 in
    let e : ℕ → ℕ = λ i. 1 + of_module (λ j. places (below j)) (part (occurrence_no m i)) in
    let sum = ap₂ ◌+◌ (sum_places no_occurrence (λ o. gates_of (λ j. gates (below j)) (part o)) m.occurrences) (again_places m below sound) ∙ sym (upto_add n g a) in
    let most : upto n (λ i. g i + a i) ≤ upto n (λ i. e i * (1 + D)) =
    upto_most n (λ i. g i + a i) (λ i. e i * (1 + D)) (λ i h. part_small below (λ j. small (below j)) (ltb 0 (cells_at m below i)) D (part (occurrence_no m i)) (refer_at m below sound i h) (most_at (λ (o : Occurrence). of_module (λ j. depth (below j)) (part o)) no_occurrence m.occurrences i h)) in
    let all = upto_times n e (1 + D) ∙ ap (λ k. k * (1 + D)) (sym (sum_places no_occurrence (λ o. 1 + of_module (λ j. places (below j)) (part o)) m.occurrences)) in
    subst (λ k. k ≤ places (node m below) * (1 + D)) (sym sum) (subst (λ k. upto n (λ i. g i + a i) ≤ k) all most)

pub counts : (V : Type 0) → Counts V
counts V = record { counted = counted; small = λ K d sound ins cs. subst (λ k. k ≤ places d * depth d) (sym (step_count K d ins cs)) (small d sound) }
