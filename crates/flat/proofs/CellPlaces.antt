-- The passes find each occurrence's cells where the flat board's cell places have them.
use Rattle.std.proofs.Common.{◌≡◌, ℕ, ◌+◌, ◌<◌, Bool, true, false, cond, eqb, ltb, List, [], ◌∷◌, ◌++◌, map, length, take, drop, Some, None, Option, sym, refl, ap, ◌∙◌, subst, ap₂, arith, length-append}
use mathlib.Core.List.{map-append}
use lib.ListN.{length-map}
use lib.Seq.{take-append_seam, drop-append_seam}
use Rattle.std.proofs.lemmas.List.{drop-drop, nil_from_length}
use Rattle.std.proofs.lemmas.Bool.{eqb-true, ltb-false}
use Rattle.gates.specs.declared.Part.{Part}
use Rattle.gates.specs.declared.Part.TheVariants.{Gate as gate, Cell as cell, Module as module_no}
use Rattle.rules.specs.Boards.{Module, Design, absent, node, part, occurrence_no, sum_of, cells_of, cells, cells_at, ahead}
use Rattle.rules.specs.Wires.{times}
use Rattle.rules.specs.Sound.{All, Refers, Sound}
use Rattle.flat.specs.Passes.{own}
use Rattle.flat.specs.Flat.{Store, joined, cells_inside, cell_places, cell_bits}
use Rattle.flat.proofs.Lists.{refer_at}
use Rattle.flat.proofs.Sums.{cells_by_states}

joined_length : {X Y : Type 0} (f : X → List Y) (n : X → ℕ) (P : X → Type 0) → ((x : X) → P x → length (f x) ≡ n x) → (xs : List X) → All P xs → length (joined f xs) ≡ sum_of n xs
joined_length f n P h [] a = refl
joined_length f n P h (x ∷ xs) a = length-append (f x) (joined f xs) ∙ ap₂ ◌+◌ (h x a.0) (joined_length f n P h xs a.1)

pub map_joined : {X Y Z : Type 0} (g : Y → Z) (f : X → List Y) (xs : List X) → map g (joined f xs) ≡ joined (λ x. map g (f x)) xs
map_joined g f [] = refl
map_joined g f (x ∷ xs) = map-append g (f x) (joined f xs) ∙ ap (λ l. map g (f x) ++ l) (map_joined g f xs)

module _ (below : ℕ → Design) (ih : (j : ℕ) → Sound (below j) → length (cell_places (below j)) ≡ cells (below j)) where
  inside_length : (i : ℕ) (p : Option Part) → Refers (λ j. Sound (below j)) p → length (cells_inside (λ j. cell_places (below j)) i p) ≡ cells_of (λ j. cells (below j)) p
  inside_length i (Some (gate g)) refer = refl
  inside_length i (Some cell) refer = refl
  inside_length i (Some (module_no j)) refer = length-map (cell_places (below j)) (λ way. i ∷ way) ∙ ih j refer
  inside_length i None refer = refl

-- as many cell places as cells
pub places_length : (d : Design) → Sound d → length (cell_places d) ≡ cells d
places_length absent sound = refl
places_length (node m below) sound =
    joined_length (λ s. cells_inside (λ j. cell_places (below j)) s (part (occurrence_no m s))) (cells_at m below) (λ s. s < length m.occurrences)
    (λ s h. inside_length below (λ j. places_length (below j)) s (part (occurrence_no m s)) (refer_at m below sound s h)) m.states sound.state_in
    ∙ sym (cells_by_states m below sound)

-- of lists that lie one behind another, that of the first entry i
module _ {X : Type 0} (size : ℕ → ℕ) (f : ℕ → List X) where
  joined_own : (i : ℕ) (ss : List ℕ) → 0 < times i ss → length (f i) ≡ size i → All (λ s. length (f s) ≡ size s) ss → take (size i) (drop (ahead size ss i) (joined f ss)) ≡ f i
  joined_own i [] h own all = let z : ⊥ = omega arith in absurd z
  joined_own i (s ∷ ss) h own all =
      let rest = joined f ss in
      let by : (c : Bool) → eqb s i ≡ c → 0 < cond c 1 0 + times i ss → take (size i) (drop (cond c 0 (size s + ahead size ss i)) (f s ++ rest)) ≡ f i =
      elim [
        | true ↦ λ e l. subst (λ x. take (size i) (f x ++ rest) ≡ f i) (sym (eqb-true s i e)) (subst (λ n. take n (f i ++ rest) ≡ f i) own (take-append_seam (f i) rest))
        | false ↦ λ e l.
            let past : drop (size s) (f s ++ rest) ≡ rest = subst (λ n. drop n (f s ++ rest) ≡ rest) all.0 (drop-append_seam (f s) rest) in
            ap (take (size i)) (sym (drop-drop (ahead size ss i) (size s) (f s ++ rest)) ∙ ap (drop (ahead size ss i)) past) ∙ joined_own i ss (omega arith) own all.1
      ] in
      by (eqb s i) refl h

all_from : {X : Type 0} (P Q : X → Type 0) → ((x : X) → P x → Q x) → (xs : List X) → All P xs → All Q xs
all_from P Q h [] a = tt
all_from P Q h (x ∷ xs) a = (h x a.0, all_from P Q h xs a.1)

-- the stored bits of an occurrence's cells
abbrev pub inside_bits : (ℕ → Design) → Store → ℕ → Option Part → List Bool
inside_bits below store i p = map store (cells_inside (λ j. cell_places (below j)) i p)

pub own_bits : (m : Module) (below : ℕ → Design) → Sound (node m below) → (store : Store) (i : ℕ) → i < length m.occurrences → own m below (cell_bits (node m below) store) i ≡ inside_bits below store i (part (occurrence_no m i))
own_bits m below sound store i h =
    let f : ℕ → List Bool = λ s. map store (cells_inside (λ j. cell_places (below j)) s (part (occurrence_no m s))) in
    let size = cells_at m below in
    let long : (s : ℕ) → s < length m.occurrences → length (f s) ≡ size s =
    λ s l. length-map (cells_inside (λ j. cell_places (below j)) s (part (occurrence_no m s))) store ∙ inside_length below (λ j. places_length (below j)) s (part (occurrence_no m s)) (refer_at m below sound s l) in
    let n = ahead size m.states i in
    let by : (c : Bool) → ltb 0 (size i) ≡ c → times i m.states ≡ cond c 1 0 → take (size i) (drop n (cell_bits (node m below) store)) ≡ f i =
    elim [
      | true ↦ λ e t.
          ap (λ l. take (size i) (drop n l)) (map_joined store (λ s. cells_inside (λ j. cell_places (below j)) s (part (occurrence_no m s))) m.states)
          ∙ joined_own size f i m.states (omega arith) (long i h) (all_from (λ s. s < length m.occurrences) (λ s. length (f s) ≡ size s) long m.states sound.state_in)
      | false ↦ λ e t.
          let none : size i ≡ 0 = let l = ltb-false 0 (size i) e in omega arith in
          ap (λ k. take k (drop n (cell_bits (node m below) store))) none ∙ sym (nil_from_length (f i) (long i h ∙ none))
    ] in
    by (ltb 0 (size i)) refl (sound.state i h)
