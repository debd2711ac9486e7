-- No two cells have one place, so that a bit written at a cell's place is written to that cell alone.
use Rattle.std.proofs.Common.{◌≡◌, ℕ, zero, suc, ◌<◌, Bool, true, false, cond, eqb, List, [], ◌∷◌, ◌++◌, map, length, get_or, set, Some, None, Option, sym, refl, ap, ◌∙◌, ap₂, le_of_suc-le-suc, not-suc-le-zero}
use Rattle.std.proofs.lemmas.Bool.{and_from, and_left, and_right, eqb-false, ne_eqb, eq-eqb}
use Rattle.gates.specs.declared.Part.{Part}
use Rattle.gates.specs.declared.Part.TheVariants.{Gate as gate, Cell as cell, Module as module_no}
use Rattle.rules.specs.Boards.{Design, absent, node, part, occurrence_no}
use Rattle.rules.specs.Sound.{All, Refers, Sound}
use Rattle.flat.specs.Flat.{Place, Store, joined, cells_inside, cell_places, cell_bits}
use Rattle.flat.specs.FlatRuns.{same_place, written, cell_place}
use Rattle.flat.proofs.Lists.{map_on, refer_at}
use Rattle.flat.proofs.Walk.{Once, not_among, sound_once}

same_refl : (p : Place) → same_place p p ≡ true
same_refl [] = refl
same_refl (i ∷ p) = and_from (eqb i i) (same_place p p) (eq-eqb i i refl) (same_refl p)

abbrev Apart : Place → Place → Type 0
Apart p q = (same_place p q ≡ false) × (same_place q p ≡ false)

abbrev Distinct : List Place → Type 0
Distinct [] = Unit {0}
Distinct (p ∷ ps) = All (Apart p) ps × Distinct ps

all_append : {X : Type 0} (P : X → Type 0) (xs ys : List X) → All P xs → All P ys → All P (xs ++ ys)
all_append P [] ys a b = b
all_append P (x ∷ xs) ys a b = (a.0, all_append P xs ys a.1 b)

all_map : {X Y : Type 0} (P : X → Type 0) (Q : Y → Type 0) (f : X → Y) → ((x : X) → P x → Q (f x)) → (xs : List X) → All P xs → All Q (map f xs)
all_map P Q f h [] a = tt
all_map P Q f h (x ∷ xs) a = (h x a.0, all_map P Q f h xs a.1)

pub all_at : {X : Type 0} (P : X → Type 0) (d : X) (xs : List X) → All P xs → (k : ℕ) → k < length xs → P (get_or xs k d)
all_at P d [] a k h = absurd (not-suc-le-zero h)
all_at P d (x ∷ xs) a zero h = a.0
all_at P d (x ∷ xs) a (suc k) h = all_at P d xs a.1 k (le_of_suc-le-suc h)

append_distinct : (xs ys : List Place) → Distinct xs → Distinct ys → All (λ x. All (Apart x) ys) xs → Distinct (xs ++ ys)
append_distinct [] ys a b c = b
append_distinct (x ∷ xs) ys a b c = (all_append (Apart x) xs ys a.0 c.0, append_distinct xs ys a.1 b c.1)

further_distinct : (i : ℕ) (ps : List Place) → Distinct ps → Distinct (map (λ way. i ∷ way) ps)
further_distinct i [] a = tt
further_distinct i (p ∷ ps) a =
    (all_map (Apart p) (Apart (i ∷ p)) (λ way. i ∷ way) (λ q h. (and_right (eqb i i) (same_place p q) h.0, and_right (eqb i i) (same_place q p) h.1)) ps a.0, further_distinct i ps a.1)

-- the places inside an occurrence begin with its number
abbrev Begins : ℕ → Place → Type 0
Begins i [] = ⊥
Begins i (j ∷ way) = j ≡ i

begins_apart : (i j : ℕ) → eqb i j ≡ false → (p q : Place) → Begins i p → Begins j q → Apart p q
begins_apart i j e [] q a b = absurd a
begins_apart i j e (k ∷ p) [] a b = absurd b
begins_apart i j e (k ∷ p) (l ∷ q) a b =
    (and_left (eqb k l) (same_place p q) (ne_eqb k l (λ s. eqb-false i j e (sym a ∙ s ∙ b))), and_left (eqb l k) (same_place q p) (ne_eqb l k (λ s. eqb-false i j e (sym a ∙ sym s ∙ b))))

further_begins : (i : ℕ) (ps : List Place) → All (Begins i) (map (λ way. i ∷ way) ps)
further_begins i [] = tt
further_begins i (p ∷ ps) = (refl, further_begins i ps)

inside_begins : (F : ℕ → List Place) (i : ℕ) (p : Option Part) → All (Begins i) (cells_inside F i p)
inside_begins F i (Some (gate g)) = tt
inside_begins F i (Some cell) = (refl, tt)
inside_begins F i (Some (module_no j)) = further_begins i (F j)
inside_begins F i None = tt

module _ (f : ℕ → List Place) (begins : (s : ℕ) → All (Begins s) (f s)) where
  all_apart : (i j : ℕ) → eqb i j ≡ false → (p : Place) → Begins i p → (qs : List Place) → All (Begins j) qs → All (Apart p) qs
  all_apart i j e p b [] a = tt
  all_apart i j e p b (q ∷ qs) a = (begins_apart i j e p q b a.0, all_apart i j e p b qs a.1)

  joined_apart : (i : ℕ) (p : Place) → Begins i p → (ss : List ℕ) → All (λ s. eqb i s ≡ false) ss → All (Apart p) (joined f ss)
  joined_apart i p b [] a = tt
  joined_apart i p b (s ∷ ss) a = all_append (Apart p) (f s) (joined f ss) (all_apart i s a.0 p b (f s) (begins s)) (joined_apart i p b ss a.1)

  each_apart : (i : ℕ) (ps : List Place) → All (Begins i) ps → (ss : List ℕ) → All (λ s. eqb i s ≡ false) ss → All (λ p. All (Apart p) (joined f ss)) ps
  each_apart i [] b ss a = tt
  each_apart i (p ∷ ps) b ss a = (joined_apart i p b.0 ss a, each_apart i ps b.1 ss a)

  joined_distinct : (P : ℕ → Type 0) → ((s : ℕ) → P s → Distinct (f s)) → (ss : List ℕ) → Once ss → All P ss → Distinct (joined f ss)
  joined_distinct P h [] once a = tt
  joined_distinct P h (s ∷ ss) once a =
      append_distinct (f s) (joined f ss) (h s a.0) (joined_distinct P h ss once.1 a.1) (each_apart s (f s) (begins s) ss (not_among s ss once.0))

module _ (below : ℕ → Design) (ih : (j : ℕ) → Sound (below j) → Distinct (cell_places (below j))) where
  inside_distinct : (i : ℕ) (p : Option Part) → Refers (λ j. Sound (below j)) p → Distinct (cells_inside (λ j. cell_places (below j)) i p)
  inside_distinct i (Some (gate g)) refer = tt
  inside_distinct i (Some cell) refer = (tt, tt)
  inside_distinct i (Some (module_no j)) refer = further_distinct i (cell_places (below j)) (ih j refer)
  inside_distinct i None refer = tt

places_distinct : (d : Design) → Sound d → Distinct (cell_places d)
places_distinct absent sound = tt
places_distinct (node m below) sound =
    joined_distinct (λ s. cells_inside (λ j. cell_places (below j)) s (part (occurrence_no m s))) (λ s. inside_begins (λ j. cell_places (below j)) s (part (occurrence_no m s))) (λ s. s < length m.occurrences)
    (λ s h. inside_distinct below (λ j. places_distinct (below j)) s (part (occurrence_no m s)) (refer_at m below sound s h)) m.states (sound_once m below sound) sound.state_in

written_other : (b : Bool) (store : Store) (p q : Place) → same_place q p ≡ false → written p b store q ≡ store q
written_other b store p q e = ap (λ (c : Bool). cond c b (store q)) e

written_list : (b : Bool) (store : Store) (ps : List Place) → Distinct ps → (k : ℕ) → k < length ps → map (written (get_or ps k []) b store) ps ≡ set (map store ps) k b
written_list b store [] a k h = absurd (not-suc-le-zero h)
written_list b store (p ∷ ps) a zero h =
    ap₂ {C = List Bool} (λ x xs. x ∷ xs) (ap (λ (c : Bool). cond c b (store p)) (same_refl p)) (map_on (Apart p) (written p b store) store (λ q e. written_other b store p q e.1) ps a.0)
written_list b store (p ∷ ps) a (suc k) h =
    ap₂ {C = List Bool} (λ x xs. x ∷ xs) (written_other b store (get_or ps k []) p (all_at (Apart p) [] ps a.0 k (le_of_suc-le-suc h)).0) (written_list b store ps a.1 k (le_of_suc-le-suc h))

-- cell k is written, and no other
pub written_bits : (d : Design) → Sound d → (b : Bool) (store : Store) (k : ℕ) → k < length (cell_places d) → cell_bits d (written (cell_place d k) b store) ≡ set (cell_bits d store) k b
written_bits d sound b store k h = written_list b store (cell_places d) (places_distinct d sound) k h
