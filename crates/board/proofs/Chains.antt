-- What chains of iterators give, in the words of the rules.
use Rattle.std.proofs.Common.{◌≡◌, ℕ, zero, suc, ◌+◌, ◌≤◌, Bool, true, false, cond, ◌&&◌, ◌||◌, eqb, List, [], ◌∷◌, map, length, get_or, take, sym, refl, ap, ◌∙◌, le_of_suc-le-suc, zero-add, arith}
use Rattle.std.proofs.lemmas.List.Recursion.{is_sum_by, same_from_clauses}
use Rattle.std.proofs.lemmas.List.Sums.{length-filter}
use Rattle.std.specs.List.{list_all, filter, fold, enumerate_from}
use Rattle.std.proofs.Math.Bool.{or_assoc, or-false}
use lib.Bits.{bit_or}
use Rattle.rules.specs.Wires.{all, any, every, times}
use Rattle.board.specs.WireTables.{bit, driven_by, reaches, picked_from}
use Rattle.board.proofs.Every.{every_same}
use Rattle.board.proofs.Pins.{or_bit}

pub all_is : {X : Type 0} (f : X → Bool) (xs : List X) → list_all f xs ≡ all f xs
all_is f xs = same_from_clauses (list_all f) (all f) (λ x b. f x && b) refl (λ _ _. refl) (λ _ _. refl) xs

pub times_is : (i : ℕ) (xs : List ℕ) → length (filter (λ s. eqb s i) xs) ≡ times i xs
times_is i xs = length-filter (λ s. eqb s i) xs ∙ sym (is_sum_by (times i) (λ s. cond (eqb s i) 1 0) refl (λ _ _. refl) xs)

-- a test of each of the first n items with its number
every_from : {X : Type 0} (g : ℕ → X → Bool) (d : X) (j n : ℕ) (xs : List X) → n ≤ length xs → list_all (λ p. g p.0 p.1) (enumerate_from j (take n xs)) ≡ every n (λ i. g (j + i) (get_or xs i d))
every_from g d j zero xs h = refl
every_from g d j (suc n) [] h = absurd (omega arith)
every_from g d j (suc n) (x ∷ xs) h =
    ap (λ k. g k x && list_all (λ p. g p.0 p.1) (enumerate_from (j + 1) (take n xs))) (omega arith)
    ∙ ap (λ b. g (j + 0) x && b) (every_from g d (j + 1) n xs (le_of_suc-le-suc h) ∙ every_same n _ _ (λ i l. ap (λ k. g k (get_or xs i d)) (omega arith)))

pub every_numbered : {X : Type 0} (g : ℕ → X → Bool) (d : X) (n : ℕ) (xs : List X) → n ≤ length xs → list_all (λ p. g p.0 p.1) (enumerate_from 0 (take n xs)) ≡ every n (λ i. g i (get_or xs i d))
every_numbered g d n xs h = every_from g d 0 n xs h ∙ every_same n _ _ (λ i l. ap (λ k. g k (get_or xs i d)) (zero-add i))

pub every_taken : (n : ℕ) (ds : List Bool) → n ≤ length ds → list_all (λ d. d) (take n ds) ≡ every n (driven_by ds)
every_taken zero ds h = refl
every_taken (suc n) [] h = absurd (omega arith)
every_taken (suc n) (d ∷ ds) h = ap (λ b. d && b) (every_taken n ds (le_of_suc-le-suc h))

-- the items at the places that pass
pub picked_are : {X : Type 0} (t : ℕ → Bool) (i : ℕ) (xs : List X) → map (λ p. p.1) (filter (λ p. t p.0) (enumerate_from i xs)) ≡ picked_from t i xs
picked_are t i [] = refl
picked_are t i (x ∷ xs) =
    let z : i + 1 ≡ suc i = omega arith in
    let e : map (λ p. p.1) (filter (λ p. t p.0) (enumerate_from (i + 1) xs)) ≡ picked_from t (suc i) xs = picked_are t (i + 1) xs ∙ ap (λ k. picked_from t k xs) z in
    let by : (b : Bool) → map (λ p. p.1) (cond b ((i, x) ∷ filter (λ p. t p.0) (enumerate_from (i + 1) xs)) (filter (λ p. t p.0) (enumerate_from (i + 1) xs))) ≡ cond b (x ∷ picked_from t (suc i) xs) (picked_from t (suc i) xs) =
    elim [ true ↦ ap (λ l. x ∷ l) e | false ↦ e ] in by (t i)

-- the sets of the wires of ps, joined to m
pub joined_are : (rs : List ℕ) (x m : ℕ) (ps : List (ℕ × ℕ)) → bit (fold (λ n p. bit_or n (get_or rs p.1 0)) m ps) x ≡ (bit m x || any (λ w. reaches rs w x) (map (λ p. p.1) ps))
joined_are rs x m [] = sym (or-false (bit m x))
joined_are rs x m (p ∷ ps) =
    joined_are rs x (bit_or m (get_or rs p.1 0)) ps ∙ ap (λ b. b || any (λ w. reaches rs w x) (map (λ p. p.1) ps)) (or_bit m (get_or rs p.1 0) x) ∙ or_assoc (bit m x) (reaches rs p.1 x) _
