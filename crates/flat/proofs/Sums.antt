-- Sums over occurrences and over a state list.
use Rattle.std.proofs.Common.{◌≡◌, ℕ, zero, suc, ◌+◌, ◌*◌, ◌<◌, ◌≤◌, Bool, true, false, cond, eqb, ltb, List, [], ◌∷◌, length, get_or, sym, refl, ap, ◌∙◌, ap₂, le_of_suc-le-suc, not-suc-le-zero, arith}
use lib.Dec.{eqb-zero-suc, eqb-suc-zero, eqb-suc-suc}
use Rattle.std.proofs.lemmas.Bool.{eq-eqb, lt-ltb}
use Rattle.rules.specs.Boards.{no_occurrence, Module, Design, node, part, sum_of, most_of, cells_of, cells, cells_at}
use Rattle.rules.specs.Wires.{times}
use Rattle.rules.specs.Sound.{All, Sound}

-- the sum over the numbers below n
abbrev pub upto : ℕ → (ℕ → ℕ) → ℕ
upto zero f = 0
upto (suc n) f = f 0 + upto n (λ i. f (suc i))

pub upto_on : (n : ℕ) (f g : ℕ → ℕ) → ((i : ℕ) → i < n → f i ≡ g i) → upto n f ≡ upto n g
upto_on zero f g h = refl
upto_on (suc n) f g h = ap₂ ◌+◌ (h 0 (omega arith)) (upto_on n (λ i. f (suc i)) (λ i. g (suc i)) (λ i l. h (suc i) (omega arith)))

pub upto_add : (n : ℕ) (f g : ℕ → ℕ) → upto n (λ i. f i + g i) ≡ upto n f + upto n g
upto_add zero f g = refl
upto_add (suc n) f g = let ih = upto_add n (λ i. f (suc i)) (λ i. g (suc i)) in omega arith

pub upto_zero : (n : ℕ) (f : ℕ → ℕ) → ((i : ℕ) → i < n → f i ≡ 0) → upto n f ≡ 0
upto_zero zero f h = refl
upto_zero (suc n) f h = let a = h 0 (omega arith) in let ih = upto_zero n (λ i. f (suc i)) (λ i l. h (suc i) (omega arith)) in omega arith

pub part_of_sum : (n : ℕ) (f : ℕ → ℕ) → upto n f ≡ 0 → (i : ℕ) → i < n → f i ≡ 0
part_of_sum zero f e i h = absurd (not-suc-le-zero h)
part_of_sum (suc n) f e zero h = omega arith
part_of_sum (suc n) f e (suc i) h = part_of_sum n (λ k. f (suc k)) (omega arith) i (le_of_suc-le-suc h)

-- one number's share
upto_one : (n s : ℕ) (f : ℕ → ℕ) → s < n → upto n (λ i. cond (eqb s i) (f i) 0) ≡ f s
upto_one zero s f h = absurd (not-suc-le-zero h)
upto_one (suc n) zero f h =
    let a : cond (eqb 0 0) (f 0) 0 ≡ f 0 = ap (λ (c : Bool). cond c (f 0) 0) (eq-eqb 0 0 refl) in
    let r : upto n (λ i. cond (eqb 0 (suc i)) (f (suc i)) 0) ≡ 0 = upto_zero n (λ i. cond (eqb 0 (suc i)) (f (suc i)) 0) (λ i l. ap (λ (c : Bool). cond c (f (suc i)) 0) (eqb-zero-suc i)) in
    omega arith
upto_one (suc n) (suc s) f h =
    let a : cond (eqb (suc s) 0) (f 0) 0 ≡ 0 = ap (λ (c : Bool). cond c (f 0) 0) (eqb-suc-zero s) in
    let r : upto n (λ i. cond (eqb (suc s) (suc i)) (f (suc i)) 0) ≡ upto n (λ i. cond (eqb s i) (f (suc i)) 0) =
    upto_on n (λ i. cond (eqb (suc s) (suc i)) (f (suc i)) 0) (λ i. cond (eqb s i) (f (suc i)) 0) (λ i l. ap (λ (c : Bool). cond c (f (suc i)) 0) (eqb-suc-suc s i)) in
    let ih = upto_one n s (λ i. f (suc i)) (le_of_suc-le-suc h) in
    omega arith

-- a sum over a list, by the places of the list and by how often each number stands in it
pub sum_places : {X : Type 0} (d : X) (f : X → ℕ) (xs : List X) → sum_of f xs ≡ upto (length xs) (λ i. f (get_or xs i d))
sum_places d f [] = refl
sum_places d f (x ∷ xs) = ap (λ n. f x + n) (sum_places d f xs)

times_step : (c : Bool) (t x : ℕ) → (cond c 1 0 + t) * x ≡ cond c x 0 + t * x
times_step true t x = omega arith
times_step false t x = omega arith

sum_times : (n : ℕ) (f : ℕ → ℕ) (ss : List ℕ) → All (λ s. s < n) ss → sum_of f ss ≡ upto n (λ i. times i ss * f i)
sum_times n f [] a = sym (upto_zero n (λ i. 0 * f i) (λ i l. omega arith))
sum_times n f (s ∷ ss) a =
    ap₂ ◌+◌ (sym (upto_one n s f a.0)) (sum_times n f ss a.1)
    ∙ sym (upto_add n (λ i. cond (eqb s i) (f i) 0) (λ i. times i ss * f i))
    ∙ sym (upto_on n (λ i. (cond (eqb s i) 1 0 + times i ss) * f i) (λ i. cond (eqb s i) (f i) 0 + times i ss * f i) (λ i l. times_step (eqb s i) (times i ss) (f i)))

cond_times : (c : Bool) (x : ℕ) → cond c 1 0 * x ≡ cond c x 0
cond_times true x = omega arith
cond_times false x = omega arith

-- a sum over the state list, by occurrences
pub sum_states : (m : Module) (below : ℕ → Design) → Sound (node m below) → (f : ℕ → ℕ) → sum_of f m.states ≡ upto (length m.occurrences) (λ i. cond (ltb 0 (cells_at m below i)) (f i) 0)
sum_states m below sound f =
    let n = length m.occurrences in
    sum_times n f m.states sound.state_in ∙ upto_on n (λ i. times i m.states * f i) (λ i. cond (ltb 0 (cells_at m below i)) (f i) 0) (λ i l. ap (λ t. t * f i) (sound.state i l) ∙ cond_times (ltb 0 (cells_at m below i)) (f i))

pub held : (n : ℕ) → cond (ltb 0 n) n 0 ≡ n
held zero = refl
held (suc n) = ap (λ (c : Bool). cond c (suc n) 0) (lt-ltb 0 (suc n) (omega arith))

-- a sound module's cells by its state list
pub cells_by_states : (m : Module) (below : ℕ → Design) → Sound (node m below) → cells (node m below) ≡ sum_of (cells_at m below) m.states
cells_by_states m below sound =
    let n = length m.occurrences in
    sum_places no_occurrence (λ o. cells_of (λ j. cells (below j)) (part o)) m.occurrences
    ∙ sym (upto_on n (λ i. cond (ltb 0 (cells_at m below i)) (cells_at m below i) 0) (cells_at m below) (λ i h. held (cells_at m below i)))
    ∙ sym (sum_states m below sound (cells_at m below))

pub most_at : {X : Type 0} (g : X → ℕ) (d : X) (xs : List X) (i : ℕ) → i < length xs → g (get_or xs i d) ≤ most_of g xs
most_at g d [] i h = absurd (not-suc-le-zero h)
most_at g d (x ∷ xs) zero h = omega arith
most_at g d (x ∷ xs) (suc i) h = let ih = most_at g d xs i (le_of_suc-le-suc h) in omega arith
