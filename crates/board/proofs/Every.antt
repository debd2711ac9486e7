-- Tests of each number below a bound, and the entries of a state list.
use Rattle.std.proofs.Common.{◌≡◌, ℕ, zero, suc, ◌+◌, ◌<◌, Bool, cond, ◌&&◌, eqb, List, [], ◌∷◌, length, get_or, refl, ap, ◌∙◌, suc-le-suc, arith}
use Rattle.rules.specs.Wires.{every}
use Rattle.rules.specs.Boards.{ahead}

pub every_same : (n : ℕ) (f g : ℕ → Bool) → ((j : ℕ) → j < n → f j ≡ g j) → every n f ≡ every n g
every_same zero f g h = refl
every_same (suc n) f g h = ap (λ b. b && every n (λ i. f (suc i))) (h 0 (omega arith)) ∙ ap (λ b. g 0 && b) (every_same n (λ i. f (suc i)) (λ i. g (suc i)) (λ j l. h (suc j) (suc-le-suc l)))

pub ahead_same : (a b : ℕ → ℕ) (i : ℕ) (xs : List ℕ) → ((k : ℕ) → k < length xs → a (get_or xs k 0) ≡ b (get_or xs k 0)) → ahead a xs i ≡ ahead b xs i
ahead_same a b i [] h = refl
ahead_same a b i (x ∷ xs) h =
    ap (λ n. cond (eqb x i) 0 (n + ahead a xs i)) (h 0 (omega arith)) ∙ ap (λ n. cond (eqb x i) 0 (b x + n)) (ahead_same a b i xs (λ k l. h (suc k) (suc-le-suc l)))
