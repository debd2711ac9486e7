-- More files to try.
use Rattle.std.specs.Prelude.{ℕ, zero, suc, ◌-◌, List, [], ◌∷◌, ◌++◌, take, drop}
use Rattle.run.specs.Examples.{toggle}

-- the toggle's two occurrences, at 17 and at 27, exchanged
abbrev pub exchanged : List ℕ
exchanged = take 17 toggle ++ (drop 27 toggle ++ take 10 (drop 17 toggle))

-- a module without anything
abbrev pub empty_module : List ℕ
empty_module = 5 ∷ 0 ∷ 2 ∷ 0 ∷ 0 ∷ 0 ∷ 0 ∷ 0 ∷ 0 ∷ []

-- a module whose one occurrence is module k
abbrev pub user_of : ℕ → List ℕ
user_of k = 5 ∷ 0 ∷ 2 ∷ 0 ∷ 0 ∷ 0 ∷ 0 ∷ 1 ∷ 0 ∷ 4 ∷ 0 ∷ 3 ∷ 0 ∷ k ∷ 1 ∷ 0 ∷ 0 ∷ []

-- n modules, of which the first uses module k and each of the others the next, and an empty one behind them
abbrev pub users_from : ℕ → ℕ → List ℕ
users_from k zero = empty_module
users_from k (suc n) = user_of k ++ users_from (suc k) n

-- as many modules as the depth says, each of which uses the next
abbrev pub chain : ℕ → List ℕ
chain depth = 2 ∷ 0 ∷ 1 ∷ 0 ∷ depth ∷ 0 ∷ users_from 1 (depth - 1)
