-- Files to try, byte by byte.
use Rattle.std.specs.Prelude.{◌≡◌, ℕ, List, [], ◌∷◌, ◌++◌, take, drop}
use Rattle.rules.specs.declared.refusal.Refusal.TheVariants.{Cut, Trail, Order}
use Rattle.rules.specs.Refusals.{accepted, refused}
use Rattle.rules.specs.Judging.{verdict}

-- one cell whose output goes through a not gate back to its input
abbrev pub toggle : List ℕ
toggle =
    2 ∷ 0 ∷ 1 ∷ 0 ∷ 1 ∷ 0 ∷
    7 ∷ 0 ∷ 2 ∷ 0 ∷ 0 ∷ 1 ∷ 2 ∷ 2 ∷ 1 ∷ 0 ∷ 0 ∷
    6 ∷ 0 ∷ 3 ∷ 0 ∷ 11 ∷ 0 ∷ 1 ∷ 1 ∷ 1 ∷ 0 ∷
    6 ∷ 0 ∷ 3 ∷ 0 ∷ 3 ∷ 0 ∷ 1 ∷ 1 ∷ 0 ∷ 1 ∷ []

-- its two occurrences exchanged
abbrev pub exchanged : List ℕ
exchanged = take 17 toggle ++ (drop 27 toggle ++ take 10 (drop 17 toggle))

-- a top without anything
abbrev pub empty_top : List ℕ
empty_top = 2 ∷ 0 ∷ 1 ∷ 0 ∷ 1 ∷ 0 ∷ 5 ∷ 0 ∷ 2 ∷ 0 ∷ 0 ∷ 0 ∷ 0 ∷ 0 ∷ 0 ∷ []

pub record Examples : Type 0 where
  pub toggle_accepted : verdict toggle ≡ accepted
  pub exchanged_refused : verdict exchanged ≡ refused (Order 17)
  pub short_refused : verdict (take 36 toggle) ≡ refused (Cut 27)
  pub long_refused : verdict (toggle ++ 0 ∷ []) ≡ refused (Trail 37)
  pub empty_refused : verdict [] ≡ refused (Cut 0)
  pub empty_top_accepted : verdict empty_top ≡ accepted
