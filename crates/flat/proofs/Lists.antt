-- Lists, and what is known of one occurrence out of a module's.
use Rattle.std.proofs.Common.{◌≡◌, ℕ, zero, suc, ◌<◌, Bool, ltb, List, [], ◌∷◌, map, length, get_or, drop, refl, ap, subst, ap₂, le_of_suc-le-suc, not-suc-le-zero, arith}
use Rattle.rules.specs.Boards.{Occurrence, no_occurrence, Module, occurrence_no, Design, node, part}
use Rattle.rules.specs.Wires.{drive}
use Rattle.rules.specs.Sound.{All, Refers, Fits, FitAll, Sound}

head_of : {V : Type 0} → V → List V → V
head_of d [] = d
head_of d (x ∷ xs) = x

tail_of : {V : Type 0} → List V → List V
tail_of [] = []
tail_of (x ∷ xs) = xs

pub heads : {V : Type 0} {x y : V} {xs ys : List V} → x ∷ xs ≡ y ∷ ys → x ≡ y
unfolding head_of
heads {x = x} e = ap (head_of x) e

pub tails : {V : Type 0} {x y : V} {xs ys : List V} → x ∷ xs ≡ y ∷ ys → xs ≡ ys
unfolding tail_of
tails e = ap tail_of e

pub map_on : {X Y : Type 0} (P : X → Type 0) (f g : X → Y) → ((x : X) → P x → f x ≡ g x) → (xs : List X) → All P xs → map f xs ≡ map g xs
map_on P f g h [] a = refl
map_on {Y = Y} P f g h (x ∷ xs) a = ap₂ {C = List Y} (λ y ys. y ∷ ys) (h x a.0) (map_on P f g h xs a.1)

absurd_list : {X : Type 0} (C : Type 0) (x : X) (xs : List X) → [] ≡ x ∷ xs → C
absurd_list C x xs e = let z : ◌≡◌ {A = ℕ} 0 (suc (length xs)) = ap length e in let n : ⊥ = omega arith in absurd n

-- what is left of a list, one further
pub drop_next : {X : Type 0} (xs : List X) (k : ℕ) (y : X) (ys : List X) → drop k xs ≡ y ∷ ys → drop (suc k) xs ≡ ys
drop_next [] zero y ys e = absurd_list _ y ys e
drop_next [] (suc k) y ys e = absurd_list _ y ys e
drop_next (x ∷ xs) zero y ys e = tails e
drop_next (x ∷ xs) (suc k) y ys e = drop_next xs k y ys e

pub drop_head : {X : Type 0} (d : X) (xs : List X) (k : ℕ) (y : X) (ys : List X) → drop k xs ≡ y ∷ ys → get_or xs k d ≡ y
drop_head d [] zero y ys e = absurd_list _ y ys e
drop_head d [] (suc k) y ys e = absurd_list _ y ys e
drop_head d (x ∷ xs) zero y ys e = heads e
drop_head d (x ∷ xs) (suc k) y ys e = drop_head d xs k y ys e

pub drop_within : {X : Type 0} (xs : List X) (k : ℕ) (y : X) (ys : List X) → drop k xs ≡ y ∷ ys → k < length xs
drop_within [] zero y ys e = absurd_list _ y ys e
drop_within [] (suc k) y ys e = absurd_list _ y ys e
drop_within (x ∷ xs) zero y ys e = omega arith
drop_within (x ∷ xs) (suc k) y ys e = let l = drop_within xs k y ys e in omega arith

pub drop_all : {X : Type 0} (P : X → Type 0) (xs : List X) → All P xs → (k : ℕ) (y : X) (ys : List X) → drop k xs ≡ y ∷ ys → P y
drop_all P [] a zero y ys e = absurd_list _ y ys e
drop_all P [] a (suc k) y ys e = absurd_list _ y ys e
drop_all P (x ∷ xs) a zero y ys e = subst P (heads e) a.0
drop_all P (x ∷ xs) a (suc k) y ys e = drop_all P xs a.1 k y ys e

fit_at : (S : ℕ → Type 0) (below : ℕ → Design) (wires : ℕ) (os : List Occurrence) (dr : ℕ → Bool) → FitAll S below wires os dr → (i : ℕ) → i < length os → (dr' : ℕ → Bool) × Fits S below wires dr' (get_or os i no_occurrence)
fit_at S below wires [] dr f i h = absurd (not-suc-le-zero h)
fit_at S below wires (o ∷ os) dr f zero h = (dr, f.0)
fit_at S below wires (o ∷ os) dr f (suc i) h = fit_at S below wires os (drive o.outs dr) f.1 i (le_of_suc-le-suc h)

module _ (m : Module) (below : ℕ → Design) (sound : Sound (node m below)) where
  -- occurrence i keeps the rules, for some wires that are driven ahead of it
  pub fits_at : (i : ℕ) → i < length m.occurrences → (dr : ℕ → Bool) × Fits (λ j. Sound (below j)) below m.wires dr (occurrence_no m i)
  fits_at i h = fit_at (λ j. Sound (below j)) below m.wires m.occurrences (λ w. ltb w m.inputs) sound.fits i h

  pub refer_at : (i : ℕ) → i < length m.occurrences → Refers (λ j. Sound (below j)) (part (occurrence_no m i))
  refer_at i h = (fits_at i h).1.refer

  pub refer_left : (k : ℕ) (o : Occurrence) (os : List Occurrence) → drop k m.occurrences ≡ o ∷ os → Refers (λ j. Sound (below j)) (part o)
  refer_left k o os e = subst (λ (x : Occurrence). Refers (λ j. Sound (below j)) (part x)) (drop_head no_occurrence m.occurrences k o os e) (refer_at k (drop_within m.occurrences k o os e))

  pub state_left : (k s : ℕ) (ss : List ℕ) → drop k m.states ≡ s ∷ ss → s < length m.occurrences
  state_left k s ss e = drop_all (λ s. s < length m.occurrences) m.states sound.state_in k s ss e

  pub refer_state : (k s : ℕ) (ss : List ℕ) → drop k m.states ≡ s ∷ ss → Refers (λ j. Sound (below j)) (part (occurrence_no m s))
  refer_state k s ss e = refer_at s (state_left k s ss e)
