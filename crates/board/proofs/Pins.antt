-- Loops over pins.
use Rattle.std.proofs.Common.{◌≡◌, ℕ, suc, ◌+◌, ◌/◌, ◌%◌, ◌^◌, ◌<◌, Bool, true, false, cond, not, ◌&&◌, ◌||◌, eqb, ◌⊎◌, List, [], ◌∷◌, length, get_or, drop, set, sym, refl, ap, ◌∙◌, inl, inr, add-zero, arith, get_or-set_other, get_or-set_same}
use mathlib.Core.Path.{fun_ext}
use native.Mathlib.Nat.{zero-div}
use lib.Bits.{bit_or, or_shr, or_mod}
use Rattle.std.proofs.lemmas.List.{at_drop_more}
use Rattle.std.proofs.lemmas.Bool.{eq-eqb, ne_eqb, cases_eq}
use Rattle.rules.specs.Wires.{upd}
use Rattle.rules.specs.Wires.{fresh}
use Rattle.rules.specs.Wires.{picked, drive, mark}
use Rattle.board.specs.WireTables.{bit, driven_by, reaches, picked_from, fill}

mod2 : (n : ℕ) → (n % 2 ≡ 0) ⊎ (n % 2 ≡ 1)
mod2 n = grind arith

or_mod2 : (a b : ℕ) → bit_or a b % 2 ≡ bit_or (a % 2) (b % 2)
or_mod2 a b = or_mod a b 1

or_bit0 : (a b : ℕ) → eqb (bit_or a b % 2) 1 ≡ (eqb (a % 2) 1 || eqb (b % 2) 1)
or_bit0 a b =
    let go : (x y : ℕ) → (x ≡ 0) ⊎ (x ≡ 1) → (y ≡ 0) ⊎ (y ≡ 1) → eqb (bit_or x y) 1 ≡ (eqb x 1 || eqb y 1) =
    λ x y p q. elim p [ inl e ↦ elim q [ inl d ↦ rw (e, d) | inr d ↦ rw (e, d) ] | inr e ↦ elim q [ inl d ↦ rw (e, d) | inr d ↦ rw (e, d) ] ] in
    ap (λ z. eqb z 1) (or_mod2 a b) ∙ go (a % 2) (b % 2) (mod2 a) (mod2 b)

pub or_bit : (a b x : ℕ) → bit (bit_or a b) x ≡ (bit a x || bit b x)
or_bit a b x = ap (λ z. eqb (z % 2) 1) (or_shr a b x) ∙ or_bit0 (a / 2 ^ x) (b / 2 ^ x)

pub picked_is : {X : Type 0} (f g : ℕ → Bool) (i : ℕ) (xs : List X) → ((k : ℕ) → g k ≡ f (i + k)) → picked g xs ≡ picked_from f i xs
picked_is f g i [] e = refl
picked_is f g i (x ∷ xs) e =
    let h : g 0 ≡ f i = e 0 ∙ ap f (add-zero i) in
    let t = picked_is f (λ k. g (suc k)) (suc i) xs (λ k. e (suc k) ∙ ap f (omega arith)) in
    ap (λ b. cond b (x ∷ picked (λ k. g (suc k)) xs) (picked (λ k. g (suc k)) xs)) h ∙ ap (λ l. cond (f i) (x ∷ l) l) t

pub picked_0 : {X : Type 0} (f : ℕ → Bool) (xs : List X) → picked f xs ≡ picked_from f 0 xs
picked_0 f xs = picked_is f f 0 xs (λ k. ap f (omega arith))

pub mark_set : (ds : List Bool) (w : ℕ) → w < length ds → driven_by (set ds w true) ≡ mark w (driven_by ds)
mark_set ds w h =
    fun_ext (λ x. elim (cases_eq x w) [ inl e ↦ rw (e, eq-eqb w w refl) (rw get_or-set_same) | inr ne ↦ rw (ne_eqb x w ne) (rw get_or-set_other) ])

pub reach_set : (rs : List ℕ) (w m : ℕ) → w < length rs → reaches (set rs w m) ≡ upd w (bit m) (reaches rs)
reach_set rs w m h =
    fun_ext (λ x. elim (cases_eq x w) [ inl e ↦ rw (e, eq-eqb w w refl) (ap bit (get_or-set_same rs w m 0 h)) | inr ne ↦ rw (ne_eqb x w ne) (ap bit (get_or-set_other rs w x m 0 ne)) ])

-- One turn of a loop: what is left of the pins, without the first

module _ (xs : List ℕ) (i : ℕ) (ds : List Bool) (h : i < length xs) where
  pub fresh_yes : get_or xs i 0 < length ds → driven_by ds (get_or xs i 0) ≡ false → fresh (drop i xs) (driven_by ds) ≡ fresh (drop (i + 1) xs) (driven_by (set ds (get_or xs i 0) true))
  fresh_yes l e =
      at_drop_more (λ l. fresh l (driven_by ds)) xs i 0 h ∙ ap (λ b. not b && fresh (drop (i + 1) xs) (mark (get_or xs i 0) (driven_by ds))) e ∙ ap (fresh (drop (i + 1) xs)) (sym (mark_set ds (get_or xs i 0) l))

  pub drive_more : get_or xs i 0 < length ds → drive (drop i xs) (driven_by ds) ≡ drive (drop (i + 1) xs) (driven_by (set ds (get_or xs i 0) true))
  drive_more l = at_drop_more (λ l. drive l (driven_by ds)) xs i 0 h ∙ ap (drive (drop (i + 1) xs)) (sym (mark_set ds (get_or xs i 0) l))

pub fill_more : (xs : List ℕ) (i m : ℕ) (rs : List ℕ) → i < length xs → get_or xs i 0 < length rs → fill (drop i xs) (bit m) (reaches rs) ≡ fill (drop (i + 1) xs) (bit m) (reaches (set rs (get_or xs i 0) m))
fill_more xs i m rs h l = at_drop_more (λ l. fill l (bit m) (reaches rs)) xs i 0 h ∙ ap (fill (drop (i + 1) xs) (bit m)) (sym (reach_set rs (get_or xs i 0) m l))

pub bit_zero : (x : ℕ) → bit 0 x ≡ false
bit_zero x = ap (λ z. eqb (z % 2) 1) (zero-div (2 ^ x))
