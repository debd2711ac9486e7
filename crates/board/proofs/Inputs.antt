-- The tables of a module before its first occurrence: its inputs are driven, and each reaches itself.
use Rattle.std.proofs.Common.{◌≡◌, ℕ, zero, suc, ◌+◌, ◌-◌, ◌*◌, ◌/◌, ◌%◌, ◌^◌, ◌<◌, ◌≤◌, Bool, true, false, ◌&&◌, eqb, ltb, List, ◌++◌, length, get_or, drop, replicate, sym, refl, ap, ◌∙◌, inl, inr, one-mul, arith}
use native.Mathlib.Nat.{div-eq_of_lt}
use Rattle.std.proofs.lemmas.Nat.{pow_below, pow-add, shl-shr}
use Rattle.std.proofs.lemmas.Bool.{eq-eqb, ne_eqb, lt-ltb, le-ltb, cases_order, cases_lt}
use Rattle.std.proofs.lemmas.List.{get_or-append_right, get_or-drop, get_or-replicate}
use Rattle.std.proofs.Math.ListN.{get_or-append, length-replicate}
use Rattle.board.proofs.Pins.{bit_zero}
use Rattle.board.specs.WireTables.{bit, driven_by, reaches}

pow_bit : (i x : ℕ) → bit (2 ^ i) x ≡ eqb i x
pow_bit i x =
    elim (cases_order i x) [
      | inl e ↦ rw e (ap (λ z. eqb (z / 2 ^ x % 2) 1) (sym (one-mul (2 ^ x))) ∙ ap (λ z. eqb (z % 2) 1) (shl-shr 1 x) ∙ sym (eq-eqb x x refl))
      | inr q ↦ elim q [
        | inl h ↦ ap (λ z. eqb (z % 2) 1) (div-eq_of_lt (pow_below i x h)) ∙ sym (ne_eqb i x (λ e. omega arith))
        | inr h ↦
            let d = i - x - 1 in
            let e : i ≡ (d + 1) + x = omega arith in
            let g : 2 ^ i / 2 ^ x ≡ 2 ^ (d + 1) = ap (λ n. 2 ^ n / 2 ^ x) e ∙ ap (λ n. n / 2 ^ x) (pow-add 2 (d + 1) x) ∙ shl-shr (2 ^ (d + 1)) x in
            let k : 2 ^ (d + 1) % 2 ≡ 0 = ap (λ n. n % 2) (pow-add 2 d 1) ∙ (let q : (n : ℕ) → n * 2 % 2 ≡ 0 = λ n. omega arith in q (2 ^ d)) in
            ap (λ z. eqb (z % 2) 1) g ∙ ap (λ z. eqb z 1) k ∙ sym (ne_eqb i x (λ e. omega arith))
      ]
    ]

get_or_blank : {X : Type 0} (d : X) (n w : ℕ) → get_or (replicate n d) w d ≡ d
get_or_blank d zero w = refl
get_or_blank d (suc n) zero = refl
get_or_blank d (suc n) (suc w) = get_or_blank d n w

module _ {X : Type 0} (d : X) (xs : List X) (n m w : ℕ) (e : length xs ≡ n) where
  -- a table whose first entries are xs, and whose others are blank
  ahead_of_blank : w < n → get_or (xs ++ drop n (replicate m d)) w d ≡ get_or xs w d
  ahead_of_blank h = get_or-append xs (drop n (replicate m d)) d w (omega arith)

  behind_is_blank : n ≤ w → get_or (xs ++ drop n (replicate m d)) w d ≡ d
  behind_is_blank h = get_or-append_right xs (drop n (replicate m d)) n w d e h ∙ get_or-drop n (replicate m d) (w - n) d ∙ get_or_blank d m (n + (w - n))

pub first_are_driven : (ds : List Bool) (k n m w : ℕ) → ds ≡ replicate k true → k ≡ n → driven_by (ds ++ drop n (replicate m false)) w ≡ ltb w n
first_are_driven ds k n m w e q =
    let l : length ds ≡ n = ap length e ∙ length-replicate k true ∙ q in
    elim (cases_lt w n) [
      | inl h ↦
          let h2 : w < k = omega arith in
          ahead_of_blank false ds n m w l h ∙ ap (λ z. get_or z w false) e ∙ get_or-replicate k w true false h2 ∙ sym (lt-ltb w n h)
      | inr h ↦ behind_is_blank false ds n m w l h ∙ sym (le-ltb w n h)
    ]

pub first_reach : (xs : List ℕ) (n m : ℕ) → length xs ≡ n → ((j : ℕ) → j < n → get_or xs j 0 ≡ 2 ^ j) → (w x : ℕ) → reaches (xs ++ drop n (replicate m 0)) w x ≡ (ltb w n && eqb w x)
first_reach xs n m e h w x =
    elim (cases_lt w n) [
      | inl l ↦ ap (λ z. bit z x) (ahead_of_blank 0 xs n m w e l ∙ h w l) ∙ pow_bit w x ∙ ap (λ b. b && eqb w x) (sym (lt-ltb w n l))
      | inr l ↦ ap (λ z. bit z x) (behind_is_blank 0 xs n m w e l) ∙ bit_zero x ∙ ap (λ b. b && eqb w x) (sym (le-ltb w n l))
    ]
