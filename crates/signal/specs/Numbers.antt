-- The bits of a conjunction, a disjunction, a difference and a complement; numbers with no bit and with every bit.
use Rattle.std.specs.Prelude.{◌≡◌, ℕ, zero, suc, ◌-◌, ◌*◌, ◌/◌, ◌%◌, ◌^◌, ◌<◌, Bool, true, false, not, ◌&&◌, ◌||◌, ◌⊎◌, ◌==◌, bit_and, bit_or, bit_xor, nat_eq, refl}
use Rattle.std.proofs.Common.{sym, ◌∙◌, ap, inl, inr, one-add, arith}
use Rattle.std.specs.Int.Bits.{xor_add_and}
use Rattle.std.proofs.lemmas.Nat.{mod_below, shr_below, pow_pos, shr_split, and_shr, or_shr, xor_shr, and_mod, or_mod, xor_mod, and_mask, xor_lt}
use Rattle.std.proofs.lemmas.Bool.Decides.{nat_tests}
use Rattle.std.proofs.lemmas.Bool.{and_parts, or_parts, cases_Bool, eq-eqb, ne_eqb}
use Rattle.signal.specs.Kinds.{differ}
use Rattle.signal.specs.Sets.{has, some_below, each_below}
use Rattle.signal.specs.Rows.{not_rows}
use Rattle.signal.specs.Situations.{not_both}

-- f on numbers works as g does on their bits
module _ (f : ℕ → ℕ → ℕ) (g : Bool → Bool → Bool) where
  abbrev OnDigit : ℕ → ℕ → Type 0
  OnDigit p q = (f p q == 1) ≡ g (p == 1) (q == 1)

  on_digits : OnDigit 0 0 → OnDigit 0 1 → OnDigit 1 0 → OnDigit 1 1 → (p q : ℕ) → p < 2 → q < 2 → OnDigit p q
  on_digits a b c d zero zero h k = a
  on_digits a b c d zero (suc zero) h k = b
  on_digits a b c d (suc zero) zero h k = c
  on_digits a b c d (suc zero) (suc zero) h k = d
  on_digits a b c d zero (suc (suc q)) h k = absurd (omega arith)
  on_digits a b c d (suc zero) (suc (suc q)) h k = absurd (omega arith)
  on_digits a b c d (suc (suc p)) q h k = absurd (omega arith)

  by_bits : ((a b k : ℕ) → f a b / 2 ^ k ≡ f (a / 2 ^ k) (b / 2 ^ k))
      → ((a b k : ℕ) → f a b % 2 ^ k ≡ f (a % 2 ^ k) (b % 2 ^ k))
      → ((p q : ℕ) → p < 2 → q < 2 → OnDigit p q)
      → (a b k : ℕ) → has (f a b) k ≡ g (has a k) (has b k)
  by_bits shift rest digit a b k =
      let p = a / 2 ^ k in
      let q = b / 2 ^ k in
      ap (λ n. nat_eq (n % 2) 1) (shift a b k) ∙ ap (λ n. nat_eq n 1) (rest p q 1) ∙ digit (p % 2) (q % 2) (omega arith) (omega arith)

pub has_and : (a b k : ℕ) → has (bit_and a b) k ≡ (has a k && has b k)
has_and = by_bits bit_and ◌&&◌ and_shr and_mod (on_digits bit_and ◌&&◌ refl refl refl refl)

pub has_or : (a b k : ℕ) → has (bit_or a b) k ≡ (has a k || has b k)
has_or = by_bits bit_or ◌||◌ or_shr or_mod (on_digits bit_or ◌||◌ refl refl refl refl)

pub has_xor : (a b k : ℕ) → has (bit_xor a b) k ≡ differ (has a k) (has b k)
has_xor = by_bits bit_xor differ xor_shr xor_mod (on_digits bit_xor differ refl refl refl refl)

-- below a bound: the last number, or an earlier one
last : (k n : ℕ) → k < suc n → (k < n) ⊎ (k ≡ n)
last k n h = grind arith

pub none_at : (n : ℕ) (p : ℕ → Bool) → some_below n p ≡ false → (k : ℕ) → k < n → p k ≡ false
unfolding some_below
none_at zero p h k l = absurd (omega arith)
none_at (suc n) p h k l =
    let both = or_parts (some_below n p) (p n) h in
    elim (last k n l) [ inl m ↦ none_at n p both.0 k m | inr e ↦ ap p e ∙ both.1 ]

pub each_at : (n : ℕ) (p : ℕ → Bool) → each_below n p ≡ true → (k : ℕ) → k < n → p k ≡ true
unfolding each_below
each_at zero p h k l = absurd (omega arith)
each_at (suc n) p h k l =
    let both = and_parts (each_below n p) (p n) h in
    elim (last k n l) [ inl m ↦ each_at n p both.0 k m | inr e ↦ ap p e ∙ both.1 ]

pub none_all : (n : ℕ) (p : ℕ → Bool) → ((k : ℕ) → k < n → p k ≡ false) → some_below n p ≡ false
unfolding some_below
none_all zero p h = refl
none_all (suc n) p h = rw (none_all n p (λ k l. h k (omega arith)), h n (omega arith))

pub each_all : (n : ℕ) (p : ℕ → Bool) → ((k : ℕ) → k < n → p k ≡ true) → each_below n p ≡ true
unfolding each_below
each_all zero p h = refl
each_all (suc n) p h = rw (each_all n p (λ k l. h k (omega arith)), h n (omega arith))

-- a number below 2 ^ n with no bit below n is 0
small_bit : (q : ℕ) → q < 2 → (q % 2 == 1) ≡ false → q ≡ 0
small_bit q h e = grind (arith, nat_tests)

no_bits : (n v : ℕ) → v < 2 ^ n → some_below n (has v) ≡ false → v ≡ 0
unfolding some_below
no_bits zero v h e = omega arith
no_bits (suc n) v h e =
    let both = or_parts (some_below n (has v)) (has v n) e in
    let top : v / 2 ^ n ≡ 0 = small_bit (v / 2 ^ n) (shr_below v 1 n (rw one-add h)) both.1 in
    let rest : v < 2 ^ n = omega (arith, shr_split v n, ap (λ (q : ℕ). q * 2 ^ n) top, mod_below v (2 ^ n) (pow_pos n)) in
    no_bits n v rest both.0

-- 0 has no bit, and the greatest number has each
pub none : (k : ℕ) → k < 64 → has 0 k ≡ false
unfolding some_below
none = none_at 64 (has 0) refl

pub full : (k : ℕ) → k < 64 → has 0xffff_ffff_ffff_ffff k ≡ true
unfolding each_below
full = each_at 64 (has 0xffff_ffff_ffff_ffff) refl

-- the complement, by its bits and as the program computes it
differ_true : (a : Bool) → differ a true ≡ not a
differ_true a = grind arith

pub has_not : (v k : ℕ) → k < 64 → has (not_rows v) k ≡ not (has v k)
has_not v k h = has_xor v 0xffff_ffff_ffff_ffff k ∙ ap (differ (has v k)) (full k h) ∙ differ_true (has v k)

pub not_rows_is : (v : ℕ) → v < 2 ^ 64 → not_rows v ≡ 0xffff_ffff_ffff_ffff - v
not_rows_is v h = omega (arith, xor_add_and v 0xffff_ffff_ffff_ffff, and_mask v 64)

all_bits : (v : ℕ) → v < 2 ^ 64 → each_below 64 (has v) ≡ true → v ≡ 0xffff_ffff_ffff_ffff
all_bits v h e =
    let none_left : not_rows v ≡ 0 = no_bits 64 (not_rows v) (xor_lt 64 v 0xffff_ffff_ffff_ffff h (omega arith)) (none_all 64 (has (not_rows v)) (λ k l. has_not v k l ∙ ap not (each_at 64 (has v) e k l))) in
    omega (arith, not_rows_is v h, none_left)

-- the program's comparisons
pub any_is : (v : ℕ) → v < 2 ^ 64 → not (v == 0) ≡ some_below 64 (has v)
any_is v h =
    elim (cases_Bool (some_below 64 (has v))) [
      | inl t ↦ ap not (ne_eqb v 0 (λ z. not_both (sym t ∙ ap (λ n. some_below 64 (has n)) z ∙ none_all 64 (has 0) none))) ∙ sym t
      | inr f ↦ ap not (eq-eqb v 0 (no_bits 64 v h f)) ∙ sym f
    ]

pub every_is : (v : ℕ) → v < 2 ^ 64 → (v == 0xffff_ffff_ffff_ffff) ≡ each_below 64 (has v)
every_is v h =
    elim (cases_Bool (each_below 64 (has v))) [
      | inl t ↦ eq-eqb v 0xffff_ffff_ffff_ffff (all_bits v h t) ∙ sym t
      | inr f ↦ ne_eqb v 0xffff_ffff_ffff_ffff (λ e. not_both (sym (each_all 64 (has 0xffff_ffff_ffff_ffff) full) ∙ ap (λ n. each_below 64 (has n)) (sym e) ∙ f)) ∙ sym f
    ]
