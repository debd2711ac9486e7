-- Rows keep the rules of a kind.
use Rattle.std.specs.Prelude.{◌≡◌, ℕ, ◌<◌, Bool, true, false, cond, not, ◌&&◌, ◌||◌, ◌↔◌, Some, None, bit_and, bit_or, bit_xor, refl}
use Rattle.std.proofs.Common.{sym, ◌∙◌, ap, ap₂, arith, lit<}
use Rattle.signal.specs.Kinds.{Lawful, Situation, differ, Settled, Only, Admits}
use Rattle.signal.specs.Sets.{has, some_below, each_below}
use Rattle.signal.specs.Rows.{rows, told_rows, not_rows}
use Rattle.signal.specs.Situations.{row_0, at_row, not_both, not_both', beq_self, beq_not, beq_is, none_otherwise}
use Rattle.signal.specs.Numbers.{has_and, has_or, has_xor, has_not, full, none, none_at, each_at, none_all, each_all}

-- a row of a number admits its bit alone
one_bit : (v : ℕ) (s : Situation) (b : Bool) → has v s.row ≡ b → Only rows v s b
one_bit v s b e = rw e (beq_self b, beq_not b)

bit_is : (v : ℕ) (s : Situation) (b : Bool) → Admits rows v s b → has v s.row ≡ b
bit_is v s b h = beq_is (has v s.row) b h

settled : (v : ℕ) (s : Situation) → Settled rows v s
settled v s = (has v s.row, one_bit v s _ refl)

pick_bit : (a b c : Bool) → ((a && b) || (not a && c)) ≡ cond a b c
pick_bit a b c = grind arith

has_pick : (v w x k : ℕ) → k < 64 → has (rows.pick v w x) k ≡ cond (has v k) (has w k) (has x k)
has_pick v w x k h =
    has_or (bit_and v w) (bit_and (not_rows v) x) k
    ∙ ap₂ ◌||◌ (has_and v w k) (has_and (not_rows v) x k ∙ ap (λ b. b && has x k) (has_not v k h))
    ∙ pick_bit (has v k) (has w k) (has x k)

-- what is told, by cases on whether each bit is 1 and whether some bit is
told_cases : (v : ℕ) (e s b : Bool) → each_below 64 (has v) ≡ e → some_below 64 (has v) ≡ s → (cond e (Some true) (cond s None (Some false)) ≡ Some b) ↔ ((r : Situation) → Only rows v r b)
told_cases v true s true p q = (λ t r. one_bit v r true (each_at 64 (has v) p r.row r.row_small), λ h. refl)
told_cases v true s false p q = (λ t. cc, λ h. not_both (sym (each_at 64 (has v) p 0 (lit< tt)) ∙ bit_is v row_0 _ (h row_0).0))
told_cases v false true true p q = (λ t. cc, λ h. not_both' (sym p ∙ each_all 64 (has v) (λ k l. bit_is v (at_row k l) _ (h (at_row k l)).0)))
told_cases v false true false p q = (λ t. cc, λ h. not_both (sym q ∙ none_all 64 (has v) (λ k l. bit_is v (at_row k l) _ (h (at_row k l)).0)))
told_cases v false false true p q = (λ t. cc, λ h. not_both' (sym (none_at 64 (has v) q 0 (lit< tt)) ∙ bit_is v row_0 _ (h row_0).0))
told_cases v false false false p q = (λ t r. one_bit v r false (none_at 64 (has v) q r.row r.row_small), λ h. refl)

told_bit : (v : ℕ) (b : Bool) → (told_rows v ≡ Some b) ↔ ((s : Situation) → Only rows v s b)
told_bit v b = told_cases v _ _ b refl refl

pub rows_lawful : Lawful rows
rows_lawful = record {
  some_bit = λ v s. (has v s.row, beq_self (has v s.row));
  low_only = λ s. one_bit 0 s false (none s.row s.row_small);
  high_only = λ s. one_bit 0xffff_ffff_ffff_ffff s true (full s.row s.row_small);
  not_follows = λ s v a h. (one_bit (not_rows v) s (not a) (has_not v s.row s.row_small ∙ ap not (bit_is v s a h))).0;
  and_follows = λ s v w a b h k. (one_bit (bit_and v w) s (a && b) (has_and v w s.row ∙ rw (bit_is v s a h, bit_is w s b k))).0;
  or_follows = λ s v w a b h k. (one_bit (bit_or v w) s (a || b) (has_or v w s.row ∙ rw (bit_is v s a h, bit_is w s b k))).0;
  xor_follows = λ s v w a b h k. (one_bit (bit_xor v w) s (differ a b) (has_xor v w s.row ∙ rw (bit_is v s a h, bit_is w s b k))).0;
  pick_follows = λ s v w x a b c h k l. (one_bit (rows.pick v w x) s (cond a b c) (has_pick v w x s.row s.row_small ∙ rw (bit_is v s a h, bit_is w s b k, bit_is x s c l))).0;
  not_settles = λ s v h. settled _ s;
  and_settles = λ s v w h k. settled _ s;
  or_settles = λ s v w h k. settled _ s;
  xor_settles = λ s v w h k. settled _ s;
  pick_settles = λ s v w x h k l. settled _ s;
  told_bit = told_bit;
  told_none = λ v. none_otherwise rows v (told_bit v);
}
