-- Situations to try a value in, and cases that cannot be.
use Rattle.std.specs.Prelude.{◌≡◌, ℕ, ◌<◌, Bool, true, false, not, ◌↔◌, Some, None, Option, nat_lt, refl}
use Rattle.std.proofs.Common.{arith, lit<}
use Rattle.std.specs.Bool.{beq}
use Rattle.std.proofs.lemmas.Bool.{true≢false, false≢true, ltb-true}
use Rattle.signal.specs.Kinds.{Kind, Situation, Only}

pub not_both : {A : Type 0} → true ≡ false → A
not_both e = absurd (true≢false e)

pub not_both' : {A : Type 0} → false ≡ true → A
not_both' e = absurd (false≢true e)

abbrev pub at_row : (r : ℕ) → r < 64 → Situation
at_row r h = record { row = r; row_small = h; marks = λ m. false; marks_small = λ m e. not_both' e }

abbrev pub row_0 : Situation
row_0 = at_row 0 (lit< tt)

abbrev pub all_marks : Situation
all_marks = record { row = 0; row_small = lit< tt; marks = λ m. nat_lt m 64; marks_small = λ m e. ltb-true m 64 e }

pub same_some : (a b : Bool) → Some a ≡ Some b → a ≡ b
same_some a b e = cc

pub never_some : {A : Type 0} (b : Bool) → None ≡ Some b → A
never_some b e = cc

pub beq_self : (a : Bool) → beq a a ≡ true
beq_self a = grind arith

pub beq_not : (a : Bool) → beq a (not a) ≡ false
beq_not a = grind arith

pub beq_is : (a b : Bool) → beq a b ≡ true → a ≡ b
beq_is a b h = grind arith

-- where no bit stands alone in every situation, none is told
pub none_otherwise : {V : Type 0} (k : Kind V) (v : V)
    → ((b : Bool) → (k.told v ≡ Some b) ↔ ((s : Situation) → Only k v s b))
    → ((b : Bool) → ((s : Situation) → Only k v s b) → ⊥) → k.told v ≡ None
none_otherwise {V} k v right never = go (k.told v) refl
  where
    go : (o : Option Bool) → k.told v ≡ o → o ≡ None
    go (Some b) e = absurd (never b ((right b).0 e))
    go None e = refl
