-- Marks over any kind: a value below and a set of marks. It admits both bits where the situation has one of its
-- marks, and otherwise what the value below admits.
use Rattle.std.specs.Prelude.{ℕ, cond, ◌||◌, None, bit_or}
use Rattle.signal.specs.declared.marks.Marks.{Marks}
use Rattle.signal.specs.Kinds.{Kind}
use Rattle.signal.specs.Sets.{has, some_below, meets}

abbrev pub with_marks : {V : Type 0} → V → ℕ → Marks V
with_marks v n = record { below = v; marks = n }

-- a function of two values works below and unites the marks
abbrev pub united : {V : Type 0} → (V → V → V) → Marks V → Marks V → Marks V
united f v w = with_marks (f v.below w.below) (bit_or v.marks w.marks)

abbrev pub marked : {V : Type 0} → Kind V → Kind (Marks V)
marked k = record {
  letter = 77;
  low = with_marks k.low 0;
  high = with_marks k.high 0;
  not = λ v. with_marks (k.not v.below) v.marks;
  and = united k.and;
  or = united k.or;
  xor = united k.xor;
  pick = λ v w x. with_marks (k.pick v.below w.below x.below) (bit_or (bit_or v.marks w.marks) x.marks);
  told = λ v. cond (some_below 64 (has v.marks)) None (k.told v.below);
  admits = λ v s b. meets s.marks v.marks || k.admits v.below s b;
}
