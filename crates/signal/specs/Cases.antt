-- Worked cases of the kinds.
use Rattle.std.specs.Prelude.{◌≡◌, ◌^◌, true, false}
use Rattle.signal.specs.declared.levels.Level.TheVariants.{Zero, Unknown}
use Rattle.signal.specs.Bits.{bits}
use Rattle.signal.specs.Levels.{levels}
use Rattle.signal.specs.Marked.{marked, with_marks}

pub record Cases : Type 0 where
  pub zero_and_unknown : levels.and Zero Unknown ≡ Zero
  pub unknown_xor_itself : levels.xor Unknown Unknown ≡ Unknown
  pub one_with_mark_3_and_zero : (marked bits).and (with_marks true (2 ^ 3)) (with_marks false 0) ≡ with_marks false (2 ^ 3)
