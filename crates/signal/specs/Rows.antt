-- Rows: a 64-bit number, whose bit r is the bit that it admits in row r.
use Rattle.std.specs.Prelude.{ℕ, Bool, true, false, cond, Some, None, Option, bit_and, bit_or, bit_xor}
use Rattle.std.specs.Bool.{beq}
use Rattle.signal.specs.Kinds.{Kind}
use Rattle.signal.specs.Sets.{has, some_below, each_below}

abbrev pub not_rows : ℕ → ℕ
not_rows v = bit_xor v 0xffff_ffff_ffff_ffff

abbrev pub told_rows : ℕ → Option Bool
told_rows v = cond (each_below 64 (has v)) (Some true) (cond (some_below 64 (has v)) None (Some false))

abbrev pub rows : Kind ℕ
rows = record {
  letter = 82;
  low = 0;
  high = 0xffff_ffff_ffff_ffff;
  not = not_rows;
  and = bit_and;
  or = bit_or;
  xor = bit_xor;
  pick = λ select first second. bit_or (bit_and select first) (bit_and (not_rows select) second);
  told = told_rows;
  admits = λ v s b. beq (has v s.row) b;
}
