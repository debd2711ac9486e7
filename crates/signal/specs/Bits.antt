-- Bits: a bit admits itself, in every situation.
use Rattle.std.specs.Prelude.{Bool, true, false, cond, not, ◌&&◌, ◌||◌, Some}
use Rattle.std.specs.Bool.{beq}
use Rattle.signal.specs.Kinds.{Kind, differ}

abbrev pub bits : Kind Bool
bits = record {
  letter = 66;
  low = false;
  high = true;
  not = not;
  and = ◌&&◌;
  or = ◌||◌;
  xor = differ;
  pick = cond;
  told = Some;
  admits = λ v s b. beq v b;
}
