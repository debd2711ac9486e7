use Rattle.std.proofs.Common.{arith, rules}
use Rattle.walk.proofs.Bytes.{few_modules, few_occurrences}
use Rattle.walk.proofs.reading.Module.first_cell.Goals as goal

pub offset_bounds-self-self : goal.offset_bounds-self-self
offset_bounds-self-self c = let h = few_modules c.args.self in search rules

pub bounds-self-self : goal.bounds-self-self
bounds-self-self c = few_modules c.args.self

pub offset_bounds-self-i : goal.offset_bounds-self-i
offset_bounds-self-i c = let h = few_occurrences c.args.self in search rules

pub bounds-self-i : goal.bounds-self-i
bounds-self-i c = omega (arith, few_occurrences c.args.self, c.requires)
