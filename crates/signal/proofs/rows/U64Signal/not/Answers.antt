use Rattle.std.proofs.Common.{sym, arith}
use Rattle.signal.specs.Numbers.{not_rows_is}
use Rattle.signal.proofs.rows.U64Signal.not.Goals as goal

pub returns : goal.returns
returns c = sym (not_rows_is c.args.self (omega arith))
