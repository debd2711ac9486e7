use Rattle.std.proofs.Common.{sym, arith}
use Rattle.std.proofs.lemmas.Bool.{ne_eqb}
use Rattle.signal.specs.Sets.{some_below, each_below}
use Rattle.signal.specs.Numbers.{any_is, every_is}
use Rattle.signal.proofs.rows.U64Signal.told.Goals as goal

pub returns-in-0 : goal.returns-in-0
unfolding some_below each_below
returns-in-0 c = rw c.in-0.is

pub returns-in-18446744073709551615 : goal.returns-in-18446744073709551615
unfolding some_below each_below
returns-in-18446744073709551615 c = rw c.in-18446744073709551615.is

pub returns-in_default : goal.returns-in_default
returns-in_default c =
    let v = c.args.self in
    let e = sym (every_is v (omega arith)) in
    let s = sym (any_is v (omega arith)) in
    rw (e, s, ne_eqb v 0xffff_ffff_ffff_ffff (λ q. omega arith), ne_eqb v 0 (λ q. omega arith))
