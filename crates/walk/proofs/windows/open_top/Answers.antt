use Rattle.std.proofs.Common.{◌≡◌, ◌+◌, ◌-◌, ◌++◌, length, get_or, drop, ap, ◌∙◌, arith, length-append, length-drop}
use borrow.Rule.Slice.PartMut.{put_mid}
use Rattle.walk.proofs.Values.{lowered}
use Rattle.walk.proofs.windows.open_top.Goals as goal

pub returns-clause-rest : goal.returns-clause-rest
returns-clause-rest g c =
    let low = g.K.Signal.kind.low in
    let a = length c.args.inputs.now in
    let n = c.args.wires - a in
    let ws = c.copy_from_slice.new.self ++ drop a c.args.work.now in
    let out = c.lower.new.wires in
    λ k h l.
    let z : k ≡ a + (k - a) = omega arith in
    ap (λ i. get_or (put_mid a n ws out) i low) z ∙ lowered low ws out a n (k - a) (omega (arith, length-append c.copy_from_slice.new.self (drop a c.args.work.now), length-drop a c.args.work.now, c.copy_from_slice.ensures.len, c.requires.fits)) c.lower.ensures (omega arith)
