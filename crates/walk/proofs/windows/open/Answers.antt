use Rattle.std.proofs.Common.{◌≡◌, ◌+◌, ◌-◌, length, get_or, ap, ◌∙◌, arith}
use borrow.Rule.Slice.PartMut.{put_mid}
use Rattle.walk.proofs.Values.{mid_below, lowered}
use Rattle.walk.proofs.windows.open.Goals as goal

pub returns : goal.returns
returns g c =
    let low = g.K.Signal.kind.low in
    let ws = c.loop-k.work in
    let a = c.args.child + length c.args.ins.now in
    let n = c.args.child + c.args.wires - a in
    let out = c.lower.new.wires in
    record {
      given = λ k h. mid_below ws out a n (c.args.child + k) low (omega (arith, c.requires.fits)) (omega arith) ∙ c.loop-k.invariant.0 k (omega arith);
      rest = λ k h l.
          let z : c.args.child + k ≡ a + (k - length c.args.ins.now) = omega arith in
          ap (λ i. get_or (put_mid a n ws out) i low) z ∙ lowered low ws out a n (k - length c.args.ins.now) (omega (arith, c.requires.fits)) c.lower.ensures (omega arith);
      others = λ k h. mid_below ws out a n k low (omega (arith, c.requires.fits)) (omega arith) ∙ c.loop-k.invariant.1 k h;
    }
