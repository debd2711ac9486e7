use Rattle.std.proofs.Common.{◌≡◌, ◌+◌, map, length, get_or, drop}
use Rattle.flat.specs.Windows.{writes}
use Rattle.walk.proofs.windows.hand_up.Given as goal

abbrev pub invariant-loop-pin : goal.invariant-loop-pin
invariant-loop-pin g l =
    let K = g.K.Signal.kind in
    let k = length l.yielded in
    writes K l.to (drop k l.pins) (map (λ w. get_or l.work (l.base + w) K.low) (drop k l.outs)) l.work ≡ writes K l.to l.pins (map (λ w. get_or l.initial.work (l.base + w) K.low) l.outs) l.initial.work
