-- A board's count fits in 32 bits, with room.
use Rattle.std.proofs.Common.{◌*◌, ◌≤◌, List, mul-le-mul_left, arith}
use Rattle.signal.specs.Kinds.{Kind}
use Rattle.rules.specs.Boards.{Design, depth, places}
use Rattle.rules.specs.Sound.{Sound}
use Rattle.flat.specs.Passes.{step_of}
use Rattle.flat.proofs.Count.{counts}

pub step_small : {V : Type 0} (K : Kind V) (d : Design) → Sound d → places d ≤ 65535 → depth d ≤ 8 → (ins cs : List V) → (step_of K d ins cs).count ≤ 524280
step_small {V} K d sound p l ins cs =
    let a = (counts V).small K d sound ins cs in
    let b : places d * depth d ≤ places d * 8 = mul-le-mul_left (places d) l in
    omega arith
