use Rattle.std.proofs.Common.{◌≡◌, ◌++◌, map, get_or, take, drop}
use Rattle.walk.proofs.windows.deliver.Given as goal

abbrev pub invariant-loop-k : goal.invariant-loop-k
invariant-loop-k g l =
    l.outputs ≡ map (λ w. get_or l.work w g.K.Signal.kind.low) (take l.k l.outs) ++ drop l.k l.initial.outputs
