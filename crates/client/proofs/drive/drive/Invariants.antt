use Rattle.std.proofs.Common.{◌≡◌, ◌++◌, length, take, drop}
use Rattle.run.specs.Calls.{run_top}
use Rattle.client.specs.Drives.{turns_from}
use Rattle.client.proofs.drive.drive.Given as goal

-- the arrays keep their lengths; the run stands on its board, at the cycle that is counted; what is found so far and what
-- is left gives the whole
abbrev pub invariant-loop-cycle : goal.invariant-loop-cycle
invariant-loop-cycle l =
    (length l.cells ≡ 1) × (length l.tape ≡ 6) × (length l.work ≡ 1024) × (length l.levels ≡ 8) × (length l.turns ≡ 3) × (run_top l.run ≡ run_top l.initial.run) × (l.run.cycle ≡ l.cycle) × (take l.cycle l.turns ++ turns_from (run_top l.run) l.cells (drop l.cycle l.switches) ≡ turns_from (run_top l.initial.run) l.initial.cells l.switches)
