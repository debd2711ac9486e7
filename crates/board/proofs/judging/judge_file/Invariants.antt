use Rattle.std.proofs.Common.{◌≡◌, length, drop}
use Rattle.rules.specs.Refusals.{accepted}
use Rattle.rules.specs.Judging.{units_of, modules_judged}
use Rattle.board.specs.Summaries.{JudgedFrom, file_of}
use Rattle.board.specs.Tallies.{StartedFrom}
use Rattle.board.proofs.judging.judge_file.Given as goal

abbrev pub invariant-loop-k : goal.invariant-loop-k
invariant-loop-k l =
    (file_of l.b ≡ l.file)
    × (length l.b.summaries ≡ 64)
    × JudgedFrom l.b l.k
    × (modules_judged l.k (drop l.k (units_of l.file)) ≡ accepted)
    × (length l.b.starts ≡ 64)
    × StartedFrom l.b l.k
