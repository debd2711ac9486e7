use Rattle.std.proofs.Common.{map, take}
use Rattle.std.specs.Fmt.{HasWritten, IsPlainFormatter}
use Rattle.transcript.specs.Printed.{output_character}
use Rattle.transcript.proofs.printing.OutputsDisplay.fmt.Given as goal

abbrev pub invariant-loop-output : goal.invariant-loop-output
invariant-loop-output g l =
    IsPlainFormatter l.initial.f → HasWritten g.W.Write.write_str_gives l.initial.f (map (λ w. output_character (g.K.Signal.kind.told w)) (take l.output-index l.output-items)) l.f
