use Rattle.std.proofs.Common.{◌≡◌, length, take, drop}
use Rattle.transcript.specs.Lines.{values_of}
use Rattle.transcript.proofs.Cutting.{behind}
use Rattle.transcript.proofs.reading.parse_line.Given as goal

abbrev pub invariant-loop-at : goal.invariant-loop-at
invariant-loop-at g l =
    (length l.inputs ≡ length l.line) × (values_of g.K.Signal.kind g.K.WithUnknown.blank l.line ≡ behind (take l.at l.inputs) (values_of g.K.Signal.kind g.K.WithUnknown.blank (drop l.at l.line)))
