use Rattle.std.proofs.Common.{◌≡◌, ◌++◌, length, string_bytes}
use Rattle.transcript.specs.Desks.{design_of, run_of}
use Rattle.transcript.specs.Lines.{lines_of}
use Rattle.transcript.specs.Sessions.{answers}
use Rattle.transcript.proofs.session.Desk.converse.Given as goal

abbrev pub invariant-loop-rest : goal.invariant-loop-rest
invariant-loop-rest g l =
    (design_of l.self ≡ design_of l.initial.self) × (string_bytes l.text ++ answers g.K.Signal.kind g.K.WithUnknown.blank (design_of l.self) (run_of l.self) (lines_of l.rest) ≡ string_bytes l.initial.text ++ answers g.K.Signal.kind g.K.WithUnknown.blank (design_of l.initial.self) (run_of l.initial.self) (lines_of l.initial.rest))

abbrev pub decreases-loop-rest : goal.decreases-loop-rest
decreases-loop-rest g l = length l.rest
