use Rattle.rules.proofs.Exactly.{accepted_exactly, verdict_first}
use Rattle.board.proofs.judging.judge.Goals as goal

pub returns : goal.returns
returns c = record { answer = c.judge_file.ensures; exactly = accepted_exactly c.args.file.now; first = verdict_first c.args.file.now }
