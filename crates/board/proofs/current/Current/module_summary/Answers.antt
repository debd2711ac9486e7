use Rattle.std.proofs.Common.{◌+◌, ap, arith}
use Rattle.rules.specs.Boards.{present}
use Rattle.rules.proofs.Verdicts.{asked_no}
use Rattle.rules.proofs.Modules.{seen_low, seen_high}
use Rattle.board.specs.Current.{file_under}
use Rattle.board.proofs.current.Current.module_summary.Goals as goal
use Rattle.board.proofs.current.Current.module_summary.Goals.{then-number-self-via-then-number-self, then-number-self-via-else-number-self+then-number-self-2}

pub returns-then-number-self : goal.returns-then-number-self
returns-then-number-self c =
    let o = c.args.self.now in
    elim c.then-number-self.branch [
      | then-number-self-via-then-number-self w ↦ asked_no _ _ (ap present (seen_low (file_under o) (o.number + 1) c.args.number (omega arith)))
      | then-number-self-via-else-number-self+then-number-self-2 w ↦ asked_no _ _ (ap present (seen_high (file_under o) (o.number + 1) c.args.number (omega (arith, o.behind.count)) (omega (arith, o.behind.count))))
    ]
