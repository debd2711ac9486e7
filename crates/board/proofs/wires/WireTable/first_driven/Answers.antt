use Rattle.std.proofs.Common.{Bool, take, ◌∙◌, rules, tests, arith}
use Rattle.std.proofs.lemmas.Iterator.{YieldsList-from_slice}
use Rattle.std.proofs.lemmas.Iterator.Search.{all_from_yields_List}
use Rattle.board.proofs.Chains.{every_taken}
use Rattle.board.proofs.wires.WireTable.first_driven.Goals as goal

pub returns : goal.returns
returns c =
    all_from_yields_List (λ (d : Bool). d) _ _ c.all.result c.all.ensures.ran (YieldsList-from_slice (take c.args.count c.args.self.now.driven) (grind arith)) (λ x b q k. search (rules, tests))
    ∙ every_taken c.args.count c.args.self.now.driven (omega arith)
