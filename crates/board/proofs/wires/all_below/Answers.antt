use Rattle.std.proofs.Common.{ltb, ◌∙◌, rules, tests}
use Rattle.std.proofs.lemmas.Iterator.{YieldsList-from_slice}
use Rattle.std.proofs.lemmas.Iterator.Search.{all_from_yields_List}
use Rattle.board.proofs.Chains.{all_is}
use Rattle.board.proofs.wires.all_below.Goals as goal

pub returns : goal.returns
returns c = all_from_yields_List (λ w. ltb w c.args.limit) _ _ c.all.result c.all.ensures.ran (YieldsList-from_slice c.args.pins.now cc) (λ x b q k. search (rules, tests)) ∙ all_is _ c.args.pins.now
