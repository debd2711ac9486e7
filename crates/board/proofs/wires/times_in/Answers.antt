use Rattle.std.proofs.Common.{eqb, ◌∙◌, rules, tests}
use Rattle.std.proofs.lemmas.Iterator.{YieldsList-from_slice}
use Rattle.std.proofs.lemmas.Iterator.Consumers.{YieldsList-from_filter, count_from_yields_List}
use Rattle.board.proofs.Chains.{times_is}
use Rattle.board.proofs.wires.times_in.Goals as goal

pub returns : goal.returns
returns c =
    count_from_yields_List _ c.count.result c.count.ensures.ran (YieldsList-from_filter _ (λ s. eqb s c.args.i) (YieldsList-from_slice c.args.states.now cc) c.filter.ensures.closure (λ x b q k. search (rules, tests)))
    ∙ times_is c.args.i c.args.states.now
