use Rattle.std.proofs.Common.{get_or, sym, ap, ◌∙◌, ◌||◌, rules, tests}
use Rattle.std.proofs.lemmas.Iterator.{YieldsList-from_slice}
use Rattle.std.proofs.lemmas.Iterator.Consumers.{YieldsList-at, YieldsList-from_enumerate, YieldsList-from_filter, fold_from_yields_List}
use lib.Bits.{bit_or}
use Rattle.rules.specs.Wires.{any, picked}
use Rattle.board.specs.WireTables.{bit, reaches}
use Rattle.board.proofs.Pins.{picked_0, bit_zero}
use Rattle.board.proofs.Chains.{picked_are, joined_are}
use Rattle.board.proofs.wires.WireTable.inputs_reaching.Goals as goal

pub returns : goal.returns
returns c x =
    let t = bit c.args.through in
    let rs = c.args.self.now.reach in
    let xs = c.args.pins.now in
    ap (λ n. bit n x)
    (fold_from_yields_List _ (λ n p. bit_or n (get_or rs p.1 0)) 0 c.fold.result c.fold.ensures.ran
    (YieldsList-from_filter _ (λ p. t p.0) (YieldsList-at c.filter.ensures.source (YieldsList-from_enumerate (YieldsList-at c.enumerate.ensures.source (YieldsList-from_slice xs cc)) (cc))) c.filter.ensures.closure (λ y b q k. search (rules, tests)))
    (λ a y b q k. search (rules, tests)))
    ∙ joined_are rs x 0 _
    ∙ ap (λ l. bit 0 x || any (λ w. reaches rs w x) l) (picked_are t 0 xs ∙ sym (picked_0 t xs))
    ∙ ap (λ b. b || any (λ w. reaches rs w x) (picked t xs)) (bit_zero x)
