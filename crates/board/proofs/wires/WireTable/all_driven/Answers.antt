use Rattle.std.proofs.Common.{ℕ, sym, ap, ◌∙◌, rules, tests}
use Rattle.std.proofs.lemmas.Iterator.{YieldsList-from_slice}
use Rattle.std.proofs.lemmas.Iterator.Consumers.{YieldsList-at, YieldsList-from_enumerate, YieldsList-from_filter}
use Rattle.std.proofs.lemmas.Iterator.Search.{all_from_yields_List}
use Rattle.std.proofs.lemmas.List.Folds.{list_all-map}
use Rattle.rules.specs.Wires.{all}
use Rattle.board.specs.WireTables.{bit, driven_by}
use Rattle.board.proofs.Pins.{picked_0}
use Rattle.board.proofs.Chains.{all_is, picked_are}
use Rattle.board.proofs.wires.WireTable.all_driven.Goals as goal

pub returns : goal.returns
returns c =
    let t = bit c.args.through in
    let dr = driven_by c.args.self.now.driven in
    let xs = c.args.pins.now in
    all_from_yields_List (λ (p : ℕ × ℕ). dr p.1) _ _ c.all.result c.all.ensures.ran
    (YieldsList-from_filter _ (λ p. t p.0) (YieldsList-at c.filter.ensures.source (YieldsList-from_enumerate (YieldsList-at c.enumerate.ensures.source (YieldsList-from_slice xs cc)) (cc))) c.filter.ensures.closure (λ x b q k. search (rules, tests)))
    (λ x b q k. search (rules, tests))
    ∙ sym (list_all-map dr (λ (p : ℕ × ℕ). p.1) _)
    ∙ all_is dr _
    ∙ ap (all dr) (picked_are t 0 xs ∙ sym (picked_0 t xs))
