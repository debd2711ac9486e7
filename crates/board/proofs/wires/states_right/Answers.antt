use Rattle.std.proofs.Common.{◌≡◌, ℕ, ◌&&◌, Bool, true, eqb, ltb, get_or, take, ap, ◌∙◌, rules, tests, arith}
use Rattle.std.proofs.lemmas.Iterator.{YieldsList-from_slice}
use Rattle.std.proofs.lemmas.Iterator.Consumers.{YieldsList-at, YieldsList-from_enumerate}
use Rattle.std.proofs.lemmas.Iterator.Search.{all_from_yields_List}
use Rattle.rules.specs.Wires.{all, every, times}
use Rattle.rules.specs.Judging.{times_due}
use Rattle.board.proofs.Chains.{every_numbered}
use Rattle.board.proofs.wires.states_right.Goals as goal

pub returns-then-all_below : goal.returns-then-all_below
returns-then-all_below c =
    let xs = c.args.states.now in
    let f : ℕ → ℕ → Bool = λ i size. eqb (times i xs) (times_due size) in
    let a : true ≡ all (λ w. ltb w c.args.count) xs = c.if-all_below.ensures in
    all_from_yields_List (λ p. f p.0 p.1) _ _ c.all.result c.all.ensures.ran (YieldsList-from_enumerate (YieldsList-at c.enumerate.ensures.source (YieldsList-from_slice (take c.args.count c.args.sizes.now) (grind arith))) (cc)) (λ x b q k. search (rules, tests))
    ∙ every_numbered f 0 c.args.count c.args.sizes.now (omega arith)
    ∙ ap (λ b. b && every c.args.count (λ i. f i (get_or c.args.sizes.now i 0))) a
