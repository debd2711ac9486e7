use Rattle.std.proofs.Common.{◌+◌, ◌<◌, ◌≤◌, false, ◌++◌, length, take, drop, set, replicate, sym, refl, ap, ◌∙◌, arith}
use Rattle.std.proofs.lemmas.List.{length-set}
use Rattle.signal.specs.Bits.{bits}
use Rattle.rules.specs.Boards.{top, cells}
use Rattle.rules.specs.Judging.{board_of}
use Rattle.walk.specs.Steps.{design_in}
use Rattle.run.specs.Calls.{run_top}
use Rattle.client.specs.Drives.{turns_from}
use Rattle.run.proofs.Starts.{begun}
use Rattle.client.proofs.Turns.{seen, once_more, all_found}
use Rattle.client.proofs.drive.drive.Goals as goal

pub loop-cycle-preserved : goal.loop-cycle-preserved
loop-cycle-preserved c =
    let inv = c.loop-cycle.invariant in
    let k = c.loop-cycle.cycle in
    let rows = c.args.switches.now in
    let turns = c.loop-cycle.turns in
    let v = c.in_ok-turns.field-0 in
    let d = run_top c.loop-cycle.run in
    let stepped = c.in_ok-step.ensures in
    let same = ap design_in stepped.board in
    let few : k < length turns = omega (arith, inv.4, c.loop-cycle-test.true) in
    let fewer : k < length rows = omega (arith, c.told-switches, c.loop-cycle-test.true) in
    let found = seen d _ _ _ _ _ k _ v same inv.6 stepped.step c.in_ok-turns.ensures in
    (c.step.auto.cells ∙ inv.0, c.step.auto.tape ∙ inv.1, c.step.auto.work ∙ inv.2, c.step.auto.levels ∙ inv.3, length-set turns k v ∙ inv.4, same ∙ inv.5, stepped.step.outcome.cycle ∙ ap (λ n. n + 1) inv.6, ap (λ e. take (k + 1) (set turns k v) ++ turns_from e c.step.new.cells (drop (k + 1) rows)) same ∙ once_more d rows turns c.loop-cycle.cells c.step.new.cells _ _ k v few fewer refl found stepped.step.outcome.cells ∙ inv.7)

pub returns : goal.returns
returns c =
    let judged = c.in_ok-judged.ensures.answer in
    let start = c.in_ok-run.ensures in
    let board = ap (λ j. top (board_of j.file.now)) c.seal-board.ensures ∙ ap (λ f. top (board_of f)) judged.1.file in
    let design = ap design_in start.memory ∙ board in
    let low = (begun bits (design_in c.seal-board.result) c.power.new.cells _ _ start.start).0 ∙ ap (λ d. replicate (cells d) false) board in
    let rows = c.args.switches.now in
    let inv = c.loop-cycle.invariant in
    let few : length c.loop-cycle.turns ≤ c.loop-cycle.cycle = omega (arith, inv.4, c.loop-cycle-test.false) in
    let fewer : length rows ≤ c.loop-cycle.cycle = omega (arith, c.told-switches, c.loop-cycle-test.false) in
    record {
      told = sym judged.0;
      turns = sym (all_found (run_top c.loop-cycle.run) rows c.loop-cycle.turns c.loop-cycle.cells c.loop-cycle.cycle few fewer) ∙ inv.7 ∙ ap (λ d. turns_from d c.power.new.cells rows) design ∙ ap (λ xs. turns_from (top (board_of c.args.file.now)) xs rows) low;
    }
