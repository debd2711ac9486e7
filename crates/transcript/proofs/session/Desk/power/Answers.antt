use Rattle.std.proofs.Common.{◌∙◌}
use Rattle.std.proofs.lemmas.List.{with_items_is}
use Rattle.transcript.proofs.Desking.{fresh}
use Rattle.transcript.proofs.session.Desk.power.Goals as goal

pub returns : goal.returns
returns g c =
    let cs = c.power.new.cells in
    let cells = with_items_is c.in_ok-cells.cells cs (c.power.auto.cells ∙ c.as_mut_slice.ensures.len) in
    let start = rw c.unwrap-run.ensures at c.power.ensures.start in
    let memory = rw c.unwrap-run.ensures at c.power.ensures.memory in
    fresh g.K.Signal.kind c.args.board.now _ cs _ start memory cells
