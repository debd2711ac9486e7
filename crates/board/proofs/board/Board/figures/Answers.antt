use Rattle.std.proofs.Common.{sym, ◌∙◌, arith}
use lib.ListN.{length-map}
use Rattle.rules.specs.Records.{end_of, module_count}
use Rattle.rules.specs.Judging.{module_of, units_of}
use Rattle.rules.proofs.Modules.{length_units}
use Rattle.board.proofs.board.Board.figures.Goals as goal

pub returns : goal.returns
returns c =
    let f = c.args.self.now.judged.file.now in
    let a = c.args.self.now.accepted in
    let found = a.judged.summaries 0 (omega arith) a.judged.some in
    let q = c.figures_of.ensures in
    record {
      modules = q.modules_is ∙ a.judged.count ∙ sym (length-map (units_of f) module_of ∙ length_units f (end_of f 0) (module_count f));
      inputs = q.inputs ∙ found.inputs;
      outputs = q.outputs ∙ found.outputs;
      cells = q.cells ∙ found.cells;
      places = q.places ∙ found.places;
      depth = q.depth ∙ found.depth;
    }
