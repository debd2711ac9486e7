use Rattle.std.proofs.Common.{◌<◌, length, subst, rules, arith}
use Rattle.std.proofs.lemmas.List.{get_or_default}
use Rattle.board.specs.Layouts.{no_records}
use Rattle.board.specs.Lent.{board_in, RecordsOf}
use Rattle.walk.proofs.Bytes.{few_modules}
use Rattle.walk.proofs.reading.Module.records.Goals as goal

pub offset_bounds-modules-self : goal.offset_bounds-modules-self
offset_bounds-modules-self c = let h = few_modules c.args.self in search rules

pub bounds-modules-self : goal.bounds-modules-self
bounds-modules-self c = few_modules c.args.self

pub returns : goal.returns
returns c =
    let m = c.args.self in
    let ms = m.tables.modules.now in
    let f = few_modules m in
    let h : m.number < length ms = omega (arith, f) in
    subst (RecordsOf (board_in m.tables) m.number) (get_or_default ms m.number no_records c.index-modules-self.result h) (m.right.modules m.number m.there)
