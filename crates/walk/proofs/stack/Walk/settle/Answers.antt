use Rattle.std.proofs.Common.{◌≡◌, ℕ, ◌+◌, ◌-◌, ◌<◌, ◌≤◌, List, length, get_or, set, Some, sym, refl, ap, ◌∙◌, subst, ap₂, arith, rules}
use borrow.Author.Rules.{scaled_Fits, scaled_fits≤}
use Rattle.std.proofs.lemmas.List.{get_or_read}
use Rattle.gates.specs.declared.Part.TheVariants.{Module as module_no}
use Rattle.signal.specs.Kinds.{Kind}
use Rattle.rules.specs.Boards.{Occurrence, Module, part, occurrence_no}
use Rattle.flat.specs.Machine.{Machine}
use Rattle.board.specs.Lent.{board_in}
use Rattle.walk.specs.declared.level.Level.{Level}
use Rattle.walk.specs.declared.reading.Child.{Child}
use Rattle.walk.specs.declared.stack.Walk.{Walk}
use Rattle.walk.specs.Levels.{level_at, module_in, placed, cells_ahead, module_of_level}
use Rattle.walk.specs.Shown.{Later, StopFirst}
use Rattle.walk.specs.Walks.{last, ShownBy}
use Rattle.walk.proofs.Settles
use Rattle.walk.proofs.Settles.{Point}
use Rattle.walk.proofs.stack.Walk.settle.Given.{Over}
use Rattle.walk.proofs.stack.Walk.settle.Goals.{After-occurrence-o, Joined-o, in-Gate, in-Cell}
use Rattle.walk.proofs.stack.Walk.settle.Goals as goal

-- an occurrence that was read
module _ (g : Over) (c : After-occurrence-o g) where
  abbrev K : Kind g.row.K.Denot
  K = g.K.Signal.kind

  abbrev w : Walk g.row.K.Denot
  w = c.args.self.now

  abbrev board : List Module
  board = board_in w.top.tables

  abbrev b : Level
  b = placed (last w) c.loop-place.place

  abbrev m : Module
  m = module_of_level board b

  abbrev o : Occurrence
  o = occurrence_no m b.place

  module_is : module_in c.other-module.result.tables c.other-module.result.number ≡ m
  module_is = ap₂ module_in c.other-module.ensures.tables c.other-module.ensures.number

  within : b.place < length m.occurrences
  within = omega (arith, c.loop-place-test.true, c.records.ensures.occurrences, ap (λ (x : Module). length x.occurrences) module_is)

  part_is : part o ≡ Some c.occurrence-o.result.part
  part_is = ap (λ (x : Module). part (occurrence_no x b.place)) (sym module_is) ∙ c.occurrence-o.ensures.part

  ins_are : c.occurrence-o.result.ins.now ≡ o.ins
  ins_are = c.occurrence-o.ensures.ins ∙ ap (λ (x : Module). (occurrence_no x b.place).ins) module_is

  outs_are : c.occurrence-o.result.outs.now ≡ o.outs
  outs_are = c.occurrence-o.ensures.outs ∙ ap (λ (x : Module). (occurrence_no x b.place).outs) module_is

  ahead_is : cells_ahead (board_in c.other-module.result.tables) c.other-module.result.number b.place ≡ cells_ahead board b.number b.place
  ahead_is = ap₂ (λ t k. cells_ahead (board_in t) k b.place) c.other-module.ensures.tables c.other-module.ensures.number

  abbrev point : (M : Machine g.row.K.Denot) → ShownBy K w M → Point K w w.cells.now c.loop-place.work c.loop-place.count b
  point M s =
      let l = c.loop-place.invariant.later M s in
      record { some = c.requires.some; level = (Settles.there K w c.requires.some M s).0; size = omega (arith, w.size, c.loop-place.auto.work); machine = l.0; state = l.1 }

  abbrev now : Point K w w.cells.now c.loop-place.work c.loop-place.count b
  now = point c.requires.shown.0 c.requires.shown.1

  last_is : level_at c.loop-place.levels (w.depth - 1) ≡ b
  last_is = Settles.written c.loop-place.levels w.levels.now (w.depth - 1) b now.level c.loop-place.invariant.levels

  stopped : c.loop-place.levels ≡ set w.levels.now (w.depth - 1) (placed (last w) (level_at c.loop-place.levels (w.depth - 1)).place)
  stopped = c.loop-place.invariant.levels ∙ sym (ap (λ (z : Level). set w.levels.now (w.depth - 1) (placed (last w) z.place)) last_is)

  runs_on : (M : Machine g.row.K.Denot) → ShownBy K w M → Later K board w.cells.now c.loop-place.work c.loop-place.levels w.depth c.loop-place.count M
  runs_on M s = subst (λ (y : List Level). Later K board w.cells.now c.loop-place.work y w.depth c.loop-place.count M) (sym c.loop-place.invariant.levels) (c.loop-place.invariant.later M s)

  stops : (n : ℕ) → c.occurrence-o.result.part ≡ module_no n → (k : ℕ) → k ≡ cells_ahead board b.number b.place → StopFirst board (level_at c.loop-place.levels (w.depth - 1)) (Some (record { number = n; ins = c.occurrence-o.result.ins; cell = b.cell + k }))
  stops n q k e =
      let child : Child = record { number = n; ins = c.occurrence-o.result.ins; cell = b.cell + k } in
      subst (λ (z : Level). StopFirst board z (Some child)) (sym last_is) (record { within = within; part_is = part_is ∙ ap Some q; ins_are = ins_are }, ap (λ x. b.cell + x) e)

pub overflow_add-count : goal.overflow_add-count
overflow_add-count g c =
    let d = (goal.at.overflow_add-count g c).After-occurrence-o in
    let t = c.requires.shown in
    let l = c.loop-place.invariant.later t.0 t.1 in
    omega (arith, Settles.count_small (K g d) (w g d) (now g d), ap (λ r. r.count) l.2, t.2)

pub offset_bounds-work-level : goal.offset_bounds-work-level
offset_bounds-work-level g c =
    let d = (goal.at.offset_bounds-work-level g c).After-occurrence-o in
    scaled_fits≤ _ (length c.args.self.now.work.now) _ (omega (arith, Settles.room (K g d) (w g d) (now g d), c.loop-place.auto.work)) (search rules)

pub gate_output-value-requires : goal.gate_output-value-requires
gate_output-value-requires g c =
    let d = (goal.at.gate_output-value-requires g c).After-occurrence-o in
    Settles.ins_there (K g d) (w g d) (now g d) c.requires.pass (within g d) c.occurrence-o.result.ins.now (ins_are g d)

pub overflow_add-value : goal.overflow_add-value
overflow_add-value g c =
    let d = (goal.at.overflow_add-value g c).After-occurrence-o in
    let h = Settles.cell_there (K g d) (w g d) (now g d) c.requires.pass (within g d) (part_is g d ∙ ap Some c.in-Cell.is) in
    let e = c.first_cell.ensures ∙ ahead_is g d in
    let l : (b g d).cell + c.first_cell.result < length c.args.self.now.cells.now = omega arith in
    search rules

pub offset_bounds-cells-level : goal.offset_bounds-cells-level
offset_bounds-cells-level g c =
    let d = (goal.at.offset_bounds-cells-level g c).After-occurrence-o in
    let h = Settles.cell_there (K g d) (w g d) (now g d) c.requires.pass (within g d) (part_is g d ∙ ap Some c.in-Cell.is) in
    scaled_Fits _ (length c.args.self.now.cells.now) _ (omega (arith, h, c.first_cell.ensures, ahead_is g d)) (search rules)

pub bounds-cells-level : goal.bounds-cells-level
bounds-cells-level g c =
    let d = (goal.at.bounds-cells-level g c).After-occurrence-o in
    let h = Settles.cell_there (K g d) (w g d) (now g d) c.requires.pass (within g d) (part_is g d ∙ ap Some c.in-Cell.is) in
    let e = c.first_cell.ensures ∙ ahead_is g d in
    omega arith

pub overflow_add-result : goal.overflow_add-result
overflow_add-result g c =
    let d = (goal.at.overflow_add-result g c).After-occurrence-o in
    let h = Settles.own_there (K g d) (w g d) (now g d) c.requires.pass (within g d) in
    let e = c.first_cell-in-Module.ensures ∙ ahead_is g d in
    let l : (b g d).cell + c.first_cell-in-Module.result ≤ length c.args.self.now.cells.now = omega arith in
    search rules

pub returns-in-Module : goal.returns-in-Module
returns-in-Module g c =
    let d = (goal.at.returns-in-Module g c).After-occurrence-o in
    record { same = search rules; cells = refl; depth = refl; levels = stopped g d; stop = stops g d _ (search rules) _ (c.first_cell-in-Module.ensures ∙ ahead_is g d); runs = runs_on g d }

-- a gate or a cell has one output
module _ (g : Over) (c : Joined-o g) where
  abbrev d : After-occurrence-o g
  d = (goal.at.Joined-o g c).After-occurrence-o

  one_out : length (o g d).outs ≡ 1
  one_out =
      (elim c.match-o.branch [
        | in-Gate q ↦ Settles.lone_gate (K g d) (w g d) (now g d) c.requires.pass (within g d) q.in-Gate.gate (part_is g d ∙ ap Some q.in-Gate.is)
        | in-Cell q ↦ Settles.lone_cell (K g d) (w g d) (now g d) c.requires.pass (within g d) (part_is g d ∙ ap Some q.in-Cell.is)
      ])

  out_there : (b g d).base + get_or c.occurrence-o.result.outs.now 0 0 < length c.loop-place.work
  out_there = Settles.out_there (K g d) (w g d) (now g d) c.requires.pass (within g d) one_out c.occurrence-o.result.outs.now (outs_are g d)

pub bounds-o-0 : goal.bounds-o-0
bounds-o-0 g c =
    let q = (goal.at.bounds-o-0 g c).Joined-o in
    let l = one_out g q in
    let e = ap length (outs_are g (d g q)) in
    let h : 0 < length c.occurrence-o.result.outs.now = omega arith in
    search rules

pub offset_bounds-work-level-in-loop-place : goal.offset_bounds-work-level-in-loop-place
offset_bounds-work-level-in-loop-place g c =
    scaled_Fits _ (length c.args.self.now.work.now) _ (omega (arith, out_there g (goal.at.offset_bounds-work-level-in-loop-place g c).Joined-o, c.loop-place.auto.work)) (search rules)

pub bounds-work-level : goal.bounds-work-level
bounds-work-level g c = out_there g (goal.at.bounds-work-level g c).Joined-o

pub loop-place-preserved : goal.loop-place-preserved
loop-place-preserved g c =
    let d = (goal.at.loop-place-preserved g c).After-occurrence-o in
    let b = b g d in
    let w = c.args.self.now in
    let p = c.loop-place.place in
    let x = c.occurrence-o.result in
    let ws = set c.loop-place.work (b.base + get_or x.outs.now 0 0) c.match-o.value in
    let ls = set w.levels.now (w.depth - 1) (placed b (p + 1)) in
    record {
      levels = Settles.moved c.loop-place.levels w.levels.now (w.depth - 1) (p + 1) b (now g d).level c.loop-place.invariant.levels;
      later = λ M s.
          let l = c.loop-place.invariant.later M s in
          elim c.match-o.branch [
            | in-Gate q ↦
                subst (λ k. Later (K g d) (board g d) w.cells.now ws ls w.depth k M) (sym q.count-is)
                (Settles.gate_later (K g d) w (point g d M s) c.requires.pass (within g d) M l.2 l.3 q.in-Gate.gate (part_is g d ∙ ap Some q.in-Gate.is) x.ins.now x.outs.now (ins_are g d) (outs_are g d) c.match-o.value (q.value-is ∙ q.gate_output-value.ensures))
            | in-Cell q ↦
                let ec = part_is g d ∙ ap Some q.in-Cell.is in
                let f = q.first_cell.ensures ∙ ahead_is g d in
                let h : b.cell + q.first_cell.result < length w.cells.now = omega (arith, Settles.cell_there (K g d) w (point g d M s) c.requires.pass (within g d) ec, f) in
                let v = q.value-is ∙ get_or_read w.cells.now (b.cell + q.first_cell.result) q.index-cells-level.result h q.index-cells-level.is (K g d).low ∙ ap (λ k. get_or w.cells.now (b.cell + k) (K g d).low) f in
                subst (λ k. Later (K g d) (board g d) w.cells.now ws ls w.depth k M) (sym q.count-is)
                (Settles.cell_later (K g d) w (point g d M s) c.requires.pass (within g d) M l.2 l.3 ec x.outs.now (outs_are g d) c.match-o.value v)
          ];
    }
