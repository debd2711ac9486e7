use borrow.Author.Rules.{scaled_Fits}
use Rattle.std.proofs.Common.{◌≡◌, ℕ, ◌+◌, ◌-◌, ◌<◌, List, length, get_or, set, Some, sym, refl, ap, ◌∙◌, subst, ap₂, arith, rules}
use Rattle.std.proofs.lemmas.List.{get_or_read}
use Rattle.gates.specs.declared.Gate.{Gate}
use Rattle.gates.specs.declared.Part.{Part}
use Rattle.gates.specs.declared.Part.TheVariants.{Gate as gate, Cell as cell, Module as module_no}
use Rattle.signal.specs.Kinds.{Kind}
use Rattle.rules.specs.Boards.{Occurrence, Module, part, occurrence_no}
use Rattle.flat.specs.Machine.{Machine}
use Rattle.board.specs.Lent.{board_in}
use Rattle.walk.specs.declared.level.Level.{Level}
use Rattle.walk.specs.declared.reading.Child.{Child}
use Rattle.walk.specs.declared.stack.Walk.{Walk}
use Rattle.walk.specs.Levels.{level_at, module_in, advanced, module_of_level}
use Rattle.walk.specs.Shown.{Later, StopSecond}
use Rattle.walk.specs.Walks.{last, ShownBy}
use Rattle.walk.proofs.Bytes
use Rattle.walk.proofs.Modules
use Rattle.walk.proofs.Settles
use Rattle.walk.proofs.Settles.{Point}
use Rattle.walk.proofs.stack.Walk.store.Given.{Over}
use Rattle.walk.proofs.stack.Walk.store.Goals.{In-loop-place, After-occurrence-o, In_default}
use Rattle.walk.proofs.stack.Walk.store.Goals as goal

-- a part that is no module and no gate
cell_left : (p : Part) → ((j : ℕ) → p ≡ module_no j → ⊥) → ((g : Gate) → p ≡ gate g → ⊥) → p ≡ cell
cell_left (gate g) a b = absurd (b g refl)
cell_left cell a b = refl
cell_left (module_no j) a b = absurd (a j refl)

-- an entry of the state list
module _ (g : Over) (c : In-loop-place g) where
  abbrev K : Kind g.row.K.Denot
  K = g.K.Signal.kind

  abbrev w : Walk g.row.K.Denot
  w = c.args.self.now

  abbrev board : List Module
  board = board_in w.top.tables

  abbrev b : Level
  b = advanced (last w) c.loop-place.place c.loop-place.cell

  abbrev m : Module
  m = module_of_level board b

  abbrev i : ℕ
  i = get_or m.states b.place 0

  abbrev o : Occurrence
  o = occurrence_no m i

  module_is : module_in c.other-module.result.tables c.other-module.result.number ≡ m
  module_is = ap₂ module_in c.other-module.ensures.tables c.other-module.ensures.number

  states_are : c.state_list-states.result.now ≡ m.states
  states_are = c.state_list-states.ensures ∙ ap (λ (x : Module). x.states) module_is

  within : b.place < length m.states
  within = omega (arith, c.loop-place-test.true, ap length states_are)

  entry_is : get_or c.state_list-states.result.now b.place 0 ≡ i
  entry_is = ap (λ (x : List ℕ). get_or x b.place 0) states_are

  abbrev point : (M : Machine g.row.K.Denot) → ShownBy K w M → Point K w c.loop-place.cells w.work.now w.count b
  point M s =
      let l = c.loop-place.invariant.later M s in
      record { some = c.requires.some; level = (Settles.there K w c.requires.some M s).0; size = w.size; machine = l.0; state = l.1 }

  abbrev now : Point K w c.loop-place.cells w.work.now w.count b
  now = point c.requires.shown.0 c.requires.shown.1

  number_there : b.number < length board
  number_there = Settles.number_there K w now

  entry_within : i < length m.occurrences
  entry_within = Modules.entry_within board (λ k h. (Bytes.keeps w.top.tables w.top.right k h).sound) b.number number_there b.place within

  last_is : level_at c.loop-place.levels (w.depth - 1) ≡ b
  last_is = Settles.written c.loop-place.levels w.levels.now (w.depth - 1) b now.level c.loop-place.invariant.levels

  stopped : c.loop-place.levels ≡ set w.levels.now (w.depth - 1) (advanced (last w) (level_at c.loop-place.levels (w.depth - 1)).place (level_at c.loop-place.levels (w.depth - 1)).cell)
  stopped = c.loop-place.invariant.levels ∙ sym (ap (λ (z : Level). set w.levels.now (w.depth - 1) (advanced (last w) z.place z.cell)) last_is)

  runs_on : (M : Machine g.row.K.Denot) → ShownBy K w M → Later K board c.loop-place.cells w.work.now c.loop-place.levels w.depth w.count M
  runs_on M s = subst (λ (y : List Level). Later K board c.loop-place.cells w.work.now y w.depth w.count M) (sym c.loop-place.invariant.levels) (c.loop-place.invariant.later M s)

pub occurrence-o-requires : goal.occurrence-o-requires
occurrence-o-requires g c =
    let d = (goal.at.occurrence-o-requires g c).In-loop-place in
    omega (arith, entry_within g d, entry_is g d, ap (λ (x : Module). length x.occurrences) (module_is g d))

-- its occurrence
module _ (g : Over) (c : After-occurrence-o g) where
  abbrev at : In-loop-place g
  at = (goal.at.After-occurrence-o g c).In-loop-place

  occurrence_is : occurrence_no (module_in c.other-module.result.tables c.other-module.result.number) (get_or c.state_list-states.result.now c.loop-place.place 0) ≡ o g at
  occurrence_is = ap₂ occurrence_no (module_is g at) (entry_is g at)

  part_is : part (o g at) ≡ Some c.occurrence-o.result.part
  part_is = ap part (sym occurrence_is) ∙ c.occurrence-o.ensures.part

  ins_are : c.occurrence-o.result.ins.now ≡ (o g at).ins
  ins_are = c.occurrence-o.ensures.ins ∙ ap (λ (x : Occurrence). x.ins) occurrence_is

  stops : (n : ℕ) → c.occurrence-o.result.part ≡ module_no n → StopSecond (board g at) (level_at c.loop-place.levels (c.args.self.now.depth - 1)) (Some (record { number = n; ins = c.occurrence-o.result.ins; cell = c.loop-place.cell }))
  stops n q =
      let child : Child = record { number = n; ins = c.occurrence-o.result.ins; cell = c.loop-place.cell } in
      subst (λ (z : Level). StopSecond (board g at) z (Some child)) (sym (last_is g at)) (within g at, record { within = entry_within g at; part_is = part_is ∙ ap Some q; ins_are = ins_are }, refl)

pub returns-in-Module : goal.returns-in-Module
returns-in-Module g c =
    let e = (goal.at.returns-in-Module g c).After-occurrence-o in
    let d = at g e in
    record { same = search rules; work = refl; depth = refl; count = refl; levels = stopped g d; stop = stops g e _ (search rules); runs = runs_on g d }

-- its occurrence is a cell
module _ (g : Over) (c : In_default g) where
  abbrev e : After-occurrence-o g
  e = (goal.at.In_default g c).After-occurrence-o

  abbrev d : In-loop-place g
  d = at g e

  part_cell : part (o g d) ≡ Some cell
  part_cell =
      part_is g e ∙ ap Some (cell_left c.occurrence-o.result.part c.in_default.not-Module (λ x q. Modules.entry_no_gate (board g d) (λ k h. (Bytes.keeps c.args.self.now.top.tables c.args.self.now.top.right k h).sound) (b g d).number (number_there g d) (b g d).place (within g d) x (part_is g e ∙ ap Some q)))

  one_in : 0 < length c.occurrence-o.result.ins.now
  one_in = omega (arith, ap length (ins_are g e), (Settles.lone_in (K g d) (w g d) (now g d) c.requires.pass (within g d) part_cell).0)

  in_there : (b g d).base + get_or c.occurrence-o.result.ins.now 0 0 < length c.args.self.now.work.now
  in_there = omega (arith, ap (λ (x : List ℕ). get_or x 0 0) (ins_are g e), (Settles.lone_in (K g d) (w g d) (now g d) c.requires.pass (within g d) part_cell).1)

  cell_there : c.loop-place.cell < length c.loop-place.cells
  cell_there = (Settles.lone_in (K g d) (w g d) (now g d) c.requires.pass (within g d) part_cell).2

pub bounds-o-0 : goal.bounds-o-0
bounds-o-0 g c = let h = one_in g (goal.at.bounds-o-0 g c).In_default in search rules

pub offset_bounds-work-level : goal.offset_bounds-work-level
offset_bounds-work-level g c = scaled_Fits _ (length c.args.self.now.work.now) _ (in_there g (goal.at.offset_bounds-work-level g c).In_default) (search rules)

pub bounds-work-level : goal.bounds-work-level
bounds-work-level g c = in_there g (goal.at.bounds-work-level g c).In_default

pub offset_bounds-cells-cell : goal.offset_bounds-cells-cell
offset_bounds-cells-cell g c =
    scaled_Fits _ (length c.args.self.now.cells.now) _ (omega (arith, cell_there g (goal.at.offset_bounds-cells-cell g c).In_default, c.loop-place.auto.cells)) (search rules)

pub bounds-cells-cell : goal.bounds-cells-cell
bounds-cells-cell g c = cell_there g (goal.at.bounds-cells-cell g c).In_default

pub overflow_add-cell : goal.overflow_add-cell
overflow_add-cell g c = let h = cell_there g (goal.at.overflow_add-cell g c).In_default in search rules

pub loop-place-preserved : goal.loop-place-preserved
loop-place-preserved g c =
    let f = (goal.at.loop-place-preserved g c).In_default in
    let e = e g f in
    let d = at g e in
    let b = b g d in
    let w = c.args.self.now in
    let is = c.occurrence-o.result.ins.now in
    record {
      levels = Settles.entry_moved c.loop-place.levels w.levels.now (w.depth - 1) (c.loop-place.place + 1) (c.loop-place.cell + 1) b (now g d).level c.loop-place.invariant.levels;
      later = λ M s.
          let l = c.loop-place.invariant.later M s in
          let v = get_or_read w.work.now (b.base + get_or is 0 0) c.index-work-level.result (in_there g f) c.index-work-level.is (K g d).low ∙ ap (λ (x : List ℕ). get_or w.work.now (b.base + get_or x 0 0) (K g d).low) (ins_are g e) in
          Settles.store_later (K g d) w (point g d M s) c.requires.pass (within g d) M l.2 l.3 (part_cell g f) c.index-work-level.result v;
    }
