use Rattle.std.proofs.Common.{◌≡◌, ℕ, ◌+◌, ◌^◌, ◌<◌, set, rules, List, length, get_or, sym, ap, ◌∙◌, subst, arith}
use Rattle.signal.specs.Kinds.{Kind}
use Rattle.rules.specs.Boards.{Design}
use Rattle.flat.specs.Passes.{step_of}
use Rattle.flat.specs.Machine.{Machine, result}
use Rattle.board.specs.Lent.{board_in}
use Rattle.walk.specs.declared.level.Level.{Level}
use Rattle.walk.specs.declared.reading.Module.{Module as Read}
use Rattle.walk.specs.Levels.{no_level, module_in}
use Rattle.walk.specs.Shown.{State}
use Rattle.walk.specs.Steps.{design_in}
use Rattle.walk.proofs.Sim.{level_same}
use Rattle.walk.proofs.LoopStates.{Fitting, fitting, some, inputs_wired, wires_few, outputs_many, outputs_low, first_machine, first_result, few_gates, first_state, halted_gives}
use Rattle.walk.proofs.walk.Given.{Over}
use Rattle.walk.proofs.walk.Goals.{After-open_top}
use Rattle.walk.proofs.walk.Goals as goal

pub invariant_of-top : goal.invariant_of-top
invariant_of-top g c =
    let t = c.tables in
    record { right = t.ensures.right; there = some t.result t.ensures.right c.args.board.now t.ensures.file }

pub open_top-requires : goal.open_top-requires
open_top-requires g c =
    let t = c.tables in
    let f = fitting (design_in c.args.board.now) c.args.inputs.now c.args.cells.now c.args.outputs.now c.args.work.now c.args.levels.now c.fits.result c.fits.ensures c.if-not-fits.false in
    let w = c.records.ensures.wires in
    let a = wires_few t.result t.ensures.right c.args.board.now t.ensures.file in
    let b = inputs_wired t.result t.ensures.right c.args.board.now t.ensures.file in
    record { fits = omega (arith, f.many_values, w, a); few = omega (arith, f.inputs_are, w, b) }

-- the walk has begun
module _ (g : Over) (c : After-open_top g) where
  abbrev K : Kind g.row.K.Denot
  K = g.K.Signal.kind

  abbrev d : Design
  d = design_in c.args.board.now

  abbrev fits : Fitting d (length c.args.inputs.now) (length c.args.cells.now) (length c.args.outputs.now) (length c.args.work.now) (length c.args.levels.now)
  fits = fitting d c.args.inputs.now c.args.cells.now c.args.outputs.now c.args.work.now c.args.levels.now c.fits.result c.fits.ensures c.if-not-fits.false

  abbrev first : Machine g.row.K.Denot
  first = first_machine c.tables.result c.tables.ensures.right c.args.board.now c.tables.ensures.file K c.args.inputs.now c.args.cells.now

  comes : result K first ≡ step_of K d c.args.inputs.now c.args.cells.now
  comes = first_result c.tables.result c.tables.ensures.right c.args.board.now c.tables.ensures.file K c.args.inputs.now c.args.cells.now

  begins : (l : Level) → l ≡ no_level → State K (board_in c.tables.result) c.args.cells.now c.open_top.new.work (set c.args.levels.now 0 l) 1 0 first
  begins l e =
      let w = c.records.ensures.wires in
      let o = c.open_top.ensures in
      first_state c.tables.result c.tables.ensures.right c.args.board.now c.tables.ensures.file K c.args.inputs.now c.args.cells.now c.open_top.new.work (set c.args.levels.now 0 l) fits.inputs_are fits.cells_are o.given (λ k h q. o.rest k h (omega (arith, w))) (level_same c.args.levels.now 0 l (omega (arith, fits.many_levels)) ∙ e)

  few : (result K first).count + 1 < 2 ^ 32
  few = omega (arith, few_gates c.tables.result c.tables.ensures.right c.args.board.now c.tables.ensures.file K c.args.inputs.now c.args.cells.now first comes)

pub run-requires : goal.run-requires
run-requires g c = let e = (goal.at.run-requires g c).After-open_top in (first g e, begins g e c.new.result c.new.ensures, few g e)

pub deliver-requires : goal.deliver-requires
deliver-requires g c =
    let t = c.tables in
    let b = c.args.board.now in
    let f = fitting (design_in b) c.args.inputs.now c.args.cells.now c.args.outputs.now c.args.work.now c.args.levels.now c.fits.result c.fits.ensures c.if-not-fits.false in
    let o = c.output_wires.ensures in
    let n = outputs_many t.result t.ensures.right b t.ensures.file in
    record {
      same = f.outputs_are ∙ n ∙ sym (ap length o);
      reads = λ j h.
          let k : j < length (module_in t.result 0).outs = subst (λ (x : List ℕ). j < length x) o h in
          let v = ap (λ (x : List ℕ). get_or x j 0) o in
          let a = outputs_low t.result t.ensures.right b t.ensures.file j k in
          let w = wires_few t.result t.ensures.right b t.ensures.file in
          omega (arith, f.many_values, v, a, w);
    }

pub returns : goal.returns
returns g c =
    let e = (goal.at.returns g c).After-open_top in
    let w = c.run.new.self in
    let n = c.run.ensures.runs (first g e) (begins g e c.new.result c.new.ensures) in
    record {
      fitting = sym c.if-not-fits.false ∙ c.fits.ensures;
      stepping = halted_gives (K g e) w n.0 n.1 c.run.ensures.ended (d g e) c.args.inputs.now c.args.cells.now (n.2 ∙ comes g e) c.deliver.ensures (c.output_wires.ensures ∙ ap (λ (x : Read). (module_in x.tables 0).outs) (sym c.run.ensures.same.top)) (search rules) (search rules);
    }
