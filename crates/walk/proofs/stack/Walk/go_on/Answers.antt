use Rattle.std.proofs.Common.{◌<◌, ◌≢◌, sym, ◌∙◌, arith, rules}
use Rattle.flat.specs.Machine.{Machine}
use Rattle.signal.specs.Kinds.{Kind}
use Rattle.walk.specs.declared.level.Pass.TheVariants.{Storing}
use Rattle.walk.specs.declared.stack.Walk.{Walk}
use Rattle.walk.specs.Walks.{last, ShownBy, LaterBy}
use Rattle.walk.proofs.Goes
use Rattle.walk.proofs.Settles
use Rattle.walk.proofs.stack.Walk.go_on.Given.{Over}
use Rattle.walk.proofs.stack.Walk.go_on.Goals.{After-settle}
use Rattle.walk.proofs.stack.Walk.go_on.Goals as goal

-- the pass that has stopped
module _ (g : Over) (c : After-settle g) where
  abbrev K : Kind g.row.K.Denot
  K = g.K.Signal.kind

  abbrev v : Walk g.row.K.Denot
  v = c.args.self.now

  abbrev w : Walk g.row.K.Denot
  w = c.settle.new.self

  some : 0 < w.depth
  some = omega (arith, c.requires.some, c.settle.ensures.depth)

  pass : (last w).pass ≢ Storing
  pass =
      let h = (Settles.there K v c.requires.some c.requires.shown.0 c.requires.shown.1).0 in
      λ z. c.requires.pass (sym (Goes.placed_pass v w (last w).place h c.settle.ensures.depth c.settle.ensures.levels) ∙ z)

  abbrev later : (M : Machine g.row.K.Denot) → ShownBy K v M → LaterBy K w M
  later = c.settle.ensures.runs

  abbrev M : Machine g.row.K.Denot
  M = c.requires.shown.0

  abbrev now : LaterBy K w M
  now = later M c.requires.shown.1

pub enter-requires : goal.enter-requires
enter-requires g c =
    let d = (goal.at.enter-requires g c).After-settle in
    record {
      some = some g d;
      room = Goes.enters_there (K g d) (w g d) (some g d) (M g d) (now g d) (pass g d) c.in-Some.child c.in-Some.ensures.stop;
      enterable = Goes.enters (K g d) (w g d) (some g d) (M g d) (now g d) (pass g d) c.in-Some.child c.in-Some.ensures.stop;
    }

pub returns-in-Some : goal.returns-in-Some
returns-in-Some g c =
    let d = (goal.at.returns-in-Some g c).After-settle in
    record {
      same = Goes.same_on (v g d) (w g d) c.enter.new.self c.in-Some.ensures.same c.enter.ensures.same;
      runs = λ N s. Goes.entered_on (K g d) (w g d) (some g d) N (later g d N s) (pass g d) c.in-Some.child c.in-Some.ensures.stop c.enter.new.self c.enter.ensures;
    }

pub leave-requires : goal.leave-requires
leave-requires g c =
    let d = (goal.at.leave-requires g c).After-settle in
    record {
      some = Goes.two (K g d) (w g d) (some g d) (M g d) (now g d) (pass g d) c.in_default.ensures.stop c.in-ForOutputs.is;
      there = omega (arith, some g d, Goes.there (K g d) (w g d) (some g d) (M g d) (now g d));
      leavable = Goes.leaves (K g d) (w g d) (some g d) (M g d) (now g d) (pass g d) c.in_default.ensures.stop c.in-ForOutputs.is;
    }

pub returns-in-ForOutputs : goal.returns-in-ForOutputs
returns-in-ForOutputs g c =
    let d = (goal.at.returns-in-ForOutputs g c).After-settle in
    record {
      same = Goes.same_on (v g d) (w g d) c.leave.new.self c.in_default.ensures.same c.leave.ensures.same;
      runs = λ N s. Goes.left_on (K g d) (w g d) (some g d) N (later g d N s) (pass g d) c.in_default.ensures.stop c.in-ForOutputs.is c.leave.new.self c.leave.ensures;
    }

pub returns-in-ForBoth : goal.returns-in-ForBoth
returns-in-ForBoth g c =
    let d = (goal.at.returns-in-ForBoth g c).After-settle in
    record {
      same = search rules;
      runs = λ N s. Goes.turned_on (K g d) (w g d) (some g d) N (later g d N s) (pass g d) c.in_default.ensures.stop (Goes.no_outputs (last (w g d)).pass c.in-ForBoth.is);
    }
