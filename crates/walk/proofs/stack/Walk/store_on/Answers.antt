use Rattle.std.proofs.Common.{◌≡◌, ◌<◌, ◌∙◌, arith, rules}
use Rattle.flat.specs.Machine.{Machine}
use Rattle.signal.specs.Kinds.{Kind}
use Rattle.walk.specs.declared.level.Pass.TheVariants.{Storing}
use Rattle.walk.specs.declared.stack.Walk.{Walk}
use Rattle.walk.specs.Walks.{last, ShownBy, LaterBy}
use Rattle.walk.proofs.Goes
use Rattle.walk.proofs.Settles
use Rattle.walk.proofs.stack.Walk.store_on.Given.{Over}
use Rattle.walk.proofs.stack.Walk.store_on.Goals.{After-store}
use Rattle.walk.proofs.stack.Walk.store_on.Goals as goal

-- the pass that has stopped
module _ (g : Over) (c : After-store g) where
  abbrev K : Kind g.row.K.Denot
  K = g.K.Signal.kind

  abbrev v : Walk g.row.K.Denot
  v = c.args.self.now

  abbrev w : Walk g.row.K.Denot
  w = c.store.new.self

  some : 0 < w.depth
  some = omega (arith, c.requires.some, c.store.ensures.depth)

  pass : (last w).pass ≡ Storing
  pass =
      let h = (Settles.there K v c.requires.some c.requires.shown.0 c.requires.shown.1).0 in
      Goes.advanced_pass v w (last w).place (last w).cell h c.store.ensures.depth c.store.ensures.levels ∙ c.requires.pass

  abbrev later : (M : Machine g.row.K.Denot) → ShownBy K v M → LaterBy K w M
  later = c.store.ensures.runs

  abbrev M : Machine g.row.K.Denot
  M = c.requires.shown.0

  abbrev now : LaterBy K w M
  now = later M c.requires.shown.1

pub enter-requires : goal.enter-requires
enter-requires g c =
    let d = (goal.at.enter-requires g c).After-store in
    record {
      some = some g d;
      room = Goes.again_there (K g d) (w g d) (some g d) (M g d) (now g d) (pass g d) c.in-Some.child c.in-Some.ensures.stop;
      enterable = Goes.again (K g d) (w g d) (some g d) (M g d) (now g d) (pass g d) c.in-Some.child c.in-Some.ensures.stop;
    }

pub returns-in-Some : goal.returns-in-Some
returns-in-Some g c =
    let d = (goal.at.returns-in-Some g c).After-store in
    record {
      same = Goes.same_on (v g d) (w g d) c.enter.new.self c.in-Some.ensures.same c.enter.ensures.same;
      runs = λ N s. Goes.again_on (K g d) (w g d) (some g d) N (later g d N s) (pass g d) c.in-Some.child c.in-Some.ensures.stop c.enter.new.self c.enter.ensures;
    }

pub rise-requires : goal.rise-requires
rise-requires g c =
    let d = (goal.at.rise-requires g c).After-store in
    record {
      some = c.if-self-gt1.true;
      there = omega (arith, some g d, Goes.there (K g d) (w g d) (some g d) (M g d) (now g d));
      small = Goes.rises (K g d) (w g d) (some g d) (M g d) (now g d) (pass g d) c.in_default.ensures.stop c.if-self-gt1.true;
    }

pub returns-then-self-gt1 : goal.returns-then-self-gt1
returns-then-self-gt1 g c =
    let d = (goal.at.returns-then-self-gt1 g c).After-store in
    record {
      same = Goes.same_on (v g d) (w g d) c.rise.new.self c.in_default.ensures.same c.rise.ensures.same;
      runs = λ N s. Goes.risen_on (K g d) (w g d) (some g d) N (later g d N s) (pass g d) c.in_default.ensures.stop c.if-self-gt1.true c.rise.new.self c.rise.ensures;
    }

pub returns-else-self-gt1 : goal.returns-else-self-gt1
returns-else-self-gt1 g c =
    let d = (goal.at.returns-else-self-gt1 g c).After-store in
    record {
      same = search rules;
      runs = λ N s. Goes.halted_on (K g d) (w g d) (some g d) N (later g d N s) (pass g d) c.in_default.ensures.stop c.if-self-gt1.false;
    }
