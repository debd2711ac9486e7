use Rattle.std.proofs.Common.{ap, ◌∙◌, arith}
use Rattle.walk.specs.Walks.{Ready}
use Rattle.walk.proofs.Goes
use Rattle.walk.proofs.LoopStates.{fewer_left}
use Rattle.walk.proofs.stack.Walk.run.Given.{Over}
use Rattle.walk.proofs.stack.Walk.run.Goals.{In-loop-self}
use Rattle.walk.proofs.stack.Walk.run.Goals as goal

-- the walk is ready for a turn
ready : (g : Over) (c : In-loop-self g) → Ready g.K.Signal.kind c.loop-self.self
ready g c =
    let n = c.loop-self.invariant.runs c.requires.0 c.requires.1 in
    (n.0, n.1, omega (arith, ap (λ r. r.count) n.2, c.requires.2))

pub loop-self-smaller : goal.loop-self-smaller
loop-self-smaller g c =
    let n = c.loop-self.invariant.runs c.requires.0 c.requires.1 in
    fewer_left g.K.Signal.kind c.loop-self.self c.turn.new.self n.0 n.1 (c.turn.ensures.runs n.0 n.1)

pub loop-self-preserved : goal.loop-self-preserved
loop-self-preserved g c =
    let i = c.loop-self.invariant in
    let t = c.turn.ensures in
    record {
      same = Goes.same_on _ _ _ i.same t.same;
      runs = λ M s. let n = i.runs M s in let a = t.runs n.0 n.1 in (a.0, a.1, a.2 ∙ n.2);
    }
