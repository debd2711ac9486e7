use Rattle.std.proofs.Common.{◌<◌, cond, length, is_some, None, sym, ap, ◌∙◌, arith, length-set}
use Rattle.std.proofs.lemmas.Bool.{eq-eqb}
use Rattle.transcript.specs.Lines.{values_of}
use Rattle.transcript.proofs.Cutting.{all_is, is_none, one_there, values_more, values_all}
use Rattle.transcript.proofs.reading.parse_line.Goals as goal

pub returns-then-not-all_values-clause-read : goal.returns-then-not-all_values-clause-read
returns-then-not-all_values-clause-read g c =
    let K = g.K.Signal.kind in
    let u = g.K.WithUnknown.blank in
    let line = c.args.line.now in
    let none = is_none (values_of K u line) (all_is K u line ∙ sym c.all_values.ensures ∙ c.if-not-all_values.true) in
    sym (ap (λ b. cond b (values_of K u line) None) (eq-eqb _ _ c.if-line-inputs.false) ∙ none)

pub unwrap-requires : goal.unwrap-requires
unwrap-requires g c =
    let there = one_there g.K.Signal.kind g.K.WithUnknown.blank c.args.line.now c.loop-at.at c.loop-at-test.true (sym c.all_values.ensures ∙ c.if-not-all_values.false) in
    ap is_some c.value_of.ensures ∙ there

pub returns-clause-read : goal.returns-clause-read
returns-clause-read g c =
    let K = g.K.Signal.kind in
    let u = g.K.WithUnknown.blank in
    let line = c.args.line.now in
    sym (ap (λ b. cond b (values_of K u line) None) (eq-eqb _ _ c.if-line-inputs.false) ∙ values_all K u line c.loop-at.inputs c.loop-at.at c.loop-at-test.false c.loop-at.invariant.0 c.loop-at.invariant.1)

pub loop-at-preserved : goal.loop-at-preserved
loop-at-preserved g c =
    let l : c.loop-at.at < length c.loop-at.inputs = omega (arith, c.loop-at.invariant.0) in
    (simp length-set c.loop-at.invariant.0, values_more g.K.Signal.kind g.K.WithUnknown.blank c.args.line.now c.loop-at.at c.loop-at-test.true c.loop-at.inputs c.unwrap.result l (sym c.value_of.ensures ∙ c.unwrap.ensures) c.loop-at.invariant.1)
