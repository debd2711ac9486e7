use Rattle.std.proofs.Common.{◌<◌, ◌++◌, length, string_bytes, sym, ap, ◌∙◌, arith, true-eqb}
use borrow.Author.Tests.{eqb_apart}
use Rattle.std.proofs.lemmas.Result.{IfOk-equal}
use Rattle.transcript.specs.Printed.{ended_line}
use Rattle.transcript.proofs.Cutting.{after_falls}
use Rattle.transcript.proofs.Desking.{answers_more, answers_none}
use Rattle.transcript.proofs.session.Desk.converse.Goals as goal

pub loop-rest-smaller : goal.loop-rest-smaller
loop-rest-smaller g c =
    let rest = c.loop-rest.rest.now in
    let some : 0 < length rest = omega (arith, eqb_apart (length rest) 0 (sym c.loop-rest-test.ensures)) in
    omega (arith, after_falls rest some, ap length c.cut_line-cut.ensures.rest)

pub loop-rest-preserved : goal.loop-rest-preserved
loop-rest-preserved g c =
    let rest = c.loop-rest.rest.now in
    let some : 0 < length rest = omega (arith, eqb_apart (length rest) 0 (sym c.loop-rest-test.ensures)) in
    let a = c.in_ok-answer.ensures in
    (a.design ∙ c.loop-rest.invariant.0, answers_more g.K.Signal.kind g.K.WithUnknown.blank c.loop-rest.self rest c.cut_line-cut.result.line.now c.cut_line-cut.result.rest.now c.answer.new.self (string_bytes c.loop-rest.text) (string_bytes c.answer.new.text) some c.cut_line-cut.ensures.line c.cut_line-cut.ensures.rest a ∙ c.loop-rest.invariant.1)

pub returns : goal.returns
returns g c =
    let t = string_bytes c.loop-rest.text in
    let text = string_bytes c.push_ended_line.new.text in
    let s = c.loop-rest.self in
    let end = answers_none g.K.Signal.kind g.K.WithUnknown.blank s c.loop-rest.rest.now (true-eqb _ _ c.loop-rest-test.ensures) in
    IfOk-equal c.push_ended_line.result text (t ++ ended_line c.cycle.result) _ c.push_ended_line.ensures (ap (λ n. t ++ ended_line n) c.cycle.ensures ∙ ap (λ bs. t ++ bs) (sym end) ∙ c.loop-rest.invariant.1)
