use Rattle.std.proofs.Common.{string_bytes}
use Rattle.std.proofs.lemmas.Result.{IfOk-weaker}
use Rattle.transcript.proofs.Desking.{answered_step, answered_refusal}
use Rattle.transcript.proofs.session.Desk.answer.Goals as goal

pub returns-in-Ok : goal.returns-in-Ok
returns-in-Ok g c =
    IfOk-weaker c.push_step_line.result _ _ (λ _ h. answered_step g.K.Signal.kind g.K.WithUnknown.blank c.args.self.now c.args.line.now c.step.new.self c.in-Ok.count c.in-Ok.ensures c.cycle-cycle.result c.from.result c.figures-width.result.outputs c.cycle-cycle.ensures c.from.ensures c.figures-width.ensures.outputs c.as_slice.result.now c.as_slice.ensures.value (string_bytes c.args.text.now) (string_bytes c.push_step_line.new.text) h) c.push_step_line.ensures

pub returns-in-Err : goal.returns-in-Err
returns-in-Err g c =
    IfOk-weaker c.push_refused_line.result _ _ (λ _ h. answered_refusal g.K.Signal.kind g.K.WithUnknown.blank c.args.self.now c.args.line.now c.step.new.self c.in-Err.refusal c.in-Err.ensures c.number.result c.number.ensures (string_bytes c.args.text.now) (string_bytes c.push_refused_line.new.text) h) c.push_refused_line.ensures
