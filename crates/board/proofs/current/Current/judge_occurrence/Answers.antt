use Rattle.std.proofs.Common.{◌≡◌, ◌+◌, ap, ◌∙◌}
use Rattle.std.proofs.lemmas.Result.{err_from_is_err_and}
use Rattle.rules.specs.Records.{number_at, body}
use Rattle.rules.specs.Judging.{occurrence_at, occurrence_in}
use Rattle.board.specs.WireTables.{driven_by, reaches}
use Rattle.board.specs.Summaries.{reach_on}
use Rattle.rules.specs.Wires.{drive}
use Rattle.rules.specs.Judging.{seen_from}
use Rattle.board.proofs.References.{summary_is, judged_is, reach_is, pins_right, unknown_is}
use Rattle.board.proofs.current.Current.judge_occurrence.Goals as goal

pub returns-in_err-summary : goal.returns-in_err-summary
returns-in_err-summary c =
    let p = err_from_is_err_and c.from_residual-in_err-summary.result c.from_residual-in_err-summary.ensures.1 in
    let f = c.args.self.now.judged.now.file.now in
    let below = seen_from f (c.args.self.now.number + 1) in
    let hb = c.in_ok-record.ensures.1.body in
    let ho = c.in_ok-o.ensures.1 in
    rw (p.1, p.2) (unknown_is below c.args.wires (driven_by c.args.table.now.driven) f c.args.at c.in_ok-o.o.reference (ho.reference ∙ ap (λ b. number_at b 0) hb) c.in_err-summary.field-0.0 c.in_err-summary.ensures)

pub returns-in_err-connect : goal.returns-in_err-connect
returns-in_err-connect c =
    let p = err_from_is_err_and c.from_residual-in_err-connect.result c.from_residual-in_err-connect.ensures.1 in
    let f = c.args.self.now.judged.now.file.now in
    let at = c.args.at in
    let below = seen_from f (c.args.self.now.number + 1) in
    let dr = driven_by c.args.table.now.driven in
    let hb = c.in_ok-record.ensures.1.body in
    let o = c.in_ok-o.o in
    let ho = c.in_ok-o.ensures.1 in
    let hs = c.in_ok-summary.ensures in
    let s = c.in_ok-summary.summary in
    let er : o.reference ≡ number_at (body f at) 0 = ho.reference ∙ ap (λ b. number_at b 0) hb in
    let ei : o.ins.now ≡ (occurrence_at f at).occurrence.ins = ho.ins ∙ ap (λ b. (occurrence_in b).ins) hb in
    let eo : o.outs.now ≡ (occurrence_at f at).occurrence.outs = ho.outs ∙ ap (λ b. (occurrence_in b).outs) hb in
    rw (p.1, p.2) (judged_is below c.args.wires dr f at o.reference er s o.ins.now o.outs.now ei eo hs.0 hs.1 ho.few_ins ∙ c.in_err-connect.ensures.answer)

pub returns : goal.returns
returns c =
    let f = c.args.self.now.judged.now.file.now in
    let at = c.args.at in
    let below = seen_from f (c.args.self.now.number + 1) in
    let dr = driven_by c.args.table.now.driven in
    let hb = c.in_ok-record.ensures.1.body in
    let o = c.in_ok-o.o in
    let ho = c.in_ok-o.ensures.1 in
    let hs = c.in_ok-summary.ensures in
    let s = c.in_ok-summary.summary in
    let er : o.reference ≡ number_at (body f at) 0 = ho.reference ∙ ap (λ b. number_at b 0) hb in
    let ei : o.ins.now ≡ (occurrence_at f at).occurrence.ins = ho.ins ∙ ap (λ b. (occurrence_in b).ins) hb in
    let eo : o.outs.now ≡ (occurrence_at f at).occurrence.outs = ho.outs ∙ ap (λ b. (occurrence_in b).outs) hb in
    let hc = c.in_ok-connect.ensures.answer in
    let l = pins_right s.inputs s.outputs _ c.args.wires dr at o.ins.now o.outs.now hc.0 in (
      judged_is below c.args.wires dr f at o.reference er s o.ins.now o.outs.now ei eo hs.0 hs.1 ho.few_ins ∙ hc.0,
      (
        summary_is below c.args.wires dr f at o.reference er s o.ins.now o.outs.now ei eo hs.0 hs.1 ho.few_ins,
        ap driven_by c.put_reach.ensures.driven ∙ hc.1 ∙ ap (λ x. drive x dr) eo,
        c.put_reach.ensures.reach
            ∙ reach_is below c.args.wires dr f at o.reference er s o.ins.now o.outs.now ei eo hs.0 hs.1 ho.few_ins (reaches c.connect.new.table.reach) c.inputs_reaching-mask.result l c.inputs_reaching-mask.ensures
            ∙ ap (λ r. reach_on below (occurrence_at f at).occurrence (reaches r)) c.in_ok-connect.ensures.reach,
      ),
    )
