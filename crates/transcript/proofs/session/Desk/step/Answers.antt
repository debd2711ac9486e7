use Rattle.std.proofs.Common.{◌≡◌, true, is_ok, is_some, Some, sym, ap, ◌∙◌}
use Rattle.std.proofs.lemmas.List.{with_items_is}
use Rattle.rules.specs.Boards.{in_count}
use Rattle.transcript.specs.Desks.{design_of}
use Rattle.transcript.specs.Lines.{inputs_of, read_as}
use Rattle.transcript.proofs.Desking.{told_step}
use Rattle.transcript.proofs.session.Desk.step.Goals as goal

pub returns : goal.returns
returns g c =
    let K = g.K.Signal.kind in
    let u = g.K.WithUnknown.blank in
    let s = c.args.self.now in
    let vs = c.parse_line.new.inputs in
    let line = c.args.line.now in
    let long = c.as_mut_slice.ensures.len ∙ s.input_count in
    let some : is_some c.parse_line.result ≡ true = sym c.ok_or.ensures.variant ∙ ap is_ok c.in_ok-ok_or.was in
    let read : Some vs ≡ inputs_of K u (in_count (design_of s)) line = ap (λ b. read_as b vs) (sym some) ∙ c.parse_line.ensures.read ∙ ap (λ n. inputs_of K u n line) long in
    let ins_is = c.as_slice.ensures.value ∙ with_items_is s.inputs vs (c.parse_line.auto.inputs ∙ c.as_mut_slice.ensures.len) in
    let cells_are = with_items_is s.cells c.step.new.cells (c.step.auto.cells ∙ c.as_mut_slice-2.ensures.len) in
    let tape_is = with_items_is s.tape c.step.new.tape (c.step.auto.tape ∙ c.as_mut_slice-3.ensures.len) in
    told_step K u s line vs c.as_slice.result.now c.as_mut_slice-2.result.now c.as_mut_slice-3.result.now c.as_mut_slice-4.result.now c.as_mut_slice-5.result.now read ins_is c.as_mut_slice-2.ensures.value c.as_mut_slice-3.ensures.value c.as_mut_slice-4.ensures.value c.as_mut_slice-5.ensures.value _ c.step.new.cells c.step.new.tape c.step.new.work c.step.new.levels cells_are tape_is c.step.ensures.board c.step.result c.step.ensures.step
