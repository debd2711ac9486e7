use Rattle.std.proofs.Common.{string_bytes, ap, ◌∙◌}
use Rattle.transcript.proofs.Desking.{whole_accepted, whole_refused}
use Rattle.transcript.proofs.session.transcript.Goals as goal
use Rattle.transcript.proofs.session.transcript.Goals.{in-Ok+in_ok-push_kind_line-in-Ok+in_ok-desk-in-Ok+in_ok-converse-in-Ok, in-Err+in_ok-push_board_line-in-Err}

pub returns : goal.returns
returns g c =
    let K = g.K.Signal.kind in
    let u = g.K.WithUnknown.blank in
    let file = c.args.file.now in
    let input = c.args.input.now in
    elim c.match-read.branch [
      | in-Ok+in_ok-push_kind_line-in-Ok+in_ok-desk-in-Ok+in_ok-converse-in-Ok w ↦
          ap string_bytes w.text-is ∙ whole_accepted K u file input w.in-Ok.board w.in_ok-desk-in-Ok.desk (string_bytes c.new-text.result) (string_bytes w.push_kind_line.new.text) (string_bytes w.converse.new.text) w.in-Ok.ensures.answer.0 w.in-Ok.ensures.answer.1 w.in_ok-desk-in-Ok.ensures c.new-text.ensures.bytes w.in_ok-push_kind_line-in-Ok.ensures w.in_ok-converse-in-Ok.ensures
      | in-Err+in_ok-push_board_line-in-Err w ↦
          ap string_bytes w.text-is ∙ whole_refused K u file input w.in-Err.refusal (string_bytes c.new-text.result) (string_bytes w.push_board_line.new.text) w.in-Err.ensures.answer c.new-text.ensures.bytes w.in_ok-push_board_line-in-Err.ensures
    ]
