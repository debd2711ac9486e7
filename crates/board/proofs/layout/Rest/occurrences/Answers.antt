use Rattle.std.proofs.Common.{◌≡◌, ◌+◌, ◌-◌, ◌<◌, ◌≢◌, length, replicate, sym, refl, ap, ◌∙◌, subst, arith, length-set, get_or-set_other, get_or-set_same, below_more}
use Rattle.std.proofs.lemmas.List.{length-take-le}
use Rattle.std.proofs.Math.ListN.{get_or-append}
use Rattle.std.proofs.lemmas.Result.{err_from_is_err_and}
use Rattle.rules.specs.Refusals.{accepted, refused, asked}
use Rattle.rules.specs.Records.{end_of, after, read, occurrence_shape, occurrences_read}
use Rattle.rules.specs.declared.refusal.Refusal.TheVariants.{Shape}
use Rattle.rules.proofs.Reading.{after_more, occurrences_on, occurrences_off, read_on, read_off, read_cut, none_left}
use Rattle.board.proofs.layout.Rest.occurrences.Goals as goal

pub loop-start-init : goal.loop-start-init
unfolding after
loop-start-init c = (refl, c.args.self.now.inside, length-take-le c.args.counts.occurrences (replicate 64 0) (omega arith), λ j h. absurd (omega arith), λ j h. absurd (omega arith), ap (occurrences_read c.args.self.now.file.now c.args.self.now.at) (omega arith))

pub returns-in_err-record : goal.returns-in_err-record
returns-in_err-record c =
    let p = err_from_is_err_and c.from_residual.result c.from_residual.ensures.1 in
    let f = c.args.self.now.file.now in
    let e = read_cut f c.loop-start.at 3 occurrence_shape c.in_err-record.field-0.0 c.in_err-record.ensures in
    let o = occurrences_off f c.loop-start.at (c.args.counts.occurrences - c.loop-start.start-index) (c.args.counts.occurrences - (c.loop-start.start-index + 1)) c.in_err-record.field-0.0 (omega arith) e in
    rw (p.1, p.2) (sym c.loop-start.invariant.5 ∙ o)

pub returns-in_err-parse_occurrence : goal.returns-in_err-parse_occurrence
returns-in_err-parse_occurrence c =
    let p = err_from_is_err_and c.from_residual-in_err-parse_occurrence.result c.from_residual-in_err-parse_occurrence.ensures.1 in
    let f = c.args.self.now.file.now in
    let r = c.in_err-parse_occurrence.field-0.0 in
    let h = c.in_ok-record.ensures in
    let e = read_off f c.loop-start.at 3 occurrence_shape c.in_ok-record.record.body.now r h.1.body h.0 (subst (λ x. asked (occurrence_shape c.in_ok-record.record.body.now) (Shape x) ≡ refused r) h.1.place c.in_err-parse_occurrence.ensures) in
    let o = occurrences_off f c.loop-start.at (c.args.counts.occurrences - c.loop-start.start-index) (c.args.counts.occurrences - (c.loop-start.start-index + 1)) r (omega arith) e in
    rw (p.1, p.2) (sym c.loop-start.invariant.5 ∙ o)

pub loop-start-preserved : goal.loop-start-preserved
loop-start-preserved c =
    let f = c.args.self.now.file.now in
    let at = c.loop-start.at in
    let i = c.loop-start.start-index in
    let h = c.in_ok-record.ensures in
    let q = c.loop-start.invariant.0 in
    let e = read_on f at 3 occurrence_shape c.in_ok-record.record.body.now h.1.body h.0 (subst (λ x. asked (occurrence_shape c.in_ok-record.record.body.now) (Shape x) ≡ accepted) h.1.place c.in_ok-parse_occurrence.ensures.0) in
    let n : at + (4 + length c.in_ok-record.record.body.now) ≡ end_of f at = omega (arith, h.1.ends) in
    let a = after_more f c.args.self.now.at i in
    let o = occurrences_on f at (c.args.counts.occurrences - i) (c.args.counts.occurrences - (i + 1)) (omega arith) e in
    let lt : i < length c.loop-start.start-items = omega arith in (
      n ∙ ap (end_of f) q ∙ sym a,
      omega (arith, h.1.ends, h.1.whole),
      simp length-set c.loop-start.invariant.2,
      below_more _ _ (λ k l. let ne : k ≢ i = omega arith in rw get_or-set_other (c.loop-start.invariant.3 k l)) (rw get_or-set_same q),
      below_more _ _ c.loop-start.invariant.4 (ap (λ x. read f x 3 occurrence_shape) (sym q) ∙ e),
      ap (λ x. occurrences_read f x (c.args.counts.occurrences - (i + 1))) n ∙ sym o ∙ c.loop-start.invariant.5,
    )

pub returns : goal.returns
returns c =
    let f = c.args.self.now.file.now in
    let e : c.loop-start.start-index ≡ c.args.counts.occurrences = omega arith in
    let z = none_left f c.loop-start.at c.args.counts.occurrences c.loop-start.start-index (omega arith) in (
      sym c.loop-start.invariant.5 ∙ z,
      record { starts = λ i h. let lt : i < length c.loop-start.start-items = omega arith in get_or-append c.loop-start.start-items _ 0 i lt ∙ c.loop-start.invariant.3 i (omega arith); reads = rw e at c.loop-start.invariant.4; end = c.loop-start.invariant.0 ∙ ap (after f c.args.self.now.at) e; inside = c.loop-start.invariant.1 },
    )
