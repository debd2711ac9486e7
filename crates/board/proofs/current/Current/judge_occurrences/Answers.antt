use Rattle.std.proofs.Common.{◌≡◌, ℕ, Bool, leb, List, length, replicate, ◌+◌, ◌<◌, ◌≤◌, ◌&&◌, eqb, ltb, get_or, take, refl, ap, ◌∙◌, sym, subst, arith}
use Rattle.std.proofs.lemmas.Bool.{leb-true}
use Rattle.rules.specs.declared.refusal.Refusal.TheVariants.{Cut}
use Rattle.rules.proofs.Verdicts.{asked_accepted, then_left}
use Rattle.std.proofs.lemmas.Result.{err_from_is_err_and}
use Rattle.std.proofs.lemmas.List.{get_or-take}
use Rattle.rules.specs.Boards.{Design, part}
use Rattle.rules.specs.Refusals.{accepted, asked}
use Rattle.rules.specs.Records.{end_of, uses, after, framed, read, occurrence_shape}
use Rattle.rules.specs.Judging.{occurrence_judged, occurrence_at}
use Rattle.rules.specs.Wires.{drive}
use Rattle.board.specs.WireTables.{driven_by, reaches}
use Rattle.board.specs.Summaries.{SummaryOf, reach_on}
use Rattle.board.specs.Current.{file_under, place, unit, seen}
use Rattle.board.specs.declared.modules.Tally.{Tally}
use Rattle.board.proofs.Tallying.{Tallied, tally_start, tally_fails, tally_more, tally_end}
use Rattle.board.proofs.current.Current.judge_occurrences.Goals as goal

-- a record that is read lies within the file
read_inside : (f : List ℕ) (at due : ℕ) (shape : List ℕ → Bool) → read f at due shape ≡ accepted → at ≤ length f
read_inside f at due shape e = omega (arith, leb-true _ _ (asked_accepted _ _ (then_left (asked (leb (end_of f at) (length f)) (Cut at)) _ (then_left (framed f at due) _ e))))

-- the loop with the tally t, before occurrence i
abbrev TalliedAt : List ℕ → (ℕ → Design) → ℕ → ℕ → Tally → Type 0
TalliedAt f below at i t = Tallied f below at i t.wires.driven t.wires.reach t.sizes t.cells t.depth t.places

pub loop-i-init : goal.loop-i-init
loop-i-init c =
    let o = c.args.self.now in
    let mo = c.records-m.ensures in
    let e = c.of_inputs-tally.ensures in
    let r = c.of_inputs-tally.result in
    let g = tally_start (file_under o) (seen o) (place o) r.wires.driven r.wires.reach (replicate 64 0) refl (λ w. e.driven w ∙ ap (ltb w) mo.counts.inputs) (λ w x. e.reach w x ∙ ap (λ n. ltb w n && eqb w x) mo.counts.inputs) in
    subst (TalliedAt (file_under o) (seen o) (place o) 0) (sym e.counts) g

pub judge_occurrence-requires : goal.judge_occurrence-requires
judge_occurrence-requires c =
    let o = c.args.self.now in
    let f = file_under o in
    let m = c.records-m.result in
    let mo = c.records-m.ensures in
    let i = c.loop-i.i in
    let h : i < uses f (place o) = omega (arith, mo.counts.occurrences) in
    let hn : i < m.counts.occurrences = omega arith in
    let st : get_or (take m.counts.occurrences m.occurrences.starts) i 0 ≡ after f (end_of f (place o)) i = get_or-take _ _ _ _ hn ∙ mo.occurrences.starts i h in
    let r = mo.occurrences.reads i h in
    subst (λ a. (read f a 3 occurrence_shape ≡ accepted) × (a ≤ length f)) (sym st) (r, read_inside f (after f (end_of f (place o)) i) 3 occurrence_shape r)

pub returns-in_err-part : goal.returns-in_err-part
returns-in_err-part c =
    let p = err_from_is_err_and c.from_residual.result c.from_residual.ensures.1 in
    let o = c.args.self.now in
    let f = file_under o in
    let m = c.records-m.result in
    let mo = c.records-m.ensures in
    let l = c.loop-i in
    let t = l.tally in
    let h : l.i < uses f (place o) = omega (arith, mo.counts.occurrences) in
    let hn : l.i < m.counts.occurrences = omega arith in
    let st : get_or (take m.counts.occurrences m.occurrences.starts) l.i 0 ≡ after f (end_of f (place o)) l.i = get_or-take _ _ _ _ hn ∙ mo.occurrences.starts l.i h in
    rw (p.1, p.2) (tally_fails f (seen o) (place o) l.i t.wires.driven t.wires.reach t.sizes t.cells t.depth t.places l.invariant c.in_err-part.field-0.0 h (ap (λ w. occurrence_judged (seen o) w (driven_by t.wires.driven) (occurrence_at f (after f (end_of f (place o)) l.i))) (sym mo.counts.wires) ∙ ap (λ a. occurrence_judged (seen o) m.counts.wires (driven_by t.wires.driven) (occurrence_at f a)) (sym st) ∙ c.in_err-part.ensures))

pub loop-i-preserved : goal.loop-i-preserved
loop-i-preserved c =
    let o = c.args.self.now in
    let f = file_under o in
    let below = seen o in
    let m = c.records-m.result in
    let mo = c.records-m.ensures in
    let l = c.loop-i in
    let t = l.tally in
    let h : l.i < uses f (place o) = omega (arith, mo.counts.occurrences) in
    let hn : l.i < m.counts.occurrences = omega arith in
    let st : get_or (take m.counts.occurrences m.occurrences.starts) l.i 0 ≡ after f (end_of f (place o)) l.i = get_or-take _ _ _ _ hn ∙ mo.occurrences.starts l.i h in
    let dr = driven_by t.wires.driven in
    let s = c.in_ok-part.part in
    let e = c.in_ok-part.ensures in
    let a = after f (end_of f (place o)) l.i in
    let v : occurrence_judged below (unit o).wires dr (occurrence_at f a) ≡ accepted =
    ap (λ w. occurrence_judged below w dr (occurrence_at f a)) (sym mo.counts.wires) ∙ ap (λ x. occurrence_judged below m.counts.wires dr (occurrence_at f x)) (sym st) ∙ e.0 in
    let k : SummaryOf below (part (occurrence_at f a).occurrence) s = subst (λ x. SummaryOf below (part (occurrence_at f x).occurrence) s) st e.1.0 in
    let kd = e.1.1 ∙ ap (λ x. drive (occurrence_at f x).occurrence.outs dr) st in
    let kr = e.1.2 ∙ ap (λ x. reach_on below (occurrence_at f x).occurrence (reaches t.wires.reach)) st in
    let g = tally_more f below (place o) l.i t.wires.driven t.wires.reach t.sizes t.cells t.depth t.places l.invariant s c.judge_occurrence.new.table.driven c.judge_occurrence.new.table.reach h (omega (arith, mo.counts.few_occurrences)) v k kd kr in
    subst (TalliedAt f below (place o) (l.i + 1)) (sym c.count.ensures) g

pub returns : goal.returns
returns c =
    let o = c.args.self.now in
    let f = file_under o in
    let mo = c.records-m.ensures in
    let l = c.loop-i in
    let t = l.tally in
    let h : uses f (place o) ≤ l.i = omega (arith, mo.counts.occurrences) in
    tally_end f (seen o) (place o) l.i t.wires.driven t.wires.reach t.sizes t.cells t.depth t.places l.invariant h (omega (arith, mo.counts.occurrences))
