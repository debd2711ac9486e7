use Rattle.std.proofs.Common.{◌≡◌, ℕ, ◌+◌, ◌-◌, ◌<◌, ◌≤◌, [], get_or, drop, sym, refl, ap, ◌∙◌, subst, arith, length-set}
use Rattle.std.proofs.lemmas.Result.{err_from_is_err_and}
use Rattle.rules.specs.Refusals.{accepted, refused}
use Rattle.rules.specs.Records.{records_read, module_count}
use Rattle.rules.specs.Judging.{units_of, module_judged, modules_judged, verdict, unit_no, seen_from}
use Rattle.board.specs.Summaries.{JudgedFrom, Described, file_of, no_summary}
use Rattle.board.specs.Tallies.{StartsOf, StartedFrom}
use Rattle.rules.proofs.Verdicts.{passed}
use Rattle.rules.proofs.Modules.{judged_step, judged_out, judged_end}
use Rattle.board.proofs.Judgings.{summaries_more, starts_more}
use Rattle.board.proofs.judging.judge_file.Goals as goal

pub loop-k-init : goal.loop-k-init
loop-k-init c =
    let f = c.args.file.now in
    let hl = c.in_ok-layout.ensures in (
      refl,
      refl,
      record { count = hl.1.count; some = hl.1.some; few = hl.1.few; short = hl.1.short; modules = hl.1.modules; summaries = λ j a b. absurd (omega arith) },
      judged_end f c.in_ok-layout.layout.count (omega (arith, hl.1.count)),
      refl,
      λ j a b. absurd (omega arith),
    )

pub returns-in_err-summary : goal.returns-in_err-summary
returns-in_err-summary c =
    let p = err_from_is_err_and c.from_residual-in_err-summary.result c.from_residual-in_err-summary.ensures.1 in
    let f = c.args.file.now in
    let b = c.loop-k.b in
    let k = c.loop-k.k - 1 in
    let e = c.loop-k.invariant.0 in
    let hl = c.in_ok-layout.ensures in
    let z : k + 1 ≡ c.loop-k.k = omega arith in
    let h : k < module_count f = omega (arith, hl.1.count, c.loop-k.auto.k) in
    let hj : modules_judged (k + 1) (drop (k + 1) (units_of f)) ≡ accepted = subst (λ n. modules_judged n (drop n (units_of f)) ≡ accepted) (sym z) c.loop-k.invariant.3 in
    let r = c.in_err-summary.field-0.0 in
    let m = subst (λ x. module_judged (seen_from x (k + 1)) (unit_no x k) ≡ refused r) e c.in_err-summary.ensures in
    rw (p.1, p.2) (passed (records_read f) _ hl.0 ∙ judged_out f k r (judged_step f k h hj ∙ m))

pub loop-k-preserved : goal.loop-k-preserved
loop-k-preserved c =
    let f = c.args.file.now in
    let b = c.loop-k.b in
    let k = c.loop-k.k - 1 in
    let e = c.loop-k.invariant.0 in
    let hl = c.in_ok-layout.ensures in
    let z : k + 1 ≡ c.loop-k.k = omega arith in
    let h : k < module_count f = omega (arith, hl.1.count, c.loop-k.auto.k) in
    let hj : modules_judged (k + 1) (drop (k + 1) (units_of f)) ≡ accepted = subst (λ n. modules_judged n (drop n (units_of f)) ≡ accepted) (sym z) c.loop-k.invariant.3 in
    let s = c.in_ok-summary.field-0.summary in
    let hs = c.in_ok-summary.ensures in
    let j = c.loop-k.invariant.2 in
    let m = subst (λ x. module_judged (seen_from x (k + 1)) (unit_no x k) ≡ accepted) e hs.0 in
    let g : (i : ℕ) → k + 1 ≤ i → i < b.count → Described (seen_from (file_of b) (k + 1) i) (get_or b.summaries i no_summary) = subst (λ n. (i : ℕ) → n ≤ i → i < b.count → Described (seen_from (file_of b) n i) (get_or b.summaries i no_summary)) (sym z) j.summaries in
    let n : b.count ≡ module_count f = j.count ∙ ap module_count e in (
      e,
      simp length-set c.loop-k.invariant.1,
      record { count = j.count; some = j.some; few = j.few; short = j.short; modules = j.modules; summaries = summaries_more (file_of b) k b.count b.summaries s (omega (arith, c.loop-k.invariant.1, j.few)) j.count (omega (arith, n, h)) g hs.1.0 },
      judged_step f k h hj ∙ m,
      simp length-set c.loop-k.invariant.4,
      starts_more (file_of b) k b.count b.starts c.in_ok-summary.field-0.starts (omega (arith, c.loop-k.invariant.4, j.few, n, h)) (subst (λ x. (i : ℕ) → x ≤ i → i < b.count → StartsOf (file_of b) i (get_or b.starts i [])) (sym z) c.loop-k.invariant.5) hs.1.1,
    )

pub returns : goal.returns
returns c =
    let f = c.args.file.now in
    let hl = c.in_ok-layout.ensures in
    let z : c.loop-k.k ≡ 0 = omega arith in
    let v : verdict f ≡ accepted = passed (records_read f) (modules_judged 0 (units_of f)) hl.0 ∙ subst (λ n. modules_judged n (drop n (units_of f)) ≡ accepted) z c.loop-k.invariant.3 in
    let e = c.loop-k.invariant.0 in
    (v, record { file = e; accepted = record { verdict_is = ap verdict e ∙ v; judged = subst (JudgedFrom c.loop-k.b) z c.loop-k.invariant.2; started = subst (StartedFrom c.loop-k.b) z c.loop-k.invariant.5 } })
