use Rattle.std.proofs.Common.{◌≡◌, ◌+◌, ◌-◌, ◌<◌, ◌≢◌, length, replicate, sym, refl, ap, ◌∙◌, subst, arith, length-set, get_or-set_other, get_or-set_same, below_more}
use Rattle.std.proofs.lemmas.List.{length-take-le}
use Rattle.std.proofs.Math.ListN.{get_or-append}
use Rattle.board.specs.Layouts.{ModuleOf, no_records}
use Rattle.std.proofs.lemmas.Result.{err_from_is_err_and}
use Rattle.rules.specs.Records.{module_end, module_at, modules_read}
use Rattle.rules.proofs.Reading.{module_at_more, modules_on, modules_off, all_read}
use Rattle.rules.proofs.Verdicts.{asked_yes, asked_no}
use Rattle.std.proofs.lemmas.Bool.{eq-eqb, ne_eqb}
use Rattle.board.proofs.layout.Rest.modules.Goals as goal

pub loop-module-init : goal.loop-module-init
unfolding module_at
loop-module-init c = (refl, c.args.self.now.inside, length-take-le c.args.count (replicate 64 _) (omega arith), λ j h. absurd (omega arith), ap (modules_read c.args.self.now.file.now c.args.self.now.at) (omega arith))

pub returns-in_err-module : goal.returns-in_err-module
returns-in_err-module c =
    let p = err_from_is_err_and c.from_residual.result c.from_residual.ensures.1 in
    let f = c.args.self.now.file.now in
    let o = modules_off f c.loop-module.at (c.args.count - c.loop-module.module-index) (c.args.count - (c.loop-module.module-index + 1)) c.in_err-module.field-0.0 (omega arith) c.in_err-module.ensures in
    rw (p.1, p.2) (sym c.loop-module.invariant.4 ∙ o)

pub loop-module-preserved : goal.loop-module-preserved
loop-module-preserved c =
    let f = c.args.self.now.file.now in
    let at = c.loop-module.at in
    let i = c.loop-module.module-index in
    let h = c.in_ok-module.ensures in
    let q = c.loop-module.invariant.0 in
    let a = module_at_more f c.args.self.now.at i in
    let n = h.1.occurrences.end in
    let o = modules_on f at (c.args.count - i) (c.args.count - (i + 1)) (omega arith) h.0 in
    let lt : i < length c.loop-module.module-items = omega arith in (
      n ∙ ap (module_end f) q ∙ sym a,
      h.1.occurrences.inside,
      simp length-set c.loop-module.invariant.2,
      below_more _ _ (λ k l. let ne : k ≢ i = omega arith in rw get_or-set_other (c.loop-module.invariant.3 k l)) (rw (get_or-set_same, ← q) h.1),
      ap (λ x. modules_read f x (c.args.count - (i + 1))) n ∙ sym o ∙ c.loop-module.invariant.4,
    )

pub returns-then-at-self : goal.returns-then-at-self
returns-then-at-self c = sym c.loop-module.invariant.4 ∙ all_read c.args.self.now.file.now c.loop-module.at c.args.count c.loop-module.module-index (omega arith) ∙ asked_no _ _ (ne_eqb c.loop-module.at (length c.args.self.now.file.now) c.if-at-self.true)

pub returns : goal.returns
returns c =
    let f = c.args.self.now.file.now in
    let e : c.loop-module.module-index ≡ c.args.count = omega arith in
    (sym c.loop-module.invariant.4 ∙ all_read f c.loop-module.at c.args.count c.loop-module.module-index (omega arith) ∙ asked_yes _ _ (eq-eqb c.loop-module.at (length f) c.if-at-self.false), λ j h. let lt : j < length c.loop-module.module-items = omega arith in subst (ModuleOf f (module_at f c.args.self.now.at j)) (sym (get_or-append c.loop-module.module-items _ no_records j lt)) (c.loop-module.invariant.3 j (omega arith)))
