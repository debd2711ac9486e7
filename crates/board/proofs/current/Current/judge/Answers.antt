use Rattle.std.proofs.Common.{◌≡◌, length, drop, sym, refl, ap, ◌∙◌, arith, length-drop, length-take}
use Rattle.rules.specs.Records.{body, outputs_in}
use Rattle.board.specs.WireTables.{bit}
use Rattle.board.specs.Current.{file_under, place, unit, seen}
use Rattle.board.proofs.Findings.{bad_wire, bad_drive, bad_state, bad_size, good, limits, through_is, starts_are, listed_below}
use Rattle.board.proofs.current.Current.judge.Goals as goal

pub returns-then-not-all_below : goal.returns-then-not-all_below
returns-then-not-all_below c =
    let o = c.args.self.now in
    let t = c.in_ok-tally.ensures in
    bad_wire (file_under o) (seen o) (place o) _ c.records-m.ensures _ c.in_ok-lists.ensures.1 c.in_ok-tally.tally t.0 t.1 (sym c.all_below.ensures ∙ c.if-not-all_below.true)

pub returns-then-not-first_driven : goal.returns-then-not-first_driven
returns-then-not-first_driven c =
    let o = c.args.self.now in
    let t = c.in_ok-tally.ensures in
    bad_drive (file_under o) (seen o) (place o) _ c.records-m.ensures _ c.in_ok-lists.ensures.1 c.in_ok-tally.tally t.0 t.1 (sym c.all_below.ensures ∙ c.if-not-all_below.false) (sym c.first_driven.ensures ∙ c.if-not-first_driven.true)

pub returns-then-not-states_right : goal.returns-then-not-states_right
returns-then-not-states_right c =
    let o = c.args.self.now in
    let t = c.in_ok-tally.ensures in
    bad_state (file_under o) (seen o) (place o) _ c.records-m.ensures _ c.in_ok-lists.ensures.1 c.in_ok-tally.tally t.0 t.1 (sym c.all_below.ensures ∙ c.if-not-all_below.false) (sym c.first_driven.ensures ∙ c.if-not-first_driven.false) (sym c.states_right.ensures ∙ c.if-not-states_right.true)

pub returns-then-not-within_limits : goal.returns-then-not-within_limits
returns-then-not-within_limits c =
    let o = c.args.self.now in
    let t = c.in_ok-tally.ensures in
    bad_size (file_under o) (seen o) (place o) _ c.records-m.ensures _ c.in_ok-lists.ensures.1 c.in_ok-tally.tally t.0 t.1 (sym c.all_below.ensures ∙ c.if-not-all_below.false) (sym c.first_driven.ensures ∙ c.if-not-first_driven.false) (sym c.states_right.ensures ∙ c.if-not-states_right.false) (sym c.within_limits.ensures ∙ c.if-not-within_limits.true)

pub cell_starts-starts-requires : goal.cell_starts-starts-requires
cell_starts-starts-requires c =
    let o = c.args.self.now in
    let t = c.in_ok-tally.ensures in
    let few = c.records-m.ensures.counts.few_occurrences in
    record {
      few = (c.in_ok-lists.ensures.1.few_states, few);
      inside = λ k h. omega (arith, listed_below (file_under o) (seen o) (place o) _ c.records-m.ensures _ c.in_ok-lists.ensures.1 c.in_ok-tally.tally t.0 t.1 (sym c.states_right.ensures ∙ c.if-not-states_right.false) k h, few);
    }

pub returns : goal.returns
returns c =
    let o = c.args.self.now in
    let f = file_under o in
    let mo = c.records-m.ensures in
    let s = c.in_ok-tally.tally in
    let t = c.in_ok-tally.ensures in
    let q = c.summary-summary.ensures in
    let hl = c.in_ok-lists.ensures.1 in
    let l = sym c.states_right.ensures ∙ c.if-not-states_right.false in
    let lo : length (unit o).outs ≡ c.records-m.result.counts.outputs = length-take (outputs_in (body f (place o))) (drop 5 (body f (place o))) ∙ omega (arith, length-drop 5 (body f (place o)), mo.counts.whole, mo.counts.outputs) in
    let z = sym c.within_limits.ensures ∙ c.if-not-within_limits.false in
    let few = limits s z in (
      good f (seen o) (place o) _ mo _ hl s t.0 t.1 (sym c.all_below.ensures ∙ c.if-not-all_below.false) (sym c.first_driven.ensures ∙ c.if-not-first_driven.false) l z,
      (
        record {
          here = refl;
          inputs = q.inputs ∙ mo.counts.inputs;
          outputs = q.outputs ∙ sym lo;
          through = λ x h. ap (λ n. bit n x) q.through_is ∙ through_is f (seen o) (place o) _ mo _ hl s t.0 t.1 c.inputs_reaching-through.result c.inputs_reaching-through.ensures x h;
          cells = q.cells ∙ t.1.cells;
          depth = q.depth ∙ t.1.depth;
          places = q.places ∙ t.1.places;
          few_cells = omega (arith, q.cells, few.1);
          shallow = omega (arith, q.depth, few.0);
          few_places = omega (arith, q.places, few.2);
        },
        λ i h. c.cell_starts-starts.ensures i (omega (arith, mo.counts.occurrences)) ∙ starts_are f (seen o) (place o) _ mo _ hl s t.0 t.1 l i,
      ),
    )
