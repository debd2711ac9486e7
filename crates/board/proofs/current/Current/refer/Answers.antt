use Rattle.std.proofs.Common.{ℕ, Some, Ok, Err, Option, Result, sym, refl, ap, ◌∙◌, subst}
use Rattle.gates.specs.declared.Part.{Part}
use Rattle.gates.specs.declared.Part.TheVariants.{Module as module_no}
use Rattle.rules.specs.declared.refusal.Refusal.{Refusal}
use Rattle.rules.specs.declared.refusal.Refusal.TheVariants.{Refer}
use Rattle.rules.specs.Refusals.{Judges, asked}
use Rattle.rules.specs.Boards.{Design, present}
use Rattle.rules.specs.Judging.{known}
use Rattle.board.specs.Summaries.{SummaryOf, Described}
use Rattle.board.specs.Current.{seen}
use Rattle.board.specs.declared.tables.Summary.{Summary}
use Rattle.board.proofs.current.Current.refer.Goals as goal

-- what is found of a reference, once it is known what it stands for
abbrev Found : (ℕ → Design) → ℕ → Result Summary Refusal → Option Part → Type 0
Found below place r p = Judges r (asked (known below p) (Refer place)) (SummaryOf below p)

-- what was found of a module is what is found of a reference to it
of_described : (below : ℕ → Design) (j place : ℕ) (r : Result Summary Refusal) → Judges r (asked (present (below j)) (Refer place)) (Described (below j)) → Found below place r (Some (module_no j))
of_described below j place (Ok s) k =
    let d = k.1 in
    (k.0, record { inputs = d.inputs; outputs = d.outputs; through = d.through; cells = d.cells; depth = d.depth; places = d.places; few_cells = d.few_cells; shallow = d.shallow; few_places = d.few_places })
of_described below j place (Err e) k = k

pub returns-in-Some-Gate : goal.returns-in-Some-Gate
returns-in-Some-Gate c =
    let below = seen c.args.self.now in
    subst (Found below c.args.place (Ok c.gate_summary.result)) (ap Some (sym c.in-Some-Gate.field-0-is) ∙ c.in-Some-Gate.ensures) (refl, c.gate_summary.ensures below)

pub returns-in-Some-Cell : goal.returns-in-Some-Cell
returns-in-Some-Cell c =
    let below = seen c.args.self.now in
    subst (Found below c.args.place (Ok c.cell_summary.result)) (ap Some (sym c.in-Some-Cell.field-0-is) ∙ c.in-Some-Cell.ensures) (refl, c.cell_summary.ensures below)
