-- The tables of an accepted board.
use Rattle.std.proofs.Common.{◌≡◌, ℕ, suc, ◌+◌, ◌<◌, List, [], length, get_or, drop, sym, ap, ◌∙◌, ap₂, subst₂, arith, length-drop}
use lib.ListN.{length-map}
use Rattle.std.proofs.lemmas.List.{get_or-map, drop-map, length-take-le}
use Rattle.rules.specs.Refusals.{accepted}
use Rattle.rules.specs.Boards.{Module, Design, no_module, module_number, design_from, cells_at, ahead}
use Rattle.rules.specs.Records.{end_of, body, uses, module_count, module_place, records_read, outputs_in, states_in}
use Rattle.rules.specs.Judging.{module_of, unit_no, units_of, board_of, modules_judged, verdict, seen_from}
use Rattle.rules.proofs.Verdicts.{then_left}
use Rattle.rules.proofs.Modules.{length_units}
use Rattle.rules.proofs.Laid.{length_placed, unit_is, passes_module_place, passes_occurrence_place}
use Rattle.board.specs.declared.tables.Judged.{Judged}
use Rattle.board.specs.Decoded.{Accepted}
use Rattle.board.specs.Layouts.{ModuleOf, no_records}
use Rattle.board.specs.Summaries.{file_of}
use Rattle.board.specs.declared.layout.ModuleRecords.{ModuleRecords}
use Rattle.board.specs.declared.lent.Tables.{Tables}
use Rattle.board.specs.Lent.{behind, RecordsOf, CellsBegin, Right}

module _ (b : Judged) (a : Accepted b) where
  abbrev f : List ℕ
  f = file_of b

  abbrev board : List Module
  board = board_of f

  reads : records_read f ≡ accepted
  reads = then_left (records_read f) (modules_judged 0 (units_of f)) a.verdict_is

  counted : length board ≡ module_count f
  counted = length-map (units_of f) module_of ∙ length_units f (end_of f 0) (module_count f)

  module _ (k : ℕ) (h : k < length board) where
    abbrev at : ℕ
    at = module_place f k

    module_is : module_number board k ≡ module_of (unit_no f k)
    module_is = get_or-map module_of (units_of f) k (unit_no f 0) no_module (omega (arith, length-map (units_of f) module_of)) ∙ ap module_of (unit_is f k (unit_no f 0) h)

    used : length (module_number board k).occurrences ≡ uses f at
    used = ap (λ m. length m.occurrences) module_is ∙ length-map (unit_no f k).placed _ ∙ length_placed f (end_of f at) (uses f at)

    found : ModuleOf f at (get_or b.modules k no_records)
    found = a.judged.modules k (omega (arith, counted))

    outs_long : length (module_number board k).outs ≡ outputs_in (body f at)
    outs_long =
        let c = found.counts in
        ap (λ m. length m.outs) module_is ∙ length-take-le (outputs_in (body f at)) (drop 5 (body f at)) (omega (arith, length-drop 5 (body f at), c.whole, c.outputs))

    states_long : length (module_number board k).states ≡ states_in (body f at)
    states_long =
        let c = found.counts in
        ap (λ m. length m.states) module_is ∙ length-take-le (states_in (body f at)) (drop (5 + outputs_in (body f at)) (body f at)) (omega (arith, length-drop (5 + outputs_in (body f at)) (body f at), c.whole, c.outputs, c.states))

    records_right : RecordsOf board k (get_or b.modules k no_records)
    records_right =
        record {
          place = found.place ∙ passes_module_place f reads k (omega arith);
          inputs = found.counts.inputs ∙ sym (ap (λ m. m.inputs) module_is);
          outputs = found.counts.outputs ∙ sym outs_long;
          wires = found.counts.wires ∙ sym (ap (λ m. m.wires) module_is);
          occurrences = found.counts.occurrences ∙ sym used;
          states = found.counts.states ∙ sym states_long;
          starts = λ i l. found.occurrences.starts i (omega (arith, used)) ∙ passes_occurrence_place f reads k h i (omega arith);
        }

    behind_is : seen_from f (k + 1) ≡ behind board k
    behind_is =
        let z : k + 1 ≡ suc k = omega arith in
        ap (seen_from f) z ∙ ap (design_from (suc k)) (sym (drop-map module_of (suc k) (units_of f)))

    cells_right : CellsBegin board k (get_or b.starts k [])
    cells_right i l =
        a.started k (omega arith) (omega (arith, a.judged.count, counted)) i (omega (arith, used))
        ∙ ap₂ (λ (m : Module) (d : ℕ → Design). ahead (cells_at m d) m.states i) (sym module_is) behind_is

  pub right : (t : Tables) → t.file.now ≡ f → t.modules.now ≡ b.modules → t.starts.now ≡ b.starts → Right t
  right t ef em es =
      record {
        verdict_is = ap verdict ef ∙ a.verdict_is;
        modules = subst₂ (λ (x : List ℕ) (ms : List ModuleRecords). (k : ℕ) → k < length (board_of x) → RecordsOf (board_of x) k (get_or ms k no_records)) (sym ef) (sym em) records_right;
        starts = subst₂ (λ (x : List ℕ) (ss : List (List ℕ)). (k : ℕ) → k < length (board_of x) → CellsBegin (board_of x) k (get_or ss k [])) (sym ef) (sym es) cells_right;
      }
