-- What judging knows of the modules that it has passed.
use Rattle.std.specs.Prelude.{◌≡◌, ℕ, ◌<◌, ◌≤◌, Bool, true, false, List, map, length, Some, None, Option, slice_index_or}
use Rattle.gates.specs.declared.Part.{Part}
use Rattle.gates.specs.declared.Part.TheVariants.{Gate as gate, Cell as cell, Module as module_no}
use Rattle.rules.specs.Boards.{Occurrence, Design, part, present, in_count, out_wires, cells, cells_of, depth, places, of_module, inputs_due, outputs_due}
use Rattle.rules.specs.Wires.{Wires, put, through_of, through, reached}
use Rattle.rules.specs.Records.{end_of, module_count}
use Rattle.rules.specs.Judging.{seen_from}
use Rattle.board.specs.WireTables.{bit}
use Rattle.board.specs.Layouts.{ModulesOf}
use Rattle.board.specs.declared.tables.Summary.{Summary}
use Rattle.board.specs.declared.tables.Judged.{Judged}

-- is input x of a part through
abbrev pub passing : (ℕ → Design) → Option Part → ℕ → Bool
passing below (Some (gate g)) x = true
passing below (Some cell) x = false
passing below (Some (module_no j)) x = through (below j) x
passing below None x = false

-- the summary of a part that an occurrence refers to
pub record SummaryOf (below : ℕ → Design) (p : Option Part) (s : Summary) : Type 0 where
  pub inputs : s.inputs ≡ inputs_due below p
  pub outputs : s.outputs ≡ length (outputs_due below p)
  pub through : (x : ℕ) → x < 16 → bit s.through x ≡ passing below p x
  pub cells : s.cells ≡ cells_of (λ j. cells (below j)) p
  pub depth : s.depth ≡ of_module (λ j. depth (below j)) p
  pub places : s.places ≡ of_module (λ j. places (below j)) p
  pub few_cells : s.cells ≤ 4096
  pub shallow : s.depth ≤ 8
  pub few_places : s.places ≤ 65535

-- the summary of a module
pub record Described (d : Design) (s : Summary) : Type 0 where
  pub here : present d ≡ true
  pub inputs : s.inputs ≡ in_count d
  pub outputs : s.outputs ≡ length (out_wires d)
  pub through : (x : ℕ) → x < 16 → bit s.through x ≡ through d x
  pub cells : s.cells ≡ cells d
  pub depth : s.depth ≡ depth d
  pub places : s.places ≡ places d
  pub few_cells : s.cells ≤ 4096
  pub shallow : s.depth ≤ 8
  pub few_places : s.places ≤ 65535

abbrev pub no_summary : Summary
no_summary = record { inputs = 0; outputs = 0; through = 0; cells = 0; depth = 0; places = 0 }

abbrev pub file_of : Judged → List ℕ
file_of b = b.file.now

-- the modules from number k on are judged
pub record JudgedFrom (b : Judged) (k : ℕ) : Type 0 where
  pub count : b.count ≡ module_count (file_of b)
  pub some : 1 ≤ b.count
  pub few : b.count ≤ 64
  pub short : length (file_of b) ≤ 32768
  pub modules : ModulesOf (file_of b) (end_of (file_of b) 0) (module_count (file_of b)) b.modules
  pub summaries : (j : ℕ) → k ≤ j → j < b.count → Described (seen_from (file_of b) k j) (slice_index_or b.summaries j no_summary)

-- the reach of the wires behind an occurrence, from that of the wires ahead of it
abbrev pub reach_on : (ℕ → Design) → Occurrence → Wires (ℕ → Bool) → Wires (ℕ → Bool)
reach_on below o ws = put o.outs (map (λ _. reached ws (through_of (λ j. through (below j)) (part o) o.ins)) (outputs_due below (part o))) ws
