-- What the reader and the parsers hand on.
use Rattle.std.specs.Prelude.{◌≡◌, ℕ, ◌+◌, ◌≤◌, List, length}
use Rattle.rules.specs.Records.{end_of, body, inputs_in, outputs_in, wires_in, occurrences_in, states_in}
use Rattle.rules.specs.Judging.{occurrence_in}
use Rattle.board.specs.declared.records.RecordKind.{RecordKind}
use Rattle.board.specs.declared.records.RecordKind.TheVariants.{Board, Module, Occurrence as OccurrenceKind}
use Rattle.board.specs.declared.records.Record.{Record}
use Rattle.board.specs.declared.bodies.Counts.{Counts}
use Rattle.board.specs.declared.bodies.Occurrence.{Occurrence}

abbrev pub kind_number : RecordKind → ℕ
kind_number Board = 1
kind_number Module = 2
kind_number OccurrenceKind = 3

-- the record at `at`
pub record RecordOf (f : List ℕ) (at : ℕ) (due : RecordKind) (r : Record) : Type 0 where
  pub place : r.place ≡ at
  pub kind : r.kind ≡ due
  pub body : r.body.now ≡ body f at
  pub ends : at + 4 + length r.body.now ≡ end_of f at
  pub whole : end_of f at ≤ length f

-- the counts of a module's body, in range
pub record CountsOf (b : List ℕ) (c : Counts) : Type 0 where
  pub inputs : c.inputs ≡ inputs_in b
  pub outputs : c.outputs ≡ outputs_in b
  pub wires : c.wires ≡ wires_in b
  pub occurrences : c.occurrences ≡ occurrences_in b
  pub states : c.states ≡ states_in b
  pub few_inputs : c.inputs ≤ 16
  pub few_outputs : c.outputs ≤ 16
  pub inputs_wired : c.inputs ≤ c.wires
  pub few_wires : c.wires ≤ 128
  pub few_occurrences : c.occurrences ≤ 64
  pub few_states : c.states ≤ c.occurrences
  pub whole : length b ≡ 5 + c.outputs + c.states

-- the parts of an occurrence's body
pub record OccurrenceOf (b : List ℕ) (o : Occurrence) : Type 0 where
  pub reference : o.reference ≡ (occurrence_in b).reference
  pub ins : o.ins.now ≡ (occurrence_in b).ins
  pub outs : o.outs.now ≡ (occurrence_in b).outs
  pub few_ins : length o.ins.now ≤ 16
  pub few_outs : length o.outs.now ≤ 16
