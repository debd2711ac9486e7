use Rattle.std.proofs.Common.{refl}
use Rattle.rules.specs.Boards.{part}
use Rattle.rules.specs.Records.{after, occurrences_read, modules_read}
use Rattle.rules.specs.Judging.{placed_at, units_at, occurrences_judged, modules_judged}
use Rattle.run.specs.Examples.{WorkedExamples}
use Rattle.run.specs.AllExamples.{Verdicts, PoweredRuns, ColdRuns, RefusedCalls, Kinds}
use Rattle.run.proofs.examples_stand.Goals as goal

verdicts : Verdicts
unfolding part after occurrences_read modules_read placed_at units_at occurrences_judged modules_judged
verdicts =
    record {
      toggle_accepted = refl;
      toggle_exchanged = refl;
      toggle_cut_short = refl;
      toggle_and_one_byte = refl;
      empty_file = refl;
      two_cells_accepted = refl;
      not_and_cell_accepted = refl;
      not_alone_accepted = refl;
      empty_top_accepted = refl;
      depth_8_accepted = refl;
      depth_9_refused = refl;
    }

powered_runs : PoweredRuns
unfolding part after placed_at units_at
powered_runs =
    record {
      toggle_outputs = refl;
      toggle_counts = refl;
      two_cells_outputs = refl;
      two_cells_after_one_step = refl;
      not_and_cell_count = refl;
      not_alone_count = refl;
      empty_top_count = refl;
    }

cold_runs : ColdRuns
unfolding part after placed_at units_at
cold_runs =
    record {
      toggle_outputs = refl;
      toggle_counts = refl;
      toggle_cells = refl;
      toggle_cleared = refl;
      two_cells_outputs = refl;
      two_cells_after_one_step = refl;
    }

refused_calls : RefusedCalls
unfolding part after placed_at units_at
refused_calls =
    record {
      step_with_an_input = refl;
      no_such_cell = refl;
      no_such_output = refl;
      start_on_two_cells = refl;
      clear_of_two_cells = refl;
      working_values_too_few = refl;
      level_records_too_few = refl;
      look_on_a_short_tape = refl;
      tape_of_two = refl;
      cycle_not_yet_seen = refl;
      nothing_changed = refl;
    }

kinds : Kinds
kinds = record { zero_and_unknown = refl; unknown_xor_itself = refl; one_with_mark_3_and_zero = refl }

worked : WorkedExamples
unfolding part after occurrences_read modules_read placed_at units_at occurrences_judged modules_judged
worked =
    record {
      toggle_accepted = refl;
      toggle_outputs = refl;
      toggle_counts = refl;
      tape_of_two = refl;
      two_cells_accepted = refl;
      two_cells_outputs = refl;
      two_cells_moved = refl;
      not_and_cell_accepted = refl;
      not_and_cell_count = refl;
      not_alone_accepted = refl;
      not_alone_count = refl;
      empty_top_accepted = refl;
      empty_top_count = refl;
    }

pub returns : goal.returns
returns c = record { worked = worked; all = record { verdicts = verdicts; powered_runs = powered_runs; cold_runs = cold_runs; refused_calls = refused_calls; kinds = kinds } }
