-- The worked files, computed from the definitions.
use Rattle.std.proofs.Common.{refl}
use Rattle.rules.specs.Boards.{part}
use Rattle.rules.specs.Records.{after, occurrences_read, modules_read}
use Rattle.rules.specs.Judging.{placed_at, units_at, occurrences_judged, modules_judged}
use Rattle.rules.specs.Examples.{Examples}

pub examples : Examples
unfolding part after occurrences_read modules_read placed_at units_at occurrences_judged modules_judged
examples = record { toggle_accepted = refl; exchanged_refused = refl; short_refused = refl; long_refused = refl; empty_refused = refl; empty_top_accepted = refl }
