use Rattle.std.proofs.Common.{◌≡◌, ℕ, ◌-◌, ◌<◌, ◌≤◌, length, get_or}
use Rattle.rules.specs.Refusals.{accepted}
use Rattle.rules.specs.Records.{after, read, occurrence_shape, occurrences_read}
use Rattle.board.proofs.layout.Rest.occurrences.Given as goal

abbrev pub invariant-loop-start : goal.invariant-loop-start
invariant-loop-start l =
    (l.at ≡ after l.self.file.now l.self.at l.start-index)
    × (l.at ≤ length l.self.file.now)
    × (length l.start-items ≡ l.fn.counts.occurrences)
    × ((j : ℕ) → j < l.start-index → get_or l.start-items j 0 ≡ after l.self.file.now l.self.at j)
    × ((j : ℕ) → j < l.start-index → read l.self.file.now (after l.self.file.now l.self.at j) 3 occurrence_shape ≡ accepted)
    × (occurrences_read l.self.file.now l.at (l.fn.counts.occurrences - l.start-index) ≡ occurrences_read l.self.file.now l.self.at l.fn.counts.occurrences)
