-- What a judged file's tables hold.
use Rattle.std.specs.Prelude.{◌≡◌, ℕ, List}
use Rattle.rules.specs.Refusals.{accepted}
use Rattle.rules.specs.Judging.{verdict}
use Rattle.board.specs.declared.tables.Judged.{Judged}
use Rattle.board.specs.Summaries.{file_of, JudgedFrom}
use Rattle.board.specs.Tallies.{StartedFrom}

-- the verdict on the file is acceptance, and the tables are the file's: its records, what its modules come to, and where the
-- cells of its occurrences begin
pub record Accepted (b : Judged) : Type 0 where
  pub verdict_is : verdict (file_of b) ≡ accepted
  pub judged : JudgedFrom b 0
  pub started : StartedFrom b 0

-- the file f, accepted and decoded
pub record Decoded (f : List ℕ) (b : Judged) : Type 0 where
  pub file : file_of b ≡ f
  pub accepted : Accepted b
