-- The law for runs, whole, over every file that the judge accepts: what starting a run promises.
use Rattle.std.specs.Prelude.{◌≡◌, ℕ, List}
use Rattle.signal.specs.Kinds.{Kind}
use Rattle.rules.specs.Refusals.{accepted}
use Rattle.rules.specs.Boards.{Design, top}
use Rattle.rules.specs.Judging.{board_of, verdict}
use Rattle.flat.specs.RunLaws.{LawForPoweredRuns, LawForColdRuns}
use Rattle.run.specs.Slices.{SlicesFollow, MemoryBuilds}
use Rattle.run.specs.SliceLaws.{LawForPoweredSlices, LawForColdSlices}

-- of the top of every accepted file
abbrev pub OfAccepted : (Design → Type 0) → Type 0
OfAccepted P = (file : List ℕ) → verdict file ≡ accepted → P (top (board_of file))

-- The law for powered runs: of the definition of runs, and of calls on the caller's slices, which follow that definition as
-- long as they are handed parts of one memory.
pub record PoweredLaw {V : Type 0} (K : Kind V) : Type 0 where
  pub runs : OfAccepted (LawForPoweredRuns K)
  pub slices : OfAccepted (LawForPoweredSlices K)
  pub follow : SlicesFollow K
  pub memory : MemoryBuilds K

-- The law for both starts, where u is the unknown of a cold one.
pub record WholeLaw {V : Type 0} (K : Kind V) (u : V) : Type 0 where
  pub powered : PoweredLaw K
  pub cold_runs : OfAccepted (λ d. LawForColdRuns K d u)
  pub cold_slices : OfAccepted (λ d. LawForColdSlices K d u)
