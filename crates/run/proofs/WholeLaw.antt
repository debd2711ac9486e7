-- The law for runs over every accepted file, whole.
use Rattle.signal.specs.Kinds.{Kind, Lawful, AdmitsBoth}
use Rattle.rules.specs.Boards.{top}
use Rattle.rules.specs.Judging.{board_of}
use Rattle.rules.proofs.Sounds.{accepted_top}
use Rattle.flat.proofs.Runs.{powered_law, cold_law}
use Rattle.run.specs.Law.{PoweredLaw, WholeLaw}
use Rattle.run.proofs.Slices.{slices_follow, memory_builds}
use Rattle.run.proofs.SliceLaws.{powered_slices, cold_slices}

module _ {V : Type 0} (K : Kind V) (law : Lawful K) where
  pub powered_whole : PoweredLaw K
  powered_whole =
      record {
        runs = λ file e. powered_law K law (top (board_of file)) (accepted_top file e);
        slices = λ file e. powered_slices K (top (board_of file)) law (accepted_top file e);
        follow = slices_follow K;
        memory = memory_builds K;
      }

  pub law_whole : (u : V) → AdmitsBoth K u → WholeLaw K u
  law_whole u both =
      record {
        powered = powered_whole;
        cold_runs = λ file e. cold_law K law (top (board_of file)) (accepted_top file e) u both;
        cold_slices = λ file e. cold_slices K (top (board_of file)) law (accepted_top file e) u both;
      }
