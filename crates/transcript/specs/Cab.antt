-- The text of the cab program, which works on three levels.
use Rattle.std.specs.Prelude.{ℕ, List}
use Rattle.signal.specs.declared.levels.Level.TheVariants.{Unknown}
use Rattle.signal.specs.Levels.{levels}
use Rattle.transcript.specs.Sessions.{transcript}

abbrev pub cab_text : List ℕ → List ℕ → List ℕ
cab_text file input = transcript levels Unknown file input
