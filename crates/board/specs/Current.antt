-- The module that is being judged, in the words of its file.
use Rattle.std.specs.Prelude.{ℕ, ◌+◌, List}
use Rattle.rules.specs.Boards.{Design}
use Rattle.rules.specs.Records.{module_place}
use Rattle.rules.specs.Judging.{PlacedModule, unit_no, seen_from}
use Rattle.board.specs.Summaries.{file_of}
use Rattle.board.specs.declared.current.Current.{Current}

abbrev pub file_under : Current → List ℕ
file_under c = file_of c.judged.now

-- where its record begins
abbrev pub place : Current → ℕ
place c = module_place (file_under c) c.number

abbrev pub unit : Current → PlacedModule
unit c = unit_no (file_under c) c.number

-- the modules that it may use
abbrev pub seen : Current → ℕ → Design
seen c = seen_from (file_under c) (c.number + 1)
