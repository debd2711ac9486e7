use Rattle.std.proofs.Common.{◌≡◌, ℕ, ◌-◌, ◌<◌, ◌≤◌, length, get_or}
use Rattle.rules.specs.Records.{module_at, modules_read}
use Rattle.board.specs.Layouts.{ModuleOf, no_records}
use Rattle.board.proofs.layout.Rest.modules.Given as goal

abbrev pub invariant-loop-module : goal.invariant-loop-module
invariant-loop-module l =
    (l.at ≡ module_at l.self.file.now l.self.at l.module-index)
    × (l.at ≤ length l.self.file.now)
    × (length l.module-items ≡ l.count)
    × ((j : ℕ) → j < l.module-index → ModuleOf l.self.file.now (module_at l.self.file.now l.self.at j) (get_or l.module-items j no_records))
    × (modules_read l.self.file.now l.at (l.count - l.module-index) ≡ modules_read l.self.file.now l.self.at l.count)
