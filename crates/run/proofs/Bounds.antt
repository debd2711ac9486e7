-- How many outputs a board can have, and where on the tape they can lie.
use Rattle.std.proofs.Common.{◌≡◌, ℕ, ◌*◌, ◌^◌, ◌<◌, ◌≤◌, List, [], ◌∷◌, length, mul-le-mul, arith}
use Rattle.rules.specs.Refusals.{accepted}
use Rattle.rules.specs.Boards.{Module, top, out_wires}
use Rattle.rules.specs.Records.{records_read}
use Rattle.rules.specs.Judging.{board_of, units_of, modules_judged, verdict}
use Rattle.rules.specs.Files.{BoardRange}
use Rattle.rules.proofs.Verdicts.{then_left}
use Rattle.rules.proofs.Laid.{passes_range}
use Rattle.board.specs.declared.board.Board.{Board}
use Rattle.walk.specs.Steps.{design_in}

in_range : (board : List Module) → BoardRange board → length (out_wires (top board)) ≤ 16
in_range [] r = omega arith
in_range (m ∷ ms) r = (r.each 0 (omega arith)).outputs

of_accepted : (f : List ℕ) → verdict f ≡ accepted → length (out_wires (top (board_of f))) ≤ 16
of_accepted f e = in_range (board_of f) (passes_range f (then_left (records_read f) (modules_judged 0 (units_of f)) e))

pub few_outputs : (b : Board) → length (out_wires (design_in b)) ≤ 16
few_outputs b = of_accepted b.judged.file.now b.accepted.verdict_is

-- a place on the tape is a small number
pub small_place : (cycle outs : ℕ) → cycle < 2 ^ 16 → outs ≤ 16 → cycle * outs ≤ 1048560
small_place cycle outs h l = let k : cycle ≤ 65535 = omega arith in mul-le-mul k l
