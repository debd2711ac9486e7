use Rattle.std.proofs.Common.{length, refl, ◌∙◌, rules}
use Rattle.std.proofs.lemmas.Simd.{splat_is_map}
use Rattle.walk.proofs.Fills.{all_filled}
use Rattle.walk.proofs.windows.lower.Goals as goal

pub returns : goal.returns
returns g c =
    let f = c.fill_with.ensures in
    let ws = c.args.wires.now in
    all_filled _ _ c.low-low.result (λ x q s. search rules) ws c.fill_with.new.self f.ran.0 f.len f.ran.1
    ∙ splat_is_map ws (length ws) c.low-low.result refl
    ∙ rw c.low-low.ensures refl
