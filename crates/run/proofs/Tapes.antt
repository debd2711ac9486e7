-- Where the parts for the cycles lie on the tape.
use Rattle.std.proofs.Common.{◌≡◌, ℕ, ◌+◌, ◌*◌, ◌<◌, ◌≤◌, ap, ◌∙◌, add-mul, mul-le-mul, one-mul, arith}

-- where the part for the next cycle ends
pub next_cycle : (cycle outs : ℕ) → (cycle + 1) * outs ≡ cycle * outs + outs
next_cycle cycle outs = add-mul cycle 1 outs ∙ ap (λ n. cycle * outs + n) (one-mul outs)

-- an output of an earlier cycle lies on the tape's part for the cycles so far
pub seen_place : (k past j outs : ℕ) → k < past → j < outs → k * outs + j < past * outs
seen_place k past j outs h l =
    let more : k + 1 ≤ past = omega arith in
    let same : outs ≤ outs = omega arith in
    let m : (k + 1) * outs ≤ past * outs = mul-le-mul more same in
    omega (arith, next_cycle k outs)
