use Rattle.std.proofs.Common.{ℕ, ◌<◌, Bool, true, false, [], ◌∷◌, ◌++◌, map, take, Some, None, Option, sym, ap, ◌∙◌, arith, rules}
use Rattle.std.proofs.Output.{has_written_append, has_written_of_eq}
use Rattle.std.proofs.lemmas.List.{map_more}
use Rattle.std.proofs.lemmas.Str.{encode_ascii}
use Rattle.transcript.specs.Printed.{output_character}
use Rattle.transcript.proofs.printing.OutputsDisplay.fmt.Goals as goal

character_ascii : (o : Option Bool) → output_character o < 128
character_ascii (Some true) = omega arith
character_ascii (Some false) = omega arith
character_ascii None = omega arith

pub loop-output-preserved : goal.loop-output-preserved
loop-output-preserved g c plain =
    let f : g.row.K.Denot → ℕ = λ w. output_character (g.K.Signal.kind.told w) in
    let vs = c.args.self.now.0.now in
    let i = c.loop-output.output-index in
    let x = c.output-item.result in
    let character = c.output_character-character.ensures in
    let small : c.output_character-character.result < 128 = omega (arith, character, character_ascii (g.K.Signal.kind.told x)) in
    let one = encode_ascii _ small ∙ ap (λ b. b ∷ []) (character ∙ ap f c.output-item.is) in
    let more = map_more f vs i x c.loop-output-test.true in
    has_written_of_eq _ _ _ _ _ (ap (λ bs. map f (take i vs) ++ bs) one ∙ sym more) (has_written_append _ _ _ _ _ _ (c.loop-output.invariant plain) (search rules))
