-- The lines that are printed.
use Rattle.std.specs.Prelude.{ℕ, Bool, true, false, List, [], ◌∷◌, ◌++◌, map, Some, None, codes, decimal, Option}
use Rattle.std.proofs.Math.Utf8.{encode}
use Rattle.signal.specs.Kinds.{Kind}
use Rattle.rules.specs.declared.refusal.Refusal.{Refusal}
use Rattle.rules.specs.Refusals.{number_of, place_of}

abbrev pub blank : List ℕ
blank = 32 ∷ []

abbrev pub line_end : List ℕ
line_end = 10 ∷ []

-- the character of an output, by what is told of it
abbrev pub output_character : Option Bool → ℕ
output_character (Some true) = 49
output_character (Some false) = 48
output_character None = 63

-- the outputs together, the first output first, and - if there are none
abbrev pub outputs_text : {V : Type 0} → Kind V → List V → List ℕ
outputs_text K [] = 45 ∷ []
outputs_text K (v ∷ vs) = map (λ w. output_character (K.told w)) (v ∷ vs)

abbrev pub step_line : {V : Type 0} → Kind V → ℕ → List V → ℕ → List ℕ
step_line K cycle outs count = decimal cycle ++ (blank ++ (outputs_text K outs ++ (blank ++ (decimal count ++ line_end))))

abbrev pub board_line : Refusal → List ℕ
board_line e = codes "board " ++ (decimal (number_of e) ++ (blank ++ (decimal (place_of e) ++ line_end)))

abbrev pub kind_line : {V : Type 0} → Kind V → List ℕ
kind_line K = codes "kind " ++ (encode K.letter ++ line_end)

abbrev pub refused_line : ℕ → List ℕ
refused_line number = codes "refused " ++ (decimal number ++ line_end)

abbrev pub ended_line : ℕ → List ℕ
ended_line steps = codes "ended " ++ (decimal steps ++ line_end)
