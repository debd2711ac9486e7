-- Three levels: 0, 1 and unknown, which admits both bits.
use Rattle.std.specs.Prelude.{Bool, true, false, not, ◌&&◌, ◌||◌, Some, None, Option}
use Rattle.signal.specs.declared.levels.Level.{Level}
use Rattle.signal.specs.declared.levels.Level.TheVariants.{Zero, One, Unknown}
use Rattle.signal.specs.Kinds.{Kind, Situation, differ}

-- p holds of every bit that can fill the level
abbrev pub every_filling : Level → (Bool → Bool) → Bool
every_filling Zero p = p false
every_filling One p = p true
every_filling Unknown p = p false && p true

-- the level, from whether every filling gives 1 and whether every filling gives 0
abbrev pub agreed : Bool → Bool → Level
agreed true always_0 = One
agreed false true = Zero
agreed false false = Unknown

-- the level that every filling of the operands gives, each operand by itself, or else unknown
abbrev pub by_filling : (Bool → Bool) → Level → Level
by_filling f v = agreed (every_filling v f) (every_filling v (λ a. not (f a)))

abbrev pub by_fillings : (Bool → Bool → Bool) → Level → Level → Level
by_fillings f v w = agreed (every_filling v (λ a. every_filling w (f a))) (every_filling v (λ a. every_filling w (λ b. not (f a b))))

-- the chosen datum, or unknown if the select is unknown
abbrev pub pick_level : Level → Level → Level → Level
pick_level Zero first second = second
pick_level One first second = first
pick_level Unknown first second = Unknown

abbrev pub told_level : Level → Option Bool
told_level Zero = Some false
told_level One = Some true
told_level Unknown = None

abbrev pub admits_level : Level → Situation → Bool → Bool
admits_level Zero s b = not b
admits_level One s b = b
admits_level Unknown s b = true

abbrev pub levels : Kind Level
levels = record {
  letter = 84;
  low = Zero;
  high = One;
  not = by_filling not;
  and = by_fillings ◌&&◌;
  or = by_fillings ◌||◌;
  xor = by_fillings differ;
  pick = pick_level;
  told = told_level;
  admits = admits_level;
}
