-- Signal kinds: situations, what a value admits in them, and the rules that every kind keeps.
--
-- A value of a kind stands for bits. In each situation it admits the bit 0, the bit 1 or both. It is settled in a
-- situation if it admits one bit alone there. It is told to be a bit if it admits that bit alone in every situation.
use Rattle.std.specs.Prelude.{◌≡◌, ℕ, ◌<◌, Bool, true, false, cond, not, ◌&&◌, ◌||◌, ◌↔◌, Some, None, Option}

-- a situation: one of the rows 0 to 63, and a set of marks out of 0 to 63
pub record Situation : Type 0 where
  pub row : ℕ
  pub row_small : row < 64
  pub marks : ℕ → Bool
  pub marks_small : (m : ℕ) → marks m ≡ true → m < 64

-- exactly one of the two bits is 1
abbrev pub differ : Bool → Bool → Bool
differ true b = not b
differ false b = b

-- a kind: its letter, its functions on values, and whether a value admits a bit in a situation
pub record Kind (V : Type 0) : Type 0 where
  pub letter : ℕ
  pub low : V
  pub high : V
  pub not : V → V
  pub and : V → V → V
  pub or : V → V → V
  pub xor : V → V → V
  pub pick : V → V → V → V
  pub told : V → Option Bool
  pub admits : V → Situation → Bool → Bool

module _ {V : Type 0} (k : Kind V) where
  abbrev pub Admits : V → Situation → Bool → Type 0
  Admits v s b = k.admits v s b ≡ true

  -- the value admits this bit and no other
  abbrev pub Only : V → Situation → Bool → Type 0
  Only v s b = (k.admits v s b ≡ true) × (k.admits v s (not b) ≡ false)

  abbrev pub Settled : V → Situation → Type 0
  Settled v s = (b : Bool) × Only v s b

  abbrev pub AdmitsBoth : V → Type 0
  AdmitsBoth v = (s : Situation) (b : Bool) → Admits v s b

  -- f follows g: if its operands admit certain bits, its result admits the bit that g gives of these
  abbrev pub Follows1 : (V → V) → (Bool → Bool) → Type 0
  Follows1 f g = (s : Situation) (v : V) (a : Bool) → Admits v s a → Admits (f v) s (g a)

  abbrev pub Follows2 : (V → V → V) → (Bool → Bool → Bool) → Type 0
  Follows2 f g = (s : Situation) (v w : V) (a b : Bool) → Admits v s a → Admits w s b → Admits (f v w) s (g a b)

  abbrev pub Follows3 : (V → V → V → V) → (Bool → Bool → Bool → Bool) → Type 0
  Follows3 f g = (s : Situation) (v w x : V) (a b c : Bool) → Admits v s a → Admits w s b → Admits x s c → Admits (f v w x) s (g a b c)

  -- f settles: settled operands give a settled result
  abbrev pub Settles1 : (V → V) → Type 0
  Settles1 f = (s : Situation) (v : V) → Settled v s → Settled (f v) s

  abbrev pub Settles2 : (V → V → V) → Type 0
  Settles2 f = (s : Situation) (v w : V) → Settled v s → Settled w s → Settled (f v w) s

  abbrev pub Settles3 : (V → V → V → V) → Type 0
  Settles3 f = (s : Situation) (v w x : V) → Settled v s → Settled w s → Settled x s → Settled (f v w x) s

  -- the rules of a kind
  pub record Lawful : Type 0 where
    pub some_bit : (v : V) (s : Situation) → (b : Bool) × Admits v s b
    pub low_only : (s : Situation) → Only k.low s false
    pub high_only : (s : Situation) → Only k.high s true
    pub not_follows : Follows1 k.not not
    pub and_follows : Follows2 k.and ◌&&◌
    pub or_follows : Follows2 k.or ◌||◌
    pub xor_follows : Follows2 k.xor differ
    pub pick_follows : Follows3 k.pick cond
    pub not_settles : Settles1 k.not
    pub and_settles : Settles2 k.and
    pub or_settles : Settles2 k.or
    pub xor_settles : Settles2 k.xor
    pub pick_settles : Settles3 k.pick
    pub told_bit : (v : V) (b : Bool) → (k.told v ≡ Some b) ↔ ((s : Situation) → Only v s b)
    pub told_none : (v : V) → ((b : Bool) → ((s : Situation) → Only v s b) → ⊥) → k.told v ≡ None
