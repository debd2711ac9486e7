-- Three levels keep the rules of a kind.
use Rattle.std.specs.Prelude.{◌≡◌, Bool, true, false, cond, not, ◌&&◌, ◌||◌, ◌↔◌, Some, refl}
use Rattle.std.proofs.Common.{arith}
use Rattle.signal.specs.declared.levels.Level.{Level}
use Rattle.signal.specs.declared.levels.Level.TheVariants.{Zero, One, Unknown}
use Rattle.signal.specs.Kinds.{Lawful, Situation, differ, Settled, Only, Admits, AdmitsBoth, Follows1, Follows2, Follows3, Settles1, Settles2, Settles3}
use Rattle.signal.specs.Levels.{levels, every_filling, agreed, by_filling, by_fillings, pick_level, told_level, admits_level}
use Rattle.signal.specs.Situations.{row_0, not_both, none_otherwise}

-- what holds of every filling holds of the bits admitted
at : (s : Situation) (v : Level) (p : Bool → Bool) (a : Bool) → admits_level v s a ≡ true → every_filling v p ≡ true → p a ≡ true
at s v p a h e = grind arith

agreed_admits : (s : Situation) (x y c : Bool) → (x ≡ true → c ≡ true) → (y ≡ true → not c ≡ true) → admits_level (agreed x y) s c ≡ true
agreed_admits s x y c h k = grind arith

by_filling_follows : (f : Bool → Bool) → Follows1 levels (by_filling f) f
by_filling_follows f s v a h = agreed_admits s _ _ (f a) (at s v f a h) (at s v (λ a. not (f a)) a h)

by_fillings_follows : (f : Bool → Bool → Bool) → Follows2 levels (by_fillings f) f
by_fillings_follows f s v w a b h k =
    agreed_admits s _ _ (f a b)
    (λ e. at s w (f a) b k (at s v (λ a. every_filling w (f a)) a h e))
    (λ e. at s w (λ b. not (f a b)) b k (at s v (λ a. every_filling w (λ b. not (f a b))) a h e))

pick_level_follows : Follows3 levels pick_level cond
pick_level_follows s v w x a b c h k l = grind arith

-- a level is settled where it is 0 or 1
agreed_settled : (s : Situation) (c : Bool) → Settled levels (agreed c (not c)) s
agreed_settled s true = (true, (refl, refl))
agreed_settled s false = (false, (refl, refl))

unsettled : {A : Type 0} (s : Situation) → Settled levels Unknown s → A
unsettled s h = not_both h.1.1

by_filling_settles : (f : Bool → Bool) → Settles1 levels (by_filling f)
by_filling_settles f s Zero h = agreed_settled s (f false)
by_filling_settles f s One h = agreed_settled s (f true)
by_filling_settles f s Unknown h = unsettled s h

by_fillings_settles : (f : Bool → Bool → Bool) → Settles2 levels (by_fillings f)
by_fillings_settles f s Zero w h k = by_filling_settles (f false) s w k
by_fillings_settles f s One w h k = by_filling_settles (f true) s w k
by_fillings_settles f s Unknown w h k = unsettled s h

pick_level_settles : Settles3 levels pick_level
pick_level_settles s Zero w x h k l = l
pick_level_settles s One w x h k l = k
pick_level_settles s Unknown w x h k l = h

some_bit : (v : Level) (s : Situation) → (b : Bool) × Admits levels v s b
some_bit Zero s = (false, refl)
some_bit One s = (true, refl)
some_bit Unknown s = (true, refl)

told_bit : (v : Level) (b : Bool) → (told_level v ≡ Some b) ↔ ((s : Situation) → Only levels v s b)
told_bit Zero true = (λ e. cc, λ h. let z = (h row_0).0 in cc)
told_bit Zero false = (λ e s. (refl, refl), λ h. refl)
told_bit One true = (λ e s. (refl, refl), λ h. refl)
told_bit One false = (λ e. cc, λ h. let z = (h row_0).0 in cc)
told_bit Unknown b = (λ e. cc, λ h. let z = (h row_0).1 in cc)

pub levels_lawful : Lawful levels
levels_lawful = record {
  some_bit = some_bit;
  low_only = λ s. (refl, refl);
  high_only = λ s. (refl, refl);
  not_follows = by_filling_follows not;
  and_follows = by_fillings_follows ◌&&◌;
  or_follows = by_fillings_follows ◌||◌;
  xor_follows = by_fillings_follows differ;
  pick_follows = pick_level_follows;
  not_settles = by_filling_settles not;
  and_settles = by_fillings_settles ◌&&◌;
  or_settles = by_fillings_settles ◌||◌;
  xor_settles = by_fillings_settles differ;
  pick_settles = pick_level_settles;
  told_bit = told_bit;
  told_none = λ v. none_otherwise levels v (told_bit v);
}

pub unknown_open : AdmitsBoth levels Unknown
unknown_open s b = refl
