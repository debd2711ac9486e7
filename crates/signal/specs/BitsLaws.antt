-- Bits keep the rules of a kind.
use Rattle.std.specs.Prelude.{◌≡◌, Bool, cond, not, ◌&&◌, ◌||◌, ◌↔◌, Some, refl}
use Rattle.std.proofs.Common.{ap}
use Rattle.signal.specs.Kinds.{Lawful, Situation, differ, Settled, Only}
use Rattle.signal.specs.Bits.{bits}
use Rattle.signal.specs.Situations.{row_0, same_some, beq_self, beq_not, beq_is, none_otherwise}

settled : (v : Bool) (s : Situation) → Settled bits v s
settled v s = (v, (beq_self v, beq_not v))

told_bit : (v b : Bool) → (Some v ≡ Some b) ↔ ((s : Situation) → Only bits v s b)
told_bit v b = (λ e s. rw (same_some v b e) (beq_self b, beq_not b), λ h. ap Some (beq_is v b (h row_0).0))

pub bits_lawful : Lawful bits
bits_lawful = record {
  some_bit = λ v s. (v, beq_self v);
  low_only = λ s. (refl, refl);
  high_only = λ s. (refl, refl);
  not_follows = λ s v a h. rw (beq_is v a h) (beq_self (not a));
  and_follows = λ s v w a b h k. rw (beq_is v a h, beq_is w b k) (beq_self (a && b));
  or_follows = λ s v w a b h k. rw (beq_is v a h, beq_is w b k) (beq_self (a || b));
  xor_follows = λ s v w a b h k. rw (beq_is v a h, beq_is w b k) (beq_self (differ a b));
  pick_follows = λ s v w x a b c h k l. rw (beq_is v a h, beq_is w b k, beq_is x c l) (beq_self (cond a b c));
  not_settles = λ s v h. settled _ s;
  and_settles = λ s v w h k. settled _ s;
  or_settles = λ s v w h k. settled _ s;
  xor_settles = λ s v w h k. settled _ s;
  pick_settles = λ s v w x h k l. settled _ s;
  told_bit = told_bit;
  told_none = λ v. none_otherwise bits v (told_bit v);
}
