-- Refusals with their numbers and places, and verdicts.
use Rattle.std.specs.Prelude.{◌≡◌, ℕ, Bool, cond, Ok, Err, Result}
use Rattle.rules.specs.declared.refusal.Refusal.{Refusal}
use Rattle.rules.specs.declared.refusal.Refusal.TheVariants.{Long, Cut, Kind, Shape, Trail, Refer, Pins, Wire, Order, Drive, State, Size}

abbrev pub number_of : Refusal → ℕ
number_of Long = 1
number_of (Cut p) = 2
number_of (Kind p) = 3
number_of (Shape p) = 4
number_of (Trail p) = 5
number_of (Refer p) = 6
number_of (Pins p) = 7
number_of (Wire p) = 8
number_of (Order p) = 9
number_of (Drive p) = 10
number_of (State p) = 11
number_of (Size p) = 12

-- the first byte of the record at fault
abbrev pub place_of : Refusal → ℕ
place_of Long = 0
place_of (Cut p) = p
place_of (Kind p) = p
place_of (Shape p) = p
place_of (Trail p) = p
place_of (Refer p) = p
place_of (Pins p) = p
place_of (Wire p) = p
place_of (Order p) = p
place_of (Drive p) = p
place_of (State p) = p
place_of (Size p) = p

pub data Verdict : Type 0 where
  accepted : Verdict
  refused : Refusal → Verdict

-- the first failure is the verdict
abbrev pub ◌then◌ : Verdict → Verdict → Verdict
accepted then v = v
refused e then v = refused e

infixr 20 ◌then◌
-- one check
abbrev pub asked : Bool → Refusal → Verdict
asked b e = cond b accepted (refused e)

-- an answer that is the verdict v, with P of what it hands on if v is acceptance
abbrev pub Judges : {X : Type 0} → Result X Refusal → Verdict → (X → Type 0) → Type 0
Judges (Ok x) v P = (v ≡ accepted) × P x
Judges (Err e) v P = v ≡ refused e
