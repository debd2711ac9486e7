-- Checks one after another.
use Rattle.std.proofs.Common.{◌≡◌, Bool, true, false, refl, ap}
use Rattle.rules.specs.declared.refusal.Refusal.{Refusal}
use Rattle.rules.specs.Refusals.{Verdict, accepted, refused, ◌then◌, asked}

pub asked_yes : (b : Bool) (r : Refusal) → b ≡ true → asked b r ≡ accepted
asked_yes b r e = ap (λ x. asked x r) e

pub asked_no : (b : Bool) (r : Refusal) → b ≡ false → asked b r ≡ refused r
asked_no b r e = ap (λ x. asked x r) e

pub passed : (a b : Verdict) → a ≡ accepted → (a then b) ≡ b
passed a b e = ap (λ v. v then b) e

pub failed : (a b : Verdict) (r : Refusal) → a ≡ refused r → (a then b) ≡ refused r
failed a b r e = ap (λ v. v then b) e

pub refused_accepted : (r : Refusal) → refused r ≡ accepted → ⊥
refused_accepted r e = cc

pub asked_accepted : (b : Bool) (r : Refusal) → asked b r ≡ accepted → b ≡ true
asked_accepted true r e = refl
asked_accepted false r e = cc

pub asked_refused : (b : Bool) (r e : Refusal) → asked b r ≡ refused e → (b ≡ false) × (r ≡ e)
asked_refused true r e h = cc
asked_refused false r e h = (refl, cc)

pub then_left : (a v : Verdict) → (a then v) ≡ accepted → a ≡ accepted
then_left accepted v e = refl
then_left (refused r) v e = cc

pub then_right : (a v : Verdict) → (a then v) ≡ accepted → v ≡ accepted
then_right accepted v e = e
then_right (refused r) v e = cc
