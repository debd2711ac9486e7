-- What a start gives.
use Rattle.std.proofs.Common.{◌≡◌, ℕ, Bool, true, false, cond, List, [], replicate, sym, ap}
use borrow.Author.Tests.{clash}
use Rattle.signal.specs.Kinds.{Kind}
use Rattle.rules.specs.Boards.{Design, cells}
use Rattle.flat.specs.Runs.{Run, Start, not_started, started, power}

abbrev of_start : {S : Type 0} → S → Start S → S
of_start s (not_started n) = s
of_start s (started t) = t

abbrev is_started : {S : Type 0} → Start S → Bool
is_started (not_started n) = false
is_started (started t) = true

given : {S : Type 0} (b : Bool) (s t : S) (n : ℕ) → started s ≡ cond b (started t) (not_started n) → s ≡ t
given true s t n e = ap (of_start s) e
given false s t n e = absurd (clash (sym (ap is_started e)))

-- a run that power started
pub begun : {V : Type 0} (K : Kind V) (d : Design) (cs : List V) (cycle n : ℕ) → started (record { cells = cs; tape = []; cycle = cycle }) ≡ power K d n → (cs ≡ replicate (cells d) K.low) × (cycle ≡ 0)
begun {V} K d cs cycle n e =
    let s : ◌≡◌ {A = Run V} (record { cells = cs; tape = []; cycle = cycle }) (record { cells = replicate (cells d) K.low; tape = []; cycle = 0 }) = given _ _ _ 15 e in
    (ap (λ r. r.cells) s, ap (λ r. r.cycle) s)
