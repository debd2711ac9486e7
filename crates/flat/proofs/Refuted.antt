-- Wrong ways of running a board break the law.
use Rattle.std.proofs.Common.{◌≡◌, ℕ, zero, suc, ◌<◌, Bool, true, false, List, [], ◌∷◌, map, get_or, sym, refl, ap, ◌∙◌, ap₂, arith}
use Rattle.std.proofs.lemmas.Bool.{true≢false, false≢true}
use Rattle.signal.specs.declared.levels.Level.{Level}
use Rattle.signal.specs.declared.levels.Level.TheVariants.{Zero, One, Unknown}
use Rattle.signal.specs.Kinds.{Situation}
use Rattle.signal.specs.Bits.{bits}
use Rattle.signal.specs.Levels.{levels}
use Rattle.signal.specs.BitsLaws.{bits_lawful}
use Rattle.signal.specs.Situations.{beq_is}
use Rattle.rules.specs.Boards.{part}
use Rattle.rules.specs.Sound.{Sound}
use Rattle.flat.specs.Laws.{All2}
use Rattle.flat.specs.Runs.{Room, Call, step, Answer, refused, counted, done, value_is, started, Run, Outcome, start_with, power, call, trace}
use Rattle.flat.specs.FlatRuns.{Flat, FlatAnswer, refused_by, stepped, completed, bit_is, FlatOutcome}
use Rattle.flat.specs.RunLaws.{Fed, fed_step, Answered, both_refused, both_stepped, both_done, both_value, Matches, AdmitsThere, AsDefined, Follows, NeverDenies, StaysSettled, CountsFlatGates}
use Rattle.flat.specs.Refuted.{toggle, second_input, outputs_all, cells_never_move, cells_move_once, count_invented, tape_said_early, unasked, Refuted}
use Rattle.flat.proofs.Runs.{powered_law}

below_two : (P : ℕ → Type 0) → P 0 → P 1 → (n : ℕ) → n < 2 → P n
below_two P a b zero h = a
below_two P a b (suc zero) h = b
below_two P a b (suc (suc n)) h = absurd (omega arith)

toggle_sound : Sound toggle
unfolding part
toggle_sound =
    record {
      fits = (
        record { refer = tt; pins_in = refl; pins_out = refl; wire_in = (omega arith, tt); wire_out = (omega arith, tt); order = tt; fresh = (refl, tt) },
        (record { refer = tt; pins_in = refl; pins_out = refl; wire_in = (omega arith, tt); wire_out = (omega arith, tt); order = (refl, tt); fresh = (refl, tt) }, tt),
      );
      wire = (omega arith, tt);
      drives = below_two _ refl refl;
      state_in = (omega arith, tt);
      state = below_two _ refl refl;
    }

here : Situation
here = record { row = 0; row_small = omega arith; marks = λ m. false; marks_small = λ m e. absurd (false≢true e) }

-- On bits two ways that follow one flat run leave the same tapes and refuse the same calls

same_bits : (vs ws bs : List Bool) → All2 (AdmitsThere bits here) vs bs → All2 (AdmitsThere bits here) ws bs → vs ≡ ws
same_bits [] [] [] a b = refl
same_bits [] [] (x ∷ bs) a b = elim a [ ]
same_bits [] (w ∷ ws) [] a b = elim b [ ]
same_bits [] (w ∷ ws) (x ∷ bs) a b = elim a [ ]
same_bits (v ∷ vs) ws [] a b = elim a [ ]
same_bits (v ∷ vs) [] (x ∷ bs) a b = elim b [ ]
same_bits (v ∷ vs) (w ∷ ws) (x ∷ bs) a b = ap₂ {C = List Bool} (λ y ys. y ∷ ys) (beq_is v x a.0 ∙ sym (beq_is w x b.0)) (same_bits vs ws bs a.1 b.1)

abbrev is_refused : Answer Bool → Bool
is_refused (refused n) = true
is_refused (counted n) = false
is_refused done = false
is_refused (value_is v) = false

abbrev flat_is_refused : FlatAnswer → Bool
flat_is_refused (refused_by n) = true
flat_is_refused stepped = false
flat_is_refused completed = false
flat_is_refused (bit_is b) = false

refused_as : {R : Bool → Bool → Type 0} {a : Answer Bool} {b : FlatAnswer} → Answered R a b → is_refused a ≡ flat_is_refused b
refused_as (both_refused n) = refl
refused_as (both_stepped n) = refl
refused_as both_done = refl
refused_as (both_value v b r) = refl

abbrev Matched : Outcome Bool → FlatOutcome → Type 0
Matched = Matches (AdmitsThere bits here) toggle

same_tapes : (xs ys : List (Outcome Bool)) (os : List FlatOutcome) → All2 Matched xs os → All2 Matched ys os → map (λ (o : Outcome Bool). o.run.tape) xs ≡ map (λ (o : Outcome Bool). o.run.tape) ys
same_tapes [] [] os a b = refl
same_tapes [] (y ∷ ys) [] a b = elim b [ ]
same_tapes [] (y ∷ ys) (o ∷ os) a b = elim a [ ]
same_tapes (x ∷ xs) ys [] a b = elim a [ ]
same_tapes (x ∷ xs) [] (o ∷ os) a b = elim b [ ]
same_tapes (x ∷ xs) (y ∷ ys) (o ∷ os) a b = ap₂ {C = List (List Bool)} (λ z zs. z ∷ zs) (same_bits x.run.tape y.run.tape o.run.tape a.0.run.tape b.0.run.tape) (same_tapes xs ys os a.1 b.1)

same_refusals : (xs ys : List (Outcome Bool)) (os : List FlatOutcome) → All2 Matched xs os → All2 Matched ys os → map (λ (o : Outcome Bool). is_refused o.answer) xs ≡ map (λ (o : Outcome Bool). is_refused o.answer) ys
same_refusals [] [] os a b = refl
same_refusals [] (y ∷ ys) [] a b = elim b [ ]
same_refusals [] (y ∷ ys) (o ∷ os) a b = elim a [ ]
same_refusals (x ∷ xs) ys [] a b = elim a [ ]
same_refusals (x ∷ xs) [] (o ∷ os) a b = elim b [ ]
same_refusals (x ∷ xs) (y ∷ ys) (o ∷ os) a b = ap₂ {C = List Bool} (λ z zs. z ∷ zs) (refused_as a.0.answer ∙ sym (refused_as b.0.answer)) (same_refusals xs ys os a.1 b.1)

-- three steps of the toggle
abbrev room : Room
room = record { cells = 1; tape = 3; values = 1024; levels = 8 }

abbrev three : List (Call Bool)
three = step [] room ∷ step [] room ∷ step [] room ∷ []

abbrev begun : Run Bool
begun = record { cells = false ∷ []; tape = []; cycle = 0 }

abbrev flat_begun : Flat
flat_begun = record { store = λ p. false; tape = []; cycle = 0 }

module _ (carry : Run Bool → Call Bool → Outcome Bool) (h : NeverDenies bits toggle (power bits toggle) carry (λ p. false)) where
  follows : Follows bits toggle (power bits toggle) carry here begun flat_begun
  unfolding part
  follows = h here 1 (started flat_begun) (refl, refl)

  fed : All2 (Fed (AdmitsThere bits here)) three three
  fed = (fed_step [] [] room tt, (fed_step [] [] room tt, (fed_step [] [] room tt, tt)))

abbrev right : Run Bool → Call Bool → Outcome Bool
right = call bits toggle

module _ (carry : Run Bool → Call Bool → Outcome Bool) (h : NeverDenies bits toggle (power bits toggle) carry (λ p. false)) where
  follow_both : (os : List FlatOutcome) × All2 Matched (trace carry begun three) os × All2 Matched (trace right begun three) os
  follow_both =
      let law = powered_law bits bits_lawful toggle toggle_sound in
      let run = law.one.run flat_begun three in
      (run.0, (follows carry h).1 three three (fed carry h) run.0 run.1, (follows right law.never_denies).1 three three (fed carry h) run.0 run.1)

  tapes : map (λ (o : Outcome Bool). o.run.tape) (trace carry begun three) ≡ map (λ (o : Outcome Bool). o.run.tape) (trace right begun three)
  tapes = same_tapes (trace carry begun three) (trace right begun three) follow_both.0 follow_both.1 follow_both.2

  refusals : map (λ (o : Outcome Bool). is_refused o.answer) (trace carry begun three) ≡ map (λ (o : Outcome Bool). is_refused o.answer) (trace right begun three)
  refusals = same_refusals (trace carry begun three) (trace right begun three) follow_both.0 follow_both.1 follow_both.2

-- output 0 of a cycle on the tape that the third step leaves
abbrev third : ℕ → List (List Bool) → Bool
third k ts = get_or (get_or ts 2 []) k false

low_outputs_refuted : NeverDenies bits toggle (power bits toggle) (outputs_all bits toggle false) (λ p. false) → ⊥
unfolding part
low_outputs_refuted h = false≢true (ap (third 1) (tapes (outputs_all bits toggle false) h))

never_move_refuted : NeverDenies bits toggle (power bits toggle) (cells_never_move bits toggle) (λ p. false) → ⊥
unfolding part
never_move_refuted h = false≢true (ap (third 1) (tapes (cells_never_move bits toggle) h))

move_once_refuted : NeverDenies bits toggle (power bits toggle) (cells_move_once bits toggle) (λ p. false) → ⊥
unfolding part
move_once_refuted h = true≢false (ap (third 2) (tapes (cells_move_once bits toggle) h))

tape_early_refuted : NeverDenies bits toggle (power bits toggle) (tape_said_early bits toggle) (λ p. false) → ⊥
unfolding part
tape_early_refuted h = true≢false (ap (λ (rs : List Bool). get_or rs 2 false) (refusals (tape_said_early bits toggle) h))

unasked_refuted : NeverDenies bits toggle (power bits toggle) (call (unasked bits) toggle) (λ p. false) → ⊥
unfolding part
unasked_refuted h = false≢true (ap (third 1) (tapes (call (unasked bits) toggle) h))

cold_low_refuted : NeverDenies levels toggle (start_with toggle Zero) (call levels toggle) (λ p. true) → ⊥
unfolding part
cold_low_refuted h = false≢true (h here 1 (started (record { store = λ p. true; tape = []; cycle = 0 })) (refl, refl)).0.cells.0

-- one step on levels
abbrev room_for : ℕ → Room
room_for cells = record { cells = cells; tape = 1; values = 1024; levels = 8 }

abbrev low_run : List Level → Run Level
low_run cs = record { cells = cs; tape = []; cycle = 0 }

is_one : Level → Bool
is_one Zero = false
is_one One = true
is_one Unknown = false

open_input_refuted : AsDefined levels second_input (power levels second_input) (outputs_all levels second_input Unknown) → ⊥
unfolding part is_one
open_input_refuted h =
    false≢true (ap (λ (os : List (Outcome Level)). is_one (get_or (get_or os 0 (record { run = low_run []; answer = done })).run.tape 0 Zero)) (h 0 (low_run []) refl (step (Unknown ∷ One ∷ []) (room_for 0) ∷ [])))

settled_refuted : StaysSettled levels toggle (power levels toggle) (outputs_all levels toggle Unknown) → ⊥
unfolding part
settled_refuted h = true≢false (h here 1 (low_run (Zero ∷ [])) refl (step [] (room_for 1) ∷ []) (tt, tt)).0.tape.0.1.1

count_refuted : CountsFlatGates bits toggle (power bits toggle) (count_invented bits toggle) → ⊥
unfolding part
count_refuted h = let e : ◌≡◌ {A = ℕ} 0 1 = (h 1 begun refl (step [] (room_for 1) ∷ [])).0 in let z : ⊥ = omega arith in z

pub refuted : Refuted
refuted = record {
  outputs_always_low = low_outputs_refuted;
  cells_that_never_move = never_move_refuted;
  cells_that_move_once = move_once_refuted;
  tape_early = tape_early_refuted;
  kind_not_consulted = unasked_refuted;
  cold_makes_low = cold_low_refuted;
  unknown_beside_an_open_input = open_input_refuted;
  unknown_on_settled_inputs = settled_refuted;
  invented_count = count_refuted;
}
