-- The law for runs, on the caller's slices.
use Rattle.std.proofs.Common.{◌≡◌, ℕ, zero, suc, ◌*◌, ◌<◌, false, List, [], ◌∷◌, map, length, get_or, sym, ◌∙◌, subst, le_of_suc-le-suc, arith}
use Rattle.signal.specs.Kinds.{Kind, Situation, Settled, Lawful, AdmitsBoth}
use Rattle.signal.specs.GateValues.{AllSettled}
use Rattle.rules.specs.Boards.{Design, out_wires}
use Rattle.rules.specs.Sound.{Sound, All}
use Rattle.flat.specs.Flat.{Store, cell_bits}
use Rattle.flat.specs.Laws.{All2}
use Rattle.flat.specs.Runs.{Answer, Start, started, Run, Outcome, start_with, call, trace}
use Rattle.flat.specs.FlatRuns.{FlatOutcome}
use Rattle.flat.specs.RunLaws as laws
use Rattle.flat.specs.RunLaws.{Answered, Matches, BothStart, AdmitsThere, SettledAnswer, SettledOut, CountsRight, Sized, NeverDenies, StaysSettled, CountsFlatGates, KeepsSizes}
use Rattle.flat.proofs.Runs.{powered_law, cold_law, fresh_run, start_run, fresh_sized}
use Rattle.run.specs.Slices.{Made, call_of, answer_of, cycle_behind, Follows, HandedOn, FollowOn}
use Rattle.run.specs.SliceLaws.{AdmitsFlat, AllAdmitFlat, SettledBack, AllSettledBack, SlicesNeverDeny, SlicesStaySettled, SlicesCount, LawForPoweredSlices, LawForColdSlices}
use Rattle.run.proofs.Slices.{slices_follow}

-- The values at a place

at_rel : {V W : Type 0} (R : V → W → Type 0) (vs : List V) (ws : List W) → All2 R vs ws → (k : ℕ) (v : V) (w : W) → k < length vs → R (get_or vs k v) (get_or ws k w)
at_rel R [] ws a k v w h = absurd (omega arith)
at_rel R (x ∷ vs) [] a k v w h = absurd a
at_rel R (x ∷ vs) (y ∷ ws) a zero v w h = a.0
at_rel R (x ∷ vs) (y ∷ ws) a (suc k) v w h = at_rel R vs ws a.1 k v w (le_of_suc-le-suc h)

settled_at : {V : Type 0} (K : Kind V) (s : Situation) (vs : List V) → AllSettled K vs s → (k : ℕ) (v : V) → k < length vs → Settled K (get_or vs k v) s
settled_at K s [] a k v h = absurd (omega arith)
settled_at K s (x ∷ vs) a zero v h = a.0
settled_at K s (x ∷ vs) a (suc k) v h = settled_at K s vs a.1 k v (le_of_suc-le-suc h)

module _ {V : Type 0} (K : Kind V) (d : Design) where
  -- One call

  one_admits : (s : Situation) (n : ℕ) (m : Made V) (o : Outcome V) (p : FlatOutcome) → Follows K d n m o → Sized d o.run → Matches (AdmitsThere K s) d o p → AdmitsFlat K d s n m p
  one_admits s n m o p f z x =
      let R = AdmitsThere K s in
      let O = length (out_wires d) in
      record {
        answer = subst (λ (a : Answer V). Answered R a p.answer) (sym f.answer) x.answer;
        cell = λ k v g h.
            let i : k < length o.run.cells = omega (arith, z.cells) in
            subst (λ u. R u (get_or (cell_bits d p.run.store) k false)) (sym (f.cells k v g i)) (at_rel R o.run.cells (cell_bits d p.run.store) x.run.cells k v false i);
        tape = λ k v g h.
            let i : k < length o.run.tape = subst (λ l. k < l) (sym z.tape) (subst (λ c. k < c * O) (sym x.run.cycle) h) in
            subst (λ u. R u (get_or p.run.tape k false)) (sym (f.tape k v g i)) (at_rel R o.run.tape p.run.tape x.run.tape k v false i);
        cycle_is = f.cycle_is ∙ x.run.cycle;
      }

  one_settled : (s : Situation) (n : ℕ) (m : Made V) (o : Outcome V) → Follows K d n m o → Sized d o.run → SettledOut K s o → SettledBack K d s n m
  one_settled s n m o f z x =
      let O = length (out_wires d) in
      record {
        answer = subst (SettledAnswer K s) (sym f.answer) x.answer;
        cell = λ k v g h.
            let i : k < length o.run.cells = omega (arith, z.cells) in
            subst (λ u. Settled K u s) (sym (f.cells k v g i)) (settled_at K s o.run.cells x.cells k v i);
        tape = λ k v g h.
            let i : k < length o.run.tape = subst (λ l. k < l) (sym z.tape) (subst (λ c. k < c * O) f.cycle_is h) in
            subst (λ u. Settled K u s) (sym (f.tape k v g i)) (settled_at K s o.run.tape x.tape k v i);
      }

  -- Many calls

  abbrev traced : Run V → List (Made V) → List (Outcome V)
  traced run made = trace (call K d) run (map call_of made)

  all_admit : (s : Situation) (n : ℕ) (run : Run V) (made : List (Made V)) (ps : List FlatOutcome) → FollowOn K d n run made → All (λ o. Sized d o.run) (traced run made) → All2 (Matches (AdmitsThere K s) d) (traced run made) ps → AllAdmitFlat K d s n made ps
  all_admit s n run [] [] f z x = tt
  all_admit s n run [] (p ∷ ps) f z x = x
  all_admit s n run (m ∷ ms) [] f z x = x
  all_admit s n run (m ∷ ms) (p ∷ ps) f z x =
      let o = call K d run (call_of m) in
      (one_admits s n m o p f.0 z.0 x.0, all_admit s (cycle_behind n m) o.run ms ps f.1 z.1 x.1)

  all_settle : (s : Situation) (n : ℕ) (run : Run V) (made : List (Made V)) → FollowOn K d n run made → All (λ o. Sized d o.run) (traced run made) → All (SettledOut K s) (traced run made) → AllSettledBack K d s n made
  all_settle s n run [] f z x = tt
  all_settle s n run (m ∷ ms) f z x =
      let o = call K d run (call_of m) in
      (one_settled s n m o f.0 z.0 x.0, all_settle s (cycle_behind n m) o.run ms f.1 z.1 x.1)

  all_count : (n : ℕ) (run : Run V) (made : List (Made V)) → FollowOn K d n run made → All (λ o. CountsRight d o.answer) (traced run made) → All (λ m. CountsRight d (answer_of m)) made
  all_count n run [] f x = tt
  all_count n run (m ∷ ms) f x = (subst (CountsRight d) (sym f.0.answer) x.0, all_count (cycle_behind n m) (call K d run (call_of m)).run ms f.1 x.1)

  -- From a start

  follow_start : Sound d → (v : V) (n : ℕ) (run : Run V) → start_with d v n ≡ started run → (made : List (Made V)) → HandedOn K d 0 run made → FollowOn K d 0 run made
  follow_start sound v n run e made h =
      let q = start_run d v n run e in
      subst (λ (r : Run V). FollowOn K d 0 r made) (sym q) (slices_follow K d sound (fresh_run d v n) (fresh_sized K d v n) made (subst (λ (r : Run V). HandedOn K d 0 r made) q h))

  module _ (sound : Sound d) (v : V) (sizes : KeepsSizes K d (start_with d v) (call K d)) where
    never_deny : (store : Store) → NeverDenies K d (start_with d v) (call K d) store → SlicesNeverDeny K d (start_with d v) store
    never_deny store law s n run e flat start made handed flat_calls fed ps ran =
        let follows = subst (λ (b : Start (Run V)). BothStart (laws.Follows K d (start_with d v) (call K d) s) b (started flat)) e (law s n (started flat) start) in
        all_admit s 0 run made ps (follow_start sound v n run e made handed) (sizes n run e (map call_of made)) (follows.1 (map call_of made) flat_calls fed ps ran)

    stay_settled : StaysSettled K d (start_with d v) (call K d) → SlicesStaySettled K d (start_with d v)
    stay_settled law s n run e made handed settled =
        all_settle s 0 run made (follow_start sound v n run e made handed) (sizes n run e (map call_of made)) (law s n run e (map call_of made) settled)

    count : CountsFlatGates K d (start_with d v) (call K d) → SlicesCount K d (start_with d v)
    count law n run e made handed = all_count 0 run made (follow_start sound v n run e made handed) (law n run e (map call_of made))

  pub powered_slices : Lawful K → Sound d → LawForPoweredSlices K d
  powered_slices lawful sound =
      let law = powered_law K lawful d sound in
      record {
        never_deny = never_deny sound K.low law.sizes (λ p. false) law.never_denies;
        stay_settled = stay_settled sound K.low law.sizes law.stays_settled;
        count = count sound K.low law.sizes law.counts;
      }

  pub cold_slices : Lawful K → Sound d → (u : V) → AdmitsBoth K u → LawForColdSlices K d u
  cold_slices lawful sound u both =
      let law = cold_law K lawful d sound u both in
      record {
        never_deny = λ store. never_deny sound u law.sizes store (law.never_denies store);
        count = count sound u law.sizes law.counts;
      }
