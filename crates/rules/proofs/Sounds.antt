-- What judging accepts passes every test and is sound, and what it refuses fails a test first.
use Rattle.std.proofs.Common.{◌≡◌, ℕ, zero, suc, ◌+◌, ◌<◌, ◌≤◌, Bool, true, false, not, ◌&&◌, eqb, ltb, leb, ◌⊎◌, ◌↔◌, List, [], ◌∷◌, map, length, get_or, take, drop, Some, None, Option, sym, refl, ◌∙◌, subst, inl, inr, suc-le-suc, le_of_suc-le-suc, not-suc-le-zero, arith}
use Rattle.std.proofs.lemmas.Bool.{eqb-true, eq-eqb, ne_eqb, leb-true, le-leb, ltb-true, lt-ltb, and_parts, and_from, not-true, not_from_false, both_ways, cases_eq}
use Rattle.gates.specs.declared.Part.{Part}
use Rattle.gates.specs.declared.Part.TheVariants.{Gate as gate, Cell as cell, Module as module_no}
use Rattle.rules.specs.declared.refusal.Refusal.{Refusal}
use Rattle.rules.specs.declared.refusal.Refusal.TheVariants.{Long, Shape}
use Rattle.rules.specs.Refusals.{Verdict, accepted, refused, ◌then◌, asked, number_of}
use Rattle.rules.specs.Boards.{Occurrence, no_occurrence, occurrence_no, Module, Design, node, part, present, design_from, top, cells, cells_at, depth, places, inputs_due, outputs_due}
use Rattle.rules.specs.Wires.{all, every, times, mark, drive, drive_all, fresh, through_of, through}
use Rattle.rules.specs.Records.{body, end_of, framed, read, board_shape, module_count, records_read}
use Rattle.rules.specs.Judging.{PlacedOccurrence, PlacedModule, occurrences_of, module_of, units_of, board_of, known, occurrence_judged, occurrences_judged, times_due, states_right, size_right, module_judged, modules_judged, verdict, seen_from}
use Rattle.rules.specs.Sound.{All, Fresh, Refers, Fits, FitAll, SoundModule, Sound}
use Rattle.rules.specs.Rules.{OccurrenceRule, reference, pins, wires, order, drive as one_driver, occurrence_refusal, ModuleRule, output_wires, all_driven, state_list, size, module_refusal}
use Rattle.rules.proofs.Verdicts.{asked_accepted, then_left, then_right, asked_refused}
use Rattle.rules.proofs.Modules.{length_units}

-- Tests of lists

pub all_All : {X : Type 0} (f : X → Bool) (P : X → Type 0) → ((x : X) → f x ≡ true → P x) → (xs : List X) → all f xs ≡ true → All P xs
all_All f P h [] e = tt
all_All f P h (x ∷ xs) e = let p = and_parts (f x) (all f xs) e in (h x p.0, all_All f P h xs p.1)

pub AllAll : {X : Type 0} (f : X → Bool) (P : X → Type 0) → ((x : X) → P x → f x ≡ true) → (xs : List X) → All P xs → all f xs ≡ true
AllAll f P h [] k = refl
AllAll f P h (x ∷ xs) k = and_from (f x) (all f xs) (h x k.0) (AllAll f P h xs k.1)

all_below : (n : ℕ) (xs : List ℕ) → all (λ x. ltb x n) xs ≡ true → All (λ x. x < n) xs
all_below n xs e = all_All (λ x. ltb x n) (λ x. x < n) (λ x h. ltb-true x n h) xs e

below_all : (n : ℕ) (xs : List ℕ) → All (λ x. x < n) xs → all (λ x. ltb x n) xs ≡ true
below_all n xs k = AllAll (λ x. ltb x n) (λ x. x < n) (λ x h. lt-ltb x n h) xs k

fresh_Fresh : (ws : List ℕ) (dr : ℕ → Bool) → fresh ws dr ≡ true → Fresh ws dr
fresh_Fresh [] dr e = tt
fresh_Fresh (w ∷ ws) dr e = let p = and_parts (not (dr w)) (fresh ws (mark w dr)) e in (not-true (dr w) p.0, fresh_Fresh ws (mark w dr) p.1)

FreshFresh : (ws : List ℕ) (dr : ℕ → Bool) → Fresh ws dr → fresh ws dr ≡ true
FreshFresh [] dr k = refl
FreshFresh (w ∷ ws) dr k = and_from (not (dr w)) (fresh ws (mark w dr)) (not_from_false (dr w) k.0) (FreshFresh ws (mark w dr) k.1)

pub every_each : (n : ℕ) (f : ℕ → Bool) → every n f ≡ true → (i : ℕ) → i < n → f i ≡ true
every_each zero f e i h = absurd (not-suc-le-zero h)
every_each (suc n) f e zero h = (and_parts (f 0) (every n (λ i. f (suc i))) e).0
every_each (suc n) f e (suc i) h = every_each n (λ k. f (suc k)) (and_parts (f 0) (every n (λ k. f (suc k))) e).1 i (le_of_suc-le-suc h)

pub each_every : (n : ℕ) (f : ℕ → Bool) → ((i : ℕ) → i < n → f i ≡ true) → every n f ≡ true
each_every zero f h = refl
each_every (suc n) f h = and_from (f 0) (every n (λ i. f (suc i))) (h 0 (omega arith)) (each_every n (λ i. f (suc i)) (λ i l. h (suc i) (suc-le-suc l)))

-- Chains of checks

passed_both : (b : Bool) (e : Refusal) (v : Verdict) → (asked b e then v) ≡ accepted → (b ≡ true) × (v ≡ accepted)
passed_both true e v h = (refl, h)
passed_both false e v h = cc

failed_either : (b : Bool) (e : Refusal) (v : Verdict) (r : Refusal) → (asked b e then v) ≡ refused r → ((b ≡ false) × (r ≡ e)) ⊎ ((b ≡ true) × (v ≡ refused r))
failed_either true e v r h = inr (refl, h)
failed_either false e v r h = inl (refl, cc)

-- a test fails, and those of a lesser number pass
pub record Fails {R : Type 0} (test : R → Bool) (refusal : R → ℕ → Refusal) (place : ℕ) (e : Refusal) : Type 0 where
  pub rule : R
  pub fails : test rule ≡ false
  pub is : e ≡ refusal rule place
  pub lesser : (q : R) → number_of (refusal q 0) < number_of (refusal rule 0) → test q ≡ true

-- The tests of an occurrence

module _ (below : ℕ → Design) (limit : ℕ) (dr : ℕ → Bool) where
  abbrev pub occurrence_test : Occurrence → OccurrenceRule → Bool
  occurrence_test o reference = known below (part o)
  occurrence_test o pins = eqb (length o.ins) (inputs_due below (part o)) && eqb (length o.outs) (length (outputs_due below (part o)))
  occurrence_test o wires = all (λ w. ltb w limit) o.ins && all (λ w. ltb w limit) o.outs
  occurrence_test o order = all dr (through_of (λ j. through (below j)) (part o) o.ins)
  occurrence_test o one_driver = fresh o.outs dr

  module _ (p : PlacedOccurrence) where
    abbrev test : OccurrenceRule → Bool
    test r = occurrence_test p.occurrence r

    occurrence_passes : occurrence_judged below limit dr p ≡ accepted → (r : OccurrenceRule) → test r ≡ true
    occurrence_passes h =
        let a = passed_both (test reference) _ _ h in
        let b = passed_both (test pins) _ _ a.1 in
        let c = passed_both (test wires) _ _ b.1 in
        let d = passed_both (test order) _ _ c.1 in
        elim [ reference ↦ a.0 | pins ↦ b.0 | wires ↦ c.0 | order ↦ d.0 | one_driver ↦ asked_accepted (test one_driver) _ d.1 ]

    occurrence_fails : (e : Refusal) → occurrence_judged below limit dr p ≡ refused e → Fails test occurrence_refusal p.place e
    occurrence_fails e h =
        elim (failed_either (test reference) _ _ e h) [
          | inl a ↦ record { rule = reference; fails = a.0; is = a.1; lesser = λ q l. grind arith }
          | inr a ↦ elim (failed_either (test pins) _ _ e a.1) [
            | inl b ↦ record { rule = pins; fails = b.0; is = b.1; lesser = λ q l. grind arith }
            | inr b ↦ elim (failed_either (test wires) _ _ e b.1) [
              | inl c ↦ record { rule = wires; fails = c.0; is = c.1; lesser = λ q l. grind arith }
              | inr c ↦ elim (failed_either (test order) _ _ e c.1) [
                | inl d ↦ record { rule = order; fails = d.0; is = d.1; lesser = λ q l. grind arith }
                | inr d ↦
                    let f = asked_refused (test one_driver) _ e d.1 in
                    record { rule = one_driver; fails = f.0; is = sym f.1; lesser = λ q l. grind arith }
              ]
            ]
          ]
        ]

-- The tests of a module

abbrev pub module_test : Module → (ℕ → Design) → ModuleRule → Bool
module_test m below output_wires = all (λ w. ltb w m.wires) m.outs
module_test m below all_driven = every m.wires (drive_all m.occurrences (λ w. ltb w m.inputs))
module_test m below state_list = states_right m below
module_test m below size = size_right (node m below)

-- which wires are driven ahead of occurrence i
abbrev pub driven_ahead : Module → ℕ → ℕ → Bool
driven_ahead m i = drive_all (take i m.occurrences) (λ w. ltb w m.inputs)

abbrev pub occurrence_passes_at : Module → (ℕ → Design) → ℕ → OccurrenceRule → Bool
occurrence_passes_at m below i r = occurrence_test below m.wires (driven_ahead m i) (occurrence_no m i) r

pub record Passes (m : Module) (below : ℕ → Design) : Type 0 where
  pub occurrences : (i : ℕ) → i < length m.occurrences → (r : OccurrenceRule) → occurrence_passes_at m below i r ≡ true
  pub own : (r : ModuleRule) → module_test m below r ≡ true

abbrev pub no_placed : PlacedOccurrence
no_placed = record { place = 0; occurrence = no_occurrence }

-- the first test that fails of a module and its occurrences
pub data FailsModule (below : ℕ → Design) (u : PlacedModule) (e : Refusal) : Type 0 where
  fails_occurrence : (i : ℕ) → i < length (occurrences_of u.placed) → ((h : ℕ) → h < i → (r : OccurrenceRule) → occurrence_passes_at (module_of u) below h r ≡ true) → Fails (occurrence_passes_at (module_of u) below i) occurrence_refusal (get_or u.placed i no_placed).place e → FailsModule below u e
  fails_own : ((i : ℕ) → i < length (occurrences_of u.placed) → (r : OccurrenceRule) → occurrence_passes_at (module_of u) below i r ≡ true) → Fails (module_test (module_of u) below) module_refusal u.place e → FailsModule below u e

module _ (below : ℕ → Design) where
  module _ (limit : ℕ) where
    abbrev test_at : (ℕ → Bool) → List Occurrence → ℕ → OccurrenceRule → Bool
    test_at dr os i r = occurrence_test below limit (drive_all (take i os) dr) (get_or os i no_occurrence) r

    occurrences_pass : (dr : ℕ → Bool) (ps : List PlacedOccurrence) → occurrences_judged below limit dr ps ≡ accepted → (i : ℕ) → i < length (occurrences_of ps) → (r : OccurrenceRule) → test_at dr (occurrences_of ps) i r ≡ true
    unfolding occurrences_judged
    occurrences_pass dr [] h i l = absurd (not-suc-le-zero l)
    occurrences_pass dr (p ∷ ps) h zero l = occurrence_passes below limit dr p (then_left (occurrence_judged below limit dr p) _ h)
    occurrences_pass dr (p ∷ ps) h (suc i) l = occurrences_pass (drive p.occurrence.outs dr) ps (then_right (occurrence_judged below limit dr p) _ h) i (le_of_suc-le-suc l)

    record FailsAt (dr : ℕ → Bool) (ps : List PlacedOccurrence) (e : Refusal) : Type 0 where
      number : ℕ
      within : number < length (occurrences_of ps)
      ahead : (h : ℕ) → h < number → (r : OccurrenceRule) → test_at dr (occurrences_of ps) h r ≡ true
      fails : Fails (test_at dr (occurrences_of ps) number) occurrence_refusal (get_or ps number no_placed).place e

    later : (dr : ℕ → Bool) (p : PlacedOccurrence) (ps : List PlacedOccurrence) (e : Refusal) → occurrence_judged below limit dr p ≡ accepted → FailsAt (drive p.occurrence.outs dr) ps e → FailsAt dr (p ∷ ps) e
    later dr p ps e a f =
        record {
          number = suc f.number;
          within = suc-le-suc f.within;
          ahead = elim [ zero ↦ λ l. occurrence_passes below limit dr p a | suc h ↦ λ l. f.ahead h (le_of_suc-le-suc l) ];
          fails = f.fails;
        }

    occurrences_fail : (dr : ℕ → Bool) (ps : List PlacedOccurrence) (e : Refusal) → occurrences_judged below limit dr ps ≡ refused e → FailsAt dr ps e
    unfolding occurrences_judged
    occurrences_fail dr [] e h = cc
    occurrences_fail dr (p ∷ ps) e h = by (occurrences_fail (drive p.occurrence.outs dr) ps e) (occurrence_judged below limit dr p) refl h
      where
        rest : Verdict
        rest = occurrences_judged below limit (drive p.occurrence.outs dr) ps

        by : (rest ≡ refused e → FailsAt (drive p.occurrence.outs dr) ps e) → (v : Verdict) → occurrence_judged below limit dr p ≡ v → (v then rest) ≡ refused e → FailsAt dr (p ∷ ps) e
        by ih accepted a g = later dr p ps e a (ih g)
        by ih (refused r) a g = record { number = 0; within = suc-le-suc (omega arith); ahead = λ k l. absurd (not-suc-le-zero l); fails = occurrence_fails below limit dr p e (a ∙ g) }

  module _ (u : PlacedModule) where
    abbrev m : Module
    m = module_of u

    abbrev dr : ℕ → Bool
    dr w = ltb w u.inputs

    abbrev inner : Verdict
    inner = occurrences_judged below u.wires dr u.placed

    abbrev check : ModuleRule → Verdict
    check r = asked (module_test m below r) (module_refusal r u.place)

    abbrev own_judged : Verdict
    own_judged = check output_wires then (check all_driven then (check state_list then check size))

    pub judged_passes : module_judged below u ≡ accepted → Passes m below
    judged_passes h =
        let a = passed_both (module_test m below output_wires) _ _ (then_right inner _ h) in
        let b = passed_both (module_test m below all_driven) _ _ a.1 in
        let c = passed_both (module_test m below state_list) _ _ b.1 in
        record {
          occurrences = occurrences_pass u.wires dr u.placed (then_left inner _ h);
          own = elim [ output_wires ↦ a.0 | all_driven ↦ b.0 | state_list ↦ c.0 | size ↦ asked_accepted (module_test m below size) _ c.1 ];
        }

    own_fails : (e : Refusal) → own_judged ≡ refused e → Fails (module_test m below) module_refusal u.place e
    own_fails e h =
        elim (failed_either (module_test m below output_wires) _ _ e h) [
          | inl a ↦ record { rule = output_wires; fails = a.0; is = a.1; lesser = λ q l. grind arith }
          | inr a ↦ elim (failed_either (module_test m below all_driven) _ _ e a.1) [
            | inl b ↦ record { rule = all_driven; fails = b.0; is = b.1; lesser = λ q l. grind arith }
            | inr b ↦ elim (failed_either (module_test m below state_list) _ _ e b.1) [
              | inl c ↦ record { rule = state_list; fails = c.0; is = c.1; lesser = λ q l. grind arith }
              | inr c ↦
                  let f = asked_refused (module_test m below size) _ e c.1 in
                  record { rule = size; fails = f.0; is = sym f.1; lesser = λ q l. grind arith }
            ]
          ]
        ]

    pub judged_fails_first : (e : Refusal) → module_judged below u ≡ refused e → FailsModule below u e
    judged_fails_first e h = by inner refl h
      where
        by : (v : Verdict) → inner ≡ v → (v then own_judged) ≡ refused e → FailsModule below u e
        by accepted a g = fails_own (occurrences_pass u.wires dr u.placed a) (own_fails e g)
        by (refused r) a g = let f = occurrences_fail u.wires dr u.placed e (a ∙ g) in fails_occurrence f.number f.within f.ahead f.fails

    pub passes_judged : Passes m below → module_judged below u ≡ accepted
    passes_judged k = by (module_judged below u) refl
      where
        never : (e : Refusal) → FailsModule below u e → ⊥
        never e (fails_occurrence i l a f) = both_ways _ f.fails (k.occurrences i l f.rule)
        never e (fails_own a f) = both_ways _ f.fails (k.own f.rule)

        by : (v : Verdict) → module_judged below u ≡ v → module_judged below u ≡ accepted
        by accepted a = a
        by (refused e) a = absurd (never e (judged_fails_first e a))

-- Passing is being sound

module _ (below : ℕ → Design) where
  abbrev Seen : ℕ → Type 0
  Seen j = present (below j) ≡ true

  known_Refers : (p : Option Part) → known below p ≡ true → Refers Seen p
  known_Refers (Some (gate g)) e = tt
  known_Refers (Some cell) e = tt
  known_Refers (Some (module_no j)) e = e
  known_Refers None e = cc

  RefersKnown : (p : Option Part) → Refers Seen p → known below p ≡ true
  RefersKnown (Some (gate g)) k = refl
  RefersKnown (Some cell) k = refl
  RefersKnown (Some (module_no j)) k = k
  RefersKnown None k = absurd k

  module _ (limit : ℕ) where
    tests_fit : (dr : ℕ → Bool) (o : Occurrence) → ((r : OccurrenceRule) → occurrence_test below limit dr o r ≡ true) → Fits Seen below limit dr o
    tests_fit dr o t =
        let a = and_parts (eqb (length o.ins) (inputs_due below (part o))) _ (t pins) in
        let b = and_parts (all (λ w. ltb w limit) o.ins) _ (t wires) in
        record {
          refer = known_Refers (part o) (t reference);
          pins_in = eqb-true _ _ a.0;
          pins_out = eqb-true _ _ a.1;
          wire_in = all_below limit o.ins b.0;
          wire_out = all_below limit o.outs b.1;
          order = all_All dr (λ w. dr w ≡ true) (λ w h. h) _ (t order);
          fresh = fresh_Fresh o.outs dr (t one_driver);
        }

    fit_tests : (dr : ℕ → Bool) (o : Occurrence) → Fits Seen below limit dr o → (r : OccurrenceRule) → occurrence_test below limit dr o r ≡ true
    fit_tests dr o k =
        elim [
          | reference ↦ RefersKnown (part o) k.refer
          | pins ↦ and_from _ _ (eq-eqb _ _ k.pins_in) (eq-eqb _ _ k.pins_out)
          | wires ↦ and_from _ _ (below_all limit o.ins k.wire_in) (below_all limit o.outs k.wire_out)
          | order ↦ AllAll dr (λ w. dr w ≡ true) (λ w h. h) _ k.order
          | one_driver ↦ FreshFresh o.outs dr k.fresh
        ]

    pass_fit_all : (dr : ℕ → Bool) (os : List Occurrence) → ((i : ℕ) → i < length os → (r : OccurrenceRule) → test_at below limit dr os i r ≡ true) → FitAll Seen below limit os dr
    pass_fit_all dr [] t = tt
    pass_fit_all dr (o ∷ os) t = (tests_fit dr o (t 0 (suc-le-suc (omega arith))), pass_fit_all (drive o.outs dr) os (λ i l. t (suc i) (suc-le-suc l)))

    fit_all_pass : (dr : ℕ → Bool) (os : List Occurrence) → FitAll Seen below limit os dr → (i : ℕ) → i < length os → (r : OccurrenceRule) → test_at below limit dr os i r ≡ true
    fit_all_pass dr [] k i l = absurd (not-suc-le-zero l)
    fit_all_pass dr (o ∷ os) k zero l = fit_tests dr o k.0
    fit_all_pass dr (o ∷ os) k (suc i) l = fit_all_pass (drive o.outs dr) os k.1 i (le_of_suc-le-suc l)

-- a module that is sound where its references are right, and not too large
pub record RightModule (S : ℕ → Type 0) (m : Module) (below : ℕ → Design) : Type 0 where
  pub sound : SoundModule S m below
  pub shallow : depth (node m below) ≤ 8
  pub few_cells : cells (node m below) ≤ 4096
  pub few_places : places (node m below) ≤ 65535

module _ (m : Module) (below : ℕ → Design) where
  abbrev held : ℕ → Bool
  held i = eqb (times i m.states) (times_due (cells_at m below i))

  pub passes_right : Passes m below → RightModule (λ j. present (below j) ≡ true) m below
  passes_right k =
      let a = and_parts (all (λ s. ltb s (length m.occurrences)) m.states) (every (length m.occurrences) held) (k.own state_list) in
      let b = and_parts (leb (depth (node m below)) 8) (leb (cells (node m below)) 4096 && leb (places (node m below)) 65535) (k.own size) in
      let c = and_parts (leb (cells (node m below)) 4096) (leb (places (node m below)) 65535) b.1 in
      record {
        sound =
            record {
              fits = pass_fit_all below m.wires (λ w. ltb w m.inputs) m.occurrences k.occurrences;
              wire = all_below m.wires m.outs (k.own output_wires);
              drives = every_each m.wires _ (k.own all_driven);
              state_in = all_below (length m.occurrences) m.states a.0;
              state = λ i h. eqb-true _ _ (every_each (length m.occurrences) held a.1 i h);
            };
        shallow = leb-true _ _ b.0;
        few_cells = leb-true _ _ c.0;
        few_places = leb-true _ _ c.1;
      }

  pub right_passes : RightModule (λ j. present (below j) ≡ true) m below → Passes m below
  right_passes k =
      record {
        occurrences = fit_all_pass below m.wires (λ w. ltb w m.inputs) m.occurrences k.sound.fits;
        own =
            elim [
              | output_wires ↦ below_all m.wires m.outs k.sound.wire
              | all_driven ↦ each_every m.wires _ k.sound.drives
              | state_list ↦ and_from _ _ (below_all (length m.occurrences) m.states k.sound.state_in) (each_every (length m.occurrences) held (λ i h. eq-eqb _ _ (k.sound.state i h)))
              | size ↦ and_from _ _ (le-leb _ _ k.shallow) (and_from _ _ (le-leb _ _ k.few_cells) (le-leb _ _ k.few_places))
            ];
      }

-- a module is accepted exactly when it is sound and not too large
pub module_sound : (below : ℕ → Design) (u : PlacedModule) → (module_judged below u ≡ accepted) ↔ RightModule (λ j. present (below j) ≡ true) (module_of u) below
module_sound below u = (λ e. passes_right (module_of u) below (judged_passes below u e), λ k. passes_judged below u (right_passes (module_of u) below k))

-- The modules of a board

pub record Right (d : Design) : Type 0 where
  pub sound : Sound d
  pub shallow : depth d ≤ 8
  pub few_cells : cells d ≤ 4096
  pub few_places : places d ≤ 65535

module _ (S T : ℕ → Type 0) (g : (j : ℕ) → S j → T j) (below : ℕ → Design) where
  refers_map : (p : Option Part) → Refers S p → Refers T p
  refers_map (Some (gate _)) k = tt
  refers_map (Some cell) k = tt
  refers_map (Some (module_no j)) k = g j k
  refers_map None k = k

  fit_map : (limit : ℕ) (os : List Occurrence) (dr : ℕ → Bool) → FitAll S below limit os dr → FitAll T below limit os dr
  fit_map limit [] dr k = tt
  fit_map limit (o ∷ os) dr k =
      let f = k.0 in (
        record { refer = refers_map (part o) f.refer; pins_in = f.pins_in; pins_out = f.pins_out; wire_in = f.wire_in; wire_out = f.wire_out; order = f.order; fresh = f.fresh },
        fit_map limit os (drive o.outs dr) k.1,
      )

  sound_map : (m : Module) → SoundModule S m below → SoundModule T m below
  sound_map m k = record { fits = fit_map m.wires m.occurrences _ k.fits; wire = k.wire; drives = k.drives; state_in = k.state_in; state = k.state }

judged_node : (below : ℕ → Design) (u : PlacedModule) → ((j : ℕ) → present (below j) ≡ true → Right (below j)) → module_judged below u ≡ accepted → Right (node (module_of u) below)
judged_node below u ih e =
    let r = (module_sound below u).0 e in
    record {
      sound = sound_map (λ j. present (below j) ≡ true) (λ j. Sound (below j)) (λ j p. (ih j p).sound) below (module_of u) r.sound;
      shallow = r.shallow;
      few_cells = r.few_cells;
      few_places = r.few_places;
    }

pub modules_right : (k : ℕ) (us : List PlacedModule) → modules_judged k us ≡ accepted → (j : ℕ) → present (design_from k (map module_of us) j) ≡ true → Right (design_from k (map module_of us) j)
unfolding modules_judged
modules_right k [] e j p = absurd (both_ways false refl p)
modules_right k (u ∷ us) e j p =
    let below = design_from (suc k) (map module_of us) in
    let N = node (module_of u) below in
    let ih = modules_right (suc k) us (then_left (modules_judged (suc k) us) (module_judged below u) e) in
    elim (cases_eq j k) [
      | inl q ↦ rw (eq-eqb j k q) (judged_node below u ih (then_right (modules_judged (suc k) us) (module_judged below u) e))
      | inr ne ↦ rw (ne_eqb j k ne) (ih j (rw (ne_eqb j k ne) at p))
    ]

-- what is accepted of the modules is accepted of those behind
pub judged_behind : (k : ℕ) (us : List PlacedModule) (n j : ℕ) → n + k ≡ j → modules_judged k us ≡ accepted → modules_judged j (drop n us) ≡ accepted
unfolding modules_judged
judged_behind k [] zero j z e = refl
judged_behind k [] (suc n) j z e = refl
judged_behind k (u ∷ us) zero j z e = let y : k ≡ j = omega arith in subst (λ i. modules_judged i (u ∷ us) ≡ accepted) y e
judged_behind k (u ∷ us) (suc n) j z e = judged_behind (suc k) us n j (omega arith) (then_left (modules_judged (suc k) us) _ e)

-- The modules of a file

pub accepted_seen : (f : List ℕ) → verdict f ≡ accepted → (k j : ℕ) → present (seen_from f k j) ≡ true → Right (seen_from f k j)
accepted_seen f e k j p = modules_right k (drop k (units_of f)) (judged_behind 0 (units_of f) k k (omega arith) (then_right (records_read f) (modules_judged 0 (units_of f)) e)) j p

some_modules : (f : List ℕ) → verdict f ≡ accepted → 0 < module_count f
some_modules f e =
    let a = passed_both (leb (length f) 32768) Long _ (then_left (records_read f) _ e) in
    let b = then_right (framed f 0 1) (asked (board_shape (body f 0)) (Shape 0)) (then_left (read f 0 1 board_shape) _ a.1) in
    let c = and_parts (eqb (length (body f 0)) 2) _ (asked_accepted (board_shape (body f 0)) (Shape 0) b) in
    leb-true _ _ (and_parts (leb 1 (module_count f)) _ c.1).0

top_present : (us : List PlacedModule) → 0 < length us → present (top (map module_of us)) ≡ true
top_present [] h = absurd (not-suc-le-zero h)
top_present (u ∷ us) h = refl

pub accepted_top : (f : List ℕ) → verdict f ≡ accepted → Sound (top (board_of f))
accepted_top f e =
    let n = some_modules f e in
    (accepted_seen f e 0 0 (top_present (units_of f) (omega (arith, length_units f (end_of f 0) (module_count f))))).sound
