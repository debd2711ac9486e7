-- Each test is its rule in words, and the verdict on the modules is that of the first rule broken.
use Rattle.std.proofs.Common.{◌≡◌, ℕ, zero, suc, ◌+◌, ◌-◌, ◌<◌, ◌≤◌, Bool, true, false, not, ◌&&◌, eqb, ltb, leb, ◌⊎◌, ◌↔◌, List, [], ◌∷◌, map, length, get_or, take, drop, Some, None, Option, sym, refl, ap, ◌∙◌, subst, inl, inr, suc-le-suc, le_of_suc-le-suc, not-suc-le-zero, arith, drop-cons}
use lib.ListN.{length-map}
use Rattle.std.proofs.lemmas.List.{take_all, drop_all, drop-drop, drop-map, get_or-map}
use Rattle.std.proofs.lemmas.Bool.Decides.{Decides-and, Decides-eqb, Decides-ltb, nat_tests}
use Rattle.std.proofs.lemmas.Bool.{eqb-true, eq-eqb, leb-true, le-leb, ltb-true, lt-ltb, le-ltb, and_parts, and_from, not-true, not_from_false, both_ways, cases_eq, cases_lt, cases_Bool, cond-true, cond-false}
use Rattle.gates.specs.declared.Part.{Part}
use Rattle.gates.specs.declared.Part.TheVariants.{Gate as gate, Cell as cell, Module as module_no}
use Rattle.rules.specs.declared.refusal.Refusal.{Refusal}
use Rattle.rules.specs.Refusals.{Verdict, accepted, refused, ◌then◌, number_of}
use Rattle.rules.specs.Boards.{Occurrence, no_occurrence, Module, no_module, module_number, part, present, in_count, out_wires, design_from, design_number, cells, cells_at, depth, places, inputs_due, outputs_due}
use Rattle.rules.specs.Wires.{all, every, times, mark, drive, drive_all, fresh, through_of, through}
use Rattle.rules.specs.Judging.{PlacedModule, module_of, known, times_due, module_judged, modules_judged}
use Rattle.rules.specs.Sound.{Sound}
use Rattle.rules.specs.Rules.{At, In, Once, Distinct, Driven, ThroughInput, ReferenceRight, PinsRight, WiresRight, OccurrenceRule, reference, pins, wires, order, drive as one_driver, OccurrenceKeeps, occurrence_refusal, occurrence_number, ModuleRule, output_wires, all_driven, state_list, size, ModuleKeeps, module_refusal, BoardKeeps}
use Rattle.rules.proofs.Sounds.{all_All, every_each, each_every, Fails, driven_ahead, occurrence_passes_at, module_test, Passes, no_placed, FailsModule, fails_occurrence, fails_own, judged_passes, judged_fails_first, modules_right, judged_behind}
use Rattle.rules.proofs.Verdicts.{then_left, then_right}
use Rattle.rules.proofs.Reaching.{at_here, at_later, at_back, in_here, in_later, in_none, in_cases, in_All, through_input, through_in, in_through, mark_from, mark_parts, drive_from, drive_parts, behind, behind_is, behind_none, cases_within, through_is}

-- Tests of lists

leb_is : (a b : ℕ) → (leb a b ≡ true) ↔ (a ≤ b)
leb_is a b = (leb-true a b, le-leb a b)

in_all : (f : ℕ → Bool) (xs : List ℕ) → ((x : ℕ) → In xs x → f x ≡ true) → all f xs ≡ true
in_all f [] h = refl
in_all f (x ∷ xs) h = and_from (f x) (all f xs) (h x (in_here x xs)) (in_all f xs (λ y i. h y (in_later x xs y i)))

all_is : (f : ℕ → Bool) (P : ℕ → Type 0) → ((x : ℕ) → (f x ≡ true) ↔ P x) → (xs : List ℕ) → (all f xs ≡ true) ↔ ((x : ℕ) → In xs x → P x)
all_is f P h xs = (λ e x i. in_All P xs (all_All f P (λ y. (h y).0) xs e) x i, λ k. in_all f xs (λ x i. (h x).1 (k x i)))

wires_is : (limit : ℕ) (ws : List ℕ) → (all (λ w. ltb w limit) ws ≡ true) ↔ WiresRight limit ws
wires_is limit ws = all_is (λ w. ltb w limit) (λ w. w < limit) (λ w. Decides-ltb w limit) ws

-- none of the wires is driven, and none is named twice
fresh_words : (ws : List ℕ) (dr : ℕ → Bool) → fresh ws dr ≡ true → ((w : ℕ) → In ws w → dr w ≡ true → ⊥) × Distinct ws
fresh_words [] dr e = (λ w i d. in_none w i, λ p q x a b. absurd (in_none x (p, a)))
fresh_words (v ∷ ws) dr e =
    let a = and_parts (not (dr v)) (fresh ws (mark v dr)) e in
    let ih = fresh_words ws (mark v dr) a.1 in (
      λ w i d.
          elim (in_cases v ws w i) [
            | inl z ↦ both_ways (dr v) (not-true (dr v) a.0) (subst (λ y. dr y ≡ true) z d)
            | inr j ↦ ih.0 w j (mark_from v dr w (inl d))
          ],
      elim [
        | zero ↦ elim [
          | zero ↦ λ x l r. refl
          | suc q ↦ λ x l r. absurd (ih.0 x (q, at_back v ws q x r) (mark_from v dr x (inr (sym l.1))))
        ]
        | suc p ↦ elim [
          | zero ↦ λ x l r. absurd (ih.0 x (p, at_back v ws p x l) (mark_from v dr x (inr (sym r.1))))
          | suc q ↦ λ x l r. ap suc (ih.1 p q x (at_back v ws p x l) (at_back v ws q x r))
        ]
      ],
    )

words_fresh : (ws : List ℕ) (dr : ℕ → Bool) → ((w : ℕ) → In ws w → dr w ≡ true → ⊥) → Distinct ws → fresh ws dr ≡ true
words_fresh [] dr h d = refl
words_fresh (v ∷ ws) dr h d =
    let head : dr v ≡ false = elim (cases_Bool (dr v)) [ inl e ↦ absurd (h v (in_here v ws) e) | inr e ↦ e ] in
    and_from (not (dr v)) (fresh ws (mark v dr)) (not_from_false (dr v) head)
    (words_fresh ws (mark v dr)
    (λ w i m.
    elim (mark_parts v dr w m) [
      | inl e ↦ h w (in_later v ws w i) e
      | inr e ↦ let z = d 0 (suc i.0) v (at_here v ws) (at_later v ws i.0 v (subst (At ws i.0) e i.1)) in omega arith
    ])
    (λ p q x a b. let z = d (suc p) (suc q) x (at_later v ws p x a) (at_later v ws q x b) in omega arith))

-- How often a number stands in a list

times_here : (i s : ℕ) (ss : List ℕ) → s ≡ i → times i (s ∷ ss) ≡ 1 + times i ss
times_here i s ss e = grind (arith, nat_tests)

times_other : (i s : ℕ) (ss : List ℕ) → (s ≡ i → ⊥) → times i (s ∷ ss) ≡ times i ss
times_other i s ss e = grind (arith, nat_tests)

in_times : (i : ℕ) (ss : List ℕ) → In ss i → 0 < times i ss
in_times i [] h = absurd (in_none i h)
in_times i (s ∷ ss) h =
    elim (cases_eq s i) [
      | inl e ↦ omega (arith, times_here i s ss e)
      | inr e ↦ elim (in_cases s ss i h) [ inl q ↦ absurd (e (sym q)) | inr j ↦ omega (arith, times_other i s ss e, in_times i ss j) ]
    ]

times_in : (i : ℕ) (ss : List ℕ) → 0 < times i ss → In ss i
times_in i [] h = absurd (not-suc-le-zero h)
times_in i (s ∷ ss) h =
    elim (cases_eq s i) [
      | inl e ↦ subst (In (s ∷ ss)) e (in_here s ss)
      | inr e ↦ in_later s ss i (times_in i ss (omega (arith, times_other i s ss e)))
    ]

times_once : (i : ℕ) (ss : List ℕ) → times i ss ≡ 1 → Once ss i
times_once i [] h = absurd (omega arith)
times_once i (s ∷ ss) h =
    elim (cases_eq s i) [
      | inl e ↦ (
        0,
        (suc-le-suc (omega arith), e),
        elim [ zero ↦ λ a. refl | suc q ↦ λ a. let n = in_times i ss (q, at_back s ss q i a) in absurd (omega (arith, times_here i s ss e)) ],
      )
      | inr e ↦
          let o = times_once i ss (omega (arith, times_other i s ss e)) in (
            suc o.0,
            at_later s ss o.0 i o.1,
            elim [ zero ↦ λ a. absurd (e a.1) | suc q ↦ λ a. ap suc (o.2 q (at_back s ss q i a)) ],
          )
    ]

once_times : (i : ℕ) (ss : List ℕ) (p : ℕ) → At ss p i → ((q : ℕ) → At ss q i → q ≡ p) → times i ss ≡ 1
once_times i [] p a u = absurd (in_none i (p, a))
once_times i (s ∷ ss) zero a u =
    elim (cases_lt 0 (times i ss)) [
      | inl h ↦ let j = times_in i ss h in let z = u (suc j.0) (at_later s ss j.0 i j.1) in absurd (omega arith)
      | inr h ↦ omega (arith, times_here i s ss a.1)
    ]
once_times i (s ∷ ss) (suc p) a u =
    let ih : times i ss ≡ 1 = once_times i ss p (at_back s ss p i a) (λ q b. let z = u (suc q) (at_later s ss q i b) in omega arith) in
    elim (cases_eq s i) [
      | inl e ↦ let z = u 0 (suc-le-suc (omega arith), e) in absurd (omega arith)
      | inr e ↦ times_other i s ss e ∙ ih
    ]

states_is : (n : ℕ) (c : ℕ → ℕ) (ss : List ℕ) → ((all (λ s. ltb s n) ss && every n (λ i. eqb (times i ss) (times_due (c i)))) ≡ true) ↔ (((s : ℕ) → In ss s → (s < n) × (0 < c s)) × ((i : ℕ) → i < n → 0 < c i → Once ss i))
states_is n c ss = (forth, back)
  where
    due : ℕ → Bool
    due i = eqb (times i ss) (times_due (c i))

    forth : (all (λ s. ltb s n) ss && every n (λ i. eqb (times i ss) (times_due (c i)))) ≡ true → ((s : ℕ) → In ss s → (s < n) × (0 < c s)) × ((i : ℕ) → i < n → 0 < c i → Once ss i)
    forth e =
        let a = and_parts (all (λ s. ltb s n) ss) (every n due) e in
        let t : (i : ℕ) → i < n → times i ss ≡ times_due (c i) = λ i l. eqb-true _ _ (every_each n due a.1 i l) in (
          λ s i.
              let l = (wires_is n ss).0 a.0 s i in
              (l, elim (cases_lt 0 (c s)) [ inl h ↦ h | inr h ↦ absurd (let z : times_due (c s) ≡ 0 = cond-false (ltb 0 (c s)) 1 0 (le-ltb 0 (c s) h) in omega (arith, in_times s ss i, t s l)) ]),
          λ i l h. times_once i ss (t i l ∙ cond-true (ltb 0 (c i)) 1 0 (lt-ltb 0 (c i) h)),
        )

    back : ((s : ℕ) → In ss s → (s < n) × (0 < c s)) × ((i : ℕ) → i < n → 0 < c i → Once ss i) → (all (λ s. ltb s n) ss && every n (λ i. eqb (times i ss) (times_due (c i)))) ≡ true
    back k =
        and_from (all (λ s. ltb s n) ss) (every n due) ((wires_is n ss).1 (λ s i. (k.0 s i).0))
        (each_every n due (λ i l. eq-eqb (times i ss) (times_due (c i)) (
        elim (cases_lt 0 (c i)) [
          | inl h ↦ let o = k.1 i l h in once_times i ss o.0 o.1 o.2 ∙ sym (cond-true (ltb 0 (c i)) 1 0 (lt-ltb 0 (c i) h))
          | inr h ↦
              elim (cases_lt 0 (times i ss)) [
                | inl t ↦ absurd (let z = (k.0 i (times_in i ss t)).1 in omega arith)
                | inr t ↦ let y : times i ss ≡ 0 = omega arith in y ∙ sym (cond-false (ltb 0 (c i)) 1 0 (le-ltb 0 (c i) h))
              ]
        ])))

-- Driven wires

-- the wires that are driven ahead of occurrence i
abbrev Ahead : List Occurrence → (ℕ → Bool) → ℕ → ℕ → Type 0
Ahead os dr i w = (dr w ≡ true) ⊎ ((h : ℕ) × (h < i) × In (get_or os h no_occurrence).outs w)

ahead_parts : (os : List Occurrence) (dr : ℕ → Bool) (i w : ℕ) → drive_all (take i os) dr w ≡ true → Ahead os dr i w
ahead_parts [] dr zero w e = inl e
ahead_parts [] dr (suc i) w e = inl e
ahead_parts (o ∷ os) dr zero w e = inl e
ahead_parts (o ∷ os) dr (suc i) w e =
    elim (ahead_parts os (drive o.outs dr) i w e) [
      | inl d ↦ elim (drive_parts o.outs dr w d) [ inl a ↦ inl a | inr a ↦ inr (0, suc-le-suc (omega arith), a) ]
      | inr a ↦ inr (suc a.0, suc-le-suc a.1, a.2)
    ]

ahead_from : (os : List Occurrence) (dr : ℕ → Bool) (i w : ℕ) → Ahead os dr i w → drive_all (take i os) dr w ≡ true
ahead_from [] dr zero w a = elim a [ inl e ↦ e | inr h ↦ absurd (in_none w h.2) ]
ahead_from [] dr (suc i) w a = elim a [ inl e ↦ e | inr h ↦ absurd (in_none w h.2) ]
ahead_from (o ∷ os) dr zero w a = elim a [ inl e ↦ e | inr h ↦ absurd (not-suc-le-zero h.1) ]
ahead_from (o ∷ os) dr (suc i) w a =
    ahead_from os (drive o.outs dr) i w (elim a [ inl e ↦ inl (drive_from o.outs dr w (inl e)) | inr h ↦ by h.0 h.1 h.2 ])
  where
    by : (h : ℕ) → h < suc i → In (get_or (o ∷ os) h no_occurrence).outs w → Ahead os (drive o.outs dr) i w
    by zero l j = inl (drive_from o.outs dr w (inr j))
    by (suc h) l j = inr (h, le_of_suc-le-suc l, j)

driven_is : (board : List Module) (k i w : ℕ) → (driven_ahead (module_number board k) i w ≡ true) ↔ Driven board k i w
driven_is board k i w =
    let n = (module_number board k).inputs in
    let os = (module_number board k).occurrences in (
      λ e. elim (ahead_parts os (λ x. ltb x n) i w e) [ inl a ↦ inl (ltb-true w n a) | inr a ↦ inr a ],
      λ d. ahead_from os (λ x. ltb x n) i w (elim d [ inl a ↦ inl (lt-ltb w n a) | inr a ↦ inr a ]),
    )

-- Each test is its rule

module _ (board : List Module) (k : ℕ) where
  reference_is : (q : Option Part) → (known (behind board k) q ≡ true) ↔ ReferenceRight board k q
  reference_is (Some (gate g)) = (λ e. tt, λ h. refl)
  reference_is (Some cell) = (λ e. tt, λ h. refl)
  reference_is (Some (module_no j)) = (
    λ e.
        elim (cases_within k j (length board)) [
          | inl h ↦ h
          | inr h ↦ absurd (both_ways (present (behind board k j)) (ap present (behind_none board k j h)) e)
        ],
    λ h. ap present (behind_is board k j h.0 h.1),
  )
  reference_is None = (λ e. both_ways false refl e, λ h. absurd h)

  pins_is : (q : Option Part) (ins outs : ℕ) → ReferenceRight board k q → ((eqb ins (inputs_due (behind board k) q) && eqb outs (length (outputs_due (behind board k) q))) ≡ true) ↔ PinsRight board q ins outs
  pins_is (Some (gate g)) ins outs r = Decides-and _ _ (Decides-eqb ins _) (Decides-eqb outs 1)
  pins_is (Some cell) ins outs r = Decides-and _ _ (Decides-eqb ins 1) (Decides-eqb outs 1)
  pins_is (Some (module_no j)) ins outs r =
      let e = behind_is board k j r.0 r.1 in
      subst (λ d. ((eqb ins (in_count d) && eqb outs (length (out_wires d))) ≡ true) ↔ PinsRight board (Some (module_no j)) ins outs) (sym e) (Decides-and _ _ (Decides-eqb ins _) (Decides-eqb outs _))
  pins_is None ins outs r = absurd r

  drive_is : (i : ℕ) (ws : List ℕ) → (fresh ws (driven_ahead (module_number board k) i) ≡ true) ↔ (((w : ℕ) → In ws w → Driven board k i w → ⊥) × Distinct ws)
  drive_is i ws =
      let dr = driven_ahead (module_number board k) i in (
        λ e. let a = fresh_words ws dr e in (λ w j d. a.0 w j ((driven_is board k i w).1 d), a.1),
        λ h. words_fresh ws dr (λ w j d. h.0 w j ((driven_is board k i w).0 d)) h.1,
      )

  module _ (above : (j : ℕ) → k < j → j < length board → Sound (design_number board j)) where
    through_input_is : (q : Option Part) → ReferenceRight board k q → (p : ℕ) → (through_input (λ j. through (behind board k j)) q p ≡ true) ↔ ThroughInput board q p
    through_input_is (Some (gate g)) r p = (λ e. tt, λ h. refl)
    through_input_is (Some cell) r p = (λ e. both_ways false refl e, λ h. absurd h)
    through_input_is (Some (module_no j)) r p =
        subst (λ d. (through d p ≡ true) ↔ ThroughInput board (Some (module_no j)) p) (sym (behind_is board k j r.0 r.1)) (through_is board j (above j r.0 r.1) p)
    through_input_is None r p = absurd r

    order_is : (i : ℕ) (q : Option Part) (ins : List ℕ) → ReferenceRight board k q → (all (driven_ahead (module_number board k) i) (through_of (λ j. through (behind board k j)) q ins) ≡ true) ↔ ((p w : ℕ) → At ins p w → ThroughInput board q p → Driven board k i w)
    order_is i q ins r =
        let f = λ (j : ℕ). through (behind board k j) in
        let a = all_is (driven_ahead (module_number board k) i) (Driven board k i) (driven_is board k i) (through_of f q ins) in (
          λ e p w at t. a.0 e w (in_through f q ins w p at ((through_input_is q r p).1 t)),
          λ h. a.1 (λ w j. let t = through_in f q ins w j in h t.0 w t.1 ((through_input_is q r t.0).0 t.2)),
        )

    -- the test of an occurrence whose reference is right, or the test of the reference
    occurrence_is : (i : ℕ) (r : OccurrenceRule) → (6 < number_of (occurrence_refusal r 0) → OccurrenceKeeps board k i reference) → (occurrence_passes_at (module_number board k) (behind board k) i r ≡ true) ↔ OccurrenceKeeps board k i r
    occurrence_is i reference f = reference_is (part (occurrence_number board k i))
    occurrence_is i pins f = pins_is (part (occurrence_number board k i)) (length (occurrence_number board k i).ins) (length (occurrence_number board k i).outs) (f (omega arith))
    occurrence_is i wires f = Decides-and _ _ (wires_is (module_number board k).wires (occurrence_number board k i).ins) (wires_is (module_number board k).wires (occurrence_number board k i).outs)
    occurrence_is i order f = order_is i (part (occurrence_number board k i)) (occurrence_number board k i).ins (f (omega arith))
    occurrence_is i one_driver f = drive_is i (occurrence_number board k i).outs

  module_is : (r : ModuleRule) → (module_test (module_number board k) (behind board k) r ≡ true) ↔ ModuleKeeps board k r
  module_is output_wires = wires_is (module_number board k).wires (module_number board k).outs
  module_is all_driven =
      let os = (module_number board k).occurrences in
      let d : (w : ℕ) → (drive_all os (λ x. ltb x (module_number board k).inputs) w ≡ true) ↔ Driven board k (length os) w =
      λ w. subst (λ l. (drive_all l (λ x. ltb x (module_number board k).inputs) w ≡ true) ↔ Driven board k (length os) w) (take_all (length os) os (omega arith)) (driven_is board k (length os) w) in (
        λ e w l. (d w).0 (every_each (module_number board k).wires _ e w l),
        λ h. each_every (module_number board k).wires _ (λ w l. (d w).1 (h w l)),
      )
  module_is state_list =
      let a = states_is (length (module_number board k).occurrences) (cells_at (module_number board k) (behind board k)) (module_number board k).states in
      (λ e. let h = a.0 e in record { holding = h.0; each_once = h.1 }, λ h. a.1 (h.holding, h.each_once))
  module_is size =
      let d = design_number board k in
      let a = Decides-and (leb (depth d) 8) (leb (cells d) 4096 && leb (places d) 65535) (leb_is (depth d) 8) (Decides-and (leb (cells d) 4096) (leb (places d) 65535) (leb_is (cells d) 4096) (leb_is (places d) 65535)) in
      (λ e. let h = a.0 e in record { shallow = h.0; few_cells = h.1.0; few_places = h.1.1 }, λ h. a.1 (h.shallow, (h.few_cells, h.few_places)))

-- The first rule broken

-- module k and its occurrences keep every rule
pub record Keeps (board : List Module) (k : ℕ) : Type 0 where
  pub occurrences : (i : ℕ) → i < length (module_number board k).occurrences → (r : OccurrenceRule) → OccurrenceKeeps board k i r
  pub own : (r : ModuleRule) → ModuleKeeps board k r

abbrev pub no_unit : PlacedModule
no_unit = record { place = 0; inputs = 0; wires = 0; outs = []; placed = []; states = [] }

abbrev pub modules_of : List PlacedModule → List Module
modules_of us = map module_of us

-- the place of module k, and of its occurrence i
abbrev pub module_place_in : List PlacedModule → ℕ → ℕ
module_place_in us k = (get_or us k no_unit).place

abbrev pub occurrence_place_in : List PlacedModule → ℕ → ℕ → ℕ
occurrence_place_in us k i = (get_or (get_or us k no_unit).placed i no_placed).place

-- the refusal is that of a broken rule, and the rules that are checked ahead of it are kept
pub data FirstOf (us : List PlacedModule) (e : Refusal) : Type 0 where
  at_occurrence : (k i : ℕ) (r : OccurrenceRule) → k < length us → i < length (module_number (modules_of us) k).occurrences → (OccurrenceKeeps (modules_of us) k i r → ⊥) → e ≡ occurrence_refusal r (occurrence_place_in us k i) → ((j : ℕ) → k < j → j < length us → Keeps (modules_of us) j) → ((h : ℕ) → h < i → (q : OccurrenceRule) → OccurrenceKeeps (modules_of us) k h q) → ((q : OccurrenceRule) → number_of (occurrence_refusal q 0) < number_of (occurrence_refusal r 0) → OccurrenceKeeps (modules_of us) k i q) → FirstOf us e
  at_module : (k : ℕ) (r : ModuleRule) → k < length us → (ModuleKeeps (modules_of us) k r → ⊥) → e ≡ module_refusal r (module_place_in us k) → ((j : ℕ) → k < j → j < length us → Keeps (modules_of us) j) → ((i : ℕ) → i < length (module_number (modules_of us) k).occurrences → (q : OccurrenceRule) → OccurrenceKeeps (modules_of us) k i q) → ((q : ModuleRule) → number_of (module_refusal q 0) < number_of (module_refusal r 0) → ModuleKeeps (modules_of us) k q) → FirstOf us e

module _ (us : List PlacedModule) where
  abbrev board : List Module
  board = modules_of us

  -- the verdict on the modules from number k on
  abbrev from : ℕ → Verdict
  from k = modules_judged k (drop k us)

  abbrev unit : ℕ → PlacedModule
  unit k = get_or us k no_unit

  long : length board ≡ length us
  long = length-map us module_of

  unit_is : (k : ℕ) → k < length us → module_of (unit k) ≡ module_number board k
  unit_is k l = sym (get_or-map module_of us k no_unit no_module l)

  from_split : (k : ℕ) → k < length us → from k ≡ (from (suc k) then module_judged (behind board k) (unit k))
  unfolding modules_judged
  from_split k l =
      ap (modules_judged k) (drop-cons us k no_unit l) ∙ ap (λ ms. from (suc k) then module_judged (design_from (suc k) ms) (unit k)) (sym (drop-map module_of (suc k) us))

  from_later : (k j : ℕ) → k ≤ j → from k ≡ accepted → from j ≡ accepted
  from_later k j l e =
      let n = j - k in
      let z : k + n ≡ j = omega arith in
      subst (λ vs. modules_judged j vs ≡ accepted) (drop-drop n k us ∙ ap (λ i. drop i us) z) (judged_behind k (drop k us) n j (omega arith) e)

  above_sound : (k : ℕ) → from (suc k) ≡ accepted → (j : ℕ) → k < j → j < length board → Sound (design_number board j)
  above_sound k e j a b =
      let p : design_from (suc k) (map module_of (drop (suc k) us)) j ≡ design_number board j = ap (λ ms. design_from (suc k) ms j) (sym (drop-map module_of (suc k) us)) ∙ behind_is board k j a b in
      subst Sound p (modules_right (suc k) (drop (suc k) us) e j (ap present p)).sound

  accepted_keeps : (k : ℕ) → k < length us → from k ≡ accepted → Keeps board k
  accepted_keeps k l e =
      let s = sym (from_split k l) ∙ e in
      let above = above_sound k (then_left (from (suc k)) _ s) in
      let t = subst (λ m. Passes m (behind board k)) (unit_is k l) (judged_passes (behind board k) (unit k) (then_right (from (suc k)) _ s)) in
      record {
        occurrences = λ i h r. (occurrence_is board k above i r (λ _. (reference_is board k (part (occurrence_number board k i))).0 (t.occurrences i h reference))).0 (t.occurrences i h r);
        own = λ r. (module_is board k r).0 (t.own r);
      }

  pub modules_keep : modules_judged 0 us ≡ accepted → BoardKeeps (map module_of us)
  modules_keep e =
      let keeps : (k : ℕ) → k < length board → Keeps board k = λ k l. let h : k < length us = subst (λ n. k < n) long l in accepted_keeps k h (from_later 0 k (omega arith) e) in
      record { occurrences = λ k l. (keeps k l).occurrences; modules = λ k l. (keeps k l).own }

  -- a module that is refused, where those behind it are accepted
  refused_first : (k : ℕ) → k < length us → from (suc k) ≡ accepted → (e : Refusal) → FailsModule (behind board k) (unit k) e → FirstOf us e
  refused_first k l a e f = by f
    where
      above : (j : ℕ) → k < j → j < length board → Sound (design_number board j)
      above = above_sound k a

      later : (j : ℕ) → k < j → j < length us → Keeps board j
      later j b c = accepted_keeps j c (from_later (suc k) j b a)

      moved : (P : Module → Type 0) → P (module_of (unit k)) → P (module_number board k)
      moved P h = subst P (unit_is k l) h

      referred : (i : ℕ) → occurrence_passes_at (module_number board k) (behind board k) i reference ≡ true → OccurrenceKeeps board k i reference
      referred i t = (reference_is board k (part (occurrence_number board k i))).0 t

      kept : (i : ℕ) → ((r : OccurrenceRule) → occurrence_passes_at (module_number board k) (behind board k) i r ≡ true) → (r : OccurrenceRule) → OccurrenceKeeps board k i r
      kept i t r = (occurrence_is board k above i r (λ _. referred i (t reference))).0 (t r)

      by : FailsModule (behind board k) (unit k) e → FirstOf us e
      by (fails_occurrence i h t g) =
          let fails = moved (λ m. Fails (occurrence_passes_at m (behind board k) i) occurrence_refusal (occurrence_place_in us k i) e) g in
          let ref : 6 < number_of (occurrence_refusal fails.rule 0) → OccurrenceKeeps board k i reference = λ n. referred i (fails.lesser reference n) in
          at_occurrence k i fails.rule l (moved (λ m. i < length m.occurrences) h)
          (λ b. both_ways _ fails.fails ((occurrence_is board k above i fails.rule ref).1 b))
          fails.is later
          (λ n b. kept n (moved (λ m. (r : OccurrenceRule) → occurrence_passes_at m (behind board k) n r ≡ true) (t n b)))
          (λ q n. (occurrence_is board k above i q (λ b. ref (omega arith))).0 (fails.lesser q n))
      by (fails_own t g) =
          let fails = moved (λ m. Fails (module_test m (behind board k)) module_refusal (module_place_in us k) e) g in
          at_module k fails.rule l
          (λ b. both_ways _ fails.fails ((module_is board k fails.rule).1 b))
          fails.is later
          (λ i b. kept i (moved (λ m. i < length m.occurrences → (r : OccurrenceRule) → occurrence_passes_at m (behind board k) i r ≡ true) (t i) b))
          (λ q n. (module_is board k q).0 (fails.lesser q n))

  first_from : (n k : ℕ) → n + k ≡ length us → (e : Refusal) → from k ≡ refused e → FirstOf us e
  unfolding modules_judged
  first_from zero k z e h = let x : accepted ≡ refused e = ap (modules_judged k) (sym (drop_all k us (omega arith))) ∙ h in cc
  first_from (suc n) k z e h = by (λ r g. first_from n (suc k) (omega arith) r g) (from (suc k)) refl (sym (from_split k (omega arith)) ∙ h)
    where
      by : ((r : Refusal) → from (suc k) ≡ refused r → FirstOf us r) → (v : Verdict) → from (suc k) ≡ v → (v then module_judged (behind board k) (unit k)) ≡ refused e → FirstOf us e
      by ih accepted a g = refused_first k (omega arith) a e (judged_fails_first (behind board k) (unit k) e g)
      by ih (refused r) a g = ih e (a ∙ g)

  pub modules_first : (e : Refusal) → modules_judged 0 us ≡ refused e → FirstOf us e
  modules_first e h = first_from (length us) 0 (omega arith) e h

  pub keep_modules : BoardKeeps (map module_of us) → modules_judged 0 us ≡ accepted
  keep_modules k = by (modules_judged 0 us) refl
    where
      never : (e : Refusal) → FirstOf us e → ⊥
      never e (at_occurrence n i r l h b is later ahead lesser) = b (k.occurrences n (subst (λ x. n < x) (sym long) l) i h r)
      never e (at_module n r l b is later ahead lesser) = b (k.modules n (subst (λ x. n < x) (sym long) l) r)

      by : (v : Verdict) → modules_judged 0 us ≡ v → modules_judged 0 us ≡ accepted
      by accepted a = a
      by (refused e) a = absurd (never e (modules_first e a))
