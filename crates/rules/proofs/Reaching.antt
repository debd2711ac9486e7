-- On sound modules the computed reach is the one in words.
use Rattle.std.proofs.Common.{◌≡◌, ℕ, zero, suc, ◌+◌, ◌-◌, ◌<◌, ◌≤◌, Bool, true, false, cond, ◌&&◌, eqb, ltb, ◌⊎◌, ◌↔◌, List, [], ◌∷◌, map, length, get_or, drop, Some, None, Option, sym, refl, ap, ◌∙◌, subst, ap₂, inl, inr, suc-le-suc, le_of_suc-le-suc, not-suc-le-zero, arith, length-drop}
use Rattle.std.proofs.lemmas.List.{get_or-drop, drop-drop}
use Rattle.std.proofs.lemmas.Bool.Decides.{nat_tests}
use Rattle.std.proofs.lemmas.Bool.{eqb-true, eq-eqb, ne_eqb, ltb-true, lt-ltb, cases_lt, cases_Bool, and_parts, and_from, or_cases, or_left, or_right, cond-true, cond-false, both_ways}
use Rattle.gates.specs.declared.Part.{Part}
use Rattle.gates.specs.declared.Part.TheVariants.{Gate as gate, Cell as cell, Module as module_no}
use Rattle.rules.specs.Boards.{Occurrence, no_occurrence, Module, no_module, module_number, part, Design, absent, node, outputs_due, design_from, design_number}
use Rattle.rules.specs.Wires.{Wires, upd, put, run, any, picked, mark, drive, through_of, reached, reach, through}
use Rattle.rules.specs.Sound.{All, Fresh, Refers, FitAll, Sound}
use Rattle.rules.specs.Rules.{At, In, occurrence_number, Reaches, itself, through_gate, through_module, Through}
use Rattle.rules.proofs.Modules.{design_low, design_high}

-- What stands in a list

pub at_later : (x : ℕ) (xs : List ℕ) (p y : ℕ) → At xs p y → At (x ∷ xs) (suc p) y
at_later x xs p y a = (suc-le-suc a.0, a.1)

pub at_here : (x : ℕ) (xs : List ℕ) → At (x ∷ xs) 0 x
at_here x xs = (suc-le-suc (omega arith), refl)

pub at_back : (x : ℕ) (xs : List ℕ) (p y : ℕ) → At (x ∷ xs) (suc p) y → At xs p y
at_back x xs p y a = (le_of_suc-le-suc a.0, a.1)

pub in_here : (x : ℕ) (xs : List ℕ) → In (x ∷ xs) x
in_here x xs = (0, at_here x xs)

pub in_later : (x : ℕ) (xs : List ℕ) (y : ℕ) → In xs y → In (x ∷ xs) y
in_later x xs y i = (suc i.0, at_later x xs i.0 y i.1)

pub in_none : (y : ℕ) → In [] y → ⊥
in_none y i = not-suc-le-zero i.1.0

pub in_cases : (x : ℕ) (xs : List ℕ) (y : ℕ) → In (x ∷ xs) y → (y ≡ x) ⊎ In xs y
in_cases x xs y i = by i.0 i.1
  where
    by : (p : ℕ) → At (x ∷ xs) p y → (y ≡ x) ⊎ In xs y
    by zero a = inl (sym a.1)
    by (suc p) a = inr (p, at_back x xs p y a)

pub in_All : (P : ℕ → Type 0) (xs : List ℕ) → All P xs → (y : ℕ) → In xs y → P y
in_All P [] k y i = absurd (in_none y i)
in_All P (x ∷ xs) k y i = elim (in_cases x xs y i) [ inl e ↦ subst P (sym e) k.0 | inr j ↦ in_All P xs k.1 y j ]

any_in : (f : ℕ → Bool) (xs : List ℕ) → any f xs ≡ true → (w : ℕ) × In xs w × (f w ≡ true)
any_in f [] e = absurd (both_ways false refl e)
any_in f (x ∷ xs) e =
    elim (or_cases (f x) (any f xs) e) [
      | inl h ↦ (x, in_here x xs, h)
      | inr h ↦ let r = any_in f xs h in (r.0, in_later x xs r.0 r.1, r.2)
    ]

in_any : (f : ℕ → Bool) (xs : List ℕ) (w : ℕ) → In xs w → f w ≡ true → any f xs ≡ true
in_any f [] w i e = absurd (in_none w i)
in_any f (x ∷ xs) w i e =
    elim (in_cases x xs w i) [
      | inl h ↦ or_left (f x) (any f xs) (subst (λ y. f y ≡ true) h e)
      | inr h ↦ or_right (f x) (any f xs) (in_any f xs w h e)
    ]

-- The through inputs of an occurrence, by their places

abbrev pub through_input : (ℕ → ℕ → Bool) → Option Part → ℕ → Bool
through_input f (Some (gate g)) p = true
through_input f (Some cell) p = false
through_input f (Some (module_no j)) p = f j p
through_input f None p = false

picked_in : (t : ℕ → Bool) (xs : List ℕ) (y : ℕ) → In (picked t xs) y → (p : ℕ) × At xs p y × (t p ≡ true)
picked_in t [] y i = absurd (in_none y i)
picked_in t (x ∷ xs) y i =
    let later : In (picked (λ k. t (suc k)) xs) y → (p : ℕ) × At (x ∷ xs) p y × (t p ≡ true) =
    λ j. let r = picked_in (λ k. t (suc k)) xs y j in (suc r.0, at_later x xs r.0 y r.1, r.2) in
    elim (cases_Bool (t 0)) [
      | inl e ↦
          elim (in_cases x (picked (λ k. t (suc k)) xs) y (rw e at i)) [
            | inl h ↦ (0, (suc-le-suc (omega arith), sym h), e)
            | inr j ↦ later j
          ]
      | inr e ↦ later (rw e at i)
    ]

in_picked : (t : ℕ → Bool) (xs : List ℕ) (y p : ℕ) → At xs p y → t p ≡ true → In (picked t xs) y
in_picked t [] y p a e = absurd (not-suc-le-zero a.0)
in_picked t (x ∷ xs) y zero a e = let rest = picked (λ k. t (suc k)) xs in subst (λ b. In (cond b (x ∷ rest) rest) y) (sym e) (subst (In (x ∷ rest)) a.1 (in_here x rest))
in_picked t (x ∷ xs) y (suc p) a e =
    let rest = picked (λ k. t (suc k)) xs in
    let r = in_picked (λ k. t (suc k)) xs y p (at_back x xs p y a) e in
    elim (t 0) as (λ b. In (cond b (x ∷ rest) rest) y) [ true ↦ in_later x rest y r | false ↦ r ]

pub through_in : (f : ℕ → ℕ → Bool) (q : Option Part) (xs : List ℕ) (y : ℕ) → In (through_of f q xs) y → (p : ℕ) × At xs p y × (through_input f q p ≡ true)
through_in f (Some (gate g)) xs y i = (i.0, i.1, refl)
through_in f (Some cell) xs y i = absurd (in_none y i)
through_in f (Some (module_no j)) xs y i = picked_in (f j) xs y i
through_in f None xs y i = absurd (in_none y i)

pub in_through : (f : ℕ → ℕ → Bool) (q : Option Part) (xs : List ℕ) (y p : ℕ) → At xs p y → through_input f q p ≡ true → In (through_of f q xs) y
in_through f (Some (gate g)) xs y p a e = (p, a)
in_through f (Some cell) xs y p a e = absurd (both_ways false refl e)
in_through f (Some (module_no j)) xs y p a e = in_picked (f j) xs y p a e
in_through f None xs y p a e = absurd (both_ways false refl e)

-- Driven wires

pub mark_from : (v : ℕ) (dr : ℕ → Bool) (w : ℕ) → (dr w ≡ true) ⊎ (w ≡ v) → mark v dr w ≡ true
mark_from v dr w h = grind (arith, nat_tests)

pub mark_parts : (v : ℕ) (dr : ℕ → Bool) (w : ℕ) → mark v dr w ≡ true → (dr w ≡ true) ⊎ (w ≡ v)
mark_parts v dr w e = grind (arith, nat_tests)

pub drive_from : (ws : List ℕ) (dr : ℕ → Bool) (w : ℕ) → (dr w ≡ true) ⊎ In ws w → drive ws dr w ≡ true
drive_from [] dr w (inl h) = h
drive_from [] dr w (inr i) = absurd (in_none w i)
drive_from (v ∷ ws) dr w (inl h) = drive_from ws (mark v dr) w (inl (mark_from v dr w (inl h)))
drive_from (v ∷ ws) dr w (inr i) =
    elim (in_cases v ws w i) [
      | inl e ↦ drive_from ws (mark v dr) w (inl (mark_from v dr w (inr e)))
      | inr j ↦ drive_from ws (mark v dr) w (inr j)
    ]

pub drive_parts : (ws : List ℕ) (dr : ℕ → Bool) (w : ℕ) → drive ws dr w ≡ true → (dr w ≡ true) ⊎ In ws w
drive_parts [] dr w e = inl e
drive_parts (v ∷ ws) dr w e =
    elim (drive_parts ws (mark v dr) w e) [
      | inl h ↦ elim (mark_parts v dr w h) [ inl a ↦ inl a | inr a ↦ inr (subst (In (v ∷ ws)) (sym a) (in_here v ws)) ]
      | inr i ↦ inr (in_later v ws w i)
    ]

-- A pass leaves the wires that are driven

upd_keeps : {V : Type 0} (o : ℕ) (v : V) (dr : ℕ → Bool) (ws : Wires V) (w : ℕ) → dr o ≡ false → dr w ≡ true → upd o v ws w ≡ ws w
upd_keeps o v dr ws w f h = grind (arith, nat_tests)

pub put_keeps : {V : Type 0} (os : List ℕ) (vs : List V) (dr : ℕ → Bool) (ws : Wires V) → Fresh os dr → (w : ℕ) → dr w ≡ true → put os vs ws w ≡ ws w
put_keeps [] vs dr ws f w h = refl
put_keeps (o ∷ os) [] dr ws f w h = refl
put_keeps (o ∷ os) (v ∷ vs) dr ws f w h = put_keeps os vs (mark o dr) (upd o v ws) f.1 w (mark_from o dr w (inl h)) ∙ upd_keeps o v dr ws w f.0 h

module _ {V : Type 0} (S : ℕ → Type 0) (below : ℕ → Design) (limit : ℕ) (step : ℕ → Occurrence → Wires V → List V) where
  pub run_keeps : (n : ℕ) (os : List Occurrence) (dr : ℕ → Bool) (ws : Wires V) → FitAll S below limit os dr → (w : ℕ) → dr w ≡ true → run step n os ws w ≡ ws w
  run_keeps n [] dr ws k w h = refl
  run_keeps n (o ∷ os) dr ws k w h =
      run_keeps (suc n) os (drive o.outs dr) (put o.outs (step n o ws) ws) k.1 w (drive_from o.outs dr w (inl h)) ∙ put_keeps o.outs (step n o ws) dr ws k.0.fresh w h

-- one value on many wires
put_held : {V : Type 0} (os ow : List ℕ) (v : V) (ws : Wires V) (w : ℕ) → ws w ≡ v → put os (map (λ _. v) ow) ws w ≡ v
put_held [] ow v ws w e = e
put_held (o ∷ os) [] v ws w e = e
put_held (o ∷ os) (_ ∷ ow) v ws w e = put_held os ow v (upd o v ws) w (elim (eqb w o) as (λ b. cond b v (ws w) ≡ v) [ true ↦ refl | false ↦ e ])

put_same : {V : Type 0} (os ow : List ℕ) (v : V) (ws : Wires V) → length os ≡ length ow → (w : ℕ) → In os w → put os (map (λ _. v) ow) ws w ≡ v
put_same [] ow v ws l w i = absurd (in_none w i)
put_same (o ∷ os) [] v ws l w i = let z : ⊥ = omega arith in absurd z
put_same (o ∷ os) (_ ∷ ow) v ws l w i =
    elim (in_cases o os w i) [
      | inl e ↦ put_held os ow v (upd o v ws) w (cond-true (eqb w o) v (ws w) (eq-eqb w o e))
      | inr j ↦ let l' : length os ≡ length ow = omega arith in put_same os ow v (upd o v ws) l' w j
    ]

-- The computed reach, over any relation

module _ (below : ℕ → Design) where
  abbrev thru : Occurrence → List ℕ
  thru o = through_of (λ j. through (below j)) (part o) o.ins

  abbrev step : ℕ → Occurrence → Wires (ℕ → Bool) → List (ℕ → Bool)
  step i o ws = map (λ _. reached ws (thru o)) (outputs_due below (part o))

  -- what reaches a through input of one of the occurrences reaches its outputs
  abbrev Closed : (ℕ → ℕ → Type 0) → List Occurrence → Type 0
  Closed R os = (i : ℕ) → i < length os → (v o x : ℕ) → In (thru (get_or os i no_occurrence)) v → In (get_or os i no_occurrence).outs o → R v x → R o x

  module _ (R : ℕ → ℕ → Type 0) where
    put_right : (os ow : List ℕ) (u : ℕ → Bool) → ((o x : ℕ) → In os o → u x ≡ true → R o x) → (ws : Wires (ℕ → Bool)) → ((w x : ℕ) → ws w x ≡ true → R w x) → (w x : ℕ) → put os (map (λ _. u) ow) ws w x ≡ true → R w x
    put_right [] ow u h ws r = r
    put_right (o ∷ os) [] u h ws r = r
    put_right (o ∷ os) (_ ∷ ow) u h ws r =
        put_right os ow u (λ y x i. h y x (in_later o os y i)) (upd o u ws)
        (λ w x e. elim (cases_Bool (eqb w o)) [
          | inl q ↦ h w x (subst (In (o ∷ os)) (sym (eqb-true w o q)) (in_here o os)) (rw q at e)
          | inr q ↦ r w x (rw q at e)
        ])

    -- the pass reaches no more than a closed relation
    run_right : (n : ℕ) (os : List Occurrence) (ws : Wires (ℕ → Bool)) → Closed R os → ((w x : ℕ) → ws w x ≡ true → R w x) → (w x : ℕ) → run step n os ws w x ≡ true → R w x
    run_right n [] ws c r = r
    run_right n (o ∷ os) ws c r =
        run_right (suc n) os (put o.outs (step n o ws) ws) (λ i l. c (suc i) (suc-le-suc l))
        (put_right o.outs (outputs_due below (part o)) (reached ws (thru o))
        (λ y x i e. let a = any_in (λ w. ws w x) (thru o) e in c 0 (suc-le-suc (omega arith)) a.0 y x a.1 i (r a.0 x a.2))
        ws r)

  -- it is closed itself
  run_closed : (S : ℕ → Type 0) (limit n : ℕ) (os : List Occurrence) (dr : ℕ → Bool) (ws : Wires (ℕ → Bool)) → FitAll S below limit os dr → Closed (λ w x. run step n os ws w x ≡ true) os
  run_closed S limit n [] dr ws k i l = absurd (not-suc-le-zero l)
  run_closed S limit n (o ∷ os) dr ws k zero l = λ v y x t i e.
      let driven : dr v ≡ true = in_All (λ w. dr w ≡ true) (thru o) k.0.order v t in
      let here : ws v x ≡ true = ap (λ (u : ℕ → Bool). u x) (sym (run_keeps S below limit step n (o ∷ os) dr ws k v driven)) ∙ e in
      ap (λ (u : ℕ → Bool). u x) (run_keeps S below limit step (suc n) os (drive o.outs dr) (put o.outs (step n o ws) ws) k.1 y (drive_from o.outs dr y (inr i)))
      ∙ ap (λ (u : ℕ → Bool). u x) (put_same o.outs (outputs_due below (part o)) (reached ws (thru o)) ws k.0.pins_out y i)
      ∙ in_any (λ w. ws w x) (thru o) v t here
  run_closed S limit n (o ∷ os) dr ws k (suc i) l = run_closed S limit (suc n) os (drive o.outs dr) (put o.outs (step n o ws) ws) k.1 i (le_of_suc-le-suc l)

-- What a module sees of those behind it

design_at : (ms : List Module) (k n j : ℕ) → n + k ≡ j → n < length ms → design_from k ms j ≡ node (get_or ms n no_module) (design_from (suc j) (drop (suc n) ms))
design_at [] k n j e l = absurd (not-suc-le-zero l)
design_at (m ∷ ms) k zero j e l =
    let z : j ≡ k = omega arith in
    cond-true (eqb j k) _ _ (eq-eqb j k z) ∙ ap (λ i. node m (design_from (suc i) ms)) (sym z)
design_at (m ∷ ms) k (suc n) j e l = cond-false (eqb j k) _ _ (ne_eqb j k (λ z. omega arith)) ∙ design_at ms (suc k) n j (omega arith) (le_of_suc-le-suc l)

module _ (board : List Module) (k : ℕ) where
  abbrev pub behind : ℕ → Design
  behind = design_from (suc k) (drop (suc k) board)

  pub behind_is : (j : ℕ) → k < j → j < length board → behind j ≡ design_number board j
  behind_is j a b =
      let n = j - suc k in
      let y : suc k + n ≡ j = omega arith in
      let z : suc k + suc n ≡ suc j = omega arith in
      design_at (drop (suc k) board) (suc k) n j (omega arith) (simp length-drop (omega arith))
      ∙ ap₂ (λ m ms. node m (design_from (suc j) ms)) (get_or-drop (suc k) board n no_module ∙ ap (λ i. get_or board i no_module) y) (drop-drop (suc n) (suc k) board ∙ ap (λ i. drop i board) z)

  pub behind_none : (j : ℕ) → ((k < j) × (j < length board) → ⊥) → behind j ≡ absent
  behind_none j h =
      elim (cases_lt k j) [
        | inl a ↦ elim (cases_lt j (length board)) [
          | inl b ↦ absurd (h (a, b))
          | inr b ↦ design_high (suc k) (drop (suc k) board) j (simp length-drop (omega arith))
        ]
        | inr a ↦ design_low (suc k) (drop (suc k) board) j (omega arith)
      ]

pub cases_within : (k j n : ℕ) → ((k < j) × (j < n)) ⊎ ((k < j) × (j < n) → ⊥)
cases_within k j n = grind arith

-- Both ways

module _ (board : List Module) where
  module _ (k : ℕ) (ih : (j : ℕ) → k < j → j < length board → (x : ℕ) → through (design_number board j) x ≡ true → Through board j x) where
    abbrev R : ℕ → ℕ → Type 0
    R w x = Reaches board k x w

    seen_through : (j x : ℕ) → through (behind board k j) x ≡ true → Through board j x
    seen_through j x e =
        elim (cases_within k j (length board)) [
          | inl h ↦ ih j h.0 h.1 x (subst (λ d. through d x ≡ true) (behind_is board k j h.0 h.1) e)
          | inr h ↦ absurd (both_ways (through (behind board k j) x) (ap (λ d. through d x) (behind_none board k j h)) e)
        ]

    words_closed : Closed (behind board k) R (module_number board k).occurrences
    words_closed i l v o x t out r =
        let a = through_in (λ j. through (behind board k j)) (part (occurrence_number board k i)) (occurrence_number board k i).ins v t in
        by (part (occurrence_number board k i)) refl a.0 a.2 a.1
      where
        by : (q : Option Part) → part (occurrence_number board k i) ≡ q → (p : ℕ) → through_input (λ j. through (behind board k j)) q p ≡ true → At (occurrence_number board k i).ins p v → Reaches board k x o
        by (Some (gate g)) e p h at = through_gate k x i g v o l e (p, at) out r
        by (Some cell) e p h at = absurd (both_ways false refl h)
        by (Some (module_no j)) e p h at = let t = seen_through j p h in through_module k x i j p t.0 v o l e at out t.2 t.1 r
        by None e p h at = absurd (both_ways false refl h)

    reach_right : (w x : ℕ) → reach (design_number board k) w x ≡ true → Reaches board k x w
    reach_right =
        run_right (behind board k) R 0 (module_number board k).occurrences (λ w x. ltb w (module_number board k).inputs && eqb w x) words_closed
        (λ w x e.
        let a = and_parts (ltb w (module_number board k).inputs) (eqb w x) e in
        subst (λ y. Reaches board k y w) (eqb-true w x a.1) (itself k w (ltb-true w _ a.0)))

    through_step : (x : ℕ) → through (design_number board k) x ≡ true → Through board k x
    through_step x e = let a = any_in (λ w. reach (design_number board k) w x) (module_number board k).outs e in (a.0, a.1, reach_right a.0 x a.2)

  -- the computed reach is right on any board
  through_right : (n k : ℕ) → length board ≤ n + k → (x : ℕ) → through (design_number board k) x ≡ true → Through board k x
  through_right zero k l = through_step k (λ j a b. let z : ⊥ = omega arith in absurd z)
  through_right (suc n) k l = through_step k (λ j a b. through_right n j (omega arith))

refers_at : (S : ℕ → Type 0) (below : ℕ → Design) (limit : ℕ) (os : List Occurrence) (dr : ℕ → Bool) → FitAll S below limit os dr → (i : ℕ) → i < length os → Refers S (part (get_or os i no_occurrence))
refers_at S below limit [] dr k i l = absurd (not-suc-le-zero l)
refers_at S below limit (o ∷ os) dr k zero l = k.0.refer
refers_at S below limit (o ∷ os) dr k (suc i) l = refers_at S below limit os (drive o.outs dr) k.1 i (le_of_suc-le-suc l)

module _ (board : List Module) where
  abbrev D : ℕ → Design
  D k = design_number board k

  behind_sound : (k j : ℕ) → Sound (behind board k j) → (behind board k j ≡ D j) × Sound (D j)
  behind_sound k j s =
      elim (cases_within k j (length board)) [
        | inl h ↦ let e = behind_is board k j h.0 h.1 in (e, subst Sound e s)
        | inr h ↦ absurd (subst Sound (behind_none board k j h) s)
      ]

  sound_closed : (k : ℕ) → Sound (D k) → Closed (behind board k) (λ w x. reach (D k) w x ≡ true) (module_number board k).occurrences
  sound_closed k s = run_closed (behind board k) (λ j. Sound (behind board k j)) (module_number board k).wires 0 (module_number board k).occurrences (λ w. ltb w (module_number board k).inputs) (λ w x. ltb w (module_number board k).inputs && eqb w x) s.fits

  -- a through input of an occurrence
  through_at : (k i p w : ℕ) (q : Option Part) → part (occurrence_number board k i) ≡ q → At (occurrence_number board k i).ins p w → through_input (λ j. through (behind board k j)) q p ≡ true → In (thru (behind board k) (occurrence_number board k i)) w
  through_at k i p w q e at t =
      in_through (λ j. through (behind board k j)) (part (occurrence_number board k i)) (occurrence_number board k i).ins w p at (subst (λ y. through_input (λ j. through (behind board k j)) y p ≡ true) (sym e) t)

  complete : {k x w : ℕ} → Reaches board k x w → Sound (D k) → reach (D k) w x ≡ true
  complete (itself k x l) s =
      let t = lt-ltb x (module_number board k).inputs l in
      ap (λ (u : ℕ → Bool). u x) (run_keeps (λ j. Sound (behind board k j)) (behind board k) (module_number board k).wires (step (behind board k)) 0 (module_number board k).occurrences (λ w. ltb w (module_number board k).inputs) (λ w x. ltb w (module_number board k).inputs && eqb w x) s.fits x t)
      ∙ and_from (ltb x (module_number board k).inputs) (eqb x x) t (eq-eqb x x refl)
  complete (through_gate k x i g w o l e ins outs r) s = sound_closed k s i l w o x (through_at k i ins.0 w (Some (gate g)) e ins.1 refl) outs (complete r s)
  complete (through_module k x i j p v w o l e at outs inner v_out r) s =
      let b = behind_sound k j (subst (Refers (λ n. Sound (behind board k n))) e (refers_at (λ n. Sound (behind board k n)) (behind board k) (module_number board k).wires (module_number board k).occurrences _ s.fits i l)) in
      let t : through (D j) p ≡ true = in_any (λ y. reach (D j) y p) (module_number board j).outs v v_out (complete inner b.1) in
      sound_closed k s i l w o x (through_at k i p w (Some (module_no j)) e at (subst (λ d. through d p ≡ true) (sym b.0) t)) outs (complete r s)

  -- of a sound module the computed through inputs are those in words
  pub through_is : (k : ℕ) → Sound (design_number board k) → (x : ℕ) → (through (design_number board k) x ≡ true) ↔ Through board k x
  through_is k s x =
      (through_right board (length board) k (omega arith) x, λ t. in_any (λ w. reach (D k) w x) (module_number board k).outs t.0 t.1 (complete t.2 s))
