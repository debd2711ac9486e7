-- The cells of the levels above, in place, and what a level's pass says of what it is doing.
use Rattle.std.proofs.Common.{◌≡◌, ℕ, ◌+◌, ◌<◌, ◌≤◌, ◌≢◌, List, [], ◌∷◌, ◌++◌, map, length, get_or, drop, sym, refl, ap, ◌∙◌, subst, arith}
use Rattle.std.proofs.lemmas.List.{get_or_append_left, get_or-append-add, length-append}
use Rattle.signal.specs.Kinds.{Kind}
use Rattle.rules.specs.Boards.{Occurrence, Module, node, part, cells, cells_at}
use Rattle.flat.specs.Machine.{Doing, for_outputs, for_both, storing, Level as Frame, busy, entry, returned, part_ticks, first_tick, level_tick}
use Rattle.flat.specs.InPlace.{around, row, base, stored_length, Under, Stores, write_as}
use Rattle.walk.specs.declared.level.Level.{Level}
use Rattle.walk.specs.declared.level.Pass.TheVariants.{ForOutputs, ForBoth, Storing}
use Rattle.walk.specs.Levels.{level_at}
use Rattle.walk.specs.Shown.{Holds, Waits, Stands, Does, Stack}

pub outputs_both : ForOutputs ≡ ForBoth → ⊥
outputs_both e = let z : ◌≡◌ {A = ℕ} 0 1 = cc in omega arith

pub outputs_storing : ForOutputs ≡ Storing → ⊥
outputs_storing e = let z : ◌≡◌ {A = ℕ} 0 1 = cc in omega arith

pub both_storing : ForBoth ≡ Storing → ⊥
both_storing e = let z : ◌≡◌ {A = ℕ} 0 1 = cc in omega arith

-- What a level is doing, by its pass

module _ {V : Type 0} (K : Kind V) (held : List V) (c : Level) (n : ℕ) (cs : List V) (fs : List (Frame V)) where
  pub first_holds : (d : Doing V) → Does K held c n cs fs d → c.pass ≢ Storing → Holds K held c.cell n cs
  first_holds for_outputs a h = a.1
  first_holds for_both a h = a.1
  first_holds (storing done rest) a h = absurd (h a.0)

  pub first_writes : (f : Frame V) (d : Doing V) → Does K held c n cs fs d → c.pass ≢ Storing → (xs : List V) → write_as K f fs d xs ≡ xs
  first_writes f for_outputs a h xs = refl
  first_writes f for_both a h xs = refl
  first_writes f (storing done rest) a h xs = absurd (h a.0)

  pub first_ticks_on : (f : Frame V) (d : Doing V) → Does K held c n cs fs d → c.pass ≢ Storing → (count : ℕ) (o : Occurrence) (more : List Occurrence) → drop f.place f.owner.occurrences ≡ o ∷ more → level_tick K f fs count d ≡ part_ticks K f fs count o (part o)
  first_ticks_on f for_outputs a h count o more e = ap (first_tick K f fs count for_outputs) e
  first_ticks_on f for_both a h count o more e = ap (first_tick K f fs count for_both) e
  first_ticks_on f (storing done rest) a h count o more e = absurd (h a.0)

  pub outputs_wait : (d : Doing V) → Does K held c n cs fs d → c.pass ≡ ForOutputs → Waits K c.number fs
  outputs_wait for_outputs a e = a.2
  outputs_wait for_both a e = absurd (outputs_both (sym e ∙ a.0))
  outputs_wait (storing done rest) a e = absurd (outputs_storing (sym e ∙ a.0))

  pub outputs_return : (f : Frame V) (d : Doing V) → Does K held c n cs fs d → c.pass ≡ ForOutputs → (count : ℕ) → drop f.place f.owner.occurrences ≡ [] → level_tick K f fs count d ≡ returned K (map f.ws f.owner.outs) fs count
  outputs_return f for_outputs a e count q = ap (first_tick K f fs count for_outputs) q
  outputs_return f for_both a e count q = absurd (outputs_both (sym e ∙ a.0))
  outputs_return f (storing done rest) a e count q = absurd (outputs_storing (sym e ∙ a.0))

  -- a level in its first pass that is not for its outputs alone
  pub both_stand : (d : Doing V) → Does K held c n cs fs d → c.pass ≢ ForOutputs → c.pass ≢ Storing → (c.cell ≡ base K fs) × Stands K fs
  both_stand for_outputs a p h = absurd (p a.0)
  both_stand for_both a p h = (a.2, a.3)
  both_stand (storing done rest) a p h = absurd (h a.0)

  pub both_turn : (f : Frame V) (d : Doing V) → Does K held c n cs fs d → c.pass ≢ ForOutputs → c.pass ≢ Storing → (count : ℕ) → drop f.place f.owner.occurrences ≡ [] → level_tick K f fs count d ≡ busy (record { owner = f.owner; below = f.below; cs = f.cs; ws = f.ws; place = 0; doing = storing [] f.cs }) fs count
  both_turn f for_outputs a p h count q = absurd (p a.0)
  both_turn f for_both a p h count q = ap (first_tick K f fs count for_both) q
  both_turn f (storing done rest) a p h count q = absurd (h a.0)

  pub storing_is : (d : Doing V) → Does K held c n cs fs d → c.pass ≡ Storing → (done : List V) × (rest : List V) × (d ≡ storing done rest) × (c.cell ≡ base K fs + length done) × Stands K fs
  storing_is for_outputs a e = absurd (outputs_storing (sym a.0 ∙ e))
  storing_is for_both a e = absurd (both_storing (sym a.0 ∙ e))
  storing_is (storing done rest) a e = (done, rest, refl, a.1, a.2)

-- The cells in place

module _ {V : Type 0} (K : Kind V) where
  pub under_both : (d : Doing V) (done rest : List V) → d ≡ storing done rest → (fs : List (Frame V)) → Under K d fs → Under K for_both fs
  under_both d done rest e [] u = tt
  under_both d done rest e (p ∷ ps) u = subst (λ x. Under K x (p ∷ ps)) e u

  under_up : (p : Frame V) (d : Doing V) → Stores K p d → (ps : List (Frame V)) → Under K d ps → Under K for_both ps
  under_up p for_outputs st ps u = absurd st
  under_up p for_both st ps u = absurd st
  under_up p (storing done rest) st ps u = under_both (storing done rest) done rest refl ps u

  -- the cells of a level that stores lie where they lay
  abbrev pub Lies : List (Frame V) → List V → Type 0
  Lies fs inner = (base K fs + length inner ≤ length (row K fs inner)) × ((k : ℕ) → k < length inner → get_or (row K fs inner) (base K fs + k) K.low ≡ get_or inner k K.low)

  lies_by : (p : Frame V) (ps : List (Frame V)) (d : Doing V) → Stores K p d → Under K d ps → (n : ℕ) (inner : List V) → ((l : List V) → Under K for_both ps → Lies ps l) →
      (base K ps + stored_length K d + length inner ≤ length (row K ps (around K n p.cs d inner))) × ((k : ℕ) → k < length inner → get_or (row K ps (around K n p.cs d inner)) (base K ps + stored_length K d + k) K.low ≡ get_or inner k K.low)
  lies_by p ps for_outputs st u n inner ih = absurd st
  lies_by p ps for_both st u n inner ih = absurd st
  lies_by p ps (storing done rest) st u n inner ih =
      let big = done ++ (inner ++ drop n rest) in
      let r = ih big (under_up p (storing done rest) st ps u) in
      let l1 = length-append done (inner ++ drop n rest) in
      let l2 = length-append inner (drop n rest) in
      let q = r.0 in (
        omega arith,
        λ k h.
            let z : base K ps + length done + k ≡ base K ps + (length done + k) = omega arith in
            ap (λ i. get_or (row K ps big) i K.low) z ∙ r.1 (length done + k) (omega arith) ∙ get_or-append-add done (inner ++ drop n rest) k K.low ∙ get_or_append_left inner (drop n rest) K.low k h,
      )

  pub lies : (fs : List (Frame V)) (inner : List V) → Under K for_both fs → Lies fs inner
  lies [] inner u = (omega arith, λ k h. let z : 0 + k ≡ k = omega arith in ap (λ i. get_or inner i K.low) z)
  lies (p ∷ ps) inner u = lies_by p ps p.doing u.0 u.1 (cells_at p.owner p.below (entry K p)) inner (λ l. lies ps l)

  -- levels that store show no cells
  does_held : (held held' : List V) (c : Level) (n : ℕ) (cs : List V) (p : Frame V) (ps : List (Frame V)) (d : Doing V) → Stores K p d → Does K held c n cs ps d → Does K held' c n cs ps d
  does_held held held' c n cs p ps for_outputs st a = absurd st
  does_held held held' c n cs p ps for_both st a = absurd st
  does_held held held' c n cs p ps (storing done rest) st a = a

  pub stores_are : (held : List V) (c : Level) (n : ℕ) (cs : List V) (p : Frame V) (ps : List (Frame V)) (d : Doing V) → Stores K p d → Does K held c n cs ps d → (done : List V) × (rest : List V) × (d ≡ storing done rest) × (c.pass ≡ Storing) × Stands K ps
  stores_are held c n cs p ps for_outputs st a = absurd st
  stores_are held c n cs p ps for_both st a = absurd st
  stores_are held c n cs p ps (storing done rest) st a = (done, rest, refl, a.0, a.2)

  pub stack_held : (board : List Module) (held held' work : List V) (ls : List Level) (fs : List (Frame V)) (end : ℕ) → Under K for_both fs → Stack K board held work ls end fs → Stack K board held' work ls end fs
  stack_held board held held' work ls [] end u s = tt
  stack_held board held held' work ls (p ∷ fs) end u s =
      let c = level_at ls (length fs) in
      let one = s.0 in (
        record { number = one.number; first = one.first; owner = one.owner; below = one.below; place = one.place; low = one.low; wires = one.wires; doing = does_held held held' c (cells (node p.owner p.below)) p.cs p fs p.doing u.0 one.doing },
        s.1,
        stack_held board held held' work ls fs c.base (under_up p p.doing u.0 fs u.1) s.2,
      )
