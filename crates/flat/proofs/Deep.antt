-- The stack is no deeper than the modules, and modules by their numbers.
use Rattle.std.proofs.Common.{◌≡◌, ℕ, zero, suc, ◌+◌, ◌<◌, ◌≤◌, Bool, true, false, cond, T, eqb, List, [], ◌∷◌, map, length, get_or, take, drop, Some, None, Option, sym, refl, ap, ◌∙◌, subst, le_of_suc-le-suc, not-suc-le-zero, arith}
use Rattle.std.proofs.lemmas.Bool.{eq-eqb, eqb-true}
use Rattle.gates.specs.declared.Part.{Part}
use Rattle.gates.specs.declared.Part.TheVariants.{Gate as gate, Cell as cell, Module as module_no}
use Rattle.signal.specs.Kinds.{Kind}
use Rattle.rules.specs.Boards.{Occurrence, no_occurrence, Module, no_module, occurrence_no, Design, absent, node, part, present, of_module, depth, cells_at, design_from}
use Rattle.rules.specs.Sound.{Refers, Sound}
use Rattle.flat.specs.Passes.{own}
use Rattle.flat.specs.Machine.{Doing, for_outputs, for_both, storing, Level, Machine, busy, halted, entered, part_ticks, entry_ticks, returned, stored_up, first_tick, second_tick, level_tick, tick, SoundMachine, DeepLevels, Deep, StaysDeep, ByNumber}
use Rattle.flat.proofs.Sums.{most_at}
use Rattle.flat.proofs.Lists.{drop_head, drop_within, refer_left, refer_at, state_left}

module _ {V : Type 0} (K : Kind V) (limit : ℕ) (f : Level V) (fs : List (Level V)) (deep : DeepLevels limit (f ∷ fs)) where
  entered_deep : (d : Design) → Sound d → depth d < depth (node f.owner f.below) → (ins cs : List V) (doing : Doing V) → DeepLevels limit (entered K d ins cs doing f ∷ f ∷ fs)
  entered_deep absent sound l ins cs doing = elim sound [ ]
  entered_deep (node m below) sound l ins cs doing = let h = deep.0 in (omega arith, deep)

  part_deep : (n : ℕ) (o : Occurrence) (p : Option Part) → Refers (λ j. Sound (f.below j)) p → of_module (λ j. depth (f.below j)) p < depth (node f.owner f.below) → Deep limit (part_ticks K f fs n o p)
  part_deep n o (Some (gate g)) refer l = deep
  part_deep n o (Some cell) refer l = deep
  part_deep n o (Some (module_no j)) refer l = entered_deep (f.below j) refer l (map f.ws o.ins) (own f.owner f.below f.cs f.place) for_outputs
  part_deep n o None refer l = elim refer [ ]

  entry_deep : (n : ℕ) (rest : List V) (s : ℕ) (o : Occurrence) (p : Option Part) → Refers (λ j. Sound (f.below j)) p → of_module (λ j. depth (f.below j)) p < depth (node f.owner f.below) → Deep limit (entry_ticks K f fs n rest s o p)
  entry_deep n rest s o (Some (gate g)) refer l = deep
  entry_deep n rest s o (Some cell) refer l = deep
  entry_deep n rest s o (Some (module_no j)) refer l = entered_deep (f.below j) refer l (map f.ws o.ins) (take (cells_at f.owner f.below s) rest) for_both
  entry_deep n rest s o None refer l = elim refer [ ]

  less_deep : (i : ℕ) → i < length f.owner.occurrences → of_module (λ j. depth (f.below j)) (part (occurrence_no f.owner i)) < depth (node f.owner f.below)
  less_deep i h = let g = most_at (λ (o : Occurrence). of_module (λ j. depth (f.below j)) (part o)) no_occurrence f.owner.occurrences i h in omega arith

  returned_deep : (vs : List V) (n : ℕ) (gs : List (Level V)) → DeepLevels limit gs → Deep limit (returned K vs gs n)
  returned_deep vs n [] h = tt
  returned_deep vs n (p ∷ ps) h = h

  stored_up_deep : (vs ds : List V) (n : ℕ) (gs : List (Level V)) → DeepLevels limit gs → Deep limit (stored_up K vs ds gs n)
  stored_up_deep vs ds n [] h = tt
  stored_up_deep vs ds n (p ∷ ps) h = h

  module _ (sound : Sound (node f.owner f.below)) where
    first_deep : (n : ℕ) (d : Doing V) (l : List Occurrence) → drop f.place f.owner.occurrences ≡ l → Deep limit (first_tick K f fs n d l)
    first_deep n for_outputs [] e = returned_deep (map f.ws f.owner.outs) n fs deep.1
    first_deep n for_both [] e = deep
    first_deep n (storing done rest) [] e = deep
    first_deep n d (o ∷ os) e =
        part_deep n o (part o) (refer_left f.owner f.below sound f.place o os e)
        (subst (λ (x : Occurrence). of_module (λ j. depth (f.below j)) (part x) < depth (node f.owner f.below)) (drop_head no_occurrence f.owner.occurrences f.place o os e) (less_deep f.place (drop_within f.owner.occurrences f.place o os e)))

    second_deep : (n : ℕ) (done rest : List V) (l : List ℕ) → drop f.place f.owner.states ≡ l → Deep limit (second_tick K f fs n done rest l)
    second_deep n done rest [] e = stored_up_deep (map f.ws f.owner.outs) done n fs deep.1
    second_deep n done rest (s ∷ ss) e =
        let h = state_left f.owner f.below sound f.place s ss e in
        entry_deep n rest s (occurrence_no f.owner s) (part (occurrence_no f.owner s)) (refer_at f.owner f.below sound s h) (less_deep s h)

    level_deep : (n : ℕ) (d : Doing V) → Deep limit (level_tick K f fs n d)
    level_deep n for_outputs = first_deep n for_outputs (drop f.place f.owner.occurrences) refl
    level_deep n for_both = first_deep n for_both (drop f.place f.owner.occurrences) refl
    level_deep n (storing done rest) = second_deep n done rest (drop f.place f.owner.states) refl

tick_deep : {V : Type 0} (K : Kind V) (limit : ℕ) (M : Machine V) → SoundMachine K M → Deep limit M → Deep limit (tick K M)
tick_deep K limit (busy f fs n) sound deep = level_deep K limit f fs deep sound.0 n f.doing
tick_deep K limit (halted r) sound deep = tt

pub stays_deep : (V : Type 0) → StaysDeep V
stays_deep V = record { keeps = λ K. tick_deep K; few = λ limit f fs n deep. let h = deep.0 in omega arith }

-- by number: module k + i of those that begin at k
here_from : (k : ℕ) (ms : List Module) (i : ℕ) → i < length ms → design_from k ms (k + i) ≡ node (get_or ms i no_module) (design_from (suc (k + i)) (drop (suc i) ms))
here_from k [] i h = absurd (not-suc-le-zero h)
here_from k (m ∷ ms) zero h =
    let z : k + 0 ≡ k = omega arith in
    subst (λ (n : ℕ). cond (eqb n k) (node m (design_from (suc k) ms)) (design_from (suc k) ms n) ≡ node m (design_from (suc n) ms)) (sym z)
    (ap (λ (c : Bool). cond c (node m (design_from (suc k) ms)) (design_from (suc k) ms k)) (eq-eqb k k refl))
here_from k (m ∷ ms) (suc i) h =
    let z : k + suc i ≡ suc k + i = omega arith in
    let apart : (b : Bool) → eqb (k + suc i) k ≡ b → cond b (node m (design_from (suc k) ms)) (design_from (suc k) ms (k + suc i)) ≡ design_from (suc k) ms (k + suc i) =
    elim [ true ↦ λ e. let q = eqb-true (k + suc i) k e in let n : ⊥ = omega arith in absurd n | false ↦ λ e. refl ] in
    apart (eqb (k + suc i) k) refl ∙ subst (λ (n : ℕ). design_from (suc k) ms n ≡ node (get_or ms i no_module) (design_from (suc n) (drop (suc i) ms))) (sym z) (here_from (suc k) ms i (le_of_suc-le-suc h))

present_from : (k : ℕ) (ms : List Module) (j : ℕ) → present (design_from k ms j) ≡ true → k ≤ j
present_from k [] j p = absurd (subst T (sym p) tt)
present_from k (m ∷ ms) j p =
    let by : (b : Bool) → eqb j k ≡ b → present (cond b (node m (design_from (suc k) ms)) (design_from (suc k) ms j)) ≡ true → k ≤ j =
    elim [ true ↦ λ e q. let s = eqb-true j k e in omega arith | false ↦ λ e q. let l = present_from (suc k) ms j q in omega arith ] in
    by (eqb j k) refl p

there_from : (k : ℕ) (ms : List Module) (n j : ℕ) → k + n ≤ j → design_from (k + n) (drop n ms) j ≡ design_from k ms j
there_from k [] zero j l = refl
there_from k [] (suc n) j l = refl
there_from k (m ∷ ms) zero j l = let z : k ≡ k + 0 = omega arith in subst (λ (x : ℕ). design_from x (m ∷ ms) j ≡ design_from k (m ∷ ms) j) z refl
there_from k (m ∷ ms) (suc n) j l =
    let z : suc k + n ≡ k + suc n = omega arith in
    let apart : (b : Bool) → eqb j k ≡ b → cond b (node m (design_from (suc k) ms)) (design_from (suc k) ms j) ≡ design_from (suc k) ms j =
    elim [ true ↦ λ e. let q = eqb-true j k e in let x : ⊥ = omega arith in absurd x | false ↦ λ e. refl ] in
    subst (λ (x : ℕ). design_from x (drop n ms) j ≡ design_from (suc k) ms j) z (there_from (suc k) ms n j (omega arith)) ∙ sym (apart (eqb j k) refl)

pub by_number : ByNumber
by_number = record {
  here = λ board i h. let z : 0 + i ≡ i = omega arith in subst (λ (n : ℕ). design_from 0 board n ≡ node (get_or board i no_module) (design_from (suc n) (drop (suc i) board))) z (here_from 0 board i h);
  there = λ board i j p.
      let l : suc i ≤ j = present_from (suc i) (drop (suc i) board) j p in
      let z : 0 + suc i ≡ suc i = omega arith in
      (l, subst (λ (n : ℕ). design_from n (drop (suc i) board) j ≡ design_from 0 board j) z (there_from 0 board (suc i) j (omega arith)));
}
