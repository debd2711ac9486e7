-- Each tick of the machine is one less.
use Rattle.std.proofs.Common.{◌≡◌, ℕ, suc, ◌+◌, List, [], ◌∷◌, map, take, drop, Some, None, Option, refl, ap, arith}
use Rattle.gates.specs.declared.Part.{Part}
use Rattle.gates.specs.declared.Part.TheVariants.{Gate as gate, Cell as cell, Module as module_no}
use Rattle.signal.specs.Kinds.{Kind}
use Rattle.signal.specs.GateValues.{input}
use Rattle.rules.specs.Boards.{Occurrence, Module, occurrence_no, Design, absent, node, part, cells_at}
use Rattle.rules.specs.Sound.{Refers, Sound}
use Rattle.flat.specs.Passes.{own}
use Rattle.flat.specs.Machine.{Doing, for_outputs, for_both, storing, Level, busy, kept, saved, entered, part_ticks, entry_ticks, returned, stored_up, first_tick, second_tick, level_tick}
use Rattle.flat.specs.Machine.{ticks_of, first_ticks, second_ticks, first_left, second_left, level_left, levels_left, ticks_left, TicksFall}
use Rattle.flat.proofs.Lists.{drop_next, refer_left, refer_state}

module _ {V : Type 0} (K : Kind V) (f : Level V) (fs : List (Level V)) (n : ℕ) where
  abbrev behind : ℕ
  behind = level_left f.owner f.below (suc f.place) f.doing + levels_left fs

  kept_left : (m : Module) (below : ℕ → Design) (k : ℕ) (size : ℕ) (ds : List V) (d : Doing V) → level_left m below k (kept K size ds d) ≡ level_left m below k d
  kept_left m below k size ds for_outputs = refl
  kept_left m below k size ds for_both = refl
  kept_left m below k size ds (storing done rest) = refl

  saved_left : (g : Level V) (gs : List (Level V)) (s : ℕ) (ds : List V) → ticks_left (busy (saved K g s ds) gs n) ≡ level_left g.owner g.below (suc g.place) g.doing + levels_left gs
  saved_left g gs s ds = ap (λ x. x + levels_left gs) (kept_left g.owner g.below (suc g.place) (cells_at g.owner g.below s) ds g.doing)

  entered_outputs : (d : Design) → Sound d → (ins cs : List V) → ticks_left (busy (entered K d ins cs for_outputs f) (f ∷ fs) n) ≡ first_ticks d + behind
  entered_outputs absent sound ins cs = elim sound [ ]
  entered_outputs (node m below) sound ins cs = refl

  entered_both : (d : Design) → Sound d → (ins cs : List V) → ticks_left (busy (entered K d ins cs for_both f) (f ∷ fs) n) ≡ first_ticks d + second_ticks d + behind
  entered_both absent sound ins cs = elim sound [ ]
  entered_both (node m below) sound ins cs = refl

  part_fall : (o : Occurrence) (p : Option Part) → Refers (λ j. Sound (f.below j)) p → ticks_left (part_ticks K f fs n o p) + 1 ≡ ticks_of (λ j. first_ticks (f.below j)) p + behind
  part_fall o (Some (gate g)) refer = omega arith
  part_fall o (Some cell) refer = omega arith
  part_fall o (Some (module_no j)) refer =
      let e = entered_outputs (f.below j) refer (map f.ws o.ins) (own f.owner f.below f.cs f.place) in omega arith
  part_fall o None refer = elim refer [ ]

  entry_fall : (rest : List V) (s : ℕ) (o : Occurrence) (p : Option Part) → Refers (λ j. Sound (f.below j)) p → ticks_left (entry_ticks K f fs n rest s o p) + 1 ≡ ticks_of (λ j. first_ticks (f.below j) + second_ticks (f.below j)) p + behind
  entry_fall rest s o (Some (gate g)) refer = let e = saved_left f fs s [] in omega arith
  entry_fall rest s o (Some cell) refer = let e = saved_left f fs s (input K (map f.ws o.ins) 0 ∷ []) in omega arith
  entry_fall rest s o (Some (module_no j)) refer =
      let e = entered_both (f.below j) refer (map f.ws o.ins) (take (cells_at f.owner f.below s) rest) in omega arith
  entry_fall rest s o None refer = elim refer [ ]

  returned_left : (vs : List V) (gs : List (Level V)) → ticks_left (returned K vs gs n) ≡ levels_left gs
  returned_left vs [] = refl
  returned_left vs (p ∷ ps) = refl

  stored_up_left : (vs ds : List V) (gs : List (Level V)) → ticks_left (stored_up K vs ds gs n) ≡ levels_left gs
  stored_up_left vs ds [] = refl
  stored_up_left vs ds (p ∷ ps) = saved_left p ps _ ds

  module _ (sound : Sound (node f.owner f.below)) where
    outputs_fall : f.doing ≡ for_outputs → (l : List Occurrence) → drop f.place f.owner.occurrences ≡ l → ticks_left (first_tick K f fs n for_outputs l) + 1 ≡ level_left {V = V} f.owner f.below f.place for_outputs + levels_left fs
    outputs_fall d [] e =
        let a = returned_left (map f.ws f.owner.outs) fs in
        let b : first_left f.below (drop f.place f.owner.occurrences) ≡ 0 = ap (first_left f.below) e in
        omega arith
    outputs_fall d (o ∷ os) e =
        let a = part_fall o (part o) (refer_left f.owner f.below sound f.place o os e) in
        let b : first_left f.below (drop f.place f.owner.occurrences) ≡ ticks_of (λ j. first_ticks (f.below j)) (part o) + first_left f.below os = ap (first_left f.below) e in
        let c : first_left f.below (drop (suc f.place) f.owner.occurrences) ≡ first_left f.below os = ap (first_left f.below) (drop_next f.owner.occurrences f.place o os e) in
        let g : level_left f.owner f.below (suc f.place) f.doing ≡ first_left f.below (drop (suc f.place) f.owner.occurrences) + 1 = ap (level_left f.owner f.below (suc f.place)) d in
        omega arith

    both_fall : f.doing ≡ for_both → (l : List Occurrence) → drop f.place f.owner.occurrences ≡ l → ticks_left (first_tick K f fs n for_both l) + 1 ≡ level_left {V = V} f.owner f.below f.place for_both + levels_left fs
    both_fall d [] e =
        let b : first_left f.below (drop f.place f.owner.occurrences) ≡ 0 = ap (first_left f.below) e in
        omega arith
    both_fall d (o ∷ os) e =
        let a = part_fall o (part o) (refer_left f.owner f.below sound f.place o os e) in
        let b : first_left f.below (drop f.place f.owner.occurrences) ≡ ticks_of (λ j. first_ticks (f.below j)) (part o) + first_left f.below os = ap (first_left f.below) e in
        let c : first_left f.below (drop (suc f.place) f.owner.occurrences) ≡ first_left f.below os = ap (first_left f.below) (drop_next f.owner.occurrences f.place o os e) in
        let g : level_left f.owner f.below (suc f.place) f.doing ≡ first_left f.below (drop (suc f.place) f.owner.occurrences) + 1 + (second_left f.owner f.below f.owner.states + 1) = ap (level_left f.owner f.below (suc f.place)) d in
        omega arith

    second_fall : (done rest : List V) → f.doing ≡ storing done rest → (l : List ℕ) → drop f.place f.owner.states ≡ l → ticks_left (second_tick K f fs n done rest l) + 1 ≡ level_left f.owner f.below f.place (storing done rest) + levels_left fs
    second_fall done rest d [] e =
        let a = stored_up_left (map f.ws f.owner.outs) done fs in
        let b : second_left f.owner f.below (drop f.place f.owner.states) ≡ 0 = ap (second_left f.owner f.below) e in
        omega arith
    second_fall done rest d (s ∷ ss) e =
        let S : List ℕ → ℕ = second_left f.owner f.below in
        let a = entry_fall rest s (occurrence_no f.owner s) (part (occurrence_no f.owner s)) (refer_state f.owner f.below sound f.place s ss e) in
        let b : S (drop f.place f.owner.states) ≡ ticks_of (λ j. first_ticks (f.below j) + second_ticks (f.below j)) (part (occurrence_no f.owner s)) + S ss = ap S e in
        let c : S (drop (suc f.place) f.owner.states) ≡ S ss = ap S (drop_next f.owner.states f.place s ss e) in
        let g : level_left f.owner f.below (suc f.place) f.doing ≡ S (drop (suc f.place) f.owner.states) + 1 = ap (level_left f.owner f.below (suc f.place)) d in
        omega arith

    level_fall : (d : Doing V) → f.doing ≡ d → ticks_left (level_tick K f fs n d) + 1 ≡ level_left f.owner f.below f.place d + levels_left fs
    level_fall for_outputs d = outputs_fall d (drop f.place f.owner.occurrences) refl
    level_fall for_both d = both_fall d (drop f.place f.owner.occurrences) refl
    level_fall (storing done rest) d = second_fall done rest d (drop f.place f.owner.states) refl

pub ticks_fall : (V : Type 0) → TicksFall V
ticks_fall V K f fs n sound = level_fall K f fs n sound.0 f.doing refl
