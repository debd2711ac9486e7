-- The walk over a stack of levels comes to the two passes.
use Rattle.std.proofs.Common.{◌≡◌, ℕ, suc, ◌+◌, List, [], ◌∷◌, ◌++◌, map, take, drop, Some, None, Option, sym, refl, ap, ◌∙◌, ap₂, append_assoc, append-nil, arith}
use Rattle.gates.specs.declared.Part.{Part}
use Rattle.gates.specs.declared.Part.TheVariants.{Gate as gate, Cell as cell, Module as module_no}
use Rattle.signal.specs.Kinds.{Kind}
use Rattle.signal.specs.GateValues.{input}
use Rattle.rules.specs.Boards.{Occurrence, no_occurrence, Module, occurrence_no, Design, absent, node, part, cells_at}
use Rattle.rules.specs.Wires.{Wires, put}
use Rattle.rules.specs.Sound.{Refers, Sound}
use Rattle.flat.specs.Passes.{Counted, counting, and_then, own, given, pass, on_outputs, first, stored, second, outputs, next, Stepped, step_of}
use Rattle.flat.specs.Machine.{Doing, for_outputs, for_both, storing, Level, Machine, busy, halted, gives, stores, walk, passed, kept, entry, saved, entered, part_ticks, entry_ticks, occurrence_of, returned, stored_up, first_tick, second_tick, level_tick, tick}
use Rattle.flat.specs.Machine.{Onward, finished, comes, onward, result, SoundLevels, SoundMachine, begun, MachineKeeps}
use Rattle.flat.proofs.Lists.{drop_next, drop_head, refer_left, refer_state}
use Rattle.flat.proofs.Walk.{second_walks}

module _ {V : Type 0} (K : Kind V) where
  -- what the machine comes to, by what is left of a level's first pass and of its second
  abbrev with_first : Onward K → Level V → ℕ → Counted (Wires V) → Stepped V
  with_first up f n c = up.with_outputs (map c.values f.owner.outs) (n + c.count)

  abbrev with_both : Onward K → Level V → ℕ → Counted (Wires V) → Stepped V
  with_both up f n c =
      up.with_cells (map c.values f.owner.outs) (walk K f.owner f.below c.values f.owner.states f.cs).values (n + c.count + (walk K f.owner f.below c.values f.owner.states f.cs).count)

  abbrev with_second : Onward K → Level V → ℕ → List V → Counted (List V) → Stepped V
  with_second up f n done c = up.with_cells (map f.ws f.owner.outs) (done ++ c.values) (n + c.count)

  module _ (f : Level V) (fs : List (Level V)) where
    -- a level entered for its outputs, and one entered for both passes
    entered_outputs : (d : Design) → Sound d → (ins cs : List V) (n : ℕ) → result K (busy (entered K d ins cs for_outputs f) (f ∷ fs) n) ≡ comes K (onward K fs) (passed K f (occurrence_of K f) (outputs K d ins cs)) (n + (first K d ins cs).count) f.doing
    entered_outputs absent sound ins cs n = elim sound [ ]
    entered_outputs (node m below) sound ins cs n = refl

    entered_both : (d : Design) → Sound d → (ins cs : List V) (n : ℕ) → result K (busy (entered K d ins cs for_both f) (f ∷ fs) n) ≡ comes K (onward K fs) (saved K f (entry K f) (next K d ins cs)) (n + ((first K d ins cs).count + (second K d (first K d ins cs).values cs).count)) (saved K f (entry K f) (next K d ins cs)).doing
    entered_both absent sound ins cs n = elim sound [ ]
    entered_both (node m below) sound ins cs n =
        let c = first K (node m below) ins cs in
        let e = second K (node m below) c.values cs in
        let sum : n + c.count + e.count ≡ n + (c.count + e.count) = omega arith in
        ap (λ (x : Counted (List V)). comes K (onward K fs) (saved K f (entry K f) x.values) (n + c.count + x.count) (saved K f (entry K f) x.values).doing) (sym (second_walks K m below sound c.values cs))
        ∙ ap (λ k. comes K (onward K fs) (saved K f (entry K f) e.values) k (saved K f (entry K f) e.values).doing) sum

    part_same : (n : ℕ) (o : Occurrence) → occurrence_of K f ≡ o → (p : Option Part) → Refers (λ j. Sound (f.below j)) p →
        let vs = given K (λ j is ds. on_outputs K (f.below j) (first K (f.below j) is ds)) p (map f.ws o.ins) (own f.owner f.below f.cs f.place) in
        result K (part_ticks K f fs n o p) ≡ comes K (onward K fs) (passed K f o vs.values) (n + vs.count) f.doing
    part_same n o e (Some (gate g)) refer = refl
    part_same n o e (Some cell) refer = let z : n ≡ n + 0 = omega arith in ap (λ k. comes K (onward K fs) (passed K f o (input K (own f.owner f.below f.cs f.place) 0 ∷ [])) k f.doing) z
    part_same n o e (Some (module_no j)) refer =
        let is = map f.ws o.ins in
        let cs = own f.owner f.below f.cs f.place in
        entered_outputs (f.below j) refer is cs n ∙ ap (λ x. comes K (onward K fs) (passed K f x (outputs K (f.below j) is cs)) (n + (first K (f.below j) is cs).count) f.doing) e
    part_same n o e None refer = elim refer [ ]

    entry_same : (n : ℕ) (rest : List V) (s : ℕ) (o : Occurrence) → entry K f ≡ s → (p : Option Part) → Refers (λ j. Sound (f.below j)) p →
        let ds = stored K (λ j is ds. and_then (first K (f.below j) is ds) (λ us. second K (f.below j) us ds)) p (map f.ws o.ins) (take (cells_at f.owner f.below s) rest) in
        result K (entry_ticks K f fs n rest s o p) ≡ comes K (onward K fs) (saved K f s ds.values) (n + ds.count) (saved K f s ds.values).doing
    entry_same n rest s o e (Some (gate g)) refer = let z : n ≡ n + 0 = omega arith in ap (λ k. comes K (onward K fs) (saved K f s []) k (saved K f s []).doing) z
    entry_same n rest s o e (Some cell) refer = let z : n ≡ n + 0 = omega arith in let ds = input K (map f.ws o.ins) 0 ∷ [] in ap (λ k. comes K (onward K fs) (saved K f s ds) k (saved K f s ds).doing) z
    entry_same n rest s o e (Some (module_no j)) refer =
        let is = map f.ws o.ins in
        let cs = take (cells_at f.owner f.below s) rest in
        let c = first K (f.below j) is cs in
        let ds = next K (f.below j) is cs in
        entered_both (f.below j) refer is cs n ∙ ap (λ x. comes K (onward K fs) (saved K f x ds) (n + (c.count + (second K (f.below j) c.values cs).count)) (saved K f x ds).doing) e
    entry_same n rest s o e None refer = elim refer [ ]

    returned_same : (vs : List V) (n : ℕ) → (gs : List (Level V)) → result K (returned K vs gs n) ≡ (onward K gs).with_outputs vs n
    returned_same vs n [] = refl
    returned_same vs n (p ∷ ps) = refl

    stored_up_same : (vs ds : List V) (n : ℕ) → (gs : List (Level V)) → result K (stored_up K vs ds gs n) ≡ (onward K gs).with_cells vs ds n
    stored_up_same vs ds n [] = refl
    stored_up_same vs ds n (p ∷ ps) = refl

    -- at an occurrence, what is left of the pass is what is left behind it
    module _ (n : ℕ) (o : Occurrence) (os : List Occurrence) (e : drop f.place f.owner.occurrences ≡ o ∷ os) where
      abbrev here : Counted (List V)
      here = gives K f.owner f.below f.cs f.place o f.ws

      abbrev after : Level V
      after = passed K f o here.values

      abbrev onto : Counted (Wires V) → Counted (Wires V)
      onto c = record { values = c.values; count = here.count + c.count }

      finished_same : onto (finished K after) ≡ finished K f
      finished_same =
          let g = gives K f.owner f.below f.cs in
          ap (λ l. onto (pass K g (suc f.place) l (put o.outs here.values f.ws))) (drop_next f.owner.occurrences f.place o os e)
          ∙ sym (ap (λ l. pass K g f.place l f.ws) e)

      outputs_step : comes K (onward K fs) after (n + here.count) for_outputs ≡ comes K (onward K fs) f n for_outputs
      outputs_step =
          let c = finished K after in
          let z : n + here.count + c.count ≡ n + (here.count + c.count) = omega arith in
          ap (λ k. (onward K fs).with_outputs (map c.values f.owner.outs) k) z ∙ ap (with_first (onward K fs) f n) finished_same

      both_step : comes K (onward K fs) after (n + here.count) for_both ≡ comes K (onward K fs) f n for_both
      both_step =
          let c = finished K after in
          let w = walk K f.owner f.below c.values f.owner.states f.cs in
          let z : n + here.count + c.count + w.count ≡ n + (here.count + c.count) + w.count = omega arith in
          ap (λ k. (onward K fs).with_cells (map c.values f.owner.outs) w.values k) z ∙ ap (with_both (onward K fs) f n) finished_same

    -- at the end of a first pass
    finished_end : drop f.place f.owner.occurrences ≡ [] → counting 0 f.ws ≡ finished K f
    finished_end e = sym (ap (λ l. pass K (gives K f.owner f.below f.cs) f.place l f.ws) e)

    outputs_tick : Sound (node f.owner f.below) → (n : ℕ) → f.doing ≡ for_outputs → (l : List Occurrence) → drop f.place f.owner.occurrences ≡ l → result K (first_tick K f fs n for_outputs l) ≡ comes K (onward K fs) f n for_outputs
    outputs_tick sound n d [] e =
        let z : n ≡ n + 0 = omega arith in
        returned_same (map f.ws f.owner.outs) n fs ∙ ap (λ k. (onward K fs).with_outputs (map f.ws f.owner.outs) k) z ∙ ap (with_first (onward K fs) f n) (finished_end e)
    outputs_tick sound n d (o ∷ os) e =
        part_same n o (drop_head no_occurrence f.owner.occurrences f.place o os e) (part o) (refer_left f.owner f.below sound f.place o os e)
        ∙ ap (λ x. comes K (onward K fs) (after n o os e) (n + (here n o os e).count) x) d
        ∙ outputs_step n o os e

    both_tick : Sound (node f.owner f.below) → (n : ℕ) → f.doing ≡ for_both → (l : List Occurrence) → drop f.place f.owner.occurrences ≡ l → result K (first_tick K f fs n for_both l) ≡ comes K (onward K fs) f n for_both
    both_tick sound n d [] e =
        let w = walk K f.owner f.below f.ws f.owner.states f.cs in
        let z : n + w.count ≡ n + 0 + w.count = omega arith in
        ap (λ k. (onward K fs).with_cells (map f.ws f.owner.outs) w.values k) z ∙ ap (with_both (onward K fs) f n) (finished_end e)
    both_tick sound n d (o ∷ os) e =
        part_same n o (drop_head no_occurrence f.owner.occurrences f.place o os e) (part o) (refer_left f.owner f.below sound f.place o os e)
        ∙ ap (λ x. comes K (onward K fs) (after n o os e) (n + (here n o os e).count) x) d
        ∙ both_step n o os e

    second_same : Sound (node f.owner f.below) → (n : ℕ) (done rest : List V) → f.doing ≡ storing done rest → (l : List ℕ) → drop f.place f.owner.states ≡ l → result K (second_tick K f fs n done rest l) ≡ comes K (onward K fs) f n (storing done rest)
    second_same sound n done rest d [] e =
        let z : n ≡ n + 0 = omega arith in
        stored_up_same (map f.ws f.owner.outs) done n fs
        ∙ ap₂ (λ ds k. (onward K fs).with_cells (map f.ws f.owner.outs) ds k) (sym (append-nil done)) z
        ∙ ap (λ l. with_second (onward K fs) f n done (walk K f.owner f.below f.ws l rest)) (sym e)
    second_same sound n done rest d (s ∷ ss) e =
        let o = occurrence_no f.owner s in
        let size = cells_at f.owner f.below s in
        let ds = stores K f.owner f.below f.ws s (take size rest) in
        let W : List ℕ → List V → Counted (List V) = walk K f.owner f.below f.ws in
        let c = W ss (drop size rest) in
        let z : n + ds.count + c.count ≡ n + (ds.count + c.count) = omega arith in
        entry_same n rest s o (drop_head 0 f.owner.states f.place s ss e) (part o) (refer_state f.owner f.below sound f.place s ss e)
        ∙ ap (λ x. comes K (onward K fs) (saved K f s ds.values) (n + ds.count) (kept K size ds.values x)) d
        ∙ ap (λ l. with_second (onward K fs) f (n + ds.count) (done ++ ds.values) (W l (drop size rest))) (drop_next f.owner.states f.place s ss e)
        ∙ ap₂ (λ cs k. (onward K fs).with_cells (map f.ws f.owner.outs) cs k) (append_assoc done ds.values c.values) z
        ∙ ap (λ l. with_second (onward K fs) f n done (W l rest)) (sym e)

    level_same : Sound (node f.owner f.below) → (n : ℕ) (d : Doing V) → f.doing ≡ d → result K (level_tick K f fs n d) ≡ comes K (onward K fs) f n d
    level_same sound n for_outputs d = outputs_tick sound n d (drop f.place f.owner.occurrences) refl
    level_same sound n for_both d = both_tick sound n d (drop f.place f.owner.occurrences) refl
    level_same sound n (storing done rest) d = second_same sound n done rest d (drop f.place f.owner.states) refl

  tick_same : (M : Machine V) → SoundMachine K M → result K (tick K M) ≡ result K M
  tick_same (busy f fs n) sound = level_same f fs sound.0 n f.doing refl
  tick_same (halted r) sound = refl

  -- soundness of the levels
  module _ (f : Level V) (fs : List (Level V)) (sound : Sound (node f.owner f.below)) (sounds : SoundLevels K fs) where
    entered_sound : (d : Design) → Sound d → (ins cs : List V) (doing : Doing V) → Sound (node (entered K d ins cs doing f).owner (entered K d ins cs doing f).below)
    entered_sound absent s ins cs doing = elim s [ ]
    entered_sound (node m below) s ins cs doing = s

    part_sound : (n : ℕ) (o : Occurrence) (p : Option Part) → Refers (λ j. Sound (f.below j)) p → SoundMachine K (part_ticks K f fs n o p)
    part_sound n o (Some (gate g)) refer = (sound, sounds)
    part_sound n o (Some cell) refer = (sound, sounds)
    part_sound n o (Some (module_no j)) refer = (entered_sound (f.below j) refer _ _ _, (sound, sounds))
    part_sound n o None refer = elim refer [ ]

    entry_sound : (n : ℕ) (rest : List V) (s : ℕ) (o : Occurrence) (p : Option Part) → Refers (λ j. Sound (f.below j)) p → SoundMachine K (entry_ticks K f fs n rest s o p)
    entry_sound n rest s o (Some (gate g)) refer = (sound, sounds)
    entry_sound n rest s o (Some cell) refer = (sound, sounds)
    entry_sound n rest s o (Some (module_no j)) refer = (entered_sound (f.below j) refer _ _ _, (sound, sounds))
    entry_sound n rest s o None refer = elim refer [ ]

    returned_sound : (vs : List V) (n : ℕ) (gs : List (Level V)) → SoundLevels K gs → SoundMachine K (returned K vs gs n)
    returned_sound vs n [] h = tt
    returned_sound vs n (p ∷ ps) h = h

    stored_up_sound : (vs ds : List V) (n : ℕ) (gs : List (Level V)) → SoundLevels K gs → SoundMachine K (stored_up K vs ds gs n)
    stored_up_sound vs ds n [] h = tt
    stored_up_sound vs ds n (p ∷ ps) h = h

    first_sound : (n : ℕ) (d : Doing V) (l : List Occurrence) → drop f.place f.owner.occurrences ≡ l → SoundMachine K (first_tick K f fs n d l)
    first_sound n for_outputs [] e = returned_sound (map f.ws f.owner.outs) n fs sounds
    first_sound n for_both [] e = (sound, sounds)
    first_sound n (storing done rest) [] e = (sound, sounds)
    first_sound n d (o ∷ os) e = part_sound n o (part o) (refer_left f.owner f.below sound f.place o os e)

    second_sound : (n : ℕ) (done rest : List V) (l : List ℕ) → drop f.place f.owner.states ≡ l → SoundMachine K (second_tick K f fs n done rest l)
    second_sound n done rest [] e = stored_up_sound (map f.ws f.owner.outs) done n fs sounds
    second_sound n done rest (s ∷ ss) e = entry_sound n rest s (occurrence_no f.owner s) (part (occurrence_no f.owner s)) (refer_state f.owner f.below sound f.place s ss e)

    level_sound : (n : ℕ) (d : Doing V) → SoundMachine K (level_tick K f fs n d)
    level_sound n for_outputs = first_sound n for_outputs (drop f.place f.owner.occurrences) refl
    level_sound n for_both = first_sound n for_both (drop f.place f.owner.occurrences) refl
    level_sound n (storing done rest) = second_sound n done rest (drop f.place f.owner.states) refl

  tick_sound : (M : Machine V) → SoundMachine K M → SoundMachine K (tick K M)
  tick_sound (busy f fs n) sound = level_sound f fs sound.0 sound.1 n f.doing
  tick_sound (halted r) sound = tt

  begins : (m : Module) (below : ℕ → Design) → Sound (node m below) → (ins cs : List V) → result K (begun K m below ins cs) ≡ step_of K (node m below) ins cs
  begins m below sound ins cs =
      let c = first K (node m below) ins cs in
      let z : (k : ℕ) → 0 + c.count + k ≡ c.count + k = λ k. omega arith in
      ap (λ (x : Counted (List V)). record { outs = outputs K (node m below) ins cs; cells = x.values; count = 0 + c.count + x.count }) (sym (second_walks K m below sound c.values cs))
      ∙ ap (λ k. record { outs = outputs K (node m below) ins cs; cells = next K (node m below) ins cs; count = k }) (z _)

pub machine_keeps : (V : Type 0) → MachineKeeps V
machine_keeps V = record { sound = λ K. tick_sound K; same = λ K. tick_same K; begins = λ K. begins K }
