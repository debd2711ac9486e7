-- The state in a second pass: past a cell, and into a module.
use Rattle.std.proofs.Common.{◌≡◌, ℕ, suc, ◌+◌, ◌<◌, ◌≤◌, List, [], ◌∷◌, ◌++◌, map, length, get_or, take, drop, set, Some, Option, sym, refl, ap, ◌∙◌, subst, ap₂, add-one, arith}
use Rattle.std.proofs.lemmas.List.{get_or-map, get_or-take, get_or-append-add, length-append, drop_more, drop_all}
use Rattle.gates.specs.declared.Part.{Part}
use Rattle.gates.specs.declared.Part.TheVariants.{Cell as cell, Module as module_no}
use Rattle.signal.specs.Kinds.{Kind}
use Rattle.signal.specs.GateValues.{input}
use Rattle.rules.specs.Boards.{Occurrence, Module, node, part, module_number, occurrence_no, cells_of, cells, cells_at}
use Rattle.flat.specs.Machine.{for_both, storing, Level as Frame, Machine, busy, kept, entry, saved, entered, entry_ticks, stored_up, second_tick, level_tick, tick}
use Rattle.flat.specs.InPlace.{in_place, base, region, row, stored_length, sizes, OwnFits, Under, write_as, write_entry, write_part}
use Rattle.flat.proofs.InPlace.{cells_in_place}
use Rattle.walk.specs.declared.level.Level.{Level}
use Rattle.walk.specs.declared.level.Pass.TheVariants.{ForBoth, Storing}
use Rattle.walk.specs.Levels.{level_at, advanced, module_of_level, child_base, child_level, Enterable, Opened}
use Rattle.walk.specs.Shown.{Holds, Stands, Does, ShowsLevel, Frames, State}
use Rattle.walk.proofs.Modules
use Rattle.walk.proofs.Rows.{storing_is, under_both, lies, stack_held}
use Rattle.walk.proofs.Sim.{stack_top}
use Rattle.walk.proofs.States.{Sounds, Running}
use Rattle.walk.proofs.States

module _ {V : Type 0} {K : Kind V} {board : List Module} (r : Running K board) (two : (level_at r.ls (length r.fs)).pass ≡ Storing) where
  abbrev f : Frame V
  f = r.f

  abbrev fs : List (Frame V)
  fs = r.fs

  abbrev M : Machine V
  M = busy f fs r.n

  abbrev c : Level
  c = level_at r.ls (length fs)

  abbrev m : Module
  m = module_of_level board c

  abbrev o : ℕ → Occurrence
  o i = occurrence_no m i

  abbrev one : ShowsLevel K board r.held r.work c f fs
  one = r.s.frames.2.0

  abbrev now : (done : List V) × (rest : List V) × (f.doing ≡ storing done rest) × (c.cell ≡ base K fs + length done) × Stands K fs
  now = storing_is K r.held c (cells (node f.owner f.below)) f.cs fs f.doing one.doing two

  abbrev pub done : List V
  done = now.0

  abbrev rest : List V
  rest = now.1

  pub cell_is : c.cell ≡ base K fs + length done
  cell_is = now.3

  pub stands_above : Stands K fs
  stands_above = now.4

  pub above : Under K for_both fs
  above = under_both K f.doing done rest now.2 fs r.s.order.1

  states_length : length f.owner.states ≡ length m.states
  states_length = ap (λ (x : Module). length x.states) one.owner

  -- a level past an entry, which stored ds
  saved_frames : (i : ℕ) (ds held' : List V) (from : ℕ) (ls' : List Level) → from ≡ base K fs + length (done ++ ds) → ls' ≡ set r.ls (length fs) (advanced c (c.place + 1) from) → Frames K board held' r.work ls' r.depth r.count (busy (saved K f i ds) fs r.n)
  saved_frames i ds held' from ls' e el =
      let c' = advanced c (c.place + 1) from in
      let sz = cells_at f.owner f.below i in
      let new : ShowsLevel K board held' r.work c' (saved K f i ds) fs =
      record {
        number = one.number;
        first = one.first;
        owner = one.owner;
        below = one.below;
        place = ap suc one.place ∙ sym (add-one c.place);
        low = one.low;
        wires = one.wires;
        doing = subst (λ x. Does K held' c' (cells (node f.owner f.below)) f.cs fs (kept K sz ds x)) (sym now.2) (two, e, now.4);
      } in
      (r.s.frames.0, r.s.frames.1, stack_top K board held' r.work r.work r.ls ls' c' (saved K f i ds) fs new (stack_held K board r.held held' r.work r.ls fs c.base above r.s.frames.2.2) (States.there r) el (λ w q. refl))

  module _ (h : c.place < length m.states) where
    abbrev i : ℕ
    i = get_or m.states c.place 0

    abbrev pub entry_in : i < length m.occurrences
    entry_in = Modules.entry_within board r.sounds c.number one.number c.place h

    stands : f.place < length f.owner.states
    stands = let a = states_length in let b = one.place in omega arith

    entry_is : entry K f ≡ i
    entry_is = ap₂ (λ (x : Module) k. get_or x.states k 0) one.owner one.place

    left : drop f.place f.owner.states ≡ entry K f ∷ drop (f.place + 1) f.owner.states
    left = drop_more f.owner.states f.place 0 stands

    occurrence_is : occurrence_no f.owner i ≡ o i
    occurrence_is = ap (λ (x : Module). occurrence_no x i) one.owner

    tick_entry : (p : Option Part) → part (o i) ≡ p → tick K M ≡ entry_ticks K f fs r.n rest i (o i) p
    tick_entry p e =
        ap (level_tick K f fs r.n) now.2
        ∙ ap (second_tick K f fs r.n done rest) left
        ∙ ap (λ k. entry_ticks K f fs r.n rest k (occurrence_no f.owner k) (part (occurrence_no f.owner k))) entry_is
        ∙ ap (λ (x : Occurrence). entry_ticks K f fs r.n rest i x (part x)) occurrence_is
        ∙ ap (entry_ticks K f fs r.n rest i (o i)) e

    row_entry : (p : Option Part) → part (o i) ≡ p → in_place K (tick K M) ≡ write_part K f fs done (o i) p r.held
    row_entry p e =
        (cells_in_place V).writes K f fs r.n r.s.sound r.s.order
        ∙ ap (λ x. write_as K f fs x (in_place K M)) now.2
        ∙ ap (λ x. write_entry K f fs done x (in_place K M)) left
        ∙ ap (λ k. write_part K f fs done (occurrence_no f.owner k) (part (occurrence_no f.owner k)) (in_place K M)) entry_is
        ∙ ap (λ (x : Occurrence). write_part K f fs done x (part x) (in_place K M)) occurrence_is
        ∙ ap (λ x. write_part K f fs done (o i) x (in_place K M)) e
        ∙ ap (write_part K f fs done (o i) p) r.s.row

    abbrev size : ℕ
    size = cells_at f.owner f.below i

    size_is : (p : Option Part) → part (o i) ≡ p → size ≡ cells_of (λ j. cells (f.below j)) p
    size_is p e = ap (λ (x : Occurrence). cells_of (λ j. cells (f.below j)) (part x)) occurrence_is ∙ ap (cells_of (λ j. cells (f.below j))) e

    -- what is left holds this entry's cells
    rest_long : size ≤ length rest
    rest_long =
        let a : length rest ≡ sizes K f (drop f.place f.owner.states) = subst (OwnFits K f) now.2 r.s.order.0 in
        let b : sizes K f (drop f.place f.owner.states) ≡ cells_at f.owner f.below (entry K f) + sizes K f (drop (f.place + 1) f.owner.states) = ap (sizes K f) left in
        let e = ap (cells_at f.owner f.below) entry_is in
        omega arith

    row_is : row K fs (done ++ rest) ≡ r.held
    row_is = ap (λ x. row K fs (region K f.cs x)) (sym now.2) ∙ r.s.row

    rest_holds : Holds K r.held c.cell size (take size rest)
    rest_holds =
        let l = lies K fs (done ++ rest) above in
        let long = rest_long in
        let e = now.3 in
        let a = length-append done rest in
        let b : base K fs + length (done ++ rest) ≤ length r.held = subst (λ x. base K fs + length (done ++ rest) ≤ length x) row_is l.0 in (
          omega arith,
          λ k q.
              let z : c.cell + k ≡ base K fs + (length done + k) = omega arith in
              ap (λ x. get_or r.held x K.low) z
              ∙ ap (λ x. get_or x (base K fs + (length done + k)) K.low) (sym row_is)
              ∙ l.1 (length done + k) (omega arith)
              ∙ get_or-append-add done rest k K.low
              ∙ sym (get_or-take size rest k K.low q),
        )

    pub one_input : part (o i) ≡ Some cell → length (o i).ins ≡ 1
    one_input e = Modules.ins_count board r.sounds c.number one.number i entry_in (Some cell) e

    pub read_there : part (o i) ≡ Some cell → c.base + get_or (o i).ins 0 0 < length r.work
    read_there e =
        let a = one_input e in
        let b = Modules.ins_below board r.sounds c.number one.number i entry_in 0 (omega arith) in
        let q = States.room r in
        let s = r.size in
        omega arith

    pub cell_there : part (o i) ≡ Some cell → c.cell < length r.held
    cell_there e = let a = rest_holds.0 in let b = size_is (Some cell) e in omega arith

    pub store_state : part (o i) ≡ Some cell → (held' : List V) (ls' : List Level) → held' ≡ set r.held c.cell (get_or r.work (c.base + get_or (o i).ins 0 0) K.low) → ls' ≡ set r.ls (length fs) (advanced c (c.place + 1) (c.cell + 1)) → State K board held' r.work ls' r.depth r.count (tick K M)
    store_state e held' ls' eh el =
        let is = (o i).ins in
        let a = one_input e in
        let b = Modules.ins_below board r.sounds c.number one.number i entry_in 0 (omega arith) in
        let w = States.wires_are r in
        let v = input K (map f.ws is) 0 in
        let ve : v ≡ get_or r.work (c.base + get_or is 0 0) K.low = get_or-map f.ws is 0 0 K.low (omega arith) ∙ sym (one.wires (get_or is 0 0) (omega arith)) in
        let row' : in_place K (tick K M) ≡ held' = row_entry (Some cell) e ∙ ap₂ (λ q y. set r.held q y) (sym now.3) ve ∙ sym eh in
        let fe : c.cell + 1 ≡ base K fs + length (done ++ (v ∷ [])) = let x = length-append done (v ∷ []) in let y = now.3 in omega arith in
        States.state_by r held' r.work ls' r.depth r.count (subst (Frames K board held' r.work ls' r.depth r.count) (sym (tick_entry (Some cell) e)) (saved_frames i (v ∷ []) held' (c.cell + 1) ls' fe el)) row'

    module _ (j : ℕ) (e : part (o i) ≡ Some (module_no j)) where
      abbrev inner : Frame V
      inner = entered K (f.below j) (map f.ws (o i).ins) (take size rest) for_both f

      pub again_tick : tick K M ≡ busy inner (f ∷ fs) r.n
      again_tick = tick_entry (Some (module_no j)) e

      pub again_enterable : Enterable board c j (o i).ins (length r.work)
      again_enterable = States.enterable r i entry_in j e inner again_tick

      pub again_state : (work' : List V) (ls' : List Level) → Opened K c.base (o i).ins (child_base board c) (module_number board j).wires r.work work' → ls' ≡ set r.ls (length fs + 1) (child_level board c j ForBoth c.cell) → State K board r.held work' ls' (r.depth + 1) r.count (tick K M)
      again_state work' ls' op el =
          let cs = take size rest in
          let b : c.cell ≡ base K (f ∷ fs) = now.3 ∙ ap (λ x. base K fs + stored_length K x) (sym now.2) in
          let a : Does K r.held (child_level board c j ForBoth c.cell) (cells (f.below j)) cs (f ∷ fs) for_both = (refl, subst (λ q. Holds K r.held c.cell q cs) (size_is (Some (module_no j)) e) rest_holds, b, stands) in
          let lv = States.deeper r i entry_in j e inner again_tick in
          let fr = States.enter_frames r i entry_in j e ForBoth c.cell cs for_both a work' ls' op (let q = r.many in omega arith) el in
          States.state_by r r.held work' ls' (r.depth + 1) r.count (subst (Frames K board r.held work' ls' (r.depth + 1) r.count) (sym again_tick) fr) (row_entry (Some (module_no j)) e)

  module _ (h : length m.states ≤ c.place) where
    none_stands : drop f.place f.owner.states ≡ []
    none_stands = let a = states_length in let b = one.place in drop_all f.place f.owner.states (omega arith)

    pub tick_end : tick K M ≡ stored_up K (map f.ws f.owner.outs) done fs r.n
    tick_end = ap (level_tick K f fs r.n) now.2 ∙ ap (second_tick K f fs r.n done rest) none_stands

    pub row_end : in_place K (tick K M) ≡ r.held
    row_end =
        (cells_in_place V).writes K f fs r.n r.s.sound r.s.order
        ∙ ap (λ x. write_as K f fs x (in_place K M)) now.2
        ∙ ap (λ x. write_entry K f fs done x (in_place K M)) none_stands
        ∙ r.s.row
