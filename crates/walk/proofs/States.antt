-- The state after a tick of the last level: past a gate or a cell in a first pass, into a module, over to the second pass.
use Rattle.std.proofs.Common.{◌≡◌, ℕ, ◌+◌, ◌<◌, ◌≤◌, ◌≢◌, List, [], ◌∷◌, map, length, get_or, drop, set, Some, Option, sym, refl, ap, ◌∙◌, subst, ap₂, arith}
use Rattle.std.proofs.lemmas.List.{get_or-map, get_or-take, get_or-drop, drop_more, drop_all}
use Rattle.gates.specs.declared.Gate.{Gate}
use Rattle.gates.specs.declared.Part.{Part}
use Rattle.gates.specs.declared.Part.TheVariants.{Gate as gate, Cell as cell, Module as module_no}
use Rattle.signal.specs.Kinds.{Kind}
use Rattle.signal.specs.GateValues.{input, gate_value}
use Rattle.rules.specs.Boards.{Occurrence, no_occurrence, Module, Design, node, part, in_count, module_number, occurrence_no, cells_of, cells, cells_at, ahead}
use Rattle.rules.specs.Files.{BoardRange}
use Rattle.rules.specs.Sound.{All, Sound}
use Rattle.flat.specs.Passes.{own, start}
use Rattle.flat.specs.Machine.{Doing, for_outputs, storing, Level as Frame, Machine, busy, passed, entered, part_ticks, occurrence_of, tick, Deep}
use Rattle.flat.specs.InPlace.{in_place, base}
use Rattle.flat.specs.Windows.{writes}
use Rattle.flat.proofs.Windows.{windows_show}
use Rattle.flat.proofs.Machine.{machine_keeps}
use Rattle.flat.proofs.Deep.{stays_deep}
use Rattle.flat.proofs.InPlace.{cells_in_place}
use Rattle.board.specs.Lent.{behind}
use Rattle.walk.specs.declared.level.Level.{Level}
use Rattle.walk.specs.declared.level.Pass.{Pass}
use Rattle.walk.specs.declared.level.Pass.TheVariants.{ForOutputs, Storing}
use Rattle.walk.specs.Levels.{level_at, placed, turned, cells_ahead, module_of_level, child_base, child_level, Enterable, Opened}
use Rattle.walk.specs.Shown.{Holds, Does, ShowsLevel, Stack, Frames, State}
use Rattle.walk.proofs.Modules
use Rattle.walk.proofs.Rows.{first_holds, first_writes, first_ticks_on, both_stand, both_turn}
use Rattle.walk.proofs.Sim.{stack_top, passed_frames}

abbrev pub Sounds : List Module → Type 0
Sounds board = (k : ℕ) → k < length board → Sound (node (module_number board k) (behind board k))

-- a machine that runs, shown by memory that is large enough
pub record Running {V : Type 0} (K : Kind V) (board : List Module) : Type 0 where
  pub range : BoardRange board
  pub sounds : Sounds board
  pub held : List V
  pub work : List V
  pub ls : List Level
  pub depth : ℕ
  pub count : ℕ
  pub f : Frame V
  pub fs : List (Frame V)
  pub n : ℕ
  pub s : State K board held work ls depth count (busy f fs n)
  pub many : 8 ≤ length ls
  pub size : 1024 ≤ length work

module _ {V : Type 0} {K : Kind V} {board : List Module} (r : Running K board) where
  abbrev f : Frame V
  f = r.f

  abbrev fs : List (Frame V)
  fs = r.fs

  abbrev M : Machine V
  M = busy f fs r.n

  abbrev c : Level
  c = level_at r.ls (length fs)

  abbrev m : Module
  m = module_of_level board c

  abbrev o : ℕ → Occurrence
  o i = occurrence_no m i

  abbrev one : ShowsLevel K board r.held r.work c f fs
  one = r.s.frames.2.0

  abbrev below : ℕ → Design
  below = behind board c.number

  pub few : length fs < 8
  few = (stays_deep V).few 8 f fs r.n r.s.deep

  pub wires_are : f.owner.wires ≡ m.wires
  wires_are = ap (λ (x : Module). x.wires) one.owner

  pub room : c.base + m.wires ≤ 1024
  room = let a = one.low in let b = (r.range.each c.number one.number).wires in let q = few in omega arith

  fits : c.base + f.owner.wires ≤ length r.work
  fits = let a = room in let b = wires_are in let q = r.size in omega arith

  pub there : length fs < length r.ls
  there = let a = few in let q = r.many in omega arith

  pub state_by : (held' work' : List V) (ls' : List Level) (depth' count' : ℕ) → Frames K board held' work' ls' depth' count' (tick K M) → in_place K (tick K M) ≡ held' → State K board held' work' ls' depth' count' (tick K M)
  state_by held' work' ls' depth' count' fr e =
      record {
        frames = fr;
        row = e;
        sound = (machine_keeps V).sound K M r.s.sound;
        deep = (stays_deep V).keeps K 8 M r.s.sound r.s.deep;
        order = (cells_in_place V).orders K f fs r.n r.s.sound r.s.order;
      }

  pub all_cells : cells (node f.owner f.below) ≡ cells (node m below)
  all_cells = ap₂ (λ (x : Module) (d : ℕ → Design). cells (node x d)) one.owner one.below

  pub cells_no : (i : ℕ) → cells_at f.owner f.below i ≡ cells_at m below i
  cells_no i = ap₂ (λ (x : Module) (d : ℕ → Design). cells_at x d i) one.owner one.below

  pub none_left : length m.occurrences ≤ c.place → drop f.place f.owner.occurrences ≡ []
  none_left h =
      let a = ap (λ (x : Module). length x.occurrences) one.owner in
      let b = one.place in
      drop_all f.place f.owner.occurrences (omega arith)

  -- Into a module, by its occurrence i

  module _ (i : ℕ) (l : i < length m.occurrences) (j : ℕ) (e : part (o i) ≡ Some (module_no j)) where
    abbrev child : Module
    child = module_number board j

    child_there : (j < length board) × (below j ≡ node child (behind board j))
    child_there = Modules.child_is board r.sounds c.number one.number i l j e

    child_design : f.below j ≡ node child (behind board j)
    child_design = ap (λ (b : ℕ → Design). b j) one.below ∙ child_there.1

    child_inputs : length (o i).ins ≡ child.inputs
    child_inputs = Modules.ins_count board r.sounds c.number one.number i l (Some (module_no j)) e ∙ ap in_count child_there.1

    pub deeper : (g : Frame V) → tick K M ≡ busy g (f ∷ fs) r.n → length fs + 1 < 8
    deeper g path =
        let d : Deep 8 (busy g (f ∷ fs) r.n) = subst (Deep 8) path ((stays_deep V).keeps K 8 M r.s.sound r.s.deep) in
        let q = (stays_deep V).few 8 g (f ∷ fs) r.n d in
        omega arith

    pub enterable : (g : Frame V) → tick K M ≡ busy g (f ∷ fs) r.n → Enterable board c j (o i).ins (length r.work)
    enterable g path =
        let q = deeper g path in
        let a = one.low in
        let b = (r.range.each c.number one.number).wires in
        let d = r.range.each j child_there.0 in
        let x = d.wires in
        let y = d.inputs_wired in
        let z = child_inputs in
        let s = r.size in
        record {
          number = one.number;
          child = child_there.0;
          fits = omega arith;
          few = omega arith;
          wired = Modules.ins_below board r.sounds c.number one.number i l;
        }

    pub enter_frames : (pass : Pass) (from : ℕ) (cs : List V) (doing : Doing V) → Does K r.held (child_level board c j pass from) (cells (f.below j)) cs (f ∷ fs) doing → (work' : List V) (ls' : List Level) → Opened K c.base (o i).ins (child_base board c) child.wires r.work work' → length fs + 1 < length r.ls → ls' ≡ set r.ls (length fs + 1) (child_level board c j pass from) → Frames K board r.held work' ls' (r.depth + 1) r.count (busy (entered K (f.below j) (map f.ws (o i).ins) cs doing f) (f ∷ fs) r.n)
    enter_frames pass from cs doing a work' ls' op h el =
        let is = (o i).ins in
        let ins = map f.ws is in
        let cf = child_level board c j pass from in
        let w = wires_are in
        let g : Frame V = record { owner = child; below = behind board j; cs = cs; ws = start K child.inputs ins; place = 0; doing = doing } in
        let given' : (k : ℕ) → k < child.inputs → get_or work' (child_base board c + k) K.low ≡ input K ins k = λ k q.
        let l' : k < length is = let x = child_inputs in omega arith in
        let x = Modules.ins_below board r.sounds c.number one.number i l k l' in
        op.given k l' ∙ one.wires (get_or is k 0) (omega arith) ∙ sym (get_or-map f.ws is k 0 K.low l') in
        let rest' : (k : ℕ) → child.inputs ≤ k → k < child.wires → get_or work' (child_base board c + k) K.low ≡ K.low = λ k q l'. op.rest k (let x = child_inputs in omega arith) l' in
        let new : ShowsLevel K board r.held work' cf g (f ∷ fs) =
        record {
          number = child_there.0;
          first = (λ e. let z : ⊥ = omega arith in absurd z);
          owner = refl;
          below = refl;
          place = refl;
          low = (let x = one.low in let b = (r.range.each c.number one.number).wires in omega arith);
          wires = (windows_show V K).begins work' (child_base board c) child.wires child.inputs ins given' rest';
          doing = subst (λ d. Does K r.held cf (cells d) cs (f ∷ fs) doing) child_design a;
        } in
        let next : length fs + 1 ≡ length (f ∷ fs) = omega arith in
        let stack : Stack K board r.held r.work r.ls (child_base board c) (f ∷ fs) = (one, omega arith, r.s.frames.2.2) in
        let el' : ls' ≡ set r.ls (length (f ∷ fs)) cf = el ∙ ap (λ k. set r.ls k cf) next in
        let d : r.depth + 1 ≡ length (g ∷ f ∷ fs) = let x = r.s.frames.0 in omega arith in
        subst (λ d. Frames K board r.held work' ls' (r.depth + 1) r.count (busy (entered K d ins cs doing f) (f ∷ fs) r.n)) (sym child_design)
        (d, r.s.frames.1, stack_top K board r.held r.work work' r.ls ls' cf g (f ∷ fs) new stack (omega arith) el' op.others)

  -- A first pass

  module _ (p : c.pass ≢ Storing) where
    pub row_first : in_place K (tick K M) ≡ r.held
    row_first =
        (cells_in_place V).writes K f fs r.n r.s.sound r.s.order
        ∙ first_writes K r.held c (cells (node f.owner f.below)) f.cs fs f f.doing one.doing p (in_place K M)
        ∙ r.s.row

    module _ (h : c.place < length m.occurrences) where
      pub here : occurrence_of K f ≡ o c.place
      here = ap₂ (λ (x : Module) i. occurrence_no x i) one.owner one.place

      place_in : f.place < length f.owner.occurrences
      place_in = let a = ap (λ (x : Module). length x.occurrences) one.owner in let b = one.place in omega arith

      tick_here : (q : Option Part) → part (o c.place) ≡ q → tick K M ≡ part_ticks K f fs r.n (occurrence_of K f) q
      tick_here q e =
          first_ticks_on K r.held c (cells (node f.owner f.below)) f.cs fs f f.doing one.doing p r.n (occurrence_of K f) (drop (f.place + 1) f.owner.occurrences) (drop_more f.owner.occurrences f.place no_occurrence place_in)
          ∙ ap (part_ticks K f fs r.n (occurrence_of K f)) (ap part here ∙ e)

      outs_here : All (λ w. w < f.owner.wires) (occurrence_of K f).outs
      outs_here = subst (λ (x : Occurrence). All (λ w. w < f.owner.wires) x.outs) (sym here) (subst (λ k. All (λ w. w < k) (o c.place).outs) (sym wires_are) (Modules.outs_all board r.sounds c.number one.number c.place h))

      ins_here : All (λ w. w < f.owner.wires) (o c.place).ins
      ins_here = subst (λ k. All (λ w. w < k) (o c.place).ins) (sym wires_are) (Modules.ins_all board r.sounds c.number one.number c.place h)

      -- past this occurrence, which gave vs
      passed_state : (vs : List V) (n' count' : ℕ) → n' ≡ count' → tick K M ≡ busy (passed K f (occurrence_of K f) vs) fs n' → (work' : List V) (ls' : List Level) → work' ≡ writes K c.base (o c.place).outs vs r.work → ls' ≡ set r.ls (length fs) (placed c (c.place + 1)) → State K board r.held work' ls' r.depth count' (tick K M)
      passed_state vs n' count' e path work' ls' ew el =
          let fr = passed_frames K board r.held r.work work' r.ls ls' f fs n' count' vs r.s.frames.2 e there fits outs_here (ew ∙ ap (λ (x : Occurrence). writes K c.base x.outs vs r.work) (sym here)) el in
          state_by r.held work' ls' r.depth count' (subst (Frames K board r.held work' ls' r.depth count') (sym path) (r.s.frames.0, fr.1, fr.2)) row_first

      pub gate_state : (g : Gate) → part (o c.place) ≡ Some (gate g) → (work' : List V) (ls' : List Level) → work' ≡ writes K c.base (o c.place).outs (gate_value K g (map (λ w. get_or r.work (c.base + w) K.low) (o c.place).ins) ∷ []) r.work → ls' ≡ set r.ls (length fs) (placed c (c.place + 1)) → State K board r.held work' ls' r.depth (r.count + 1) (tick K M)
      gate_state g e work' ls' ew el =
          let is = (o c.place).ins in
          let read : map (λ w. get_or r.work (c.base + w) K.low) is ≡ map f.ws is = (windows_show V K).reads r.work c.base f.owner.wires f.ws one.wires is ins_here in
          let v : gate_value K g (map (λ w. get_or r.work (c.base + w) K.low) is) ≡ gate_value K g (map f.ws (occurrence_of K f).ins) = ap (gate_value K g) read ∙ ap (λ (x : Occurrence). gate_value K g (map f.ws x.ins)) (sym here) in
          let cn : r.n + 1 ≡ r.count + 1 = let q = r.s.frames.1 in omega arith in
          passed_state (gate_value K g (map f.ws (occurrence_of K f).ins) ∷ []) (r.n + 1) (r.count + 1) cn (tick_here (Some (gate g)) e) work' ls' (ew ∙ ap (λ x. writes K c.base (o c.place).outs (x ∷ []) r.work) v) el

      -- of the level's cells those of this occurrence
      pub own_holds : Holds K r.held (c.cell + cells_ahead board c.number c.place) (cells_at m below c.place) (own f.owner f.below f.cs c.place)
      own_holds =
          let hold = first_holds K r.held c (cells (node f.owner f.below)) f.cs fs f.doing one.doing p in
          let a = Modules.cells_fit board r.sounds c.number one.number c.place h in
          let q = all_cells in
          let w = hold.0 in
          let at = cells_ahead board c.number c.place in
          let ea : ahead (cells_at f.owner f.below) f.owner.states c.place ≡ at = ap₂ (λ (x : Module) (d : ℕ → Design). ahead (cells_at x d) x.states c.place) one.owner one.below in
          let nn = cells_at f.owner f.below c.place in
          let at' = ahead (cells_at f.owner f.below) f.owner.states c.place in
          let en = cells_no c.place in (
            omega arith,
            λ k l.
                let z : c.cell + at + k ≡ c.cell + (at' + k) = omega arith in
                ap (λ x. get_or r.held x K.low) z ∙ hold.1 (at' + k) (omega arith) ∙ sym (get_or-take nn (drop at' f.cs) k K.low (omega arith) ∙ get_or-drop at' f.cs k K.low),
          )

      pub cell_there : part (o c.place) ≡ Some cell → c.cell + cells_ahead board c.number c.place < length r.held
      cell_there e = let a = own_holds.0 in let b = ap (cells_of (λ j. cells (below j))) e in omega arith

      pub cell_state : part (o c.place) ≡ Some cell → (work' : List V) (ls' : List Level) → work' ≡ writes K c.base (o c.place).outs (get_or r.held (c.cell + cells_ahead board c.number c.place) K.low ∷ []) r.work → ls' ≡ set r.ls (length fs) (placed c (c.place + 1)) → State K board r.held work' ls' r.depth r.count (tick K M)
      cell_state e work' ls' ew el =
          let b = ap (cells_of (λ j. cells (below j))) e in
          let x = own f.owner f.below f.cs in
          let at = c.cell + cells_ahead board c.number c.place in
          let z : at ≡ at + 0 = omega arith in
          let v : get_or r.held at K.low ≡ input K (x f.place) 0 = ap (λ q. get_or r.held q K.low) z ∙ own_holds.1 0 (omega arith) ∙ ap (λ q. get_or (x q) 0 K.low) (sym one.place) in
          passed_state (input K (x f.place) 0 ∷ []) r.n r.count r.s.frames.1 (tick_here (Some cell) e) work' ls' (ew ∙ ap (λ q. writes K c.base (o c.place).outs (q ∷ []) r.work) v) el

      module _ (j : ℕ) (e : part (o c.place) ≡ Some (module_no j)) where
        abbrev inner : Frame V
        inner = entered K (f.below j) (map f.ws (o c.place).ins) (own f.owner f.below f.cs c.place) for_outputs f

        pub enter_tick : tick K M ≡ busy inner (f ∷ fs) r.n
        enter_tick =
            tick_here (Some (module_no j)) e
            ∙ ap₂ (λ (x : Occurrence) k. busy (entered K (f.below j) (map f.ws x.ins) (own f.owner f.below f.cs k) for_outputs f) (f ∷ fs) r.n) here one.place

        pub enter_state : (work' : List V) (ls' : List Level) → Opened K c.base (o c.place).ins (child_base board c) (module_number board j).wires r.work work' → ls' ≡ set r.ls (length fs + 1) (child_level board c j ForOutputs (c.cell + cells_ahead board c.number c.place)) → State K board r.held work' ls' (r.depth + 1) r.count (tick K M)
        enter_state work' ls' op el =
            let from = c.cell + cells_ahead board c.number c.place in
            let cs = own f.owner f.below f.cs c.place in
            let size_is : cells_at m below c.place ≡ cells (f.below j) = ap (cells_of (λ j. cells (below j))) e ∙ ap (λ (b : ℕ → Design). cells (b j)) (sym one.below) in
            let a : Does K r.held (child_level board c j ForOutputs from) (cells (f.below j)) cs (f ∷ fs) for_outputs =
            (refl, subst (λ q. Holds K r.held from q cs) size_is own_holds, (place_in, ap part here ∙ e)) in
            let lv = deeper c.place h j e inner enter_tick in
            let fr = enter_frames c.place h j e ForOutputs from cs for_outputs a work' ls' op (let q = r.many in omega arith) el in
            state_by r.held work' ls' (r.depth + 1) r.count (subst (Frames K board r.held work' ls' (r.depth + 1) r.count) (sym enter_tick) fr) row_first

    -- the first pass is done, and the second follows
    pub turn_state : length m.occurrences ≤ c.place → c.pass ≢ ForOutputs → (ls' : List Level) → ls' ≡ set r.ls (length fs) (turned c) → State K board r.held r.work ls' r.depth r.count (tick K M)
    turn_state h q ls' el =
        let nn = cells (node f.owner f.below) in
        let path = both_turn K r.held c nn f.cs fs f f.doing one.doing q p r.n (none_left h) in
        let b = both_stand K r.held c nn f.cs fs f.doing one.doing q p in
        let g : Frame V = record { owner = f.owner; below = f.below; cs = f.cs; ws = f.ws; place = 0; doing = storing [] f.cs } in
        let bs : c.cell ≡ base K fs + 0 = let x = b.0 in omega arith in
        let new : ShowsLevel K board r.held r.work (turned c) g fs = record { number = one.number; first = one.first; owner = one.owner; below = one.below; place = refl; low = one.low; wires = one.wires; doing = (refl, bs, b.1) } in
        let fr : Frames K board r.held r.work ls' r.depth r.count (busy g fs r.n) =
        (r.s.frames.0, r.s.frames.1, stack_top K board r.held r.work r.work r.ls ls' (turned c) g fs new r.s.frames.2.2 there el (λ w l. refl)) in
        state_by r.held r.work ls' r.depth r.count (subst (Frames K board r.held r.work ls' r.depth r.count) (sym path) fr) row_first
