-- What the functions on the stack rely on and give, by the level that is last.
use Rattle.std.proofs.Common.{◌≡◌, ℕ, ◌+◌, ◌-◌, ◌<◌, ◌≤◌, ◌≢◌, List, [], ◌∷◌, map, length, get_or, take, drop, set, Some, sym, refl, ap, ◌∙◌, subst, ap₂, arith}
use mathlib.Core.Path.{fun_ext}
use Rattle.gates.specs.declared.Gate.{Gate}
use Rattle.gates.specs.declared.Part.TheVariants.{Gate as gate, Cell as cell, Module as module_no}
use Rattle.signal.specs.Kinds.{Kind}
use Rattle.signal.specs.GateValues.{gate_value}
use Rattle.rules.specs.Boards.{Occurrence, Module, node, part, module_number, occurrence_no, cells}
use Rattle.rules.specs.Files.{BoardRange}
use Rattle.flat.specs.Machine.{Level as Frame, Machine, busy, halted, tick, result, ticks_left}
use Rattle.flat.specs.Windows.{writes}
use Rattle.flat.proofs.Machine.{machine_keeps}
use Rattle.flat.proofs.Ticks.{ticks_fall}
use Rattle.board.specs.declared.lent.Tables.{Tables}
use Rattle.board.specs.Lent.{board_in, Right}
use Rattle.walk.specs.declared.level.Level.{Level}
use Rattle.walk.specs.declared.level.Pass.TheVariants.{ForOutputs, ForBoth, Storing}
use Rattle.walk.specs.declared.reading.Child.{Child}
use Rattle.walk.specs.Levels.{level_at, placed, advanced, turned, cells_ahead, module_of_level, child_base, child_level, Enterable, Leavable, Opened}
use Rattle.walk.specs.Shown.{State, Later, After, ChildOf}
use Rattle.walk.proofs.Bytes
use Rattle.walk.proofs.Values.{lent_length, lent_get_or}
use Rattle.walk.proofs.Modules
use Rattle.walk.proofs.Rows.{outputs_wait}
use Rattle.walk.proofs.States.{Sounds, Running}
use Rattle.walk.proofs.States
use Rattle.walk.proofs.Stores
use Rattle.walk.proofs.Ends
use Rattle.walk.proofs.Measure.{never_more, count_grows}

pub one_write : {V : Type 0} (K : Kind V) (base : ℕ) (os : List ℕ) (v : V) (work : List V) → length os ≡ 1 → writes K base os (v ∷ []) work ≡ set work (base + get_or os 0 0) v
one_write K base [] v work e = absurd (omega arith)
one_write K base (o ∷ []) v work e = refl
one_write K base (o ∷ p ∷ os) v work e = absurd (omega arith)

-- Ticks

module _ {V : Type 0} (K : Kind V) (board : List Module) where
  -- one more tick
  pub later_tick : (held work : List V) (ls : List Level) (depth count : ℕ) (M N : Machine V) → State K board held work ls depth count (tick K N) → (held₀ work₀ : List V) (ls₀ : List Level) (depth₀ count₀ : ℕ) → State K board held₀ work₀ ls₀ depth₀ count₀ N → result K N ≡ result K M → ticks_left N ≤ ticks_left M → Later K board held work ls depth count M
  later_tick held work ls depth count M N s' held₀ work₀ ls₀ depth₀ count₀ s e l =
      let d = never_more K N s.sound in
      (tick K N, s', (machine_keeps V).same K N s.sound ∙ e, omega arith)

  pub after_tick : (held work : List V) (ls : List Level) (depth count : ℕ) (M N : Machine V) → State K board held work ls depth count (tick K N) → (held₀ work₀ : List V) (ls₀ : List Level) (top count₀ : ℕ) → State K board held₀ work₀ ls₀ (top + 1) count₀ N → result K N ≡ result K M → ticks_left N ≤ ticks_left M → After K board held work ls depth count M
  after_tick held work ls depth count M (busy f fs n) s' held₀ work₀ ls₀ top count₀ s e l =
      let d = ticks_fall V K f fs n s.sound in
      (tick K (busy f fs n), s', (machine_keeps V).same K (busy f fs n) s.sound ∙ e, omega arith)
  after_tick held work ls depth count M (halted r) s' held₀ work₀ ls₀ top count₀ s e l = let q = s.frames.0 in absurd (omega arith)

-- The last level

module _ {V : Type 0} (K : Kind V) (t : Tables) (right : Right t) (held work : List V) (ls : List Level) (top count : ℕ) (many : 8 ≤ length ls) (size : 1024 ≤ length work) where
  abbrev board : List Module
  board = board_in t

  abbrev range : BoardRange board
  range = Bytes.range t right

  abbrev sounds : Sounds board
  sounds k h = (Bytes.keeps t right k h).sound

  abbrev Shown : Machine V → Type 0
  Shown M = State K board held work ls (top + 1) count M

  abbrev run : (f : Frame V) (fs : List (Frame V)) (n : ℕ) → Shown (busy f fs n) → Running K board
  run f fs n s = record { range = range; sounds = sounds; held = held; work = work; ls = ls; depth = top + 1; count = count; f = f; fs = fs; n = n; s = s; many = many; size = size }

  by : (P : Level → ℕ → Machine V → Type 0) → ((f : Frame V) (fs : List (Frame V)) (n : ℕ) → Shown (busy f fs n) → P (level_at ls (length fs)) (length fs) (busy f fs n)) → (c : Level) → level_at ls top ≡ c → (M : Machine V) → Shown M → P c top M
  by P g c e (busy f fs n) s =
      let z : length fs ≡ top = let q = s.frames.0 in omega arith in
      subst (λ x. P x top (busy f fs n)) e (subst (λ k. P (level_at ls k) k (busy f fs n)) z (g f fs n s))
  by P g c e (halted r) s = let q = s.frames.0 in absurd (omega arith)

  pub level_there : (c : Level) → level_at ls top ≡ c → (M : Machine V) → Shown M → (top < length ls) × (c.number < length board)
  level_there = by (λ c k M. (k < length ls) × (c.number < length board)) (λ f fs n s. (States.there (run f fs n s), s.frames.2.0.number))

  pub room : (c : Level) → level_at ls top ≡ c → (M : Machine V) → Shown M → c.base + (module_of_level board c).wires ≤ 1024
  room = by (λ c k M. c.base + (module_of_level board c).wires ≤ 1024) (λ f fs n s. States.room (run f fs n s))

  pub count_small : (M : Machine V) → Shown M → count ≤ (result K M).count
  count_small (busy f fs n) s = let a = count_grows K f fs n in let q = s.frames.1 in omega arith
  count_small (halted r) s = let q = s.frames.0 in absurd (omega arith)

  -- A first pass at an occurrence

  abbrev First : Level → Type 0
  First c = (c.pass ≢ Storing) × (c.place < length (module_of_level board c).occurrences)

  abbrev here : Level → Occurrence
  here c = occurrence_no (module_of_level board c) c.place

  pub lone_out : (c : Level) → c.number < length board → First c → (g : Gate) → part (here c) ≡ Some (gate g) → length (here c).outs ≡ 1
  lone_out c h p g e = Modules.outs_count board sounds c.number h c.place p.1 (Some (gate g)) e

  pub lone_cell : (c : Level) → c.number < length board → First c → part (here c) ≡ Some cell → length (here c).outs ≡ 1
  lone_cell c h p e = Modules.outs_count board sounds c.number h c.place p.1 (Some cell) e

  -- the wire of a lone output is in the window
  pub out_there : (c : Level) → level_at ls top ≡ c → (M : Machine V) → Shown M → First c → length (here c).outs ≡ 1 → (outs : List ℕ) → outs ≡ (here c).outs → c.base + get_or outs 0 0 < length work
  out_there c e M s p l outs eo =
      let a = Modules.outs_below board sounds c.number (level_there c e M s).1 c.place p.1 0 (omega arith) in
      let b = room c e M s in
      let z = ap (λ x. get_or x 0 0) eo in
      omega arith

  pub ins_there : (c : Level) → level_at ls top ≡ c → (M : Machine V) → Shown M → First c → (ins : List ℕ) → ins ≡ (here c).ins → (j : ℕ) → j < length ins → get_or ins j 0 < length (take (length work - c.base) (drop c.base work))
  ins_there c e M s p ins ei j l =
      let a = Modules.ins_below board sounds c.number (level_there c e M s).1 c.place p.1 j (let z = ap length ei in omega arith) in
      let b = room c e M s in
      let z = ap (λ x. get_or x j 0) ei in
      let y = lent_length work c.base (length work - c.base) (omega arith) refl in
      omega arith

  pub gate_on : (c : Level) → level_at ls top ≡ c → (M : Machine V) → Shown M → First c → (g : Gate) → part (here c) ≡ Some (gate g) → (ins outs : List ℕ) → ins ≡ (here c).ins → outs ≡ (here c).outs → (v : V) → v ≡ gate_value K g (map (λ w. get_or (take (length work - c.base) (drop c.base work)) w K.low) ins) → (ls' : List Level) → ls' ≡ set ls top (placed c (c.place + 1)) → State K board held (set work (c.base + get_or outs 0 0) v) ls' (top + 1) (count + 1) (tick K M)
  gate_on c e M s p g eg ins outs ei eo v ev ls' el =
      let b = room c e M s in
      let rd : (λ w. get_or (take (length work - c.base) (drop c.base work)) w K.low) ≡ (λ w. get_or work (c.base + w) K.low) = fun_ext (λ w. lent_get_or work c.base (length work - c.base) w K.low (omega arith) refl) in
      let ev' : v ≡ gate_value K g (map (λ w. get_or work (c.base + w) K.low) (here c).ins) = ev ∙ ap₂ (λ (q : ℕ → V) (is : List ℕ). gate_value K g (map q is)) rd ei in
      let ew : set work (c.base + get_or outs 0 0) v ≡ writes K c.base (here c).outs (gate_value K g (map (λ w. get_or work (c.base + w) K.low) (here c).ins) ∷ []) work =
      ap₂ (λ (os : List ℕ) (x : V). set work (c.base + get_or os 0 0) x) eo ev' ∙ sym (one_write K c.base (here c).outs _ work (lone_out c (level_there c e M s).1 p g eg)) in
      by (λ c k M. First c → part (here c) ≡ Some (gate g) → (work' : List V) → work' ≡ writes K c.base (here c).outs (gate_value K g (map (λ w. get_or work (c.base + w) K.low) (here c).ins) ∷ []) work → (ls' : List Level) → ls' ≡ set ls k (placed c (c.place + 1)) → State K board held work' ls' (top + 1) (count + 1) (tick K M))
      (λ f fs n s p eg work' ew ls' el. States.gate_state (run f fs n s) p.0 p.1 g eg work' ls' ew el)
      c e M s p eg (set work (c.base + get_or outs 0 0) v) ew ls' el

  pub own_there : (c : Level) → level_at ls top ≡ c → (M : Machine V) → Shown M → First c → c.cell + cells_ahead board c.number c.place ≤ length held
  own_there = by (λ c k M. First c → c.cell + cells_ahead board c.number c.place ≤ length held) (λ f fs n s p. let a = (States.own_holds (run f fs n s) p.0 p.1).0 in omega arith)

  pub cell_there : (c : Level) → level_at ls top ≡ c → (M : Machine V) → Shown M → First c → part (here c) ≡ Some cell → c.cell + cells_ahead board c.number c.place < length held
  cell_there = by (λ c k M. First c → part (here c) ≡ Some cell → c.cell + cells_ahead board c.number c.place < length held) (λ f fs n s p. States.cell_there (run f fs n s) p.0 p.1)

  pub cell_on : (c : Level) → level_at ls top ≡ c → (M : Machine V) → Shown M → First c → part (here c) ≡ Some cell → (outs : List ℕ) → outs ≡ (here c).outs → (v : V) → v ≡ get_or held (c.cell + cells_ahead board c.number c.place) K.low → (ls' : List Level) → ls' ≡ set ls top (placed c (c.place + 1)) → State K board held (set work (c.base + get_or outs 0 0) v) ls' (top + 1) count (tick K M)
  cell_on c e M s p ec outs eo v ev ls' el =
      let ew : set work (c.base + get_or outs 0 0) v ≡ writes K c.base (here c).outs (get_or held (c.cell + cells_ahead board c.number c.place) K.low ∷ []) work =
      ap₂ (λ (os : List ℕ) (x : V). set work (c.base + get_or os 0 0) x) eo ev ∙ sym (one_write K c.base (here c).outs _ work (lone_cell c (level_there c e M s).1 p ec)) in
      by (λ c k M. First c → part (here c) ≡ Some cell → (work' : List V) → work' ≡ writes K c.base (here c).outs (get_or held (c.cell + cells_ahead board c.number c.place) K.low ∷ []) work → (ls' : List Level) → ls' ≡ set ls k (placed c (c.place + 1)) → State K board held work' ls' (top + 1) count (tick K M))
      (λ f fs n s p ec work' ew ls' el. States.cell_state (run f fs n s) p.0 p.1 ec work' ls' ew el)
      c e M s p ec (set work (c.base + get_or outs 0 0) v) ew ls' el

  -- into a module
  module _ (c : Level) (e : level_at ls top ≡ c) (M : Machine V) (s : Shown M) (p : c.pass ≢ Storing) (ch : Child) (is : ChildOf board c c.place ch) where
    enter_by : (top + 1 < length ls) × Enterable board c ch.number (here c).ins (length work)
    enter_by =
        by (λ c k M. First c → part (here c) ≡ Some (module_no ch.number) → (k + 1 < length ls) × Enterable board c ch.number (here c).ins (length work))
        (λ f fs n s p em.
        let r = run f fs n s in
        let path = States.enter_tick r p.0 p.1 ch.number em in
        let d = States.deeper r _ p.1 ch.number em _ path in
        (omega arith, States.enterable r _ p.1 ch.number em _ path))
        c e M s (p, is.within) is.part_is

    pub enter_there : top + 1 < length ls
    enter_there = enter_by.0

    pub enter_can : Enterable board c ch.number ch.ins.now (length work)
    enter_can = subst (λ (x : List ℕ). Enterable board c ch.number x (length work)) (sym is.ins_are) enter_by.1

    pub enter_on : ch.cell ≡ c.cell + cells_ahead board c.number c.place → (work' : List V) (ls' : List Level) → Opened K c.base ch.ins.now (child_base board c) (module_number board ch.number).wires work work' → ls' ≡ set ls (top + 1) (child_level board c ch.number ForOutputs ch.cell) → State K board held work' ls' (top + 2) count (tick K M)
    enter_on ec work' ls' op el =
        let op' : Opened K c.base (here c).ins (child_base board c) (module_number board ch.number).wires work work' = subst (λ (x : List ℕ). Opened K c.base x (child_base board c) (module_number board ch.number).wires work work') is.ins_are op in
        let el' : ls' ≡ set ls (top + 1) (child_level board c ch.number ForOutputs (c.cell + cells_ahead board c.number c.place)) = el ∙ ap (λ x. set ls (top + 1) (child_level board c ch.number ForOutputs x)) ec in
        let z : top + 1 + 1 ≡ top + 2 = omega arith in
        subst (λ d. State K board held work' ls' d count (tick K M)) z
        (by (λ c k M. First c → part (here c) ≡ Some (module_no ch.number) → Opened K c.base (here c).ins (child_base board c) (module_number board ch.number).wires work work' → ls' ≡ set ls (k + 1) (child_level board c ch.number ForOutputs (c.cell + cells_ahead board c.number c.place)) → State K board held work' ls' (top + 1 + 1) count (tick K M))
        (λ f fs n s p em op el. States.enter_state (run f fs n s) p.0 p.1 ch.number em work' ls' op el)
        c e M s (p, is.within) is.part_is op' el')

  -- The end of a first pass

  module _ (c : Level) (e : level_at ls top ≡ c) (M : Machine V) (s : Shown M) (h : length (module_of_level board c).occurrences ≤ c.place) where
    pub turn_on : c.pass ≢ ForOutputs → c.pass ≢ Storing → (ls' : List Level) → ls' ≡ set ls top (turned c) → State K board held work ls' (top + 1) count (tick K M)
    turn_on q p ls' el =
        by (λ c k M. length (module_of_level board c).occurrences ≤ c.place → c.pass ≢ ForOutputs → c.pass ≢ Storing → ls' ≡ set ls k (turned c) → State K board held work ls' (top + 1) count (tick K M))
        (λ f fs n s h q p el. States.turn_state (run f fs n s) p h q ls' el)
        c e M s h q p el

    abbrev Up : Level → ℕ → Type 0
    Up c k = (0 < k) × Leavable board c (level_at ls (k - 1)) (length work)

    leave_case : (f : Frame V) (fs : List (Frame V)) (n : ℕ) → Shown (busy f fs n) → length (module_of_level board (level_at ls (length fs))).occurrences ≤ (level_at ls (length fs)).place → (level_at ls (length fs)).pass ≡ ForOutputs → Up (level_at ls (length fs)) (length fs)
    leave_case f [] n s h z = absurd (outputs_wait K held (level_at ls 0) (cells (node f.owner f.below)) f.cs [] f.doing s.frames.2.0.doing z)
    leave_case f (p ∷ fs) n s h z =
        let q : length fs ≡ length (p ∷ fs) - 1 = omega arith in
        (omega arith, subst (λ k. Leavable board (level_at ls (length (p ∷ fs))) (level_at ls k) (length work)) q (Ends.leavable range sounds held work ls (top + 1) count f p fs n s many size h z))

    pub leave_can : c.pass ≡ ForOutputs → (0 < top) × Leavable board c (level_at ls (top - 1)) (length work)
    leave_can z = by (λ c k M. length (module_of_level board c).occurrences ≤ c.place → c.pass ≡ ForOutputs → Up c k) leave_case c e M s h z

    abbrev Left : Level → ℕ → List V → List Level → Type 0
    Left c k work' ls' = (work' ≡ writes K (level_at ls (k - 1)).base (here (level_at ls (k - 1))).outs (map (λ w. get_or work (c.base + w) K.low) (module_of_level board c).outs) work) × (ls' ≡ set ls (k - 1) (placed (level_at ls (k - 1)) ((level_at ls (k - 1)).place + 1)))

    leave_state : (work' : List V) (ls' : List Level) (f : Frame V) (fs : List (Frame V)) (n : ℕ) → Shown (busy f fs n) → length (module_of_level board (level_at ls (length fs))).occurrences ≤ (level_at ls (length fs)).place → (level_at ls (length fs)).pass ≡ ForOutputs → Left (level_at ls (length fs)) (length fs) work' ls' → State K board held work' ls' top count (tick K (busy f fs n))
    leave_state work' ls' f [] n s h z l = absurd (outputs_wait K held (level_at ls 0) (cells (node f.owner f.below)) f.cs [] f.doing s.frames.2.0.doing z)
    leave_state work' ls' f (p ∷ fs) n s h z l =
        let q : length (p ∷ fs) - 1 ≡ length fs = omega arith in
        let y : top + 1 - 1 ≡ top = omega arith in
        let w : (work' ≡ writes K (level_at ls (length fs)).base (here (level_at ls (length fs))).outs (map (λ w. get_or work ((level_at ls (length (p ∷ fs))).base + w) K.low) (module_of_level board (level_at ls (length (p ∷ fs)))).outs) work) × (ls' ≡ set ls (length fs) (placed (level_at ls (length fs)) ((level_at ls (length fs)).place + 1))) =
        subst (λ k. (work' ≡ writes K (level_at ls k).base (here (level_at ls k)).outs (map (λ w. get_or work ((level_at ls (length (p ∷ fs))).base + w) K.low) (module_of_level board (level_at ls (length (p ∷ fs)))).outs) work) × (ls' ≡ set ls k (placed (level_at ls k) ((level_at ls k).place + 1)))) q l in
        subst (λ d. State K board held work' ls' d count (tick K (busy f (p ∷ fs) n))) y (Ends.leave_state range sounds held work ls (top + 1) count f p fs n s many size h z work' ls' w.0 w.1)

    pub leave_on : c.pass ≡ ForOutputs → (work' : List V) (ls' : List Level) → Left c top work' ls' → State K board held work' ls' top count (tick K M)
    leave_on z work' ls' l = by (λ c k M. length (module_of_level board c).occurrences ≤ c.place → c.pass ≡ ForOutputs → Left c k work' ls' → State K board held work' ls' top count (tick K M)) (leave_state work' ls') c e M s h z l

  -- A second pass at an entry of the state list

  abbrev Second : Level → Type 0
  Second c = (c.pass ≡ Storing) × (c.place < length (module_of_level board c).states)

  abbrev entry_of : Level → ℕ
  entry_of c = get_or (module_of_level board c).states c.place 0

  abbrev stored_by : Level → Occurrence
  stored_by c = occurrence_no (module_of_level board c) (entry_of c)

  pub lone_in : (c : Level) → level_at ls top ≡ c → (M : Machine V) → Shown M → Second c → part (stored_by c) ≡ Some cell → (length (stored_by c).ins ≡ 1) × (c.base + get_or (stored_by c).ins 0 0 < length work) × (c.cell < length held)
  lone_in = by (λ c k M. Second c → part (stored_by c) ≡ Some cell → (length (stored_by c).ins ≡ 1) × (c.base + get_or (stored_by c).ins 0 0 < length work) × (c.cell < length held))
      (λ f fs n s p ec. let r = run f fs n s in (Stores.one_input r p.0 p.1 ec, Stores.read_there r p.0 p.1 ec, Stores.cell_there r p.0 p.1 ec))

  pub store_on : (c : Level) → level_at ls top ≡ c → (M : Machine V) → Shown M → Second c → part (stored_by c) ≡ Some cell → (held' : List V) (ls' : List Level) → held' ≡ set held c.cell (get_or work (c.base + get_or (stored_by c).ins 0 0) K.low) → ls' ≡ set ls top (advanced c (c.place + 1) (c.cell + 1)) → State K board held' work ls' (top + 1) count (tick K M)
  store_on c e M s p ec held' ls' eh el =
      by (λ c k M. Second c → part (stored_by c) ≡ Some cell → held' ≡ set held c.cell (get_or work (c.base + get_or (stored_by c).ins 0 0) K.low) → ls' ≡ set ls k (advanced c (c.place + 1) (c.cell + 1)) → State K board held' work ls' (top + 1) count (tick K M))
      (λ f fs n s p ec eh el. Stores.store_state (run f fs n s) p.0 p.1 ec held' ls' eh el)
      c e M s p ec eh el

  module _ (c : Level) (e : level_at ls top ≡ c) (M : Machine V) (s : Shown M) (p : Second c) (ch : Child) (is : ChildOf board c (entry_of c) ch) where
    again_by : (top + 1 < length ls) × Enterable board c ch.number (stored_by c).ins (length work)
    again_by =
        by (λ c k M. Second c → part (stored_by c) ≡ Some (module_no ch.number) → (k + 1 < length ls) × Enterable board c ch.number (stored_by c).ins (length work))
        (λ f fs n s p em.
        let r = run f fs n s in
        let d = States.deeper r _ (Stores.entry_in r p.0 p.1) ch.number em _ (Stores.again_tick r p.0 p.1 ch.number em) in
        (omega arith, Stores.again_enterable r p.0 p.1 ch.number em))
        c e M s p is.part_is

    pub again_there : top + 1 < length ls
    again_there = again_by.0

    pub again_can : Enterable board c ch.number ch.ins.now (length work)
    again_can = subst (λ (x : List ℕ). Enterable board c ch.number x (length work)) (sym is.ins_are) again_by.1

    pub again_on : ch.cell ≡ c.cell → (work' : List V) (ls' : List Level) → Opened K c.base ch.ins.now (child_base board c) (module_number board ch.number).wires work work' → ls' ≡ set ls (top + 1) (child_level board c ch.number ForBoth ch.cell) → State K board held work' ls' (top + 2) count (tick K M)
    again_on ec work' ls' op el =
        let op' : Opened K c.base (stored_by c).ins (child_base board c) (module_number board ch.number).wires work work' = subst (λ (x : List ℕ). Opened K c.base x (child_base board c) (module_number board ch.number).wires work work') is.ins_are op in
        let el' : ls' ≡ set ls (top + 1) (child_level board c ch.number ForBoth c.cell) = el ∙ ap (λ x. set ls (top + 1) (child_level board c ch.number ForBoth x)) ec in
        let z : top + 1 + 1 ≡ top + 2 = omega arith in
        subst (λ d. State K board held work' ls' d count (tick K M)) z
        (by (λ c k M. Second c → part (stored_by c) ≡ Some (module_no ch.number) → Opened K c.base (stored_by c).ins (child_base board c) (module_number board ch.number).wires work work' → ls' ≡ set ls (k + 1) (child_level board c ch.number ForBoth c.cell) → State K board held work' ls' (top + 1 + 1) count (tick K M))
        (λ f fs n s p em op el. Stores.again_state (run f fs n s) p.0 p.1 ch.number em work' ls' op el)
        c e M s p is.part_is op' el')

  -- The end of a second pass

  abbrev Done : Level → Type 0
  Done c = (c.pass ≡ Storing) × (length (module_of_level board c).states ≤ c.place)

  rise_case : (f : Frame V) (fs : List (Frame V)) (n : ℕ) → Shown (busy f fs n) → Done (level_at ls (length fs)) → 0 < length fs → (level_at ls (length fs - 1)).place < 64
  rise_case f [] n s d z = absurd (omega arith)
  rise_case f (p ∷ fs) n s d z =
      let q : length fs ≡ length (p ∷ fs) - 1 = omega arith in
      subst (λ k. (level_at ls k).place < 64) q (Ends.rise_small range sounds held work ls (top + 1) count f p fs n s many size d.0)

  pub rise_can : (c : Level) → level_at ls top ≡ c → (M : Machine V) → Shown M → Done c → 0 < top → (level_at ls (top - 1)).place < 64
  rise_can = by (λ c k M. Done c → 0 < k → (level_at ls (k - 1)).place < 64) rise_case

  abbrev Risen : Level → ℕ → List Level → Type 0
  Risen c k ls' = ls' ≡ set ls (k - 1) (advanced (level_at ls (k - 1)) ((level_at ls (k - 1)).place + 1) c.cell)

  rise_state : (ls' : List Level) (f : Frame V) (fs : List (Frame V)) (n : ℕ) → Shown (busy f fs n) → Done (level_at ls (length fs)) → 0 < length fs → Risen (level_at ls (length fs)) (length fs) ls' → State K board held work ls' top count (tick K (busy f fs n))
  rise_state ls' f [] n s d z el = absurd (omega arith)
  rise_state ls' f (p ∷ fs) n s d z el =
      let q : length (p ∷ fs) - 1 ≡ length fs = omega arith in
      let y : top + 1 - 1 ≡ top = omega arith in
      let c = level_at ls (length (p ∷ fs)) in
      let w : ls' ≡ set ls (length fs) (advanced (level_at ls (length fs)) ((level_at ls (length fs)).place + 1) c.cell) = subst (λ k. ls' ≡ set ls k (advanced (level_at ls k) ((level_at ls k).place + 1) c.cell)) q el in
      subst (λ k. State K board held work ls' k count (tick K (busy f (p ∷ fs) n))) y (Ends.rise_state range sounds held work ls (top + 1) count f p fs n s many size d.0 d.1 ls' w)

  pub rise_on : (c : Level) → level_at ls top ≡ c → (M : Machine V) → Shown M → Done c → 0 < top → (ls' : List Level) → Risen c top ls' → State K board held work ls' top count (tick K M)
  rise_on c e M s d z ls' el = by (λ c k M. Done c → 0 < k → Risen c k ls' → State K board held work ls' top count (tick K M)) (rise_state ls') c e M s d z el

  halt_state : (f : Frame V) (fs : List (Frame V)) (n : ℕ) → Shown (busy f fs n) → Done (level_at ls (length fs)) → length fs ≤ 0 → State K board held work ls top count (tick K (busy f fs n))
  halt_state f [] n s d z =
      let y : top + 1 - 1 ≡ top = omega arith in
      subst (λ k. State K board held work ls k count (tick K (busy f [] n))) y (Ends.halt_state range sounds held work ls (top + 1) count f n s many size d.0 d.1)
  halt_state f (p ∷ fs) n s d z = absurd (omega arith)

  pub halt_on : (c : Level) → level_at ls top ≡ c → (M : Machine V) → Shown M → Done c → top ≤ 0 → State K board held work ls top count (tick K M)
  halt_on = by (λ c k M. Done c → k ≤ 0 → State K board held work ls top count (tick K M)) halt_state
