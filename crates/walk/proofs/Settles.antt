-- A walk whose last level goes on within a pass: what an occurrence relies on, and the state behind it.
use Rattle.std.proofs.Common.{◌≡◌, ℕ, ◌+◌, ◌-◌, ◌<◌, ◌≤◌, ◌≢◌, List, map, length, get_or, take, drop, set, Some, sym, refl, ap, ◌∙◌, subst, arith, length-set}
use Rattle.std.proofs.lemmas.List.{set-set}
use Rattle.gates.specs.declared.Gate.{Gate}
use Rattle.gates.specs.declared.Part.TheVariants.{Gate as gate, Cell as cell}
use Rattle.signal.specs.Kinds.{Kind}
use Rattle.signal.specs.GateValues.{gate_value}
use Rattle.rules.specs.Boards.{Occurrence, Module, part, occurrence_no}
use Rattle.flat.specs.Machine.{Machine, result, ticks_left}
use Rattle.board.specs.Lent.{board_in}
use Rattle.walk.specs.declared.level.Level.{Level}
use Rattle.walk.specs.declared.level.Pass.TheVariants.{Storing}
use Rattle.walk.specs.declared.stack.Walk.{Walk}
use Rattle.walk.specs.Levels.{level_at, placed, advanced, cells_ahead, module_of_level}
use Rattle.walk.specs.Shown.{State, Later}
use Rattle.walk.specs.Walks.{last, ShownBy}
use Rattle.walk.proofs.Sim.{level_same}
use Rattle.walk.proofs.Turns

-- the number of the last level and how many there are
number_last : (depth : ℕ) → 0 < depth → depth ≡ depth - 1 + 1
number_last depth h = omega arith

module _ {V : Type 0} (K : Kind V) (board : List Module) {held work : List V} {ls : List Level} {depth count : ℕ} where
  pub by_last : (M : Machine V) → 0 < depth → State K board held work ls depth count M → State K board held work ls (depth - 1 + 1) count M
  by_last M h = subst (λ k. State K board held work ls k count M) (number_last depth h)

  pub by_depth : (M : Machine V) → 0 < depth → Later K board held work ls (depth - 1 + 1) count M → Later K board held work ls depth count M
  by_depth M h = subst (λ k. Later K board held work ls k count M) (sym (number_last depth h))

-- a level whose place is written once more
pub moved : (L ls : List Level) (top k : ℕ) (c : Level) → top < length ls → L ≡ set ls top c → set L top (placed (level_at L top) k) ≡ set ls top (placed c k)
moved L ls top k c h e =
    ap (λ (l : List Level). set l top (placed (level_at l top) k)) e ∙ ap (λ (z : Level). set (set ls top c) top (placed z k)) (level_same ls top c h) ∙ set-set ls top c (placed c k)

-- a level's place is written, and then its cell
abbrev pub twice : List Level → ℕ → ℕ → ℕ → List Level
twice L top place cell' =
    set (set L top (placed (level_at L top) place)) top (advanced (level_at (set L top (placed (level_at L top) place)) top) (level_at (set L top (placed (level_at L top) place)) top).place cell')

pub entry_moved : (L ls : List Level) (top k cell' : ℕ) (c : Level) → top < length ls → L ≡ set ls top c → twice L top k cell' ≡ set ls top (advanced c k cell')
entry_moved L ls top k cell' c h e =
    let x = placed c k in
    ap (λ (l : List Level). set l top (advanced (level_at l top) (level_at l top).place cell')) (moved L ls top k c h e)
    ∙ ap (λ (z : Level). set (set ls top x) top (advanced z z.place cell')) (level_same ls top x h)
    ∙ set-set ls top x (advanced x x.place cell')

-- the level that was written
pub written : (L ls : List Level) (top : ℕ) (c : Level) → top < length ls → L ≡ set ls top c → level_at L top ≡ c
written L ls top c h e = ap (λ (l : List Level). level_at l top) e ∙ level_same ls top c h

module _ {V : Type 0} (K : Kind V) (w : Walk V) where
  abbrev board : List Module
  board = board_in w.top.tables

  abbrev top : ℕ
  top = w.depth - 1

  -- the last level's number and its module's
  pub there : 0 < w.depth → (M : Machine V) → ShownBy K w M → (top < length w.levels.now) × ((last w).number < length board)
  there h M s =
      Turns.level_there K w.top.tables w.top.right w.cells.now w.work.now w.levels.now top w.count w.many w.size (last w) refl M (by_last K board M h s)

  -- between two writes the last level is c
  pub record Point (held work : List V) (count : ℕ) (c : Level) : Type 0 where
    pub some : 0 < w.depth
    pub level : top < length w.levels.now
    pub size : 1024 ≤ length work
    pub machine : Machine V
    pub state : State K board held work (set w.levels.now top c) w.depth count machine

  module _ {held work : List V} {count : ℕ} {c : Level} (x : Point held work count c) where
    abbrev ls : List Level
    ls = set w.levels.now top c

    abbrev N : Machine V
    N = x.machine

    s : State K board held work ls (top + 1) count N
    s = by_last K board N x.some x.state

    at_top : level_at ls top ≡ c
    at_top = level_same w.levels.now top c x.level

    many : 8 ≤ length ls
    many = omega (arith, length-set w.levels.now top c, w.many)

    pub number_there : c.number < length board
    number_there = (Turns.level_there K w.top.tables w.top.right held work ls top count many x.size c at_top N s).1

    pub room : c.base ≤ length work
    room = omega (arith, Turns.room K w.top.tables w.top.right held work ls top count many x.size c at_top N s, x.size)

    pub count_small : count ≤ (result K x.machine).count
    count_small = Turns.count_small K w.top.tables w.top.right held work ls top count many x.size N s

    -- A first pass at an occurrence

    module _ (p : c.pass ≢ Storing) (h : c.place < length (module_of_level board c).occurrences) where
      abbrev o : Occurrence
      o = occurrence_no (module_of_level board c) c.place

      pub ins_there : (ins : List ℕ) → ins ≡ o.ins → (j : ℕ) → j < length ins → get_or ins j 0 < length (take (length work - c.base) (drop c.base work))
      ins_there = Turns.ins_there K w.top.tables w.top.right held work ls top count many x.size c at_top N s (p, h)

      pub lone_gate : (g : Gate) → part o ≡ Some (gate g) → length o.outs ≡ 1
      lone_gate = Turns.lone_out K w.top.tables w.top.right held work ls top count many x.size c number_there (p, h)

      pub lone_cell : part o ≡ Some cell → length o.outs ≡ 1
      lone_cell = Turns.lone_cell K w.top.tables w.top.right held work ls top count many x.size c number_there (p, h)

      pub out_there : length o.outs ≡ 1 → (outs : List ℕ) → outs ≡ o.outs → c.base + get_or outs 0 0 < length work
      out_there = Turns.out_there K w.top.tables w.top.right held work ls top count many x.size c at_top N s (p, h)

      pub own_there : c.cell + cells_ahead board c.number c.place ≤ length held
      own_there = Turns.own_there K w.top.tables w.top.right held work ls top count many x.size c at_top N s (p, h)

      pub cell_there : part o ≡ Some cell → c.cell + cells_ahead board c.number c.place < length held
      cell_there = Turns.cell_there K w.top.tables w.top.right held work ls top count many x.size c at_top N s (p, h)

      next : set w.levels.now top (placed c (c.place + 1)) ≡ set ls top (placed c (c.place + 1))
      next = sym (set-set w.levels.now top c (placed c (c.place + 1)))

      module _ (M : Machine V) (same : result K x.machine ≡ result K M) (less : ticks_left x.machine ≤ ticks_left M) where
        pub gate_later : (g : Gate) → part o ≡ Some (gate g) → (ins outs : List ℕ) → ins ≡ o.ins → outs ≡ o.outs → (v : V) → v ≡ gate_value K g (map (λ i. get_or (take (length work - c.base) (drop c.base work)) i K.low) ins) → Later K board held (set work (c.base + get_or outs 0 0) v) (set w.levels.now top (placed c (c.place + 1))) w.depth (count + 1) M
        gate_later g eg ins outs ei eo v ev =
            by_depth K board M x.some (Turns.later_tick K board held _ _ (top + 1) (count + 1) M N (Turns.gate_on K w.top.tables w.top.right held work ls top count many x.size c at_top N s (p, h) g eg ins outs ei eo v ev (set w.levels.now top (placed c (c.place + 1))) next) held work ls (top + 1) count s same less)

        pub cell_later : part o ≡ Some cell → (outs : List ℕ) → outs ≡ o.outs → (v : V) → v ≡ get_or held (c.cell + cells_ahead board c.number c.place) K.low → Later K board held (set work (c.base + get_or outs 0 0) v) (set w.levels.now top (placed c (c.place + 1))) w.depth count M
        cell_later ec outs eo v ev =
            by_depth K board M x.some (Turns.later_tick K board held _ _ (top + 1) count M N (Turns.cell_on K w.top.tables w.top.right held work ls top count many x.size c at_top N s (p, h) ec outs eo v ev (set w.levels.now top (placed c (c.place + 1))) next) held work ls (top + 1) count s same less)

    -- A second pass at an entry of the state list

    module _ (p : c.pass ≡ Storing) (h : c.place < length (module_of_level board c).states) where
      abbrev e : Occurrence
      e = occurrence_no (module_of_level board c) (get_or (module_of_level board c).states c.place 0)

      pub lone_in : part e ≡ Some cell → (length e.ins ≡ 1) × (c.base + get_or e.ins 0 0 < length work) × (c.cell < length held)
      lone_in = Turns.lone_in K w.top.tables w.top.right held work ls top count many x.size c at_top N s (p, h)

      next' : set w.levels.now top (advanced c (c.place + 1) (c.cell + 1)) ≡ set ls top (advanced c (c.place + 1) (c.cell + 1))
      next' = sym (set-set w.levels.now top c (advanced c (c.place + 1) (c.cell + 1)))

      pub store_later : (M : Machine V) → result K x.machine ≡ result K M → ticks_left x.machine ≤ ticks_left M → part e ≡ Some cell → (v : V) → v ≡ get_or work (c.base + get_or e.ins 0 0) K.low → Later K board (set held c.cell v) work (set w.levels.now top (advanced c (c.place + 1) (c.cell + 1))) w.depth count M
      store_later M same less ec v ev =
          by_depth K board M x.some (Turns.later_tick K board (set held c.cell v) work _ (top + 1) count M N (Turns.store_on K w.top.tables w.top.right held work ls top count many x.size c at_top N s (p, h) ec (set held c.cell v) (set w.levels.now top (advanced c (c.place + 1) (c.cell + 1))) (ap (set held c.cell) ev) next') held work ls (top + 1) count s same less)
