-- A step's start, its turns and its end: the machine that begins the step is shown, and one that has halted gives what the
-- step gives.
use Rattle.std.proofs.Common.{◌≡◌, ℕ, ◌+◌, ◌<◌, ◌≤◌, Bool, true, eqb, leb, List, [], map, length, get_or, sym, refl, ap, ◌∙◌, subst, arith, ap₂}
use Rattle.std.proofs.lemmas.Bool.{and_parts, eqb-true, leb-true}
use Rattle.signal.specs.Kinds.{Kind}
use Rattle.rules.specs.Boards.{Module, Design, node, top, in_count, out_wires, module_number, cells}
use Rattle.rules.specs.Judging.{board_of}
use Rattle.rules.proofs.Sounds
use Rattle.flat.specs.Passes.{start, Stepped, step_of}
use Rattle.flat.specs.Machine.{for_both, Level as Frame, Machine, busy, halted, begun, result}
use Rattle.flat.proofs.Sums.{cells_by_states}
use Rattle.flat.proofs.Machine.{machine_keeps}
use Rattle.flat.proofs.Deep.{by_number}
use Rattle.flat.proofs.Windows.{windows_show}
use Rattle.flat.proofs.Places.{all_at}
use Rattle.board.specs.declared.board.Board.{Board}
use Rattle.board.specs.declared.lent.Tables.{Tables}
use Rattle.board.specs.Lent.{board_in, behind, Right}
use Rattle.walk.specs.declared.level.Level.{Level}
use Rattle.walk.specs.declared.stack.Walk.{Walk}
use Rattle.walk.specs.Levels.{no_level, level_at, module_in}
use Rattle.walk.specs.Shown.{ShowsLevel, State, left}
use Rattle.walk.specs.Walks.{ShownBy, AfterBy}
use Rattle.walk.specs.Steps.{design_in, fits_board, Step}
use Rattle.walk.proofs.Bytes.{range, keeps}
use Rattle.walk.proofs.Measure.{left_is}
use Rattle.walk.proofs.Counts.{step_small}

-- memory that fits a board
pub record Fitting (d : Design) (inputs stored outputs values levels : ℕ) : Type 0 where
  pub inputs_are : inputs ≡ in_count d
  pub cells_are : stored ≡ cells d
  pub outputs_are : outputs ≡ length (out_wires d)
  pub many_values : 1024 ≤ values
  pub many_levels : 8 ≤ levels

pub fitting : {V : Type 0} (d : Design) (ins cs outs work : List V) (ls : List Level) (r : Bool) → r ≡ fits_board d (length ins) (length cs) (length outs) (length work) (length ls) → r ≡ true → Fitting d (length ins) (length cs) (length outs) (length work) (length ls)
fitting d ins cs outs work ls r e taken =
    let p = and_parts (eqb (length ins) (in_count d)) _ (sym e ∙ taken) in
    let q = and_parts (eqb (length cs) (cells d)) _ p.1 in
    let o = and_parts (eqb (length outs) (length (out_wires d))) _ q.1 in
    let s = and_parts (leb 1024 (length work)) (leb 8 (length ls)) o.1 in
    record { inputs_are = eqb-true _ _ p.0; cells_are = eqb-true _ _ q.0; outputs_are = eqb-true _ _ o.0; many_values = leb-true _ _ s.0; many_levels = leb-true _ _ s.1 }

-- the top of a board, by its tables
module _ (t : Tables) (right : Right t) (b : Board) (file_is : t.file.now ≡ b.judged.file.now) where
  abbrev board : List Module
  board = board_in t

  abbrev d : Design
  d = design_in b

  abbrev m : Module
  m = module_number board 0

  abbrev below : ℕ → Design
  below = behind board 0

  pub some : 0 < length board
  some = (range t right).some

  kept : Sounds.Right (node m below)
  kept = keeps t right 0 some

  top_is : d ≡ node m below
  top_is = ap (λ f. top (board_of f)) (sym file_is) ∙ by_number.here board 0 some

  pub inputs_wired : in_count d ≤ m.wires
  inputs_wired = let a = ap in_count top_is in let b = ((range t right).each 0 some).inputs_wired in omega arith

  pub wires_few : m.wires ≤ 128
  wires_few = ((range t right).each 0 some).wires

  pub outputs_many : length (out_wires d) ≡ length m.outs
  outputs_many = ap (λ x. length (out_wires x)) top_is

  pub outputs_low : (j : ℕ) → j < length m.outs → get_or m.outs j 0 < m.wires
  outputs_low = all_at (λ w. w < m.wires) 0 m.outs kept.sound.wire

  module _ {V : Type 0} (K : Kind V) (ins cs : List V) where
    abbrev pub first_machine : Machine V
    first_machine = begun K m below ins cs

    pub first_result : result K first_machine ≡ step_of K d ins cs
    first_result = (machine_keeps V).begins K m below kept.sound ins cs ∙ ap (λ x. step_of K x ins cs) (sym top_is)

    pub few_gates : (M : Machine V) → result K M ≡ step_of K d ins cs → (result K M).count ≤ 524280
    few_gates M e =
        let a = ap (λ (r : Stepped V). r.count) (e ∙ ap (λ x. step_of K x ins cs) top_is) in
        let b = step_small K (node m below) kept.sound kept.few_places kept.shallow ins cs in
        omega arith

    pub first_state : (work : List V) (ls : List Level) → length ins ≡ in_count d → length cs ≡ cells d → ((k : ℕ) → k < length ins → get_or work k K.low ≡ get_or ins k K.low) → ((k : ℕ) → length ins ≤ k → k < m.wires → get_or work k K.low ≡ K.low) → level_at ls 0 ≡ no_level → State K board cs work ls 1 0 first_machine
    first_state work ls li lc given rest e =
        let f : Frame V = record { owner = m; below = below; cs = cs; ws = start K m.inputs ins; place = 0; doing = for_both } in
        let li' : length ins ≡ m.inputs = li ∙ ap in_count top_is in
        let lc' : length cs ≡ cells (node m below) = lc ∙ ap cells top_is in
        let z : (k : ℕ) → 0 + k ≡ k = λ k. omega arith in
        let deep = kept.shallow in
        let new : ShowsLevel K board cs work no_level f [] =
        record {
          number = some;
          first = λ q. refl;
          owner = refl;
          below = refl;
          place = refl;
          low = omega arith;
          wires = (windows_show V K).begins work 0 m.wires m.inputs ins (λ k h. ap (λ q. get_or work q K.low) (z k) ∙ given k (omega arith)) (λ k h l. ap (λ q. get_or work q K.low) (z k) ∙ rest k (omega arith) l);
          doing = (refl, (omega arith, λ k h. ap (λ q. get_or cs q K.low) (z k)), refl, tt);
        } in
        record {
          frames = (refl, refl, subst (λ (x : Level). ShowsLevel K board cs work x f [] × (x.base + m.wires ≤ x.base + m.wires) × Unit {0}) (sym e) (new, omega arith, tt));
          row = refl;
          sound = (kept.sound, tt);
          deep = (omega arith, tt);
          order = (lc' ∙ cells_by_states m below kept.sound, tt);
        }

-- A turn leaves fewer ticks
pub fewer_left : {V : Type 0} (K : Kind V) (v w : Walk V) (M : Machine V) → ShownBy K v M → AfterBy K w M → left (board_in w.top.tables) w.levels.now w.depth < left (board_in v.top.tables) v.levels.now v.depth
fewer_left K v w M s x =
    let a = left_is K (board_in v.top.tables) v.cells.now v.work.now v.levels.now v.depth v.count M s in
    let b = left_is K (board_in w.top.tables) w.cells.now w.work.now w.levels.now w.depth w.count x.0 x.1 in
    let f = x.3 in
    omega arith

-- a walk with no level left shows a machine that has halted
module _ {V : Type 0} (K : Kind V) (w : Walk V) where
  halted_step : (M : Machine V) → ShownBy K w M → w.depth ≡ 0 → (d : Design) (ins cs : List V) → result K M ≡ step_of K d ins cs → {outputs' : List V} → outputs' ≡ map (λ i. get_or w.work.now i K.low) (module_in w.top.tables 0).outs → Step K d ins cs outputs' w.cells.now w.count
  halted_step (busy f fs n) s h d ins cs e o = let q = s.frames.0 in let z : ⊥ = omega arith in absurd z
  halted_step (halted r) s h d ins cs e o =
      record {
        outputs = o ∙ sym s.frames.2 ∙ ap (λ (x : Stepped V). x.outs) e;
        cells = sym s.row ∙ ap (λ (x : Stepped V). x.cells) e;
        count = sym s.frames.1 ∙ ap (λ (x : Stepped V). x.count) e;
      }

  pub halted_gives : (M : Machine V) → ShownBy K w M → w.depth ≡ 0 → (d : Design) (ins cs : List V) → result K M ≡ step_of K d ins cs → {outputs' work held : List V} {outs : List ℕ} → outputs' ≡ map (λ i. get_or work i K.low) outs → outs ≡ (module_in w.top.tables 0).outs → work ≡ w.work.now → held ≡ w.cells.now → Step K d ins cs outputs' held w.count
  halted_gives M s h d ins cs e {outputs'} o eo ew eh =
      subst (λ (x : List V). Step K d ins cs outputs' x w.count) (sym eh)
      (halted_step M s h d ins cs e (o ∙ ap₂ (λ (x : List V) (y : List ℕ). map (λ i. get_or x i K.low) y) ew eo))
