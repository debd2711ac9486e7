-- Facts of a board whose modules are sound: pins, the modules that are used, and where cells lie.
use Rattle.std.proofs.Common.{◌≡◌, ℕ, zero, suc, ◌+◌, ◌<◌, ◌≤◌, Bool, true, false, cond, eqb, List, [], ◌∷◌, length, get_or, Some, Option, sym, refl, ap, ◌∙◌, subst, le_of_suc-le-suc, not-suc-le-zero, arith}
use Rattle.std.proofs.lemmas.Bool.{eqb-true, eq-eqb, lt-ltb}
use Rattle.gates.specs.declared.Gate.{Gate}
use Rattle.gates.specs.declared.Part.{Part}
use Rattle.gates.specs.declared.Part.TheVariants.{Gate as gate, Module as module_no}
use Rattle.rules.specs.Boards.{Occurrence, Module, Design, absent, node, present, part, module_number, occurrence_no, design_from, sum_of, cells_of, cells, cells_at, ahead, inputs_due, outputs_due}
use Rattle.rules.specs.Wires.{times}
use Rattle.rules.specs.Judging.{times_due}
use Rattle.rules.specs.Sound.{All, Refers, Fits, Sound}
use Rattle.flat.proofs.Deep.{by_number}
use Rattle.flat.proofs.Lists.{fits_at, refer_at}
use Rattle.flat.proofs.Sums.{cells_by_states}
use Rattle.flat.proofs.Places.{all_at}
use Rattle.board.specs.Lent.{behind}
use Rattle.walk.specs.Levels.{cells_ahead}

-- The modules that a module uses

sound_present : (d : Design) → Sound d → present d ≡ true
sound_present absent s = absurd s
sound_present (node m below) s = refl

present_within : (k : ℕ) (ms : List Module) (j : ℕ) → present (design_from k ms j) ≡ true → j < k + length ms
present_within k [] j p = let z : ◌≡◌ {A = ℕ} 0 1 = cc in omega arith
present_within k (m ∷ ms) j p = by (present_within (suc k) ms j) (eqb j k) refl p
  where
    by : (present (design_from (suc k) ms j) ≡ true → j < suc k + length ms) → (b : Bool) → eqb j k ≡ b → present (cond b (node m (design_from (suc k) ms)) (design_from (suc k) ms j)) ≡ true → j < k + length (m ∷ ms)
    by ih true e q = let s = eqb-true j k e in omega arith
    by ih false e q = let l = ih q in omega arith

-- a module that module k may use is the board's module of that number
pub behind_is : (board : List Module) (k j : ℕ) → Sound (behind board k j) → (j < length board) × (behind board k j ≡ node (module_number board j) (behind board j))
behind_is board k j s =
    let p = sound_present (behind board k j) s in
    let t = by_number.there board k j p in
    let w = present_within 0 board j (ap present (sym t.1) ∙ p) in
    let h : j < length board = omega arith in
    (h, t.1 ∙ by_number.here board j h)

-- Cells ahead

ahead_all : (size : ℕ → ℕ) (ss : List ℕ) (i : ℕ) → ahead size ss i ≤ sum_of size ss
ahead_all size [] i = omega arith
ahead_all size (s ∷ ss) i = by (ahead_all size ss i) (eqb s i)
  where
    by : ahead size ss i ≤ sum_of size ss → (b : Bool) → cond b 0 (size s + ahead size ss i) ≤ size s + sum_of size ss
    by ih true = omega arith
    by ih false = omega arith

ahead_in : (size : ℕ → ℕ) (ss : List ℕ) (i : ℕ) → 0 < times i ss → ahead size ss i + size i ≤ sum_of size ss
ahead_in size [] i h = absurd (not-suc-le-zero h)
ahead_in size (s ∷ ss) i h = by (ahead_in size ss i) (eqb s i) refl h
  where
    by : (0 < times i ss → ahead size ss i + size i ≤ sum_of size ss) → (b : Bool) → eqb s i ≡ b → 0 < cond b 1 0 + times i ss → cond b 0 (size s + ahead size ss i) + size i ≤ size s + sum_of size ss
    by ih true e q = let z = ap size (eqb-true s i e) in omega arith
    by ih false e q = let l = ih (omega arith) in omega arith

pub times_in : (ss : List ℕ) (k : ℕ) → k < length ss → 0 < times (get_or ss k 0) ss
times_in [] k h = absurd (not-suc-le-zero h)
times_in (s ∷ ss) zero h =
    let e : ◌≡◌ {A = ℕ} (cond (eqb s s) 1 0) 1 = ap (λ (b : Bool). cond b 1 0) (eq-eqb s s refl) in
    let t : 0 < cond (eqb s s) 1 0 + times s ss = omega arith in
    t
times_in (s ∷ ss) (suc k) h =
    let l = times_in ss k (le_of_suc-le-suc h) in
    let t : 0 < cond (eqb s (get_or ss k 0)) 1 0 + times (get_or ss k 0) ss = omega arith in
    t

due_some : (n : ℕ) → 0 < n → times_due n ≡ 1
due_some n h = ap (λ (b : Bool). cond b 1 0) (lt-ltb 0 n h)

module _ (board : List Module) (sounds : (k : ℕ) → k < length board → Sound (node (module_number board k) (behind board k))) (k : ℕ) (h : k < length board) where
  abbrev m : Module
  m = module_number board k

  abbrev o : ℕ → Occurrence
  o i = occurrence_no m i

  module _ (i : ℕ) (l : i < length m.occurrences) where
    fitting : (dr : ℕ → Bool) × Fits (λ j. Sound (behind board k j)) (behind board k) m.wires dr (o i)
    fitting = fits_at m (behind board k) (sounds k h) i l

    pub ins_all : All (λ w. w < m.wires) (o i).ins
    ins_all = fitting.1.wire_in

    pub outs_all : All (λ w. w < m.wires) (o i).outs
    outs_all = fitting.1.wire_out

    pub ins_below : (j : ℕ) → j < length (o i).ins → get_or (o i).ins j 0 < m.wires
    ins_below = all_at (λ w. w < m.wires) 0 (o i).ins ins_all

    pub outs_below : (j : ℕ) → j < length (o i).outs → get_or (o i).outs j 0 < m.wires
    outs_below = all_at (λ w. w < m.wires) 0 (o i).outs outs_all

    pub ins_count : (p : Option Part) → part (o i) ≡ p → length (o i).ins ≡ inputs_due (behind board k) p
    ins_count p e = fitting.1.pins_in ∙ ap (inputs_due (behind board k)) e

    pub outs_count : (p : Option Part) → part (o i) ≡ p → length (o i).outs ≡ length (outputs_due (behind board k) p)
    outs_count p e = fitting.1.pins_out ∙ ap (λ q. length (outputs_due (behind board k) q)) e

    -- the module that occurrence i is
    pub child_is : (j : ℕ) → part (o i) ≡ Some (module_no j) → (j < length board) × (behind board k j ≡ node (module_number board j) (behind board j))
    child_is j e = behind_is board k j (subst (Refers (λ j. Sound (behind board k j))) e (refer_at m (behind board k) (sounds k h) i l))

    pub cells_fit : cells_ahead board k i + cells_at m (behind board k) i ≤ cells (node m (behind board k))
    cells_fit = by (cells_at m (behind board k) i) refl
      where
        by : (n : ℕ) → cells_at m (behind board k) i ≡ n → cells_ahead board k i + cells_at m (behind board k) i ≤ cells (node m (behind board k))
        by zero e = let a = ahead_all (cells_at m (behind board k)) m.states i in let q = cells_by_states m (behind board k) (sounds k h) in omega arith
        by (suc n) e =
            let t : times i m.states ≡ 1 = (sounds k h).state i l ∙ due_some (cells_at m (behind board k) i) (omega arith) in
            let a = ahead_in (cells_at m (behind board k)) m.states i (omega arith) in
            let q = cells_by_states m (behind board k) (sounds k h) in
            omega arith

  module _ (n : ℕ) (l : n < length m.states) where
    abbrev s : ℕ
    s = get_or m.states n 0

    pub entry_within : s < length m.occurrences
    entry_within = all_at (λ s. s < length m.occurrences) 0 m.states (sounds k h).state_in n l

    -- an entry of the state list is no gate
    pub entry_no_gate : (g : Gate) → part (o s) ≡ Some (gate g) → ⊥
    entry_no_gate g e =
        let a = times_in m.states n l in
        let b : times s m.states ≡ 0 = (sounds k h).state s entry_within ∙ ap (λ p. times_due (cells_of (λ j. cells (behind board k j)) p)) e in
        omega arith
