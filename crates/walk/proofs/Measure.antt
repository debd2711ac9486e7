-- How many ticks are left, by the levels, and that the count only rises.
use Rattle.std.proofs.Common.{◌≡◌, ℕ, suc, ◌+◌, ◌≤◌, List, [], ◌∷◌, ◌++◌, map, length, drop, sym, refl, ap, ◌∙◌, ap₂, arith}
use Rattle.signal.specs.Kinds.{Kind}
use Rattle.rules.specs.Boards.{Module, Design, node, cells}
use Rattle.flat.specs.Machine.{Doing, for_outputs, for_both, storing, Level as Frame, Machine, busy, halted, passed, saved, entry, occurrence_of, tick, level_left, levels_left, ticks_left, Onward, finished, walk, comes, onward, result, SoundMachine}
use Rattle.flat.proofs.Ticks.{ticks_fall}
use Rattle.board.specs.Lent.{behind}
use Rattle.walk.specs.declared.level.Level.{Level}
use Rattle.walk.specs.declared.level.Pass.{Pass}
use Rattle.walk.specs.Levels.{level_at, module_of_level}
use Rattle.walk.specs.Shown.{Does, ShowsLevel, Stack, State, pass_left, one_left, above_left, left}

module _ {V : Type 0} (K : Kind V) where
  does_left : (x : Module) (b : ℕ → Design) (k : ℕ) (held : List V) (c : Level) (n : ℕ) (cs : List V) (fs : List (Frame V)) (d : Doing V) → Does K held c n cs fs d → pass_left c.pass x b k ≡ level_left x b k d
  does_left x b k held c n cs fs for_outputs a = ap (λ (p : Pass). pass_left p x b k) a.0
  does_left x b k held c n cs fs for_both a = ap (λ (p : Pass). pass_left p x b k) a.0
  does_left x b k held c n cs fs (storing done rest) a = ap (λ (p : Pass). pass_left p x b k) a.0

  module _ (board : List Module) (held work : List V) where
    level_is : (c : Level) (f : Frame V) (fs : List (Frame V)) → ShowsLevel K board held work c f fs → (k : ℕ) → one_left board c k ≡ level_left f.owner f.below k f.doing
    level_is c f fs one k =
        does_left (module_of_level board c) (behind board c.number) k held c (cells (node f.owner f.below)) f.cs fs f.doing one.doing
        ∙ ap₂ (λ (x : Module) (b : ℕ → Design). level_left x b k f.doing) (sym one.owner) (sym one.below)

    levels_are : (ls : List Level) (fs : List (Frame V)) (end : ℕ) → Stack K board held work ls end fs → above_left board ls (length fs) ≡ levels_left fs
    unfolding above_left
    levels_are ls [] end s = refl
    levels_are ls (f ∷ fs) end s =
        let c = level_at ls (length fs) in
        ap₂ (λ (a b : ℕ). a + b) (level_is c f fs s.0 (suc c.place) ∙ ap (λ k. level_left f.owner f.below (suc k) f.doing) (sym s.0.place)) (levels_are ls fs c.base s.2)

    pub left_is : (ls : List Level) (depth count : ℕ) (M : Machine V) → State K board held work ls depth count M → left board ls depth ≡ ticks_left M
    unfolding left
    left_is ls depth count (busy f fs n) s =
        let c = level_at ls (length fs) in
        let st = s.frames.2 in
        ap (left board ls) s.frames.0
        ∙ ap₂ (λ (a b : ℕ). a + b) (level_is c f fs st.0 c.place ∙ ap (λ k. level_left f.owner f.below k f.doing) (sym st.0.place)) (levels_are ls fs c.base st.2)
    left_is ls depth count (halted r) s = ap (left board ls) s.frames.0

  -- a tick leaves no more
  pub never_more : (M : Machine V) → SoundMachine K M → ticks_left (tick K M) ≤ ticks_left M
  never_more (busy f fs n) s = let e = ticks_fall V K f fs n s in omega arith
  never_more (halted r) s = omega arith

  -- The count

  abbrev Grows : Onward K → Type 0
  Grows up = ((vs : List V) (n : ℕ) → n ≤ (up.with_outputs vs n).count) × ((vs ds : List V) (n : ℕ) → n ≤ (up.with_cells vs ds n).count)

  comes_grows : (up : Onward K) → Grows up → (f : Frame V) (n : ℕ) (d : Doing V) → n ≤ (comes K up f n d).count
  comes_grows up g f n for_outputs = let a = g.0 (map (finished K f).values f.owner.outs) (n + (finished K f).count) in omega arith
  comes_grows up g f n for_both =
      let w = walk K f.owner f.below (finished K f).values f.owner.states f.cs in
      let a = g.1 (map (finished K f).values f.owner.outs) w.values (n + (finished K f).count + w.count) in
      omega arith
  comes_grows up g f n (storing done rest) =
      let w = walk K f.owner f.below f.ws (drop f.place f.owner.states) rest in
      let a = g.1 (map f.ws f.owner.outs) (done ++ w.values) (n + w.count) in
      omega arith

  onward_grows : (fs : List (Frame V)) → Grows (onward K fs)
  onward_grows [] = (λ vs n. omega arith, λ vs ds n. omega arith)
  onward_grows (p ∷ ps) = (
    λ vs n. comes_grows (onward K ps) (onward_grows ps) (passed K p (occurrence_of K p) vs) n p.doing,
    λ vs ds n. comes_grows (onward K ps) (onward_grows ps) (saved K p (entry K p) ds) n (saved K p (entry K p) ds).doing,
  )

  pub count_grows : (f : Frame V) (fs : List (Frame V)) (n : ℕ) → n ≤ (result K (busy f fs n)).count
  count_grows f fs n = comes_grows (onward K fs) (onward_grows fs) f n f.doing
