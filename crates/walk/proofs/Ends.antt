-- The state as a pass ends: outputs and cells go to the level above, or the walk is done.
use Rattle.std.proofs.Common.{◌≡◌, ℕ, suc, ◌+◌, ◌-◌, ◌<◌, ◌≤◌, ◌≢◌, List, [], ◌∷◌, ◌++◌, map, length, get_or, set, Some, sym, refl, ap, ◌∙◌, subst, ap₂, add-one, arith}
use mathlib.Core.Path.{fun_ext}
use Rattle.std.proofs.lemmas.List.{length-append}
use Rattle.gates.specs.declared.Part.TheVariants.{Module as module_no}
use Rattle.signal.specs.Kinds.{Kind}
use Rattle.rules.specs.Boards.{Occurrence, Module, node, part, out_wires, module_number, occurrence_no, cells, cells_at}
use Rattle.rules.specs.Files.{BoardRange}
use Rattle.rules.specs.Sound.{All}
use Rattle.flat.specs.Machine.{Level as Frame, busy, halted, kept, entry, saved, occurrence_of, tick}
use Rattle.flat.specs.InPlace.{base, stored_length}
use Rattle.flat.specs.Windows.{writes}
use Rattle.flat.proofs.Windows.{windows_show}
use Rattle.flat.proofs.Places.{all_at}
use Rattle.walk.specs.declared.level.Level.{Level}
use Rattle.walk.specs.declared.level.Pass.TheVariants.{ForOutputs, Storing}
use Rattle.walk.specs.Levels.{level_at, placed, advanced, module_of_level, Leavable}
use Rattle.walk.specs.Shown.{Waits, Does, ShowsLevel, Stack, Frames, State}
use Rattle.walk.proofs.Modules
use Rattle.walk.proofs.Rows.{outputs_wait, outputs_return, stores_are}
use Rattle.walk.proofs.Sim.{stack_top, passed_frames}
use Rattle.walk.proofs.States.{Sounds, Running}
use Rattle.walk.proofs.States
use Rattle.walk.proofs.Stores

-- the level p is above the last
module _ {V : Type 0} {K : Kind V} {board : List Module} (range : BoardRange board) (sounds : Sounds board) (held work : List V) (ls : List Level) (depth count : ℕ) (f p : Frame V) (fs : List (Frame V)) (n : ℕ) (s : State K board held work ls depth count (busy f (p ∷ fs) n)) (many : 8 ≤ length ls) (size : 1024 ≤ length work) where
  abbrev r : Running K board
  r = record { range = range; sounds = sounds; held = held; work = work; ls = ls; depth = depth; count = count; f = f; fs = p ∷ fs; n = n; s = s; many = many; size = size }

  abbrev c : Level
  c = level_at ls (length (p ∷ fs))

  abbrev m : Module
  m = module_of_level board c

  abbrev one : ShowsLevel K board held work c f (p ∷ fs)
  one = s.frames.2.0

  abbrev pc : Level
  pc = level_at ls (length fs)

  abbrev pm : Module
  pm = module_of_level board pc

  abbrev po : Occurrence
  po = occurrence_no pm pc.place

  abbrev pone : ShowsLevel K board held work pc p fs
  pone = s.frames.2.2.0

  above_wires : p.owner.wires ≡ pm.wires
  above_wires = ap (λ (x : Module). x.wires) pone.owner

  depth_is : depth - 1 ≡ length (p ∷ fs)
  depth_is = let q = s.frames.0 in omega arith

  there : length fs < length ls
  there = let q = States.few r in omega arith

  -- The end of a first pass for outputs

  module _ (h : length m.occurrences ≤ c.place) (z : c.pass ≡ ForOutputs) where
    waits : Waits K c.number (p ∷ fs)
    waits = outputs_wait K held c (cells (node f.owner f.below)) f.cs (p ∷ fs) f.doing one.doing z

    here : occurrence_of K p ≡ po
    here = ap₂ (λ (x : Module) i. occurrence_no x i) pone.owner pone.place

    place_up : pc.place < length pm.occurrences
    place_up = let a = waits.0 in let b = ap (λ (x : Module). length x.occurrences) pone.owner in let e = pone.place in omega arith

    part_up : part po ≡ Some (module_no c.number)
    part_up = ap part (sym here) ∙ waits.1

    outs_up : length po.outs ≡ length m.outs
    outs_up = Modules.outs_count board sounds pc.number pone.number pc.place place_up (Some (module_no c.number)) part_up ∙ ap (λ d. length (out_wires d)) (Modules.child_is board sounds pc.number pone.number pc.place place_up c.number part_up).1

    own_outs : All (λ w. w < m.wires) m.outs
    own_outs = (sounds c.number one.number).wire

    pub leavable : Leavable board c pc (length work)
    leavable =
        let apart = s.frames.2.2.1 in
        let w = above_wires in
        let q = States.room r in
        record {
          number = one.number;
          above = pone.number;
          place = place_up;
          small = (let q = (range.each pc.number pone.number).occurrences in let e = place_up in omega arith);
          same = sym outs_up;
          reads = λ i l. let a = all_at (λ w. w < m.wires) 0 m.outs own_outs i l in omega arith;
          apart = λ i l. let a = Modules.outs_below board sounds pc.number pone.number pc.place place_up i l in omega arith;
        }

    pub leave_state : (work' : List V) (ls' : List Level) → work' ≡ writes K pc.base po.outs (map (λ w. get_or work (c.base + w) K.low) m.outs) work → ls' ≡ set ls (length fs) (placed pc (pc.place + 1)) → State K board held work' ls' (depth - 1) count (tick K (busy f (p ∷ fs) n))
    leave_state work' ls' ew el =
        let vs = map f.ws f.owner.outs in
        let path = outputs_return K held c (cells (node f.owner f.below)) f.cs (p ∷ fs) f f.doing one.doing z n (States.none_left r h) in
        let wr = States.wires_are r in
        let all : All (λ w. w < f.owner.wires) m.outs = subst (λ k. All (λ w. w < k) m.outs) (sym wr) own_outs in
        let read : map (λ w. get_or work (c.base + w) K.low) m.outs ≡ vs = (windows_show V K).reads work c.base f.owner.wires f.ws one.wires m.outs all ∙ ap (λ (x : Module). map f.ws x.outs) (sym one.owner) in
        let apart = s.frames.2.2.1 in
        let q = States.room r in
        let pw = above_wires in
        let outs_all : All (λ w. w < p.owner.wires) (occurrence_of K p).outs = subst (λ (x : Occurrence). All (λ w. w < p.owner.wires) x.outs) (sym here) (subst (λ k. All (λ w. w < k) po.outs) (sym pw) (Modules.outs_all board sounds pc.number pone.number pc.place place_up)) in
        let stack : Stack K board held work ls (pc.base + p.owner.wires) (p ∷ fs) = (pone, omega arith, s.frames.2.2.2) in
        let ew' : work' ≡ writes K pc.base (occurrence_of K p).outs vs work = ew ∙ ap (λ x. writes K pc.base po.outs x work) read ∙ ap (λ (x : Occurrence). writes K pc.base x.outs vs work) (sym here) in
        let fr = passed_frames K board held work work' ls ls' p fs n count vs stack s.frames.1 there (omega arith) outs_all ew' el in
        let ne : c.pass ≢ Storing = λ e. let y : ◌≡◌ {A = ℕ} 0 1 = cc in omega arith in
        States.state_by r held work' ls' (depth - 1) count (subst (Frames K board held work' ls' (depth - 1) count) (sym path) (depth_is, fr.1, fr.2)) (States.row_first r ne)

  -- The end of a second pass

  module _ (two : c.pass ≡ Storing) where
    pub rise_small : pc.place < 64
    rise_small =
        let st = Stores.stands_above r two in
        let a = ap (λ (x : Module). length x.states) pone.owner in
        let e = pone.place in
        let q = range.each pc.number pone.number in
        let x = q.states in
        let y = q.occurrences in
        omega arith

    pub rise_state : length m.states ≤ c.place → (ls' : List Level) → ls' ≡ set ls (length fs) (advanced pc (pc.place + 1) c.cell) → State K board held work ls' (depth - 1) count (tick K (busy f (p ∷ fs) n))
    rise_state h ls' el =
        let up = Stores.above r two in
        let done = Stores.done r two in
        let nn = cells (node p.owner p.below) in
        let st = stores_are K held pc nn p.cs p fs p.doing up.0 pone.doing in
        let c' = advanced pc (pc.place + 1) c.cell in
        let g = saved K p (entry K p) done in
        let sz = cells_at p.owner p.below (entry K p) in
        let la = length-append st.0 done in
        let sl : stored_length K p.doing ≡ length st.0 = ap (stored_length K) st.2 in
        let fe : c.cell ≡ base K fs + length (st.0 ++ done) = let a = Stores.cell_is r two in omega arith in
        let new : ShowsLevel K board held work c' g fs =
        record {
          number = pone.number;
          first = pone.first;
          owner = pone.owner;
          below = pone.below;
          place = ap suc pone.place ∙ sym (add-one pc.place);
          low = pone.low;
          wires = pone.wires;
          doing = subst (λ x. Does K held c' nn p.cs fs (kept K sz done x)) (sym st.2) (st.3, fe, st.4);
        } in
        let fr : Frames K board held work ls' (depth - 1) count (busy g fs n) =
        (depth_is, s.frames.1, stack_top K board held work work ls ls' c' g fs new s.frames.2.2.2 there el (λ w l. refl)) in
        States.state_by r held work ls' (depth - 1) count (subst (Frames K board held work ls' (depth - 1) count) (sym (Stores.tick_end r two h)) fr) (Stores.row_end r two h)

-- there is no level above
module _ {V : Type 0} {K : Kind V} {board : List Module} (range : BoardRange board) (sounds : Sounds board) (held work : List V) (ls : List Level) (depth count : ℕ) (f : Frame V) (n : ℕ) (s : State K board held work ls depth count (busy f [] n)) (many : 8 ≤ length ls) (size : 1024 ≤ length work) (two : (level_at ls 0).pass ≡ Storing) where
  abbrev r₀ : Running K board
  r₀ = record { range = range; sounds = sounds; held = held; work = work; ls = ls; depth = depth; count = count; f = f; fs = []; n = n; s = s; many = many; size = size }

  abbrev c₀ : Level
  c₀ = level_at ls 0

  pub halt_state : length (module_of_level board c₀).states ≤ c₀.place → State K board held work ls (depth - 1) count (tick K (busy f [] n))
  halt_state h =
      let one : ShowsLevel K board held work c₀ f [] = s.frames.2.0 in
      let z : c₀.base ≡ 0 = let a = one.low in omega arith in
      let first : c₀.number ≡ 0 = one.first refl in
      let fe : (λ w. get_or work (c₀.base + w) K.low) ≡ (λ w. get_or work w K.low) = fun_ext (λ w. let q : c₀.base + w ≡ w = omega arith in ap (λ k. get_or work k K.low) q) in
      let read = (windows_show V K).reads work c₀.base f.owner.wires f.ws one.wires f.owner.outs s.sound.0.wire in
      let oe : f.owner.outs ≡ (module_number board 0).outs = ap (λ (x : Module). x.outs) one.owner ∙ ap (λ k. (module_number board k).outs) first in
      let outs : map f.ws f.owner.outs ≡ map (λ w. get_or work w K.low) (module_number board 0).outs = sym read ∙ ap₂ (λ (q : ℕ → V) (is : List ℕ). map q is) fe oe in
      let done = Stores.done r₀ two in
      let dp : depth - 1 ≡ 0 = let q = s.frames.0 in omega arith in
      let fr : Frames K board held work ls (depth - 1) count (halted (record { outs = map f.ws f.owner.outs; cells = done; count = n })) = (dp, s.frames.1, outs) in
      States.state_by r₀ held work ls (depth - 1) count (subst (Frames K board held work ls (depth - 1) count) (sym (Stores.tick_end r₀ two h)) fr) (Stores.row_end r₀ two h)
