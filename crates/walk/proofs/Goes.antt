-- From where a pass of a walk stopped, one tick further: into a module, out of one, over to the second pass, or to the end.
use Rattle.std.proofs.Common.{◌≡◌, ℕ, ◌+◌, ◌-◌, ◌<◌, ◌≤◌, ◌≢◌, ◌⊎◌, inl, inr, List, length, set, Some, None, sym, refl, ap, ◌∙◌, subst, arith}
use Rattle.signal.specs.Kinds.{Kind}
use Rattle.rules.specs.Boards.{Module}
use Rattle.flat.specs.Machine.{Machine, tick}
use Rattle.board.specs.Lent.{board_in}
use Rattle.walk.specs.declared.level.Level.{Level}
use Rattle.walk.specs.declared.level.Pass.{Pass}
use Rattle.walk.specs.declared.level.Pass.TheVariants.{ForOutputs, ForBoth, Storing}
use Rattle.walk.specs.declared.reading.Child.{Child}
use Rattle.walk.specs.declared.reading.Module.{Module as Read}
use Rattle.walk.specs.declared.stack.Walk.{Walk}
use Rattle.walk.specs.Levels.{level_at, placed, advanced, turned, child_level, Enterable, Leavable}
use Rattle.walk.specs.Shown.{State, After, StopFirst, StopSecond}
use Rattle.walk.specs.Walks.{last, above, LaterBy, AfterBy, SameMemory, EnteredAs, LeftAs, RisenAs}
use Rattle.walk.proofs.Rows.{outputs_both, outputs_storing, both_storing}
use Rattle.walk.proofs.Settles.{by_last, written}
use Rattle.walk.proofs.Turns

pub no_outputs : (p : Pass) → (p ≡ ForBoth) ⊎ (p ≡ Storing) → p ≢ ForOutputs
no_outputs p (inl e) z = outputs_both (sym z ∙ e)
no_outputs p (inr e) z = outputs_storing (sym z ∙ e)

pub no_storing : (p : Pass) → (p ≡ ForBoth) ⊎ (p ≡ ForOutputs) → p ≢ Storing
no_storing p (inl e) z = both_storing (sym e ∙ z)
no_storing p (inr e) z = outputs_storing (sym e ∙ z)

module _ {V : Type 0} where
  pub same_on : (u v w : Walk V) → SameMemory u v → SameMemory v w → SameMemory u w
  same_on u v w a b = record { top = b.top ∙ a.top; cells = b.cells ∙ a.cells; work = b.work ∙ a.work; levels = b.levels ∙ a.levels }

  -- the last level, which was written
  last_written : (v w : Walk V) (c : Level) → v.depth - 1 < length v.levels.now → w.depth ≡ v.depth → w.levels.now ≡ set v.levels.now (v.depth - 1) c → last w ≡ c
  last_written v w c h d e = ap (λ k. level_at w.levels.now (k - 1)) d ∙ written w.levels.now v.levels.now (v.depth - 1) c h e

  -- a pass leaves the level's kind of pass as it was
  pub placed_pass : (v w : Walk V) (place : ℕ) → v.depth - 1 < length v.levels.now → w.depth ≡ v.depth → w.levels.now ≡ set v.levels.now (v.depth - 1) (placed (last v) place) → (last w).pass ≡ (last v).pass
  placed_pass v w place h d e = ap (λ (c : Level). c.pass) (last_written v w (placed (last v) place) h d e)

  pub advanced_pass : (v w : Walk V) (place cell : ℕ) → v.depth - 1 < length v.levels.now → w.depth ≡ v.depth → w.levels.now ≡ set v.levels.now (v.depth - 1) (advanced (last v) place cell) → (last w).pass ≡ (last v).pass
  advanced_pass v w place cell h d e = ap (λ (c : Level). c.pass) (last_written v w (advanced (last v) place cell) h d e)

-- a pass has come to where it stops
module _ {V : Type 0} (K : Kind V) (w : Walk V) (some : 0 < w.depth) (M : Machine V) (l : LaterBy K w M) where
  abbrev board : List Module
  board = board_in w.top.tables

  abbrev top : ℕ
  top = w.depth - 1

  abbrev c : Level
  c = last w

  abbrev N : Machine V
  N = l.0

  s : State K board w.cells.now w.work.now w.levels.now (top + 1) w.count N
  s = by_last K board N some l.1

  goes : (held work : List V) (ls : List Level) (depth : ℕ) → State K board held work ls depth w.count (tick K N) → After K board held work ls depth w.count M
  goes held work ls depth t = Turns.after_tick K board held work ls depth w.count M N t w.cells.now w.work.now w.levels.now top w.count s l.2 l.3

  -- a walk over the same board
  by_walk : (v : Walk V) → v.top ≡ w.top → (held : List V) → v.cells.now ≡ held → (depth : ℕ) → v.depth ≡ depth → v.count ≡ w.count → After K board held v.work.now v.levels.now depth w.count M → AfterBy K v M
  by_walk v t held h depth d n a =
      subst (λ (x : Read). After K (board_in x.tables) v.cells.now v.work.now v.levels.now v.depth v.count M) (sym t)
      (subst (λ (x : List V). After K board x v.work.now v.levels.now v.depth v.count M) (sym h)
      (subst (λ x. After K board held v.work.now v.levels.now x v.count M) (sym d)
      (subst (λ x. After K board held v.work.now v.levels.now depth x M) (sym n) a)))

  pub there : w.depth - 1 < length w.levels.now
  there = (Turns.level_there K w.top.tables w.top.right w.cells.now w.work.now w.levels.now top w.count w.many w.size c refl N s).0

  -- where a new level lies
  next : w.depth ≡ top + 1
  next = omega arith

  into : (pass : Pass) (ch : Child) (v : Walk V) → EnteredAs K w ch pass v → v.levels.now ≡ set w.levels.now (top + 1) (child_level board c ch.number pass ch.cell)
  into pass ch v e = e.levels ∙ ap (λ k. set w.levels.now k (child_level board c ch.number pass ch.cell)) next

  deeper : (pass : Pass) (ch : Child) (v : Walk V) → EnteredAs K w ch pass v → v.depth ≡ top + 2
  deeper pass ch v e = omega (arith, e.depth)

  -- a first pass
  module _ (p : c.pass ≢ Storing) where
    module _ (ch : Child) (q : StopFirst board c (Some ch)) where
      pub enters : Enterable board c ch.number ch.ins.now (length w.work.now)
      enters = Turns.enter_can K w.top.tables w.top.right w.cells.now w.work.now w.levels.now top w.count w.many w.size c refl N s p ch q.0

      pub enters_there : w.depth < length w.levels.now
      enters_there = omega (arith, next, Turns.enter_there K w.top.tables w.top.right w.cells.now w.work.now w.levels.now top w.count w.many w.size c refl N s p ch q.0)

      pub entered_on : (v : Walk V) → EnteredAs K w ch ForOutputs v → AfterBy K v M
      entered_on v e =
          by_walk v e.same.top w.cells.now e.cells (top + 2) (deeper ForOutputs ch v e) e.count
          (goes w.cells.now v.work.now v.levels.now (top + 2) (Turns.enter_on K w.top.tables w.top.right w.cells.now w.work.now w.levels.now top w.count w.many w.size c refl N s p ch q.0 q.1 v.work.now v.levels.now e.work (into ForOutputs ch v e)))

    module _ (q : StopFirst board c None) where
      leaving : c.pass ≡ ForOutputs → (0 < top) × Leavable board c (above w) (length w.work.now)
      leaving z = Turns.leave_can K w.top.tables w.top.right w.cells.now w.work.now w.levels.now top w.count w.many w.size c refl N s q z

      pub two : c.pass ≡ ForOutputs → 1 < w.depth
      two z = omega (arith, (leaving z).0)

      pub leaves : c.pass ≡ ForOutputs → Leavable board c (above w) (length w.work.now)
      leaves z = (leaving z).1

      pub left_on : c.pass ≡ ForOutputs → (v : Walk V) → LeftAs K w v → AfterBy K v M
      left_on z v e =
          by_walk v e.same.top w.cells.now e.cells top e.depth e.count
          (goes w.cells.now v.work.now v.levels.now top (Turns.leave_on K w.top.tables w.top.right w.cells.now w.work.now w.levels.now top w.count w.many w.size c refl N s q z v.work.now v.levels.now (e.work, e.levels)))

      pub turned_on : c.pass ≢ ForOutputs → After K board w.cells.now w.work.now (set w.levels.now top (turned c)) w.depth w.count M
      turned_on z =
          subst (λ k. After K board w.cells.now w.work.now (set w.levels.now top (turned c)) k w.count M) (sym next)
          (goes w.cells.now w.work.now (set w.levels.now top (turned c)) (top + 1) (Turns.turn_on K w.top.tables w.top.right w.cells.now w.work.now w.levels.now top w.count w.many w.size c refl N s q z p (set w.levels.now top (turned c)) refl))

  -- a second pass
  module _ (p : c.pass ≡ Storing) where
    module _ (ch : Child) (q : StopSecond board c (Some ch)) where
      pub again : Enterable board c ch.number ch.ins.now (length w.work.now)
      again = Turns.again_can K w.top.tables w.top.right w.cells.now w.work.now w.levels.now top w.count w.many w.size c refl N s (p, q.0) ch q.1

      pub again_there : w.depth < length w.levels.now
      again_there = omega (arith, next, Turns.again_there K w.top.tables w.top.right w.cells.now w.work.now w.levels.now top w.count w.many w.size c refl N s (p, q.0) ch q.1)

      pub again_on : (v : Walk V) → EnteredAs K w ch ForBoth v → AfterBy K v M
      again_on v e =
          by_walk v e.same.top w.cells.now e.cells (top + 2) (deeper ForBoth ch v e) e.count
          (goes w.cells.now v.work.now v.levels.now (top + 2) (Turns.again_on K w.top.tables w.top.right w.cells.now w.work.now w.levels.now top w.count w.many w.size c refl N s (p, q.0) ch q.1 q.2 v.work.now v.levels.now e.work (into ForBoth ch v e)))

    module _ (q : StopSecond board c None) where
      pub rises : 1 < w.depth → (above w).place < 64
      rises z = Turns.rise_can K w.top.tables w.top.right w.cells.now w.work.now w.levels.now top w.count w.many w.size c refl N s (p, q) (omega arith)

      pub risen_on : 1 < w.depth → (v : Walk V) → RisenAs w v → AfterBy K v M
      risen_on z v e =
          by_walk v e.same.top w.cells.now e.cells top e.depth e.count
          (subst (λ (x : List V). After K board w.cells.now x v.levels.now top w.count M) (sym e.work)
          (goes w.cells.now w.work.now v.levels.now top (Turns.rise_on K w.top.tables w.top.right w.cells.now w.work.now w.levels.now top w.count w.many w.size c refl N s (p, q) (omega arith) v.levels.now e.levels)))

      pub halted_on : w.depth ≤ 1 → After K board w.cells.now w.work.now w.levels.now 0 w.count M
      halted_on z =
          let e : top ≡ 0 = omega arith in
          subst (λ k. After K board w.cells.now w.work.now w.levels.now k w.count M) e
          (goes w.cells.now w.work.now w.levels.now top (Turns.halt_on K w.top.tables w.top.right w.cells.now w.work.now w.levels.now top w.count w.many w.size c refl N s (p, q) (omega arith)))
