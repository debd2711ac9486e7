-- What the levels show after a tick.
use Rattle.std.proofs.Common.{◌≡◌, ℕ, suc, ◌+◌, ◌<◌, ◌≤◌, ◌≢◌, List, [], ◌∷◌, length, get_or, set, sym, refl, ap, ◌∙◌, subst, add-one, arith}
use Rattle.std.proofs.lemmas.List.{get_or-set_same, get_or-set_other}
use Rattle.signal.specs.Kinds.{Kind}
use Rattle.rules.specs.Boards.{Module}
use Rattle.rules.specs.Wires.{put}
use Rattle.rules.specs.Sound.{All}
use Rattle.flat.specs.Machine.{Level as Frame, busy, passed, occurrence_of}
use Rattle.flat.specs.Windows.{Shows, writes}
use Rattle.flat.proofs.Windows.{windows_show}
use Rattle.walk.specs.declared.level.Level.{Level}
use Rattle.walk.specs.Levels.{no_level, level_at, placed}
use Rattle.walk.specs.Shown.{ShowsLevel, Stack, Frames}

-- the levels other than the one that was written
pub level_same : (ls : List Level) (k : ℕ) (c : Level) → k < length ls → level_at (set ls k c) k ≡ c
level_same ls k c h = get_or-set_same ls k c no_level h

pub level_other : (ls : List Level) (k j : ℕ) (c : Level) → j ≢ k → level_at (set ls k c) j ≡ level_at ls j
level_other ls k j c h = get_or-set_other ls k j c no_level h

module _ {V : Type 0} (K : Kind V) (board : List Module) where
  level_work : (held work work' : List V) (c : Level) (f : Frame V) (fs : List (Frame V)) (end : ℕ) → ShowsLevel K board held work c f fs → c.base + f.owner.wires ≤ end → ((w : ℕ) → w < end → get_or work' w K.low ≡ get_or work w K.low) → ShowsLevel K board held work' c f fs
  level_work held work work' c f fs end one h same =
      record { number = one.number; first = one.first; owner = one.owner; below = one.below; place = one.place; low = one.low; wires = λ w l. same (c.base + w) (omega arith) ∙ one.wires w l; doing = one.doing }

  -- a stack whose levels are the same, and whose windows hold the same
  pub stack_same : (held work work' : List V) (ls ls' : List Level) (fs : List (Frame V)) (end : ℕ) → Stack K board held work ls end fs → ((j : ℕ) → j < length fs → level_at ls' j ≡ level_at ls j) → ((w : ℕ) → w < end → get_or work' w K.low ≡ get_or work w K.low) → Stack K board held work' ls' end fs
  stack_same held work work' ls ls' [] end s a b = tt
  stack_same held work work' ls ls' (f ∷ fs) end s a b =
      let c = level_at ls (length fs) in
      subst (λ (x : Level). ShowsLevel K board held work' x f fs × (x.base + f.owner.wires ≤ end) × Stack K board held work' ls' x.base fs) (sym (a (length fs) (omega arith))) (
        level_work held work work' c f fs end s.0 s.1 b,
        s.1,
        stack_same held work work' ls ls' fs c.base s.2 (λ j h. a j (omega arith)) (λ w h. b w (let q = s.1 in omega arith)),
      )

  -- the last level changes, with the values from its window on
  pub stack_top : (held work work' : List V) (ls ls' : List Level) (c' : Level) (f : Frame V) (fs : List (Frame V)) → ShowsLevel K board held work' c' f fs → Stack K board held work ls c'.base fs → length fs < length ls → ls' ≡ set ls (length fs) c' → ((w : ℕ) → w < c'.base → get_or work' w K.low ≡ get_or work w K.low) → Stack K board held work' ls' ((level_at ls' (length fs)).base + f.owner.wires) (f ∷ fs)
  stack_top held work work' ls ls' c' f fs new s h el same =
      let at_top : level_at ls' (length fs) ≡ c' = ap (λ l. level_at l (length fs)) el ∙ level_same ls (length fs) c' h in
      let others : (j : ℕ) → j < length fs → level_at ls' j ≡ level_at ls j = λ j q. let ne : j ≢ length fs = omega arith in ap (λ l. level_at l j) el ∙ level_other ls (length fs) j c' ne in
      subst (λ (x : Level). ShowsLevel K board held work' x f fs × (x.base + f.owner.wires ≤ x.base + f.owner.wires) × Stack K board held work' ls' x.base fs) (sym at_top)
      (new, omega arith, stack_same held work work' ls ls' fs c'.base s others same)

  before : (work : List V) (b w : ℕ) → w < b → (is : List ℕ) (vs : List V) → get_or (writes K b is vs work) w K.low ≡ get_or work w K.low
  before work b w h [] vs = refl
  before work b w h (o ∷ is) [] = refl
  before work b w h (o ∷ is) (v ∷ vs) = let ne : w ≢ b + o = omega arith in before (set work (b + o) v) b w h is vs ∙ get_or-set_other work (b + o) w v K.low ne

  -- a level past its occurrence
  pub passed_frames : (held work work' : List V) (ls ls' : List Level) (f : Frame V) (fs : List (Frame V)) (n count : ℕ) (vs : List V) → Stack K board held work ls ((level_at ls (length fs)).base + f.owner.wires) (f ∷ fs) → n ≡ count → length fs < length ls → (level_at ls (length fs)).base + f.owner.wires ≤ length work → All (λ w. w < f.owner.wires) (occurrence_of K f).outs → work' ≡ writes K (level_at ls (length fs)).base (occurrence_of K f).outs vs work → ls' ≡ set ls (length fs) (placed (level_at ls (length fs)) ((level_at ls (length fs)).place + 1)) → Frames K board held work' ls' (length (f ∷ fs)) count (busy (passed K f (occurrence_of K f) vs) fs n)
  passed_frames held work work' ls ls' f fs n count vs s e h room a ew el =
      let c = level_at ls (length fs) in
      let c' = placed c (c.place + 1) in
      let one = s.0 in
      let o = occurrence_of K f in
      let shows : Shows K work' c.base f.owner.wires (put o.outs vs f.ws) = subst (λ x. Shows K x c.base f.owner.wires (put o.outs vs f.ws)) (sym ew) ((windows_show V K).written work c.base f.owner.wires f.ws room one.wires o.outs vs a) in
      let new : ShowsLevel K board held work' c' (passed K f o vs) fs =
      record { number = one.number; first = one.first; owner = one.owner; below = one.below; place = ap suc one.place ∙ sym (add-one c.place); low = one.low; wires = shows; doing = one.doing } in
      (refl, e, stack_top held work work' ls ls' c' (passed K f o vs) fs new s.2 h el (λ w q. ap (λ x. get_or x w K.low) ew ∙ before work c.base w q o.outs vs))
