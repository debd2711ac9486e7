-- Both passes keep a relation that the gates keep.
use Rattle.std.proofs.Common.{◌≡◌, ℕ, zero, suc, ◌<◌, Bool, true, false, cond, eqb, ltb, List, [], ◌∷◌, ◌++◌, map, length, get_or, take, drop, Some, None, Option, refl, ap, ◌∙◌}
use lib.ListN.{length-map}
use Rattle.gates.specs.declared.Part.{Part}
use Rattle.gates.specs.declared.Part.TheVariants.{Gate as gate, Cell as cell, Module as module_no}
use Rattle.signal.specs.Kinds.{Kind}
use Rattle.signal.specs.GateValues.{input}
use Rattle.rules.specs.Boards.{Occurrence, Module, Design, absent, node, part, occurrence_no, out_wires, inputs_due, cells_at, ahead}
use Rattle.rules.specs.Wires.{Wires, upd, put, drive}
use Rattle.rules.specs.Sound.{All, Refers, FitAll, Sound}
use Rattle.flat.specs.Passes.{Counted, and_then, own, start, given, pass, on_outputs, first, stored, in_order, second}
use Rattle.flat.specs.Laws.{All2, GatesKeep, Keep, PassesKeep}
use Rattle.flat.proofs.Lists.{refer_at}

module _ {V W : Type 0} (R : V → W → Type 0) where
  abbrev Rel : Wires V → Wires W → Type 0
  Rel ws us = (x : ℕ) → R (ws x) (us x)

  cond_rel : (b : Bool) (v v' : V) (w w' : W) → R v w → R v' w' → R (cond b v v') (cond b w w')
  cond_rel true v v' w w' h k = h
  cond_rel false v v' w w' h k = k

  pub get_or_rel : (vs : List V) (ws : List W) (v : V) (w : W) → All2 R vs ws → R v w → (k : ℕ) → R (get_or vs k v) (get_or ws k w)
  get_or_rel [] [] v w a r k = r
  get_or_rel [] (y ∷ ws) v w a r k = elim a [ ]
  get_or_rel (x ∷ vs) [] v w a r k = elim a [ ]
  get_or_rel (x ∷ vs) (y ∷ ws) v w a r zero = a.0
  get_or_rel (x ∷ vs) (y ∷ ws) v w a r (suc k) = get_or_rel vs ws v w a.1 r k

  take_rel : (n : ℕ) (vs : List V) (ws : List W) → All2 R vs ws → All2 R (take n vs) (take n ws)
  take_rel zero vs ws a = tt
  take_rel (suc n) [] [] a = tt
  take_rel (suc n) [] (y ∷ ws) a = elim a [ ]
  take_rel (suc n) (x ∷ vs) [] a = elim a [ ]
  take_rel (suc n) (x ∷ vs) (y ∷ ws) a = (a.0, take_rel n vs ws a.1)

  drop_rel : (n : ℕ) (vs : List V) (ws : List W) → All2 R vs ws → All2 R (drop n vs) (drop n ws)
  drop_rel zero vs ws a = a
  drop_rel (suc n) [] [] a = tt
  drop_rel (suc n) [] (y ∷ ws) a = elim a [ ]
  drop_rel (suc n) (x ∷ vs) [] a = elim a [ ]
  drop_rel (suc n) (x ∷ vs) (y ∷ ws) a = drop_rel n vs ws a.1

  pub append_rel : (vs vs' : List V) (ws ws' : List W) → All2 R vs ws → All2 R vs' ws' → All2 R (vs ++ vs') (ws ++ ws')
  append_rel [] vs' [] ws' a c = c
  append_rel [] vs' (y ∷ ws) ws' a c = elim a [ ]
  append_rel (x ∷ vs) vs' [] ws' a c = elim a [ ]
  append_rel (x ∷ vs) vs' (y ∷ ws) ws' a c = (a.0, append_rel vs vs' ws ws' a.1 c)

  map_rel : {X : Type 0} (f : X → V) (g : X → W) → ((x : X) → R (f x) (g x)) → (xs : List X) → All2 R (map f xs) (map g xs)
  map_rel f g h [] = tt
  map_rel f g h (x ∷ xs) = (h x, map_rel f g h xs)

  put_rel : (os : List ℕ) (vs : List V) (us : List W) (ws : Wires V) (ws' : Wires W) → All2 R vs us → Rel ws ws' → Rel (put os vs ws) (put os us ws')
  put_rel [] vs us ws ws' a r = r
  put_rel (o ∷ os) [] [] ws ws' a r = r
  put_rel (o ∷ os) [] (u ∷ us) ws ws' a r = elim a [ ]
  put_rel (o ∷ os) (v ∷ vs) [] ws ws' a r = elim a [ ]
  put_rel (o ∷ os) (v ∷ vs) (u ∷ us) ws ws' a r =
      put_rel os vs us (upd o v ws) (upd o u ws') a.1 (λ x. cond_rel (eqb x o) v (ws x) u (ws' x) a.0 (r x))

  pub length_rel : (vs : List V) (ws : List W) → All2 R vs ws → length vs ≡ length ws
  length_rel [] [] a = refl
  length_rel [] (w ∷ ws) a = elim a [ ]
  length_rel (v ∷ vs) [] a = elim a [ ]
  length_rel (v ∷ vs) (w ∷ ws) a = ap suc (length_rel vs ws a.1)

-- an occurrence refers to a sound module, if to any, and has as many input wires as its part has inputs
abbrev Right : (ℕ → Design) → Occurrence → Type 0
Right below o = Refers (λ j. Sound (below j)) (part o) × (length o.ins ≡ inputs_due below (part o))

all_right : (below : ℕ → Design) (wires : ℕ) (os : List Occurrence) (dr : ℕ → Bool) → FitAll (λ j. Sound (below j)) below wires os dr → All (Right below) os
all_right below wires [] dr fits = tt
all_right below wires (o ∷ os) dr fits = ((fits.0.refer, fits.0.pins_in), all_right below wires os (drive o.outs dr) fits.1)

module _ {V W : Type 0} (K : Kind V) (L : Kind W) (R : V → W → Type 0) (laws : GatesKeep K L R) where
  input_rel : (vs : List V) (ws : List W) → All2 R vs ws → (k : ℕ) → R (input K vs k) (input L ws k)
  input_rel vs ws a k = get_or_rel R vs ws K.low L.low a laws.low k

  own_rel : (m : Module) (below : ℕ → Design) (cs : List V) (ds : List W) → All2 R cs ds → (i : ℕ) → All2 R (own m below cs i) (own m below ds i)
  own_rel m below cs ds a i =
      let n = ahead (cells_at m below) m.states i in
      take_rel R (cells_at m below i) (drop n cs) (drop n ds) (drop_rel R n cs ds a)

  pass_rel : (P : Occurrence → Type 0) (f : ℕ → Occurrence → Wires V → Counted (List V)) (g : ℕ → Occurrence → Wires W → Counted (List W)) → ((i : ℕ) (o : Occurrence) (ws : Wires V) (us : Wires W) → P o → Rel R ws us → All2 R (f i o ws).values (g i o us).values) →
      (i : ℕ) (os : List Occurrence) (ws : Wires V) (us : Wires W) → All P os → Rel R ws us → Rel R (pass K f i os ws).values (pass L g i os us).values
  pass_rel P f g h i [] ws us a r = r
  pass_rel P f g h i (o ∷ os) ws us a r =
      pass_rel P f g h (suc i) os (put o.outs (f i o ws).values ws) (put o.outs (g i o us).values us) a.1 (put_rel R o.outs (f i o ws).values (g i o us).values ws us (h i o ws us a.0 r) r)

  in_order_rel : (P : ℕ → Type 0) (f : ℕ → Counted (List V)) (g : ℕ → Counted (List W)) → ((s : ℕ) → P s → All2 R (f s).values (g s).values) → (ss : List ℕ) → All P ss → All2 R (in_order K f ss).values (in_order L g ss).values
  in_order_rel P f g h [] a = tt
  in_order_rel P f g h (s ∷ ss) a = append_rel R (f s).values (in_order K f ss).values (g s).values (in_order L g ss).values (h s a.0) (in_order_rel P f g h ss a.1)

  module _ (below : ℕ → Design) where
    -- what two functions of modules give is related
    abbrev Both : (ℕ → List V → List V → Counted (List V)) → (ℕ → List W → List W → Counted (List W)) → Type 0
    Both f g = (j : ℕ) → Sound (below j) → (ins : List V) (js : List W) (cs : List V) (ds : List W) → All2 R ins js → All2 R cs ds → All2 R (f j ins cs).values (g j js ds).values

    given_rel : (f : ℕ → List V → List V → Counted (List V)) (g : ℕ → List W → List W → Counted (List W)) → Both f g → (p : Option Part) → Refers (λ j. Sound (below j)) p → (ins : List V) → length ins ≡ inputs_due below p → (js : List W) (cs : List V) (ds : List W) → All2 R ins js → All2 R cs ds → All2 R (given K f p ins cs).values (given L g p js ds).values
    given_rel f g h (Some (gate x)) refer ins pins js cs ds a c = (laws.gates x ins js pins a, tt)
    given_rel f g h (Some cell) refer ins pins js cs ds a c = (input_rel cs ds c 0, tt)
    given_rel f g h (Some (module_no j)) refer ins pins js cs ds a c = h j refer ins js cs ds a c
    given_rel f g h None refer ins pins js cs ds a c = tt

    stored_rel : (f : ℕ → List V → List V → Counted (List V)) (g : ℕ → List W → List W → Counted (List W)) → Both f g → (p : Option Part) → Refers (λ j. Sound (below j)) p → (ins : List V) (js : List W) (cs : List V) (ds : List W) → All2 R ins js → All2 R cs ds → All2 R (stored K f p ins cs).values (stored L g p js ds).values
    stored_rel f g h (Some (gate x)) refer ins js cs ds a c = tt
    stored_rel f g h (Some cell) refer ins js cs ds a c = (input_rel ins js a 0, tt)
    stored_rel f g h (Some (module_no j)) refer ins js cs ds a c = h j refer ins js cs ds a c
    stored_rel f g h None refer ins js cs ds a c = tt

  first_rel : (d : Design) → Sound d → (ins : List V) (js : List W) (cs : List V) (ds : List W) → All2 R ins js → All2 R cs ds → Rel R (first K d ins cs).values (first L d js ds).values
  first_rel absent sound ins js cs ds a c = λ x. laws.low
  first_rel (node m below) sound ins js cs ds a c =
      let f : ℕ → List V → List V → Counted (List V) = λ j is es. on_outputs K (below j) (first K (below j) is es) in
      let g : ℕ → List W → List W → Counted (List W) = λ j is es. on_outputs L (below j) (first L (below j) is es) in
      let h : Both below f g =
      λ j s is ks es gs a' c'. map_rel R (first K (below j) is es).values (first L (below j) ks gs).values (first_rel (below j) s is ks es gs a' c') (out_wires (below j)) in
      pass_rel (Right below) (λ i o ws. given K f (part o) (map ws o.ins) (own m below cs i)) (λ i o ws. given L g (part o) (map ws o.ins) (own m below ds i))
      (λ i o ws us right r. given_rel below f g h (part o) right.0 (map ws o.ins) (length-map o.ins ws ∙ right.1) (map us o.ins) (own m below cs i) (own m below ds i) (map_rel R ws us r o.ins) (own_rel m below cs ds c i))
      0 m.occurrences (start K m.inputs ins) (start L m.inputs js) (all_right below m.wires m.occurrences (λ w. ltb w m.inputs) sound.fits)
      (λ x. cond_rel R (ltb x m.inputs) (input K ins x) K.low (input L js x) L.low (input_rel ins js a x) laws.low)

  second_rel : (d : Design) → Sound d → (ws : Wires V) (us : Wires W) (cs : List V) (ds : List W) → Rel R ws us → All2 R cs ds → All2 R (second K d ws cs).values (second L d us ds).values
  second_rel absent sound ws us cs ds r c = tt
  second_rel (node m below) sound ws us cs ds r c =
      let f : ℕ → List V → List V → Counted (List V) = λ j is es. and_then (first K (below j) is es) (λ us. second K (below j) us es) in
      let g : ℕ → List W → List W → Counted (List W) = λ j is es. and_then (first L (below j) is es) (λ us. second L (below j) us es) in
      let h : Both below f g =
      λ j s is ks es gs a' c'. second_rel (below j) s (first K (below j) is es).values (first L (below j) ks gs).values es gs (first_rel (below j) s is ks es gs a' c') c' in
      in_order_rel (λ s. s < length m.occurrences) (λ s. stored K f (part (occurrence_no m s)) (map ws (occurrence_no m s).ins) (own m below cs s)) (λ s. stored L g (part (occurrence_no m s)) (map us (occurrence_no m s).ins) (own m below ds s))
      (λ s l. stored_rel below f g h (part (occurrence_no m s)) (refer_at m below sound s l) (map ws (occurrence_no m s).ins) (map us (occurrence_no m s).ins) (own m below cs s) (own m below ds s) (map_rel R ws us r (occurrence_no m s).ins) (own_rel m below cs ds c s))
      m.states sound.state_in

pub keep : (V W : Type 0) (R : V → W → Type 0) → Keep V W R
keep V W R K L laws d sound ins js cs ds a c =
    let r = first_rel K L R laws d sound ins js cs ds a c in
    (map_rel R (first K d ins cs).values (first L d js ds).values r (out_wires d), second_rel K L R laws d sound (first K d ins cs).values (first L d js ds).values cs ds r c)

pub passes_keep : (V W : Type 0) → PassesKeep V W
passes_keep V W R = keep V W (λ v w. R v w ≡ true)
