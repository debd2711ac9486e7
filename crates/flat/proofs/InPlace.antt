-- The cells in place: a tick writes at most one.
use Rattle.std.proofs.Common.{◌≡◌, ℕ, suc, ◌+◌, ◌<◌, List, [], ◌∷◌, ◌++◌, map, length, take, drop, set, Some, None, Option, sym, refl, ap, ◌∙◌, subst, ap₂, append_assoc, append-nil, arith, length-append, length-drop, take-append-drop}
use Rattle.std.proofs.lemmas.List.{set-append_left, set_at, nil_from_length, length-take-le}
use Rattle.gates.specs.declared.Part.{Part}
use Rattle.gates.specs.declared.Part.TheVariants.{Gate as gate, Cell as cell, Module as module_no}
use Rattle.signal.specs.Kinds.{Kind}
use Rattle.signal.specs.GateValues.{input, gate_value}
use Rattle.rules.specs.Boards.{Occurrence, occurrence_no, Design, absent, node, part, cells_of, cells, cells_at}
use Rattle.rules.specs.Sound.{Refers, Sound}
use Rattle.flat.specs.Passes.{own}
use Rattle.flat.specs.Machine.{Doing, for_outputs, for_both, storing, Level, busy, passed, kept, entry, saved, entered, part_ticks, entry_ticks, occurrence_of, returned, stored_up, first_tick, second_tick, level_tick}
use Rattle.flat.specs.InPlace.{region, around, row, in_place, stored_length, base, write_part, write_entry, write_as, sizes, OwnFits, Looks, Stores, Under, InOrder, CellsInPlace}
use Rattle.flat.proofs.Lists.{drop_next, drop_head, refer_left, refer_state}
use Rattle.flat.proofs.Sums.{cells_by_states}

set_deep : {V : Type 0} (done inner tail : List V) (k : ℕ) (v : V) → k < length inner → done ++ (set inner k v ++ tail) ≡ set (done ++ (inner ++ tail)) (length done + k) v
set_deep [] inner tail k v h = let z : k ≡ 0 + k = omega arith in sym (set-append_left inner tail k v h) ∙ ap (λ n. set (inner ++ tail) n v) z
set_deep {V} (x ∷ done) inner tail k v h =
    let z : suc (length done + k) ≡ suc (length done) + k = omega arith in
    ap {B = List V} (λ l. x ∷ l) (set_deep done inner tail k v h) ∙ ap (λ n. set (x ∷ (done ++ (inner ++ tail))) n v) z

-- the next cell is stored
set_next : {V : Type 0} (done rest : List V) (v : V) (n : ℕ) → length rest ≡ 1 + n → (done ++ (v ∷ [])) ++ drop 1 rest ≡ set (done ++ rest) (length done) v
set_next done [] v n h = let z : ⊥ = omega arith in absurd z
set_next done (r ∷ rs) v n h = append_assoc done (v ∷ []) rs ∙ sym (set_at done r rs v (length done) refl)

module _ {V : Type 0} (K : Kind V) where
  under_both : (done rest : List V) (fs : List (Level V)) → Under K (storing done rest) fs → Under K for_both fs
  under_both done rest [] u = u
  under_both done rest (p ∷ ps) u = u

  under_storing : (done rest : List V) (fs : List (Level V)) → Under K for_both fs → Under K (storing done rest) fs
  under_storing done rest [] u = u
  under_storing done rest (p ∷ ps) u = u

  under_kept : (n : ℕ) (ds : List V) (d : Doing V) (fs : List (Level V)) → Under K d fs → Under K (kept K n ds d) fs
  under_kept n ds for_outputs fs u = u
  under_kept n ds for_both fs u = u
  under_kept n ds (storing done rest) fs u = under_storing (done ++ ds) (drop n rest) fs (under_both done rest fs u)

  -- a write below is a write in the row
  row_by : (p : Level V) (ps : List (Level V)) (d : Doing V) → Stores K p d → Under K d ps → (n : ℕ) (inner : List V) (k : ℕ) (v : V) → k < length inner → ((l : List V) (i : ℕ) → Under K for_both ps → i < length l → row K ps (set l i v) ≡ set (row K ps l) (base K ps + i) v) →
      row K ps (around K n p.cs d (set inner k v)) ≡ set (row K ps (around K n p.cs d inner)) (base K ps + stored_length K d + k) v
  row_by p ps for_outputs s u n inner k v h ih = elim s [ ]
  row_by p ps for_both s u n inner k v h ih = elim s [ ]
  row_by p ps (storing done rest) s u n inner k v h ih =
      let whole = done ++ (inner ++ drop n rest) in
      let l1 = length-append done (inner ++ drop n rest) in
      let l2 = length-append inner (drop n rest) in
      let z : base K ps + (length done + k) ≡ base K ps + length done + k = omega arith in
      ap (row K ps) (set_deep done inner (drop n rest) k v h) ∙ ih whole (length done + k) (under_both done rest ps u) (omega arith) ∙ ap (λ i. set (row K ps whole) i v) z

  row_set : (fs : List (Level V)) (inner : List V) (k : ℕ) (v : V) → Under K for_both fs → k < length inner → row K fs (set inner k v) ≡ set (row K fs inner) (base K fs + k) v
  row_set [] inner k v u h = let z : k ≡ 0 + k = omega arith in ap (λ n. set inner n v) z
  row_set (p ∷ ps) inner k v u h = row_by p ps p.doing u.0 u.1 (cells_at p.owner p.below (entry K p)) inner k v h (λ l i. row_set ps l i v)

  looks_fits : (p : Level V) (o : Occurrence) (vs : List V) (d : Doing V) → Looks K p d → OwnFits K (passed K p o vs) d
  looks_fits p o vs for_outputs h = tt
  looks_fits p o vs for_both h = h
  looks_fits p o vs (storing done rest) h = elim h [ ]

  around_first : (p : Level V) (n : ℕ) (inner : List V) (d : Doing V) → Looks K p d → around K n p.cs d inner ≡ region K p.cs d
  around_first p n inner for_outputs h = refl
  around_first p n inner for_both h = refl
  around_first p n inner (storing done rest) h = elim h [ ]

  stores_saved : (p : Level V) (ds : List V) (d : Doing V) → Stores K p d → OwnFits K (saved K p (entry K p) ds) (kept K (cells_at p.owner p.below (entry K p)) ds d)
  stores_saved p ds for_outputs h = elim h [ ]
  stores_saved p ds for_both h = elim h [ ]
  stores_saved p ds (storing done rest) h = let l = length-drop (cells_at p.owner p.below (entry K p)) rest in omega arith

  -- the level below is done: what it stored is in its place
  around_saved : (p : Level V) (ds : List V) (n : ℕ) (d : Doing V) → Stores K p d → region K p.cs (kept K n ds d) ≡ around K n p.cs d ds
  around_saved p ds n for_outputs h = elim h [ ]
  around_saved p ds n for_both h = elim h [ ]
  around_saved p ds n (storing done rest) h = append_assoc done ds (drop n rest)

  -- a level entered for both passes: its cells are the next ones
  around_next : (p : Level V) (n : ℕ) (done rest : List V) → around K n p.cs (storing done rest) (take n rest) ≡ done ++ rest
  around_next p n done rest = ap (λ l. done ++ l) (take-append-drop n rest)

  module _ (f : Level V) (fs : List (Level V)) where
    entered_order : (d : Design) → Sound d → (ins cs : List V) (n : ℕ) → Looks K f f.doing → Under K f.doing fs → InOrder K (busy (entered K d ins cs for_outputs f) (f ∷ fs) n)
    entered_order absent sound ins cs n l u = elim sound [ ]
    entered_order (node m below) sound ins cs n l u = (tt, (l, u))

    entered_row : (d : Design) → Sound d → (ins cs : List V) (doing : Doing V) (n : ℕ) → in_place K (busy (entered K d ins cs doing f) (f ∷ fs) n) ≡ row K (f ∷ fs) (region K cs doing)
    entered_row absent sound ins cs doing n = elim sound [ ]
    entered_row (node m below) sound ins cs doing n = refl

    part_order : (n : ℕ) (o : Occurrence) (p : Option Part) → Refers (λ j. Sound (f.below j)) p → Looks K f f.doing → Under K f.doing fs → InOrder K (part_ticks K f fs n o p)
    part_order n o (Some (gate g)) refer l u = (looks_fits f o (gate_value K g (map f.ws o.ins) ∷ []) f.doing l, u)
    part_order n o (Some cell) refer l u = (looks_fits f o (input K (own f.owner f.below f.cs f.place) 0 ∷ []) f.doing l, u)
    part_order n o (Some (module_no j)) refer l u = entered_order (f.below j) refer (map f.ws o.ins) (own f.owner f.below f.cs f.place) n l u
    part_order n o None refer l u = elim refer [ ]

    part_row : (n : ℕ) (o : Occurrence) (p : Option Part) → Refers (λ j. Sound (f.below j)) p → Looks K f f.doing → in_place K (part_ticks K f fs n o p) ≡ row K fs (region K f.cs f.doing)
    part_row n o (Some (gate g)) refer l = refl
    part_row n o (Some cell) refer l = refl
    part_row n o (Some (module_no j)) refer l =
        let cs = own f.owner f.below f.cs f.place in
        entered_row (f.below j) refer (map f.ws o.ins) cs for_outputs n ∙ ap (row K fs) (around_first f (cells_at f.owner f.below (entry K f)) cs f.doing l)
    part_row n o None refer l = elim refer [ ]

    returned_order : (vs : List V) (n : ℕ) (gs : List (Level V)) → Under K for_outputs gs → InOrder K (returned K vs gs n)
    returned_order vs n [] u = elim u [ ]
    returned_order vs n (p ∷ ps) u = (looks_fits p (occurrence_of K p) vs p.doing u.0, u.1)

    returned_row : (vs inner : List V) (n : ℕ) (gs : List (Level V)) → Under K for_outputs gs → in_place K (returned K vs gs n) ≡ row K gs inner
    returned_row vs inner n [] u = elim u [ ]
    returned_row vs inner n (p ∷ ps) u = ap (row K ps) (sym (around_first p (cells_at p.owner p.below (entry K p)) inner p.doing u.0))

    stored_up_order : (vs ds : List V) (n : ℕ) (gs : List (Level V)) → Under K for_both gs → InOrder K (stored_up K vs ds gs n)
    stored_up_order vs ds n [] u = tt
    stored_up_order vs ds n (p ∷ ps) u = (stores_saved p ds p.doing u.0, under_kept (cells_at p.owner p.below (entry K p)) ds p.doing ps u.1)

    stored_up_row : (vs ds : List V) (n : ℕ) (gs : List (Level V)) → Under K for_both gs → in_place K (stored_up K vs ds gs n) ≡ row K gs ds
    stored_up_row vs ds n [] u = refl
    stored_up_row vs ds n (p ∷ ps) u = ap (row K ps) (around_saved p ds (cells_at p.owner p.below (entry K p)) p.doing u.0)

    module _ (done rest : List V) (d : f.doing ≡ storing done rest) (u : Under K (storing done rest) fs) where
      -- of an entry of the state list
      module _ (s : ℕ) (stores : Stores K f (storing done rest)) (es : entry K f ≡ s) where
        abbrev size : ℕ
        size = cells_at f.owner f.below s

        saved_order : (n : ℕ) (ds : List V) → InOrder K (busy (saved K f s ds) fs n)
        saved_order n ds =
            subst (λ x. OwnFits K (saved K f x ds) (kept K (cells_at f.owner f.below x) ds f.doing) × Under K (kept K (cells_at f.owner f.below x) ds f.doing) fs) es
            (stores_saved f ds f.doing (subst (Stores K f) (sym d) stores), under_kept (cells_at f.owner f.below (entry K f)) ds f.doing fs (subst (λ x. Under K x fs) (sym d) u))

        saved_row : (n : ℕ) (ds : List V) → in_place K (busy (saved K f s ds) fs n) ≡ row K fs ((done ++ ds) ++ drop size rest)
        saved_row n ds = ap (λ x. row K fs (region K f.cs (kept K size ds x))) d

        long : length rest ≡ size + sizes K f (drop (suc f.place) f.owner.states)
        long = subst (λ x. length rest ≡ cells_at f.owner f.below x + sizes K f (drop (suc f.place) f.owner.states)) es stores

        entered_both_order : (g : Design) → Sound g → size ≡ cells g → (ins : List V) (n : ℕ) → InOrder K (busy (entered K g ins (take size rest) for_both f) (f ∷ fs) n)
        entered_both_order absent sound e ins n = elim sound [ ]
        entered_both_order (node m below) sound e ins n =
            let l = long in
            (length-take-le size rest (omega arith) ∙ e ∙ cells_by_states m below sound, (subst (Stores K f) (sym d) stores, subst (λ x. Under K x fs) (sym d) u))

        entry_order : (n : ℕ) (o : Occurrence) (p : Option Part) → part (occurrence_no f.owner s) ≡ p → Refers (λ j. Sound (f.below j)) p → InOrder K (entry_ticks K f fs n rest s o p)
        entry_order n o (Some (gate g)) q refer = saved_order n []
        entry_order n o (Some cell) q refer = saved_order n (input K (map f.ws o.ins) 0 ∷ [])
        entry_order n o (Some (module_no j)) q refer = entered_both_order (f.below j) refer (ap (cells_of (λ j. cells (f.below j))) q) (map f.ws o.ins) n
        entry_order n o None q refer = elim refer [ ]

        entry_row : (n : ℕ) (o : Occurrence) (p : Option Part) → part (occurrence_no f.owner s) ≡ p → Refers (λ j. Sound (f.below j)) p → in_place K (entry_ticks K f fs n rest s o p) ≡ write_part K f fs done o p (row K fs (done ++ rest))
        entry_row n o (Some (gate g)) q refer =
            let z : size ≡ 0 = ap (cells_of (λ j. cells (f.below j))) q in
            saved_row n [] ∙ ap₂ (λ l k. row K fs (l ++ drop k rest)) (append-nil done) z
        entry_row n o (Some cell) q refer =
            let v = input K (map f.ws o.ins) 0 in
            let z : size ≡ 1 = ap (cells_of (λ j. cells (f.below j))) q in
            let more = sizes K f (drop (suc f.place) f.owner.states) in
            let l : length rest ≡ 1 + more = long ∙ ap (λ k. k + more) z in
            let la = length-append done rest in
            saved_row n (v ∷ []) ∙ ap (λ k. row K fs ((done ++ (v ∷ [])) ++ drop k rest)) z ∙ ap (row K fs) (set_next done rest v more l) ∙ row_set fs (done ++ rest) (length done) v (under_both done rest fs u) (omega arith)
        entry_row n o (Some (module_no j)) q refer =
            let m = cells_at f.owner f.below (entry K f) in
            entered_row (f.below j) refer (map f.ws o.ins) (take size rest) for_both n
            ∙ ap (λ x. row K fs (around K m f.cs x (take size rest))) d
            ∙ ap (λ x. row K fs (around K (cells_at f.owner f.below x) f.cs (storing done rest) (take size rest))) es
            ∙ ap (row K fs) (around_next f size done rest)
        entry_row n o None q refer = elim refer [ ]

      stores_here : (s : ℕ) (ss : List ℕ) → drop f.place f.owner.states ≡ s ∷ ss → length rest ≡ sizes K f (drop f.place f.owner.states) → Stores K f (storing done rest)
      stores_here s ss e own =
          let Z : List ℕ → ℕ = sizes K f in
          let a : Z (drop f.place f.owner.states) ≡ cells_at f.owner f.below s + Z ss = ap Z e in
          let b : Z (drop (suc f.place) f.owner.states) ≡ Z ss = ap Z (drop_next f.owner.states f.place s ss e) in
          let c : cells_at f.owner f.below (entry K f) ≡ cells_at f.owner f.below s = ap (cells_at f.owner f.below) (drop_head 0 f.owner.states f.place s ss e) in
          omega arith

      module _ (sound : Sound (node f.owner f.below)) (own : length rest ≡ sizes K f (drop f.place f.owner.states)) where
        second_order : (n : ℕ) (l : List ℕ) → drop f.place f.owner.states ≡ l → InOrder K (second_tick K f fs n done rest l)
        second_order n [] e = stored_up_order (map f.ws f.owner.outs) done n fs (under_both done rest fs u)
        second_order n (s ∷ ss) e =
            entry_order s (stores_here s ss e own) (drop_head 0 f.owner.states f.place s ss e) n (occurrence_no f.owner s) (part (occurrence_no f.owner s)) refl (refer_state f.owner f.below sound f.place s ss e)

        second_row : (n : ℕ) (l : List ℕ) → drop f.place f.owner.states ≡ l → in_place K (second_tick K f fs n done rest l) ≡ write_entry K f fs done l (row K fs (done ++ rest))
        second_row n [] e =
            let none : rest ≡ [] = nil_from_length rest (own ∙ ap (sizes K f) e) in
            stored_up_row (map f.ws f.owner.outs) done n fs (under_both done rest fs u) ∙ ap (row K fs) (sym (append-nil done) ∙ ap (λ l. done ++ l) (sym none))
        second_row n (s ∷ ss) e =
            entry_row s (stores_here s ss e own) (drop_head 0 f.owner.states f.place s ss e) n (occurrence_no f.owner s) (part (occurrence_no f.owner s)) refl (refer_state f.owner f.below sound f.place s ss e)

    first_order : Sound (node f.owner f.below) → (n : ℕ) (d : Doing V) → f.doing ≡ d → Looks K f d → Under K d fs → (l : List Occurrence) → drop f.place f.owner.occurrences ≡ l → InOrder K (first_tick K f fs n d l)
    first_order sound n for_outputs d looks u [] e = returned_order (map f.ws f.owner.outs) n fs u
    first_order sound n for_both d looks u [] e = (looks, under_storing [] f.cs fs u)
    first_order sound n (storing done rest) d looks u [] e = elim looks [ ]
    first_order sound n x d looks u (o ∷ os) e = part_order n o (part o) (refer_left f.owner f.below sound f.place o os e) (subst (Looks K f) (sym d) looks) (subst (λ y. Under K y fs) (sym d) u)

    first_row : Sound (node f.owner f.below) → (n : ℕ) (d : Doing V) → f.doing ≡ d → Looks K f d → Under K d fs → (l : List Occurrence) → drop f.place f.owner.occurrences ≡ l → in_place K (first_tick K f fs n d l) ≡ row K fs (region K f.cs d)
    first_row sound n for_outputs d looks u [] e = returned_row (map f.ws f.owner.outs) f.cs n fs u
    first_row sound n for_both d looks u [] e = refl
    first_row sound n (storing done rest) d looks u [] e = elim looks [ ]
    first_row sound n x d looks u (o ∷ os) e = part_row n o (part o) (refer_left f.owner f.below sound f.place o os e) (subst (Looks K f) (sym d) looks) ∙ ap (λ y. row K fs (region K f.cs y)) d

    level_order : Sound (node f.owner f.below) → (n : ℕ) (d : Doing V) → f.doing ≡ d → OwnFits K f d → Under K d fs → InOrder K (level_tick K f fs n d)
    level_order sound n for_outputs d own u = first_order sound n for_outputs d tt u (drop f.place f.owner.occurrences) refl
    level_order sound n for_both d own u = first_order sound n for_both d own u (drop f.place f.owner.occurrences) refl
    level_order sound n (storing done rest) d own u = second_order done rest d u sound own n (drop f.place f.owner.states) refl

    level_row : Sound (node f.owner f.below) → (n : ℕ) (d : Doing V) → f.doing ≡ d → OwnFits K f d → Under K d fs → in_place K (level_tick K f fs n d) ≡ write_as K f fs d (row K fs (region K f.cs d))
    level_row sound n for_outputs d own u = first_row sound n for_outputs d tt u (drop f.place f.owner.occurrences) refl
    level_row sound n for_both d own u = first_row sound n for_both d own u (drop f.place f.owner.occurrences) refl
    level_row sound n (storing done rest) d own u = second_row done rest d u sound own n (drop f.place f.owner.states) refl

pub cells_in_place : (V : Type 0) → CellsInPlace V
cells_in_place V = record {
  orders = λ K f fs n sound order. level_order K f fs sound.0 n f.doing refl order.0 order.1;
  writes = λ K f fs n sound order. level_row K f fs sound.0 n f.doing refl order.0 order.1;
}
