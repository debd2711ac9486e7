-- What judging finds of a module, once its occurrences are tallied.
use Rattle.std.proofs.Common.{◌≡◌, ℕ, ◌+◌, ◌<◌, ◌≤◌, Bool, true, false, ◌&&◌, eqb, ltb, leb, List, length, get_or, sym, refl, ap, ◌∙◌, arith}
use lib.ListN.{length-map}
use Rattle.std.proofs.lemmas.Bool.{and_parts, le-leb, lt-leb, leb-true, leb-false, ltb-true}
use Rattle.std.proofs.lemmas.List.Recursion.{and_at}
use Rattle.rules.specs.declared.refusal.Refusal.{Refusal}
use Rattle.rules.specs.declared.refusal.Refusal.TheVariants.{Wire, Drive, State, Size}
use Rattle.rules.specs.Refusals.{Verdict, accepted, refused, ◌then◌, asked}
use Rattle.rules.specs.Boards.{Design, node, cells, cells_at, ahead, places}
use Rattle.rules.specs.Wires.{all, any, every, picked, drive_all, times, reached, through}
use Rattle.rules.specs.Records.{end_of, uses}
use Rattle.rules.specs.Judging.{unit_at, module_of, occurrences_of, times_due, occurrences_judged, module_judged, states_right, size_right}
use Rattle.rules.proofs.Laid.{length_placed}
use Rattle.board.specs.declared.layout.ModuleRecords.{ModuleRecords}
use Rattle.board.specs.declared.modules.Tally.{Tally}
use Rattle.board.specs.declared.modules.Lists.{Lists}
use Rattle.board.specs.Layouts.{ModuleOf}
use Rattle.board.specs.WireTables.{bit, driven_by, reaches, size_in}
use Rattle.board.specs.Tallies.{TallyOf, ListsOf, within_limits}
use Rattle.board.proofs.Every.{every_same, ahead_same}
use Rattle.board.proofs.References.{ones_bit, picked_same, picked_every}

module _ (v : Verdict) (a d s z : Bool) (r1 r2 r3 r4 : Refusal) (ev : v ≡ accepted) where
  four_1 : a ≡ false → (v then (asked a r1 then (asked d r2 then (asked s r3 then asked z r4)))) ≡ refused r1
  four_1 e1 = rw (ev, e1)

  four_2 : a ≡ true → d ≡ false → (v then (asked a r1 then (asked d r2 then (asked s r3 then asked z r4)))) ≡ refused r2
  four_2 e1 e2 = rw (ev, e1, e2)

  four_3 : a ≡ true → d ≡ true → s ≡ false → (v then (asked a r1 then (asked d r2 then (asked s r3 then asked z r4)))) ≡ refused r3
  four_3 e1 e2 e3 = rw (ev, e1, e2, e3)

  four_4 : a ≡ true → d ≡ true → s ≡ true → z ≡ false → (v then (asked a r1 then (asked d r2 then (asked s r3 then asked z r4)))) ≡ refused r4
  four_4 e1 e2 e3 e4 = rw (ev, e1, e2, e3, e4)

  four : a ≡ true → d ≡ true → s ≡ true → z ≡ true → (v then (asked a r1 then (asked d r2 then (asked s r3 then asked z r4)))) ≡ accepted
  four e1 e2 e3 e4 = rw (ev, e1, e2, e3, e4)

every_input : {X : Type 0} (xs : List X) → length xs ≤ 16 → picked (bit 65535) xs ≡ xs
every_input xs h = picked_same (bit 65535) (λ _. true) 16 xs h ones_bit ∙ picked_every xs

abbrev pub wired : ℕ → List ℕ → Bool
wired W outs = all (λ w. ltb w W) outs

abbrev pub listed : ℕ → List ℕ → List ℕ → Bool
listed N states sizes = all (λ x. ltb x N) states && every N (λ i. eqb (times i states) (times_due (get_or sizes i 0)))

one_less : (n : ℕ) → leb (1 + n) 8 ≡ leb n 7
one_less n =
    let by : (b : Bool) → leb n 7 ≡ b → leb (1 + n) 8 ≡ b =
    elim [
      | true ↦ λ e. le-leb (1 + n) 8 (omega (arith, leb-true n 7 e))
      | false ↦ λ e. lt-leb (1 + n) 8 (omega (arith, leb-false n 7 e))
    ] in by (leb n 7) refl

module _ (f : List ℕ) (below : ℕ → Design) (at : ℕ) (m : ModuleRecords) (mo : ModuleOf f at m) (l : Lists) (hl : ListsOf (unit_at f at) l) (s : Tally)
    (v : occurrences_judged below (unit_at f at).wires (λ w. ltb w (unit_at f at).inputs) (unit_at f at).placed ≡ accepted) (k : TallyOf below (unit_at f at) s) where
  abbrev W : ℕ
  W = m.counts.wires

  abbrev N : ℕ
  N = m.counts.occurrences

  abbrev place : ℕ
  place = m.place

  abbrev outs : List ℕ
  outs = l.outs.now

  abbrev states : List ℕ
  states = l.states.now

  ep : place ≡ at
  ep = mo.place

  ew : W ≡ (unit_at f at).wires
  ew = mo.counts.wires

  en : N ≡ uses f at
  en = mo.counts.occurrences

  eo : outs ≡ (unit_at f at).outs
  eo = hl.outs

  es : states ≡ (unit_at f at).states
  es = hl.states

  wired_is : all (λ w. ltb w (unit_at f at).wires) (unit_at f at).outs ≡ wired W outs
  wired_is = ap (λ x. all (λ w. ltb w x) (unit_at f at).outs) (sym ew) ∙ ap (wired W) (sym eo)

  driven_is : every (unit_at f at).wires (drive_all (occurrences_of (unit_at f at).placed) (λ w. ltb w (unit_at f at).inputs)) ≡ every W (driven_by s.wires.driven)
  driven_is = ap (λ x. every x (drive_all (occurrences_of (unit_at f at).placed) (λ w. ltb w (unit_at f at).inputs))) (sym ew) ∙ ap (every W) (sym k.driven)

  count_is : length (module_of (unit_at f at)).occurrences ≡ N
  count_is = length-map (unit_at f at).placed _ ∙ length_placed f (end_of f at) (uses f at) ∙ sym en

  listed_is : states_right (module_of (unit_at f at)) below ≡ listed N states s.sizes
  listed_is =
      let g : (n : ℕ) (xs : List ℕ) → Bool = λ n xs. all (λ x. ltb x n) xs && every n (λ i. eqb (times i xs) (times_due (cells_at (module_of (unit_at f at)) below i))) in
      let e : every N (λ i. eqb (times i states) (times_due (cells_at (module_of (unit_at f at)) below i))) ≡ every N (λ i. eqb (times i states) (times_due (get_or s.sizes i 0))) =
      every_same N _ _ (λ j l. ap (λ x. eqb (times j states) (times_due x)) (sym (k.sizes j (omega (arith, length_placed f (end_of f at) (uses f at)))))) in
      ap (λ n. g n (unit_at f at).states) count_is ∙ ap (g N) (sym es) ∙ ap (λ b. all (λ x. ltb x N) states && b) e

  small_is : size_right (node (module_of (unit_at f at)) below) ≡ within_limits s
  small_is =
      ap (λ x. leb x 8 && (leb (cells (node (module_of (unit_at f at)) below)) 4096 && leb (places (node (module_of (unit_at f at)) below)) 65535)) (sym k.depth)
      ∙ ap (λ x. leb (1 + s.depth) 8 && (leb x 4096 && leb (places (node (module_of (unit_at f at)) below)) 65535)) (sym k.cells)
      ∙ ap (λ x. leb (1 + s.depth) 8 && (leb s.cells 4096 && leb x 65535)) (sym k.places)
      ∙ ap (λ b. b && (leb s.cells 4096 && leb s.places 65535)) (one_less s.depth)

  pub bad_wire : wired W outs ≡ false → module_judged below (unit_at f at) ≡ refused (Wire place)
  bad_wire a = four_1 _ _ (every (unit_at f at).wires (drive_all (occurrences_of (unit_at f at).placed) (λ w. ltb w (unit_at f at).inputs))) (states_right (module_of (unit_at f at)) below) (size_right (node (module_of (unit_at f at)) below)) (Wire at) (Drive at) (State at) (Size at) v (wired_is ∙ a) ∙ ap (λ p. refused (Wire p)) (sym ep)

  pub bad_drive : wired W outs ≡ true → every W (driven_by s.wires.driven) ≡ false → module_judged below (unit_at f at) ≡ refused (Drive place)
  bad_drive a b = four_2 _ _ _ (states_right (module_of (unit_at f at)) below) (size_right (node (module_of (unit_at f at)) below)) (Wire at) (Drive at) (State at) (Size at) v (wired_is ∙ a) (driven_is ∙ b) ∙ ap (λ p. refused (Drive p)) (sym ep)

  pub bad_state : wired W outs ≡ true → every W (driven_by s.wires.driven) ≡ true → listed N states s.sizes ≡ false → module_judged below (unit_at f at) ≡ refused (State place)
  bad_state a b c = four_3 _ _ _ _ (size_right (node (module_of (unit_at f at)) below)) (Wire at) (Drive at) (State at) (Size at) v (wired_is ∙ a) (driven_is ∙ b) (listed_is ∙ c) ∙ ap (λ p. refused (State p)) (sym ep)

  pub bad_size : wired W outs ≡ true → every W (driven_by s.wires.driven) ≡ true → listed N states s.sizes ≡ true → within_limits s ≡ false → module_judged below (unit_at f at) ≡ refused (Size place)
  bad_size a b c e = four_4 _ _ _ _ _ (Wire at) (Drive at) (State at) (Size at) v (wired_is ∙ a) (driven_is ∙ b) (listed_is ∙ c) (small_is ∙ e) ∙ ap (λ p. refused (Size p)) (sym ep)

  pub good : wired W outs ≡ true → every W (driven_by s.wires.driven) ≡ true → listed N states s.sizes ≡ true → within_limits s ≡ true → module_judged below (unit_at f at) ≡ accepted
  good a b c e = four _ _ _ _ _ (Wire at) (Drive at) (State at) (Size at) v (wired_is ∙ a) (driven_is ∙ b) (listed_is ∙ c) (small_is ∙ e)

  pub through_is : (mask : ℕ) → ((x : ℕ) → bit mask x ≡ any (λ w. reaches s.wires.reach w x) (picked (bit 65535) outs)) → (x : ℕ) → x < 16 → bit mask x ≡ through (node (module_of (unit_at f at)) below) x
  through_is mask h x _ =
      h x ∙ ap (any (λ w. reaches s.wires.reach w x)) (every_input outs hl.few_outs ∙ eo) ∙ ap (λ r. reached r (unit_at f at).outs x) k.reach

  pub listed_below : listed N states s.sizes ≡ true → (j : ℕ) → j < length states → get_or states j 0 < N
  listed_below e j h = ltb-true _ _ (and_at (all (λ x. ltb x N)) (λ x. ltb x N) refl (λ _ _. refl) states j 0 h (and_parts (all (λ x. ltb x N) states) _ e).0)

  pub starts_are : listed N states s.sizes ≡ true → (i : ℕ) → ahead (size_in s.sizes) states i ≡ ahead (cells_at (module_of (unit_at f at)) below) (unit_at f at).states i
  starts_are e i =
      ahead_same (size_in s.sizes) (cells_at (module_of (unit_at f at)) below) i states (λ j h. k.sizes (get_or states j 0) (omega (arith, listed_below e j h, length_placed f (end_of f at) (uses f at))))
      ∙ ap (λ x. ahead (cells_at (module_of (unit_at f at)) below) x i) es

-- the limits hold where the test of them does
pub limits : (s : Tally) → within_limits s ≡ true → (s.depth ≤ 7) × (s.cells ≤ 4096) × (s.places ≤ 65535)
limits s e =
    let p = and_parts (leb s.depth 7) _ e in
    let q = and_parts (leb s.cells 4096) _ p.1 in
    (leb-true _ _ p.0, leb-true _ _ q.0, leb-true _ _ q.1)
