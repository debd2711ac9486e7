-- The loop over a module's occurrences.
use Rattle.std.proofs.Common.{◌≡◌, ℕ, zero, suc, ◌+◌, ◌-◌, ◌*◌, ◌<◌, ◌≤◌, max, Bool, ◌&&◌, eqb, ltb, ◌≢◌, List, [], ◌∷◌, map, length, get_or, set, sym, refl, ap, ◌∙◌, le_of_suc-le-suc, add-zero, add_assoc, zero-add, add-one, arith, length-set, get_or-set_other, get_or-set_same, below_more}
use mathlib.Core.Path.{fun_ext}
use native.Mathlib.Nat.{max-zero, zero-max}
use Rattle.rules.specs.declared.refusal.Refusal.{Refusal}
use Rattle.rules.specs.Refusals.{accepted, refused}
use Rattle.rules.specs.Boards.{Occurrence, Design, no_occurrence, node, part, sum_of, most_of, of_module, cells, cells_of, cells_at, depth, places, outputs_due}
use Rattle.rules.specs.Wires.{Wires, run, drive, drive_all, reach, reached, through, through_of}
use Rattle.rules.specs.Records.{end_of, after, uses}
use Rattle.rules.specs.Judging.{PlacedOccurrence, occurrence_at, placed_at, occurrences_of, unit_at, module_of, occurrence_judged, occurrences_judged}
use Rattle.rules.proofs.Verdicts.{passed, failed}
use Rattle.rules.proofs.Reading.{after_more}
use Rattle.rules.proofs.Laid.{length_placed}
use Rattle.board.specs.declared.tables.Summary.{Summary}
use Rattle.board.specs.WireTables.{driven_by, reaches}
use Rattle.board.specs.Summaries.{SummaryOf, reach_on}
use Rattle.board.specs.Tallies.{TallyOf}

-- the occurrences from number i on, of n from `at` on
abbrev pub rest : List ℕ → ℕ → ℕ → ℕ → List PlacedOccurrence
rest f at n i = placed_at f (after f at i) (n - i)

abbrev pub cells_by : (ℕ → Design) → Occurrence → ℕ
cells_by below o = cells_of (λ j. cells (below j)) (part o)

abbrev pub depth_by : (ℕ → Design) → Occurrence → ℕ
depth_by below o = of_module (λ j. depth (below j)) (part o)

abbrev pub places_by : (ℕ → Design) → Occurrence → ℕ
places_by below o = 1 + of_module (λ j. places (below j)) (part o)

abbrev pub reach_step : (ℕ → Design) → ℕ → Occurrence → Wires (ℕ → Bool) → List (ℕ → Bool)
reach_step below i o ws = map (λ _. reached ws (through_of (λ j. through (below j)) (part o) o.ins)) (outputs_due below (part o))

-- the loop over the occurrences of the module at `at`, before occurrence i
pub record Tallied (f : List ℕ) (below : ℕ → Design) (at i : ℕ) (ds : List Bool) (rs ss : List ℕ) (c d p : ℕ) : Type 0 where
  pub many : length ss ≡ 64
  pub judged : occurrences_judged below (unit_at f at).wires (driven_by ds) (rest f (end_of f at) (uses f at) i) ≡ occurrences_judged below (unit_at f at).wires (λ w. ltb w (unit_at f at).inputs) (unit_at f at).placed
  pub driving : drive_all (occurrences_of (rest f (end_of f at) (uses f at) i)) (driven_by ds) ≡ drive_all (occurrences_of (unit_at f at).placed) (λ w. ltb w (unit_at f at).inputs)
  pub reaching : run (reach_step below) i (occurrences_of (rest f (end_of f at) (uses f at) i)) (reaches rs) ≡ reach (node (module_of (unit_at f at)) below)
  pub sized : (j : ℕ) → j < i → get_or ss j 0 ≡ cells_at (module_of (unit_at f at)) below j
  pub celled : c + sum_of (cells_by below) (occurrences_of (rest f (end_of f at) (uses f at) i)) ≡ cells (node (module_of (unit_at f at)) below)
  pub deep : max d (most_of (depth_by below) (occurrences_of (rest f (end_of f at) (uses f at) i))) ≡ most_of (depth_by below) (occurrences_of (unit_at f at).placed)
  pub placing : p + sum_of (places_by below) (occurrences_of (rest f (end_of f at) (uses f at) i)) ≡ places (node (module_of (unit_at f at)) below)
  pub few_cells : c ≤ 4096 * i
  pub shallow : d ≤ 8
  pub few_places : p ≤ 65536 * i

-- What is left of the occurrences

rest_suc : (f : List ℕ) (at m k n : ℕ) → m + 1 ≡ n → after f at (k + 1) ≡ end_of f (after f at k) → placed_at f (after f at k) n ≡ occurrence_at f (after f at k) ∷ placed_at f (after f at (k + 1)) m
unfolding placed_at
rest_suc f at m k n e a = ap (placed_at f (after f at k)) (sym e ∙ add-one m) ∙ ap (λ x. occurrence_at f (after f at k) ∷ placed_at f x m) (sym a)

pub rest_more : (f : List ℕ) (at n i : ℕ) → i < n → rest f at n i ≡ occurrence_at f (after f at i) ∷ rest f at n (i + 1)
rest_more f at n i h = rest_suc f at (n - (i + 1)) i (n - i) (omega arith) (after_more f at i)

pub rest_all : (f : List ℕ) (at n i : ℕ) → n ≤ i → rest f at n i ≡ []
unfolding placed_at
rest_all f at n i h = let z : n - i ≡ 0 = omega arith in rw z

pub rest_none : (f : List ℕ) (at n : ℕ) → rest f at n 0 ≡ placed_at f at n
unfolding after
rest_none f at n = ap (placed_at f at) (omega arith)

pub occurrence_is : (f : List ℕ) (at n i : ℕ) → i < n → get_or (occurrences_of (placed_at f at n)) i no_occurrence ≡ (occurrence_at f (after f at i)).occurrence
unfolding placed_at after
occurrence_is f at zero i h = absurd (omega arith)
occurrence_is f at (suc n) zero h = refl
occurrence_is f at (suc n) (suc i) h = occurrence_is f (end_of f at) n i (le_of_suc-le-suc h)

pub judged_more : (below : ℕ → Design) (wires : ℕ) (dr dr' : ℕ → Bool) (p : PlacedOccurrence) (ps : List PlacedOccurrence) → occurrence_judged below wires dr p ≡ accepted → dr' ≡ drive p.occurrence.outs dr → occurrences_judged below wires dr (p ∷ ps) ≡ occurrences_judged below wires dr' ps
unfolding occurrences_judged
judged_more below wires dr dr' p ps e d = passed (occurrence_judged below wires dr p) _ e ∙ ap (λ x. occurrences_judged below wires x ps) (sym d)

pub judged_fails : (below : ℕ → Design) (wires : ℕ) (dr : ℕ → Bool) (p : PlacedOccurrence) (ps : List PlacedOccurrence) (r : Refusal) → occurrence_judged below wires dr p ≡ refused r → occurrences_judged below wires dr (p ∷ ps) ≡ refused r
unfolding occurrences_judged
judged_fails below wires dr p ps r e = failed (occurrence_judged below wires dr p) _ r e

pub judged_none : (below : ℕ → Design) (wires : ℕ) (dr : ℕ → Bool) → occurrences_judged below wires dr [] ≡ accepted
unfolding occurrences_judged
judged_none below wires dr = refl

max_again : (a b c : ℕ) → max (max a b) c ≡ max a (max b c)
max_again a b c = omega arith

module _ (f : List ℕ) (below : ℕ → Design) (at : ℕ) where
  pub tally_start : (ds : List Bool) (rs ss : List ℕ) → length ss ≡ 64 → ((w : ℕ) → driven_by ds w ≡ ltb w (unit_at f at).inputs) → ((w x : ℕ) → reaches rs w x ≡ (ltb w (unit_at f at).inputs && eqb w x)) → Tallied f below at 0 ds rs ss 0 0 0
  tally_start ds rs ss l hd hr =
      let e = rest_none f (end_of f at) (uses f at) in
      let ed : driven_by ds ≡ (λ w. ltb w (unit_at f at).inputs) = fun_ext hd in
      let er : reaches rs ≡ (λ w x. ltb w (unit_at f at).inputs && eqb w x) = fun_ext (λ w. fun_ext (hr w)) in
      record {
        many = l;
        judged = ap (occurrences_judged below (unit_at f at).wires (driven_by ds)) e ∙ ap (λ g. occurrences_judged below (unit_at f at).wires g (unit_at f at).placed) ed;
        driving = ap (λ x. drive_all (occurrences_of x) (driven_by ds)) e ∙ ap (drive_all (occurrences_of (unit_at f at).placed)) ed;
        reaching = ap (λ x. run (reach_step below) 0 (occurrences_of x) (reaches rs)) e ∙ ap (run (reach_step below) 0 (occurrences_of (unit_at f at).placed)) er;
        sized = λ j h. absurd (omega arith);
        celled = zero-add _ ∙ ap (λ x. sum_of (cells_by below) (occurrences_of x)) e;
        deep = zero-max _ ∙ ap (λ x. most_of (depth_by below) (occurrences_of x)) e;
        placing = zero-add _ ∙ ap (λ x. sum_of (places_by below) (occurrences_of x)) e;
        few_cells = omega arith;
        shallow = omega arith;
        few_places = omega arith;
      }

  module _ (i : ℕ) (ds : List Bool) (rs ss : List ℕ) (c d p : ℕ) (g : Tallied f below at i ds rs ss c d p) where
    pub tally_fails : (r : Refusal) → i < uses f at → occurrence_judged below (unit_at f at).wires (driven_by ds) (occurrence_at f (after f (end_of f at) i)) ≡ refused r → occurrences_judged below (unit_at f at).wires (λ w. ltb w (unit_at f at).inputs) (unit_at f at).placed ≡ refused r
    tally_fails r h e =
        sym g.judged ∙ ap (occurrences_judged below (unit_at f at).wires (driven_by ds)) (rest_more f (end_of f at) (uses f at) i h) ∙ judged_fails below (unit_at f at).wires (driven_by ds) _ _ r e

    pub tally_more : (s : Summary) (ds2 : List Bool) (rs2 : List ℕ) → i < uses f at → i < 64 → occurrence_judged below (unit_at f at).wires (driven_by ds) (occurrence_at f (after f (end_of f at) i)) ≡ accepted → SummaryOf below (part (occurrence_at f (after f (end_of f at) i)).occurrence) s → driven_by ds2 ≡ drive (occurrence_at f (after f (end_of f at) i)).occurrence.outs (driven_by ds) → reaches rs2 ≡ reach_on below (occurrence_at f (after f (end_of f at) i)).occurrence (reaches rs) → Tallied f below at (i + 1) ds2 rs2 (set ss i s.cells) (c + s.cells) (max d s.depth) (p + (1 + s.places))
    tally_more s ds2 rs2 h h64 e k ed er =
        let n = uses f at in
        let q = end_of f at in
        let o = occurrence_at f (after f q i) in
        let more = rest_more f q n i h in
        let tail = rest f q n (i + 1) in
        let lt : i < length ss = omega (arith, g.many) in
        let z : suc i ≡ i + 1 = omega arith in
        let here : s.cells ≡ cells_at (module_of (unit_at f at)) below i = k.cells ∙ ap (cells_by below) (sym (occurrence_is f q n i h)) in
        record {
          many = simp length-set g.many;
          judged = sym (ap (occurrences_judged below (unit_at f at).wires (driven_by ds)) more ∙ judged_more below (unit_at f at).wires (driven_by ds) (driven_by ds2) o tail e ed) ∙ g.judged;
          driving = ap (drive_all (occurrences_of tail)) ed ∙ sym (ap (λ x. drive_all (occurrences_of x) (driven_by ds)) more) ∙ g.driving;
          reaching = ap (run (reach_step below) (i + 1) (occurrences_of tail)) er ∙ sym (ap (λ x. run (reach_step below) i (occurrences_of x) (reaches rs)) more ∙ ap (λ j. run (reach_step below) j (occurrences_of tail) (reach_on below o.occurrence (reaches rs))) z) ∙ g.reaching;
          sized = below_more _ _ (λ j l. let ne : j ≢ i = omega arith in get_or-set_other ss i j s.cells 0 ne ∙ g.sized j l) (get_or-set_same ss i s.cells 0 lt ∙ here);
          celled = add_assoc c s.cells (sum_of (cells_by below) (occurrences_of tail)) ∙ ap (λ x. c + (x + sum_of (cells_by below) (occurrences_of tail))) k.cells ∙ sym (ap (λ x. c + sum_of (cells_by below) (occurrences_of x)) more) ∙ g.celled;
          deep = max_again d s.depth (most_of (depth_by below) (occurrences_of tail)) ∙ ap (λ x. max d (max x (most_of (depth_by below) (occurrences_of tail)))) k.depth ∙ sym (ap (λ x. max d (most_of (depth_by below) (occurrences_of x))) more) ∙ g.deep;
          placing = add_assoc p (1 + s.places) (sum_of (places_by below) (occurrences_of tail)) ∙ ap (λ x. p + (1 + x + sum_of (places_by below) (occurrences_of tail))) k.places ∙ sym (ap (λ x. p + sum_of (places_by below) (occurrences_of x)) more) ∙ g.placing;
          few_cells = omega (arith, g.few_cells, k.few_cells);
          shallow = omega (arith, g.shallow, k.shallow);
          few_places = omega (arith, g.few_places, k.few_places);
        }

    pub tally_end : uses f at ≤ i → i ≤ uses f at → (occurrences_judged below (unit_at f at).wires (λ w. ltb w (unit_at f at).inputs) (unit_at f at).placed ≡ accepted) × TallyOf below (unit_at f at) (record { wires = record { driven = ds; reach = rs }; sizes = ss; cells = c; depth = d; places = p })
    tally_end h h2 =
        let none = rest_all f (end_of f at) (uses f at) i h in (
          sym g.judged ∙ ap (occurrences_judged below (unit_at f at).wires (driven_by ds)) none ∙ judged_none below (unit_at f at).wires (driven_by ds),
          record {
            driven = sym (ap (λ x. drive_all (occurrences_of x) (driven_by ds)) none) ∙ g.driving;
            reach = sym (ap (λ x. run (reach_step below) i (occurrences_of x) (reaches rs)) none) ∙ g.reaching;
            sizes = λ j l. g.sized j (omega (arith, length_placed f (end_of f at) (uses f at)));
            cells = sym (add-zero c) ∙ sym (ap (λ x. c + sum_of (cells_by below) (occurrences_of x)) none) ∙ g.celled;
            depth = ap (λ x. 1 + x) (sym (max-zero d) ∙ sym (ap (λ x. max d (most_of (depth_by below) (occurrences_of x))) none) ∙ g.deep);
            places = sym (add-zero p) ∙ sym (ap (λ x. p + sum_of (places_by below) (occurrences_of x)) none) ∙ g.placing;
            shallow = g.shallow;
          },
        )
