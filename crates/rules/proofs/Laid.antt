-- A file whose records pass is the records of its board laid end to end, and the other way round.
use Rattle.std.proofs.Common.{◌≡◌, ℕ, zero, suc, ◌+◌, ◌<◌, ◌≤◌, true, leb, List, [], ◌∷◌, ◌++◌, map, length, get_or, take, sym, refl, ap, ◌∙◌, subst, arith}
use Rattle.std.proofs.lemmas.List.{length-append, length-map, get_or-map, get_or-drop, take_all}
use Rattle.std.proofs.lemmas.Bool.{eqb-true, eq-eqb, leb-true, le-leb}
use Rattle.rules.specs.declared.refusal.Refusal.TheVariants.{Long, Trail}
use Rattle.rules.specs.Refusals.{Verdict, accepted, ◌then◌, asked}
use Rattle.rules.specs.Boards.{Occurrence, Module, no_occurrence, no_module, module_number, sum_of}
use Rattle.rules.specs.Records.{number_at, end_of, body, read, after, uses, module_end, module_at, module_place, module_count, board_shape, module_shape, occurrence_shape, occurrences_read, module_read, modules_read, records_read, occurrences_in}
use Rattle.rules.specs.Judging.{PlacedOccurrence, PlacedModule, occurrence_in, occurrence_at, occurrences_of, module_of, placed_at, unit_at, units_at, units_of, unit_no, board_of}
use Rattle.rules.specs.Files.{word, RecordAt, module_body, OccurrenceBody, occurrence_size, head_size, module_size, module_start, occurrence_start, LaidOut, OccurrenceRange, ModuleRange, BoardRange}
use Rattle.rules.specs.Breaks.{BoardShape, ModuleShape, OccurrenceShape}
use Rattle.rules.proofs.Verdicts.{asked_yes, passed, asked_accepted, then_left, then_right}
use Rattle.rules.proofs.Modules.{length_units, units_more}
use Rattle.rules.proofs.LaidRecords.{found, read_record, record_read, board_right, right_board, occurrence_right, right_occurrence, module_in, module_right, right_module, occurrence_in_is, module_in_is}

-- Things one behind another, each of its own size

abbrev Row : {X : Type 0} → (ℕ → X → Type 0) → (X → ℕ) → ℕ → List X → Type 0
Row P size at [] = Unit {0}
Row P size at (x ∷ xs) = P at x × Row P size (at + size x) xs

module _ {X : Type 0} (P : ℕ → X → Type 0) (size : X → ℕ) (d : X) where
  row_no : (xs : List X) (at : ℕ) → Row P size at xs → (i : ℕ) → i < length xs → P (at + sum_of size (take i xs)) (get_or xs i d)
  row_no [] at r i h = absurd (omega arith)
  row_no (x ∷ xs) at r zero h = let z : at ≡ at + 0 = omega arith in subst (λ n. P n x) z r.0
  row_no (x ∷ xs) at r (suc i) h =
      let z : at + size x + sum_of size (take i xs) ≡ at + (size x + sum_of size (take i xs)) = omega arith in
      subst (λ n. P n (get_or xs i d)) z (row_no xs (at + size x) r.1 i (omega arith))

  no_row : (xs : List X) (at : ℕ) → ((i : ℕ) → i < length xs → P (at + sum_of size (take i xs)) (get_or xs i d)) → Row P size at xs
  no_row [] at h = tt
  no_row (x ∷ xs) at h =
      let z : at + 0 ≡ at = omega arith in (
        subst (λ n. P n x) z (h 0 (omega arith)),
        no_row xs (at + size x) λ i l.
            let y : at + (size x + sum_of size (take i xs)) ≡ at + size x + sum_of size (take i xs) = omega arith in
            subst (λ n. P n (get_or xs i d)) y (h (suc i) (omega arith)),
      )

-- What stands at a place

record OccurrenceStands (f : List ℕ) (at : ℕ) (o : Occurrence) : Type 0 where
  bytes : List ℕ
  stands : RecordAt f at 3 bytes
  reads : OccurrenceBody o bytes
  range : OccurrenceRange o

record ModuleStands (f : List ℕ) (at : ℕ) (m : Module) : Type 0 where
  stands : RecordAt f at 2 (module_body m)
  range : ModuleRange m
  occurrences : Row (OccurrenceStands f) occurrence_size (at + head_size m) m.occurrences

-- From what stands to what is read

record OccurrenceFound (f : List ℕ) (at : ℕ) (o : Occurrence) : Type 0 where
  passes : read f at 3 occurrence_shape ≡ accepted
  is : occurrence_in (body f at) ≡ o
  ends : end_of f at ≡ at + occurrence_size o

occurrence_found : (f : List ℕ) (at : ℕ) (o : Occurrence) → OccurrenceStands f at o → OccurrenceFound f at o
occurrence_found f at o k =
    let b = k.bytes in
    let r = k.reads in
    let s : OccurrenceShape b = record { low = r.low; high = r.high; ins = o.ins; outs = o.outs; bytes = r.bytes; few_inputs = k.range.inputs; few_outputs = k.range.outputs } in
    let h = found f at 3 b k.stands in
    let l : length b ≡ suc (suc (suc (suc (length (o.ins ++ o.outs))))) = ap length r.bytes in
    let n : length (o.ins ++ o.outs) ≡ length o.ins + length o.outs = length-append o.ins o.outs in
    record {
      passes = record_read f at 3 occurrence_shape b k.stands (right_occurrence b s);
      is = ap occurrence_in h.body_is ∙ occurrence_in_is b s ∙ λ i. record { reference = r.reference_is i; ins = o.ins; outs = o.outs };
      ends = omega arith;
    }

record OccurrencesFound (f : List ℕ) (at : ℕ) (os : List Occurrence) : Type 0 where
  pass : occurrences_read f at (length os) ≡ accepted
  are : occurrences_of (placed_at f at (length os)) ≡ os
  place : (i : ℕ) → i ≤ length os → after f at i ≡ at + sum_of occurrence_size (take i os)

occurrences_found : (f : List ℕ) (os : List Occurrence) (at : ℕ) → Row (OccurrenceStands f) occurrence_size at os → OccurrencesFound f at os
unfolding occurrences_read placed_at after
occurrences_found f [] at k = record { pass = refl; are = refl; place = elim [ zero ↦ λ h. omega arith | suc i ↦ λ h. absurd (omega arith) ] }
occurrences_found f (o ∷ os) at k =
    let h = occurrence_found f at o k.0 in
    let t : OccurrencesFound f (end_of f at) os = subst (λ n. OccurrencesFound f n os) (sym h.ends) (occurrences_found f os (at + occurrence_size o) k.1) in
    record {
      pass = passed (read f at 3 occurrence_shape) _ h.passes ∙ t.pass;
      are = λ i. h.is i ∷ t.are i;
      place = elim [ zero ↦ λ l. omega arith | suc i ↦ λ l. t.place i (omega arith) ∙ omega (arith, h.ends) ];
    }

record ModuleFound (f : List ℕ) (at : ℕ) (m : Module) : Type 0 where
  passes : module_read f at ≡ accepted
  is : module_of (unit_at f at) ≡ m
  place : (i : ℕ) → i ≤ length m.occurrences → after f (end_of f at) i ≡ at + head_size m + sum_of occurrence_size (take i m.occurrences)
  ends : module_end f at ≡ at + module_size m

module_found : (f : List ℕ) (at : ℕ) (m : Module) → ModuleStands f at m → ModuleFound f at m
module_found f at m k =
    let b = module_body m in
    let os = m.occurrences in
    let g = k.range in
    let s : ModuleShape b =
    record { inputs = m.inputs; wires = m.wires; occurrences = length os; outs = m.outs; states = m.states; bytes = refl; few_inputs = g.inputs; few_outputs = g.outputs; inputs_wired = g.inputs_wired; few_wires = g.wires; few_occurrences = g.occurrences; few_states = g.states } in
    let h = found f at 2 b k.stands in
    let n : length (m.outs ++ m.states) ≡ length m.outs + length m.states = length-append m.outs m.states in
    let e : end_of f at ≡ at + head_size m = h.ends ∙ omega (arith, n) in
    let u : uses f at ≡ length os = ap occurrences_in h.body_is in
    let t : OccurrencesFound f (end_of f at) os = subst (λ p. OccurrencesFound f p os) (sym e) (occurrences_found f os (at + head_size m) k.occurrences) in
    record {
      passes = passed (read f at 2 module_shape) _ (record_read f at 2 module_shape b k.stands (right_module b s)) ∙ ap (occurrences_read f (end_of f at)) u ∙ t.pass;
      is = ap (module_in (body f at)) (ap (λ j. occurrences_of (placed_at f (end_of f at) j)) u ∙ t.are) ∙ ap (λ x. module_in x os) h.body_is ∙ module_in_is b s os;
      place = λ i l. t.place i l ∙ ap (λ p. p + sum_of occurrence_size (take i os)) e;
      ends = ap (after f (end_of f at)) u ∙ t.place (length os) (omega arith) ∙ ap (λ xs. end_of f at + sum_of occurrence_size xs) (take_all (length os) os (omega arith)) ∙ omega (arith, e);
    }

record ModulesFound (f : List ℕ) (at : ℕ) (ms : List Module) : Type 0 where
  pass : at + sum_of module_size (take (length ms) ms) ≡ length f → modules_read f at (length ms) ≡ accepted
  are : map module_of (units_at f at (length ms)) ≡ ms
  place : (k : ℕ) → k ≤ length ms → module_at f at k ≡ at + sum_of module_size (take k ms)

modules_found : (f : List ℕ) (ms : List Module) (at : ℕ) → Row (ModuleStands f) module_size at ms → ModulesFound f at ms
unfolding modules_read units_at module_at
modules_found f [] at k = record { pass = λ e. asked_yes _ (Trail at) (eq-eqb at (length f) (omega arith)); are = refl; place = elim [ zero ↦ λ h. omega arith | suc i ↦ λ h. absurd (omega arith) ] }
modules_found f (m ∷ ms) at k =
    let h = module_found f at m k.0 in
    let t : ModulesFound f (module_end f at) ms = subst (λ n. ModulesFound f n ms) (sym h.ends) (modules_found f ms (at + module_size m) k.1) in
    record {
      pass = λ e. passed (module_read f at) _ h.passes ∙ t.pass (omega (arith, h.ends));
      are = λ i. h.is i ∷ t.are i;
      place = elim [ zero ↦ λ l. omega arith | suc j ↦ λ l. t.place j (omega arith) ∙ omega (arith, h.ends) ];
    }

-- From what is read to what stands

occurrence_stands : (f : List ℕ) (at : ℕ) → read f at 3 occurrence_shape ≡ accepted → OccurrenceStands f at (occurrence_in (body f at))
occurrence_stands f at e =
    let r = read_record f at 3 occurrence_shape e in
    let s = occurrence_right (body f at) r.1 in
    subst (OccurrenceStands f at) (sym (occurrence_in_is (body f at) s)) (record { bytes = body f at; stands = r.0; reads = record { low = s.low; high = s.high; bytes = s.bytes; reference_is = refl }; range = record { inputs = s.few_inputs; outputs = s.few_outputs } })

occurrences_stand : (f : List ℕ) (n at : ℕ) → occurrences_read f at n ≡ accepted → Row (OccurrenceStands f) occurrence_size at (occurrences_of (placed_at f at n))
unfolding occurrences_read placed_at
occurrences_stand f zero at e = tt
occurrences_stand f (suc n) at e =
    let R = read f at 3 occurrence_shape in
    let k = occurrence_stands f at (then_left R _ e) in
    let l = (occurrence_found f at (occurrence_in (body f at)) k).ends in
    (k, subst (λ p. Row (OccurrenceStands f) occurrence_size p (occurrences_of (placed_at f (end_of f at) n))) l (occurrences_stand f n (end_of f at) (then_right R _ e)))

pub length_placed : (f : List ℕ) (at n : ℕ) → length (placed_at f at n) ≡ n
unfolding placed_at
length_placed f at zero = refl
length_placed f at (suc n) = ap suc (length_placed f (end_of f at) n)

module_stands : (f : List ℕ) (at : ℕ) → module_read f at ≡ accepted → ModuleStands f at (module_of (unit_at f at))
module_stands f at e =
    let R = read f at 2 module_shape in
    let b = body f at in
    let r = read_record f at 2 module_shape (then_left R _ e) in
    let s = module_right b r.1 in
    let os = occurrences_of (placed_at f (end_of f at) (uses f at)) in
    let m : Module = record { inputs = s.inputs; wires = s.wires; outs = s.outs; occurrences = os; states = s.states } in
    let n : s.occurrences ≡ length os = sym (ap occurrences_in s.bytes) ∙ sym (length-map (placed_at f (end_of f at) (uses f at)) _ ∙ length_placed f (end_of f at) (uses f at)) in
    let y : b ≡ module_body m = s.bytes ∙ ap (λ x. s.inputs ∷ length s.outs ∷ s.wires ∷ x ∷ length s.states ∷ (s.outs ++ s.states)) n in
    let h = found f at 2 b r.0 in
    let l : length b ≡ suc (suc (suc (suc (suc (length (s.outs ++ s.states)))))) = ap length y in
    let c : length (s.outs ++ s.states) ≡ length s.outs + length s.states = length-append s.outs s.states in
    let z : end_of f at ≡ at + head_size m = h.ends ∙ omega (arith, l, c) in
    let w : Row (OccurrenceStands f) occurrence_size (at + head_size m) os = subst (λ p. Row (OccurrenceStands f) occurrence_size p os) z (occurrences_stand f (uses f at) (end_of f at) (then_right R _ e)) in
    subst (ModuleStands f at) (sym (module_in_is b s os)) (record {
      stands = subst (RecordAt f at 2) y r.0;
      range = record {
        inputs = s.few_inputs;
        outputs = s.few_outputs;
        inputs_wired = s.inputs_wired;
        wires = s.few_wires;
        occurrences = omega (arith, n, s.few_occurrences);
        states = omega (arith, n, s.few_states);
        each = λ i q. (row_no (OccurrenceStands f) occurrence_size no_occurrence os (at + head_size m) w i q).range;
      };
      occurrences = w;
    })

modules_stand : (f : List ℕ) (n at : ℕ) → modules_read f at n ≡ accepted → Row (ModuleStands f) module_size at (map module_of (units_at f at n)) × (module_at f at n ≡ length f)
unfolding modules_read units_at module_at
modules_stand f zero at e = (tt, eqb-true at (length f) (asked_accepted _ (Trail at) e))
modules_stand f (suc n) at e =
    let R = module_read f at in
    let k = module_stands f at (then_left R _ e) in
    let l = (module_found f at (module_of (unit_at f at)) k).ends in
    let t = modules_stand f n (module_end f at) (then_right R _ e) in
    ((k, subst (λ p. Row (ModuleStands f) module_size p (map module_of (units_at f (module_end f at) n))) l t.0), t.1)

-- The units of a file, by number

placed_no : (f : List ℕ) (at n i : ℕ) (d : PlacedOccurrence) → i < n → get_or (placed_at f at n) i d ≡ occurrence_at f (after f at i)
unfolding placed_at after
placed_no f at zero i d h = absurd (omega arith)
placed_no f at (suc n) zero d h = refl
placed_no f at (suc n) (suc i) d h = placed_no f (end_of f at) n i d (omega arith)

length_board : (f : List ℕ) → length (board_of f) ≡ module_count f
length_board f = length-map (units_of f) module_of ∙ length_units f (end_of f 0) (module_count f)

pub unit_is : (f : List ℕ) (k : ℕ) (d : PlacedModule) → k < length (board_of f) → get_or (units_of f) k d ≡ unit_no f k
unit_is f k d h =
    let z : k ≡ k + 0 = omega arith in
    ap (λ j. get_or (units_of f) j d) z ∙ sym (get_or-drop k (units_of f) 0 d) ∙ ap (λ us. get_or us 0 d) (units_more f k (omega (arith, length_board f)))

module_is : (f : List ℕ) (k : ℕ) → k < length (board_of f) → module_number (board_of f) k ≡ module_of (unit_no f k)
module_is f k h = get_or-map module_of (units_of f) k (unit_no f 0) no_module (omega (arith, length-map (units_of f) module_of)) ∙ ap module_of (unit_is f k (unit_no f 0) h)

uses_are : (f : List ℕ) (k : ℕ) → k < length (board_of f) → length (module_number (board_of f) k).occurrences ≡ uses f (module_place f k)
uses_are f k h =
    let ps = (unit_no f k).placed in
    ap (λ m. length m.occurrences) (module_is f k h) ∙ length-map ps _ ∙ length_placed f (end_of f (module_place f k)) (uses f (module_place f k))

-- A file whose records pass

module _ (f : List ℕ) (e : records_read f ≡ accepted) where
  abbrev checks : Verdict
  checks = read f 0 1 board_shape then modules_read f (end_of f 0) (module_count f)

  checks_pass : (read f 0 1 board_shape ≡ accepted) × (modules_read f (end_of f 0) (module_count f) ≡ accepted)
  checks_pass = let p : checks ≡ accepted = then_right (asked (leb (length f) 32768) Long) checks e in (then_left (read f 0 1 board_shape) _ p, then_right (read f 0 1 board_shape) _ p)

  pub passes_short : length f ≤ 32768
  passes_short = leb-true (length f) 32768 (asked_accepted _ Long (then_left (asked (leb (length f) 32768) Long) checks e))

  head_stands : RecordAt f 0 1 (body f 0) × (board_shape (body f 0) ≡ true)
  head_stands = read_record f 0 1 board_shape checks_pass.0

  head_shape : BoardShape (body f 0)
  head_shape = board_right (body f 0) head_stands.1

  head_ends : end_of f 0 ≡ 6
  head_ends = let l : length (body f 0) ≡ 2 = ap length head_shape.bytes in (found f 0 1 (body f 0) head_stands.0).ends ∙ omega arith

  head_counts : word head_shape.low head_shape.high ≡ length (board_of f)
  head_counts = sym (length_board f ∙ ap (λ b. number_at b 0) head_shape.bytes)

  row : Row (ModuleStands f) module_size 6 (board_of f)
  row = subst (λ p. Row (ModuleStands f) module_size p (board_of f)) head_ends (modules_stand f (module_count f) (end_of f 0) checks_pass.1).0

  stands_no : (k : ℕ) → k < length (board_of f) → ModuleStands f (module_start (board_of f) k) (module_number (board_of f) k)
  stands_no k h = row_no (ModuleStands f) module_size no_module (board_of f) 6 row k h

  pub passes_module_place : (k : ℕ) → k ≤ length (board_of f) → module_place f k ≡ module_start (board_of f) k
  passes_module_place k h = ap (λ p. module_at f p k) head_ends ∙ (modules_found f (board_of f) 6 row).place k h

  pub passes_occurrence_place : (k : ℕ) → k < length (board_of f) → (i : ℕ) → i ≤ length (module_number (board_of f) k).occurrences → after f (end_of f (module_place f k)) i ≡ occurrence_start (board_of f) k i
  passes_occurrence_place k h i l =
      ap (λ p. after f (end_of f p) i) (passes_module_place k (omega arith)) ∙ (module_found f (module_start (board_of f) k) (module_number (board_of f) k) (stands_no k h)).place i l

  pub passes_placed : (k : ℕ) → k < length (board_of f) → (i : ℕ) → i < length (module_number (board_of f) k).occurrences → (d : PlacedOccurrence) → (get_or (unit_no f k).placed i d).place ≡ occurrence_start (board_of f) k i
  passes_placed k h i l d =
      ap (λ p. p.place) (placed_no f (end_of f (module_place f k)) (uses f (module_place f k)) i d (omega (arith, uses_are f k h))) ∙ passes_occurrence_place k h i (omega arith)

  pub passes_laid_out : LaidOut f (board_of f)
  passes_laid_out =
      record {
        head_body = body f 0;
        head = head_stands.0;
        head_is = record { low = head_shape.low; high = head_shape.high; bytes = head_shape.bytes; modules_is = head_counts };
        modules = λ k h. (stands_no k h).stands;
        occurrences = λ k h i l.
            let s = row_no (OccurrenceStands f) occurrence_size no_occurrence (module_number (board_of f) k).occurrences (module_start (board_of f) k + head_size (module_number (board_of f) k)) (stands_no k h).occurrences i l in
            (s.bytes, s.stands, s.reads);
        ends = sym (passes_module_place (length (board_of f)) (omega arith)) ∙ ap (module_place f) (length_board f) ∙ (modules_stand f (module_count f) (end_of f 0) checks_pass.1).1;
      }

  pub passes_range : BoardRange (board_of f)
  passes_range = record { some = omega (arith, head_counts, head_shape.some); few = omega (arith, head_counts, head_shape.few); each = λ k h. (stands_no k h).range }

-- The records of a board pass

pub laid_out_passes : (f : List ℕ) (board : List Module) → LaidOut f board → BoardRange board → length f ≤ 32768 → (records_read f ≡ accepted) × (board_of f ≡ board)
laid_out_passes f board k g h =
    let b = k.head_body in
    let i = k.head_is in
    let s : BoardShape b = record { low = i.low; high = i.high; bytes = i.bytes; some = omega (arith, i.modules_is, g.some); few = omega (arith, i.modules_is, g.few) } in
    let a = found f 0 1 b k.head in
    let l : length b ≡ 2 = ap length i.bytes in
    let z : end_of f 0 ≡ 6 = a.ends ∙ omega arith in
    let n : module_count f ≡ length board = ap (λ x. number_at x 0) (a.body_is ∙ i.bytes) ∙ i.modules_is in
    let r : Row (ModuleStands f) module_size 6 board =
    no_row (ModuleStands f) module_size no_module board 6 λ j q.
    let m = module_number board j in
    record {
      stands = k.modules j q;
      range = g.each j q;
      occurrences = no_row (OccurrenceStands f) occurrence_size no_occurrence m.occurrences (module_start board j + head_size m) λ x y.
          let t = k.occurrences j q x y in
          record { bytes = t.0; stands = t.1; reads = t.2; range = (g.each j q).each x y };
    } in
    let t = modules_found f board 6 r in (
      passed (asked (leb (length f) 32768) Long) _ (asked_yes _ Long (le-leb (length f) 32768 h))
          ∙ passed (read f 0 1 board_shape) _ (record_read f 0 1 board_shape b k.head (right_board b s))
          ∙ (λ j. modules_read f (z j) (n j))
          ∙ t.pass k.ends,
      (λ j. map module_of (units_at f (z j) (n j))) ∙ t.are,
    )
