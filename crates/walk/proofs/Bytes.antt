-- What the bytes of an accepted file say of its board's modules and occurrences.
use Rattle.std.proofs.Common.{◌≡◌, ℕ, ◌+◌, ◌-◌, ◌*◌, ◌<◌, ◌≤◌, true, List, [], ◌∷◌, ◌++◌, length, get_or, take, drop, is_some, Some, None, Option, slice_index, sym, refl, ap, ◌∙◌, subst, ap₂, arith, length-append, length-drop}
use Rattle.std.specs.Int.{w16, from_le_bytes}
use Rattle.std.proofs.lemmas.List.{get_or-drop, drop-drop, drop_at, take_at, append_assoc}
use Rattle.gates.specs.declared.Part.{Part}
use Rattle.gates.specs.Gates.{part_of}
use Rattle.rules.specs.Refusals.{accepted}
use Rattle.rules.specs.Boards.{Occurrence, Module, node, part, present, module_number, occurrence_no}
use Rattle.rules.specs.Files.{RecordAt, module_body, OccurrenceBody, module_start, occurrence_start, BoardRange}
use Rattle.rules.specs.Records.{records_read}
use Rattle.rules.specs.Judging.{units_of, modules_judged}
use Rattle.rules.specs.Sound.{Refers}
use Rattle.rules.proofs.Verdicts.{then_left}
use Rattle.rules.proofs.Laid.{passes_short, passes_laid_out, passes_range}
use Rattle.rules.proofs.Sounds
use Rattle.flat.proofs.Deep.{by_number}
use Rattle.flat.proofs.Lists.{refer_at}
use Rattle.board.specs.declared.lent.Tables.{Tables}
use Rattle.board.specs.declared.layout.ModuleRecords.{ModuleRecords}
use Rattle.board.specs.Lent.{board_in, behind, RecordsOf, Right}
use Rattle.walk.specs.declared.reading.Module.{Module as Read}
use Rattle.walk.specs.Levels.{module_in}

byte_at : (f : List ℕ) (s j : ℕ) (xs : List ℕ) → drop s f ≡ xs → get_or f (s + j) 0 ≡ get_or xs j 0
byte_at f s j xs e = sym (get_or-drop s f j 0) ∙ ap (λ x. get_or x j 0) e

-- a part of the bytes, behind a part ahead of it
part_at : (f : List ℕ) (s n : ℕ) (before xs behind' : List ℕ) → drop s f ≡ before ++ (xs ++ behind') → length before ≡ n → take (length xs) (drop (s + n) f) ≡ xs
part_at f s n before xs behind' e l =
    ap (take (length xs)) (sym (drop-drop n s f) ∙ ap (drop n) e ∙ drop_at before (xs ++ behind') n l) ∙ take_at xs behind' (length xs) refl

-- the bytes of an occurrence's record at s
pub record OccurrenceBytes (f : List ℕ) (s : ℕ) (o : Occurrence) : Type 0 where
  pub reference : get_or f (s + 4) 0 + 256 * get_or f (s + 5) 0 ≡ o.reference
  pub inputs : get_or f (s + 6) 0 ≡ length o.ins
  pub outputs : get_or f (s + 7) 0 ≡ length o.outs
  pub whole : s + 8 + length o.ins + length o.outs ≤ length f
  pub ins_are : take (length o.ins) (drop (s + 8) f) ≡ o.ins
  pub outs_are : take (length o.outs) (drop (s + 8 + length o.ins) f) ≡ o.outs

occurrence_bytes : (f : List ℕ) (s : ℕ) (o : Occurrence) (body : List ℕ) → RecordAt f s 3 body → OccurrenceBody o body → OccurrenceBytes f s o
occurrence_bytes f s o body r b =
    let head = r.length_low ∷ r.length_high ∷ r.kind_low ∷ r.kind_high ∷ b.low ∷ b.high ∷ length o.ins ∷ length o.outs ∷ [] in
    let e : drop s f ≡ head ++ ((o.ins ++ o.outs) ++ r.rest) = r.bytes ∙ ap (λ x. r.length_low ∷ r.length_high ∷ r.kind_low ∷ r.kind_high ∷ (x ++ r.rest)) b.bytes in
    let e₁ : drop s f ≡ head ++ (o.ins ++ (o.outs ++ r.rest)) = e ∙ ap (λ x. head ++ x) (append_assoc o.ins o.outs r.rest) in
    let e₂ : drop s f ≡ (head ++ o.ins) ++ (o.outs ++ r.rest) = e₁ ∙ sym (append_assoc head o.ins (o.outs ++ r.rest)) in
    let l : length (head ++ o.ins) ≡ 8 + length o.ins = length-append head o.ins in
    let z : s + 8 + length o.ins ≡ s + (8 + length o.ins) = omega arith in
    record {
      reference =
          let a = byte_at f s 4 _ e in
          let c = byte_at f s 5 _ e in
          let w = b.reference_is in
          omega arith;
      inputs = byte_at f s 6 _ e;
      outputs = byte_at f s 7 _ e;
      whole =
          let a = length-drop s f in
          let c = ap length e₂ in
          let d = length-append (head ++ o.ins) (o.outs ++ r.rest) in
          let g = length-append o.outs r.rest in
          omega arith;
      ins_are = part_at f s 8 head o.ins (o.outs ++ r.rest) e₁ refl;
      outs_are = ap (λ n. take (length o.outs) (drop n f)) z ∙ part_at f s (8 + length o.ins) (head ++ o.ins) o.outs r.rest e₂ l;
    }

-- the lists in a module's record at p
pub record ModuleBytes (f : List ℕ) (p : ℕ) (m : Module) : Type 0 where
  pub whole : p + 9 + length m.outs + length m.states ≤ length f
  pub outs_are : take (length m.outs) (drop (p + 9) f) ≡ m.outs
  pub states_are : take (length m.states) (drop (p + 9 + length m.outs) f) ≡ m.states

module_bytes : (f : List ℕ) (p : ℕ) (m : Module) → RecordAt f p 2 (module_body m) → ModuleBytes f p m
module_bytes f p m r =
    let head = r.length_low ∷ r.length_high ∷ r.kind_low ∷ r.kind_high ∷ m.inputs ∷ length m.outs ∷ m.wires ∷ length m.occurrences ∷ length m.states ∷ [] in
    let e : drop p f ≡ head ++ ((m.outs ++ m.states) ++ r.rest) = r.bytes in
    let e₁ : drop p f ≡ head ++ (m.outs ++ (m.states ++ r.rest)) = e ∙ ap (λ x. head ++ x) (append_assoc m.outs m.states r.rest) in
    let e₂ : drop p f ≡ (head ++ m.outs) ++ (m.states ++ r.rest) = e₁ ∙ sym (append_assoc head m.outs (m.states ++ r.rest)) in
    let l : length (head ++ m.outs) ≡ 9 + length m.outs = length-append head m.outs in
    let z : p + 9 + length m.outs ≡ p + (9 + length m.outs) = omega arith in
    record {
      whole =
          let a = length-drop p f in
          let c = ap length e₂ in
          let d = length-append (head ++ m.outs) (m.states ++ r.rest) in
          let g = length-append m.states r.rest in
          omega arith;
      outs_are = part_at f p 9 head m.outs (m.states ++ r.rest) e₁ refl;
      states_are = ap (λ n. take (length m.states) (drop n f)) z ∙ part_at f p (9 + length m.outs) (head ++ m.outs) m.states r.rest e₂ l;
    }

some_part : (P : ℕ → Type 0) (p : Option Part) → Refers P p → is_some p ≡ true
some_part P (Some x) r = refl
some_part P None r = absurd r

module _ (t : Tables) (right : Right t) where
  abbrev f : List ℕ
  f = t.file.now

  abbrev board : List Module
  board = board_in t

  reads : records_read f ≡ accepted
  reads = then_left (records_read f) (modules_judged 0 (units_of f)) right.verdict_is

  pub range : BoardRange board
  range = passes_range f reads

  pub short : length f ≤ 32768
  short = passes_short f reads

  pub at_module : (k : ℕ) → k < length board → ModuleBytes f (module_start board k) (module_number board k)
  at_module k h = module_bytes f (module_start board k) (module_number board k) ((passes_laid_out f reads).modules k h)

  pub at_occurrence : (k : ℕ) → k < length board → (i : ℕ) → i < length (module_number board k).occurrences → OccurrenceBytes f (occurrence_start board k i) (occurrence_no (module_number board k) i)
  at_occurrence k h i l =
      let o = (passes_laid_out f reads).occurrences k h i l in
      occurrence_bytes f (occurrence_start board k i) (occurrence_no (module_number board k) i) o.0 o.1 o.2

  -- each module keeps the rules
  pub keeps : (k : ℕ) → k < length board → Sounds.Right (node (module_number board k) (behind board k))
  keeps k h =
      let e = by_number.here board k h in
      subst Sounds.Right e (Sounds.accepted_seen f right.verdict_is 0 k (ap present e))

  pub known : (k : ℕ) → k < length board → (i : ℕ) → i < length (module_number board k).occurrences → is_some (part (occurrence_no (module_number board k) i)) ≡ true
  known k h i l = some_part _ (part (occurrence_no (module_number board k) i)) (refer_at (module_number board k) (behind board k) (keeps k h).sound i l)

  -- the lists of module k, by its records
  pub record ListsLie (k : ℕ) (r : ModuleRecords) : Type 0 where
    pub within : r.place + 9 + r.counts.outputs + r.counts.states ≤ length f
    pub small : r.place + 9 + r.counts.outputs + r.counts.states ≤ 32768
    pub outs_are : take (r.place + 9 + r.counts.outputs - (r.place + 9)) (drop (r.place + 9) f) ≡ (module_number board k).outs
    pub states_are : take (r.place + 9 + r.counts.outputs + r.counts.states - (r.place + 9 + r.counts.outputs)) (drop (r.place + 9 + r.counts.outputs) f) ≡ (module_number board k).states

  pub lists_lie : (k : ℕ) → k < length board → (r : ModuleRecords) → RecordsOf board k r → ListsLie k r
  lists_lie k h r e =
      let b = at_module k h in
      let p = e.place in
      let o = e.outputs in
      let s = e.states in
      let w = b.whole in
      let q = short in
      let n₁ : r.place + 9 + r.counts.outputs - (r.place + 9) ≡ length (module_number board k).outs = omega arith in
      let a₁ : r.place + 9 ≡ module_start board k + 9 = omega arith in
      let n₂ : r.place + 9 + r.counts.outputs + r.counts.states - (r.place + 9 + r.counts.outputs) ≡ length (module_number board k).states = omega arith in
      let a₂ : r.place + 9 + r.counts.outputs ≡ module_start board k + 9 + length (module_number board k).outs = omega arith in
      record {
        within = omega arith;
        small = omega arith;
        outs_are = ap₂ (λ n a. take n (drop a f)) n₁ a₁ ∙ b.outs_are;
        states_are = ap₂ (λ n a. take n (drop a f)) n₂ a₂ ∙ b.states_are;
      }

  -- occurrence i of module k, by where its record begins
  pub record OccurrenceLies (k i s : ℕ) : Type 0 where
    pub within : s + 8 + get_or f (s + 6) 0 + get_or f (s + 7) 0 ≤ length f
    pub small : s + 8 + get_or f (s + 6) 0 + get_or f (s + 7) 0 ≤ 32768
    pub part_is : part_of (get_or f (s + 4) 0 + 256 * get_or f (s + 5) 0) ≡ part (occurrence_no (module_number board k) i)
    pub ins_are : take (s + 8 + get_or f (s + 6) 0 - (s + 8)) (drop (s + 8) f) ≡ (occurrence_no (module_number board k) i).ins
    pub outs_are : take (s + 8 + get_or f (s + 6) 0 + get_or f (s + 7) 0 - (s + 8 + get_or f (s + 6) 0)) (drop (s + 8 + get_or f (s + 6) 0) f) ≡ (occurrence_no (module_number board k) i).outs

  pub occurrence_lies : (k : ℕ) → k < length board → (i : ℕ) → i < length (module_number board k).occurrences → (s : ℕ) → s ≡ occurrence_start board k i → OccurrenceLies k i s
  unfolding part
  occurrence_lies k h i l s e =
      subst (OccurrenceLies k i) (sym e)
      (let p = occurrence_start board k i in
      let b = at_occurrence k h i l in
      let x = b.inputs in
      let y = b.outputs in
      let w = b.whole in
      let q = short in
      let n₁ : p + 8 + get_or f (p + 6) 0 - (p + 8) ≡ length (occurrence_no (module_number board k) i).ins = omega arith in
      let n₂ : p + 8 + get_or f (p + 6) 0 + get_or f (p + 7) 0 - (p + 8 + get_or f (p + 6) 0) ≡ length (occurrence_no (module_number board k) i).outs = omega arith in
      let a₂ : p + 8 + get_or f (p + 6) 0 ≡ p + 8 + length (occurrence_no (module_number board k) i).ins = omega arith in
      record {
        within = omega arith;
        small = omega arith;
        part_is = ap part_of b.reference;
        ins_are = ap (λ n. take n (drop (p + 8) f)) n₁ ∙ b.ins_are;
        outs_are = ap₂ (λ n a. take n (drop a f)) n₂ a₂ ∙ b.outs_are;
      })

-- the same of a module that is read
module _ (m : Read) where
  pub few_modules : m.number < 64
  few_modules = omega (arith, (range m.tables m.right).few, m.there)

  pub few_occurrences : length (module_in m.tables m.number).occurrences ≤ 64
  few_occurrences = ((range m.tables m.right).each m.number m.there).occurrences

  pub lists : (r : ModuleRecords) → RecordsOf (board_in m.tables) m.number r → ListsLie m.tables m.right m.number r
  lists = lists_lie m.tables m.right m.number m.there

  module _ (i : ℕ) (l : i < length (module_in m.tables m.number).occurrences) where
    pub here : (r : ModuleRecords) → RecordsOf (board_in m.tables) m.number r → OccurrenceLies m.tables m.right m.number i (slice_index r.occurrences.starts i)
    here r e = occurrence_lies m.tables m.right m.number m.there i l _ (e.starts i l)

    pub refers : is_some (part (occurrence_no (module_in m.tables m.number) i)) ≡ true
    refers = known m.tables m.right m.number m.there i l

-- a reference number's two bytes
pub two_bytes : (a b : ℕ) → from_le_bytes w16 (a ∷ b ∷ []) ≡ a + 256 * b
two_bytes a b = omega arith
