-- What is due at which place of a file is one thing, and the rule of checks 1 to 5 that a file breaks first is that of its
-- refusal.
use Rattle.std.proofs.Common.{◌≡◌, ℕ, zero, suc, ◌+◌, ◌-◌, ◌<◌, ◌≤◌, eqb, leb, ◌≢◌, ◌⊎◌, List, [], ◌∷◌, length, Some, None, Option, sym, refl, ap, ◌∙◌, subst, subst₂, inl, inr, arith}
use Rattle.std.proofs.lemmas.Bool.{eqb-true, eqb-false, leb-true, leb-false, cases_lt, both_ways}
use Rattle.rules.specs.declared.refusal.Refusal.{Refusal}
use Rattle.rules.specs.declared.refusal.Refusal.TheVariants.{Long, Cut, Kind, Shape, Trail}
use Rattle.rules.specs.Refusals.{Verdict, accepted, refused, ◌then◌, asked, number_of}
use Rattle.rules.specs.Boards.{Module, module_number}
use Rattle.rules.specs.Records.{number_at, end_of, body, read, after, uses, module_end, module_count, board_shape, module_shape, occurrence_shape, occurrences_read, module_read, modules_read, records_read}
use Rattle.rules.specs.Judging.{board_of}
use Rattle.rules.specs.Files.{RecordAt, LaidOut, BoardRange, module_start, occurrence_start}
use Rattle.rules.specs.Rules.{OccurrenceRule, OccurrenceKeeps, occurrence_refusal, ModuleRule, ModuleKeeps, module_refusal}
use Rattle.rules.specs.Breaks.{DueRecord, a_board, a_module, an_occurrence, kind_of, modules_due, occurrences_due, due_behind, ShapeRight, Due, begin, next, Rank, Before, Breaks, long, cut, wrong_kind, wrong_shape, trail, of_occurrence, of_module, FirstBroken}
use Rattle.rules.proofs.Verdicts.{asked_accepted, then_left, then_right, asked_refused}
use Rattle.rules.proofs.LaidRecords.{found, whole, framed_record, read_record, shape_of, shape_right, right_shape}
use Rattle.rules.proofs.Laid.{passes_short, laid_out_passes}

-- Which verdict a refusal comes from

then_refused : (a v : Verdict) (e : Refusal) → (a then v) ≡ refused e → (a ≡ refused e) ⊎ ((a ≡ accepted) × (v ≡ refused e))
then_refused accepted v e h = inr (refl, h)
then_refused (refused r) v e h = inl h

-- What is due

-- a record of the kind and shape that is due stands there
abbrev Right : List ℕ → ℕ → Option DueRecord → Type 0
Right f at None = ⊥
Right f at (Some due) = (b : List ℕ) × RecordAt f at (kind_of due) b × ShapeRight due b

module _ {f : List ℕ} where
  steps : {at : ℕ} {d : Option DueRecord} → Due f at d → ℕ
  steps begin = 0
  steps (next at due b D r s) = suc (steps D)

  same_due : {at at' : ℕ} {d d' : Option DueRecord} (D : Due f at d) (D' : Due f at' d') → steps D ≡ steps D' → (at ≡ at') × (d ≡ d')
  unfolding steps
  same_due begin begin e = (refl, refl)
  same_due begin (next at due b D r s) e = absurd (omega arith)
  same_due (next at due b D r s) begin e = absurd (omega arith)
  same_due (next at due b D r s) (next at' due' b' D' r' s') e =
      let h = same_due D D' (omega arith) in
      let p : at ≡ at' = h.0 in
      let q : due ≡ due' = let z = h.1 in cc in
      let l : b ≡ b' = sym (found f at _ b r).body_is ∙ ap (body f) p ∙ (found f at' _ b' r').body_is in
      ((λ i. p i + (4 + length (l i))), λ i. due_behind (q i) (l i))

  later_due : {at at' : ℕ} {d d' : Option DueRecord} (D : Due f at d) (D' : Due f at' d') → steps D < steps D' → (at < at') × Right f at d
  unfolding steps
  later_due D begin h = absurd (omega arith)
  later_due D (next at' due b D' r s) h =
      elim (cases_lt (steps D) (steps D')) [
        | inl l ↦ let t = later_due D D' l in (omega arith, t.1)
        | inr l ↦ let t = same_due D D' (omega arith) in (omega arith, subst₂ (Right f) (sym t.0) (sym t.1) (b, r, s))
      ]

  due_within : {at : ℕ} {d : Option DueRecord} → Due f at d → at ≤ length f
  due_within begin = omega arith
  due_within (next at due b D r s) = let k = found f at (kind_of due) b r in omega arith

  -- where what is due does not stand, nothing is due farther on
  settled : {at at' : ℕ} {d d' : Option DueRecord} → Due f at d → (Right f at d → ⊥) → Due f at' d' → ((at' ≡ at) × (d' ≡ d)) ⊎ ((at' < at) × Right f at' d')
  settled D n D' =
      elim (cases_lt (steps D) (steps D')) [
        | inl l ↦ absurd (n (later_due D D' l).1)
        | inr l ↦ elim (cases_lt (steps D') (steps D)) [
          | inl g ↦ inr (later_due D' D g)
          | inr g ↦ inl (same_due D' D (omega arith))
        ]
      ]

-- Faults of the record that is due

data Fault (f : List ℕ) (at : ℕ) (due : DueRecord) : ℕ → Refusal → Type 0 where
  cut_off : ((kind : ℕ) (b : List ℕ) → RecordAt f at kind b → ⊥) → Fault f at due 2 (Cut at)
  other_kind : (kind : ℕ) (b : List ℕ) → RecordAt f at kind b → kind ≢ kind_of due → Fault f at due 3 (Kind at)
  other_shape : (kind : ℕ) (b : List ℕ) → RecordAt f at kind b → (ShapeRight due b → ⊥) → Fault f at due 4 (Shape at)

module _ {f : List ℕ} {at k k' : ℕ} {b b' : List ℕ} (r : RecordAt f at k b) (r' : RecordAt f at k' b') where
  same_kind : k ≡ k'
  same_kind = sym (found f at k b r).kind_is ∙ (found f at k' b' r').kind_is

  same_body : b ≡ b'
  same_body = sym (found f at k b r).body_is ∙ (found f at k' b' r').body_is

module _ {f : List ℕ} {at : ℕ} {due : DueRecord} where
  fault_breaks : {n : ℕ} {e : Refusal} → Due f at (Some due) → Fault f at due n e → Breaks f (1 ∷ at ∷ n ∷ []) e
  fault_breaks D (cut_off h) = cut at due D h
  fault_breaks D (other_kind k b r h) = wrong_kind at k due b D r h
  fault_breaks D (other_shape k b r h) = wrong_shape at k due b D r h

  fault_wrong : {n : ℕ} {e : Refusal} → Fault f at due n e → Right f at (Some due) → ⊥
  fault_wrong (cut_off h) w = h _ _ w.1
  fault_wrong (other_kind k b r h) w = h (same_kind r w.1)
  fault_wrong (other_shape k b r h) w = h (subst (ShapeRight due) (same_body w.1 r) w.2)

  fault_first : {n : ℕ} {e : Refusal} → Fault f at due n e → 2 ≤ n
  fault_first (cut_off h) = omega arith
  fault_first (other_kind k b r h) = omega arith
  fault_first (other_shape k b r h) = omega arith

  fault_whole : {n : ℕ} {e : Refusal} {k : ℕ} {b : List ℕ} → RecordAt f at k b → Fault f at due n e → 3 ≤ n
  fault_whole r' (cut_off h) = absurd (h _ _ r')
  fault_whole r' (other_kind k b r h) = omega arith
  fault_whole r' (other_shape k b r h) = omega arith

  fault_kind : {n : ℕ} {e : Refusal} {b : List ℕ} → RecordAt f at (kind_of due) b → Fault f at due n e → 4 ≤ n
  fault_kind r' (cut_off h) = absurd (h _ _ r')
  fault_kind r' (other_kind k b r h) = absurd (h (same_kind r r'))
  fault_kind r' (other_shape k b r h) = omega arith

-- the refusal of a record is its first fault
record FirstFault (f : List ℕ) (at : ℕ) (due : DueRecord) (e : Refusal) : Type 0 where
  number : ℕ
  fault : Fault f at due number e
  first : (n : ℕ) (e' : Refusal) → Fault f at due n e' → number ≤ n

read_refused : (f : List ℕ) (at : ℕ) (due : DueRecord) (e : Refusal) → read f at (kind_of due) (shape_of due) ≡ refused e → FirstFault f at due e
read_refused f at due e h =
    let C = asked (leb (end_of f at) (length f)) (Cut at) in
    let K = asked (eqb (number_at f (at + 2)) (kind_of due)) (Kind at) in
    elim (then_refused (C then K) (asked (shape_of due (body f at)) (Shape at)) e h) [
      | inl ck ↦ elim (then_refused C K e ck) [
        | inl c ↦
            let p = asked_refused _ (Cut at) e c in
            let l = leb-false (end_of f at) (length f) p.0 in
            record { number = 2; fault = subst (Fault f at due 2) p.1 (cut_off λ k b r. omega (arith, l, (found f at k b r).within)); first = λ n e' x. fault_first x }
        | inr ck' ↦
            let r = whole f at (leb-true _ _ (asked_accepted _ (Cut at) ck'.0)) in
            let p = asked_refused _ (Kind at) e ck'.1 in
            record { number = 3; fault = subst (Fault f at due 3) p.1 (other_kind _ _ r (eqb-false _ _ p.0)); first = λ n e' x. fault_whole r x }
      ]
      | inr s ↦
          let r = framed_record f at (kind_of due) s.0 in
          let p = asked_refused _ (Shape at) e s.1 in
          record { number = 4; fault = subst (Fault f at due 4) p.1 (other_shape _ _ r λ w. both_ways _ p.0 (right_shape due (body f at) w)); first = λ n e' x. fault_kind r x }
    ]

-- Breaks of a file whose reading has settled

-- a rule of the modules that is broken
pub record OccurrenceBreak (board : List Module) (rank : Rank) (e : Refusal) : Type 0 where
  pub k : ℕ
  pub i : ℕ
  pub rule : OccurrenceRule
  pub module_there : k < length board
  pub occurrence_there : i < length (module_number board k).occurrences
  pub broken : OccurrenceKeeps board k i rule → ⊥
  pub rank_is : rank ≡ 3 ∷ (length board - k) ∷ i ∷ number_of (occurrence_refusal rule 0) ∷ []
  pub refusal_is : e ≡ occurrence_refusal rule (occurrence_start board k i)

pub record ModuleBreak (board : List Module) (rank : Rank) (e : Refusal) : Type 0 where
  pub k : ℕ
  pub rule : ModuleRule
  pub module_there : k < length board
  pub broken : ModuleKeeps board k rule → ⊥
  pub rank_is : rank ≡ 3 ∷ (length board - k) ∷ length (module_number board k).occurrences ∷ number_of (module_refusal rule 0) ∷ []
  pub refusal_is : e ≡ module_refusal rule (module_start board k)

abbrev pub BoardBreak : List Module → Rank → Refusal → Type 0
BoardBreak board rank e = OccurrenceBreak board rank e ⊎ ModuleBreak board rank e

-- a fault at the place, or what is behind the last record, or a rule of the modules
data LeftOver (f : List ℕ) (at : ℕ) (d : Option DueRecord) (rank : Rank) (e : Refusal) : Type 0 where
  at_record : (due : DueRecord) → Some due ≡ d → (n : ℕ) (e' : Refusal) → Fault f at due n e' → rank ≡ 1 ∷ at ∷ n ∷ [] → LeftOver f at d rank e
  at_trail : d ≡ None → at < length f → rank ≡ 2 ∷ [] → LeftOver f at d rank e
  at_board : (board : List Module) → LaidOut f board → BoardRange board → BoardBreak board rank e → LeftOver f at d rank e

left_record : (f : List ℕ) (at at' : ℕ) (d : Option DueRecord) (due : DueRecord) (n : ℕ) (e e' : Refusal) → Due f at d → (Right f at d → ⊥) → Due f at' (Some due) → Fault f at' due n e' → LeftOver f at d (1 ∷ at' ∷ n ∷ []) e
left_record f at at' d due n e e' D w D' x =
    elim (settled D w D') [
      | inl s ↦ let y = subst (λ p. (r : Refusal) × Fault f p due n r) s.0 (e', x) in at_record due s.1 n y.0 y.1 (ap (λ p. 1 ∷ p ∷ n ∷ []) s.0)
      | inr s ↦ absurd (fault_wrong x s.1)
    ]

left_over : (f : List ℕ) {at : ℕ} {d : Option DueRecord} → Due f at d → (Right f at d → ⊥) → length f ≤ 32768 → {rank : Rank} {e : Refusal} → Breaks f rank e → LeftOver f at d rank e
left_over f D w h (long l) = absurd (omega arith)
left_over f {at} {d} D w h (cut at' due D' n) = left_record f at at' d due 2 _ _ D w D' (cut_off n)
left_over f {at} {d} D w h (wrong_kind at' k due b D' r n) = left_record f at at' d due 3 _ _ D w D' (other_kind k b r n)
left_over f {at} {d} D w h (wrong_shape at' k due b D' r n) = left_record f at at' d due 4 _ _ D w D' (other_shape k b r n)
left_over f D w h (trail at' D' l) =
    elim (settled D w D') [
      | inl s ↦ at_trail (sym s.1) (subst (λ p. p < length f) s.0 l) refl
      | inr s ↦ absurd s.1
    ]
left_over f D w h (of_occurrence board k i r o g l m n) = at_board board o g (inl (record { k = k; i = i; rule = r; module_there = l; occurrence_there = m; broken = n; rank_is = refl; refusal_is = refl }))
left_over f D w h (of_module board k r o g l n) = at_board board o g (inr (record { k = k; rule = r; module_there = l; broken = n; rank_is = refl; refusal_is = refl }))

-- The first break where reading stops

none_before : (other : Rank) → Before other (0 ∷ []) → ⊥
none_before [] b = b
none_before (x ∷ []) b = omega arith
none_before (x ∷ y ∷ ys) b = omega arith

board_late : (board : List Module) (rank : Rank) (e : Refusal) → BoardBreak board rank e → (n : ℕ) (ns : Rank) → n < 3 → Before rank (n ∷ ns) → ⊥
board_late board rank e (inl k) n ns h b = let z = subst (λ x. Before x (n ∷ ns)) k.rank_is b in omega arith
board_late board rank e (inr k) n ns h b = let z = subst (λ x. Before x (n ∷ ns)) k.rank_is b in omega arith

first_long : (f : List ℕ) → 32768 < length f → FirstBroken f Long
first_long f h = record { rank = 0 ∷ []; broken = long h; first = λ other e b l. none_before other l }

module _ (f : List ℕ) (h : length f ≤ 32768) where
  first_record : (at : ℕ) (due : DueRecord) (e : Refusal) → Due f at (Some due) → read f at (kind_of due) (shape_of due) ≡ refused e → FirstBroken f e
  first_record at due e D x =
      let t = read_refused f at due e x in
      record {
        rank = 1 ∷ at ∷ t.number ∷ [];
        broken = fault_breaks D t.fault;
        first = λ other e' b l. elim (left_over f D (fault_wrong t.fault) h b) [
          | at_record due' q n e'' y r ↦
              let z : due' ≡ due = cc in
              let w = t.first n e'' (subst (λ d. Fault f at d n e'') z y) in
              let v = subst (λ o. Before o (1 ∷ at ∷ t.number ∷ [])) r l in
              omega (arith, w, v)
          | at_trail q m r ↦ cc
          | at_board board o g k ↦ board_late board other e' k 1 _ (omega arith) l
        ];
      }

  first_trail : (at : ℕ) → Due f at None → at < length f → FirstBroken f (Trail at)
  first_trail at D m =
      record {
        rank = 2 ∷ [];
        broken = trail at D m;
        first = λ other e' b l. elim (left_over f D (λ w. w) h b) [
          | at_record due q n e'' y r ↦ cc
          | at_trail q m' r ↦ let z = subst (λ o. Before o (2 ∷ [])) r l in omega arith
          | at_board board o g k ↦ board_late board other e' k 2 _ (omega arith) l
        ];
      }

-- Reading goes on to what is due

module _ (f : List ℕ) where
  due_on : (at : ℕ) (due : DueRecord) → Due f at (Some due) → read f at (kind_of due) (shape_of due) ≡ accepted → Due f (end_of f at) (due_behind due (body f at))
  due_on at due D e =
      let r = read_record f at (kind_of due) (shape_of due) e in
      subst (λ p. Due f p (due_behind due (body f at))) (sym (found f at (kind_of due) (body f at) r.0).ends) (next at due (body f at) D r.0 (shape_right due (body f at) r.1))

  occurrences_on : (n at modules : ℕ) → Due f at (occurrences_due n modules) → occurrences_read f at n ≡ accepted → Due f (after f at n) (modules_due modules)
  unfolding occurrences_read after
  occurrences_on zero at modules D e = D
  occurrences_on (suc n) at modules D e =
      let R = read f at 3 occurrence_shape in
      occurrences_on n (end_of f at) modules (due_on at (an_occurrence n modules) D (then_left R _ e)) (then_right R _ e)

  module_on : (at modules : ℕ) → Due f at (Some (a_module modules)) → module_read f at ≡ accepted → Due f (module_end f at) (modules_due modules)
  module_on at modules D e =
      let R = read f at 2 module_shape in
      occurrences_on (uses f at) (end_of f at) modules (due_on at (a_module modules) D (then_left R _ e)) (then_right R _ e)

  modules_on : (n at : ℕ) → Due f at (modules_due n) → modules_read f at n ≡ accepted → Due f (length f) None
  unfolding modules_read
  modules_on zero at D e = subst (λ p. Due f p None) (eqb-true at (length f) (asked_accepted _ (Trail at) e)) D
  modules_on (suc n) at D e =
      let R = module_read f at in
      modules_on n (module_end f at) (module_on at n D (then_left R _ e)) (then_right R _ e)

module _ (f : List ℕ) (h : length f ≤ 32768) (e : Refusal) where
  occurrences_first : (n at modules : ℕ) → Due f at (occurrences_due n modules) → occurrences_read f at n ≡ refused e → FirstBroken f e
  unfolding occurrences_read
  occurrences_first zero at modules D x = cc
  occurrences_first (suc n) at modules D x =
      elim (then_refused (read f at 3 occurrence_shape) _ e x) [
        | inl r ↦ first_record f h at (an_occurrence n modules) e D r
        | inr r ↦ occurrences_first n (end_of f at) modules (due_on f at (an_occurrence n modules) D r.0) r.1
      ]

  modules_first : (n at : ℕ) → Due f at (modules_due n) → modules_read f at n ≡ refused e → FirstBroken f e
  unfolding modules_read
  modules_first zero at D x =
      let p = asked_refused _ (Trail at) e x in
      let n = eqb-false at (length f) p.0 in
      subst (FirstBroken f) p.1 (first_trail f h at D (omega (arith, n, due_within D)))
  modules_first (suc n) at D x =
      elim (then_refused (module_read f at) _ e x) [
        | inl m ↦ elim (then_refused (read f at 2 module_shape) _ e m) [
          | inl r ↦ first_record f h at (a_module n) e D r
          | inr r ↦ occurrences_first (uses f at) (end_of f at) n (due_on f at (a_module n) D r.0) r.1
        ]
        | inr m ↦ modules_first n (module_end f at) (module_on f at n D m.0) m.1
      ]

-- The whole file

pub records_first : (f : List ℕ) (e : Refusal) → records_read f ≡ refused e → FirstBroken f e
records_first f e x =
    elim (then_refused (asked (leb (length f) 32768) Long) _ e x) [
      | inl l ↦ let p = asked_refused _ Long e l in subst (FirstBroken f) p.1 (first_long f (leb-false (length f) 32768 p.0))
      | inr l ↦
          let h = leb-true (length f) 32768 (asked_accepted _ Long l.0) in
          elim (then_refused (read f 0 1 board_shape) _ e l.1) [
            | inl r ↦ first_record f h 0 a_board e begin r
            | inr r ↦ modules_first f h e (module_count f) (end_of f 0) (due_on f 0 a_board begin r.0) r.1
          ]
    ]

-- a file whose records pass breaks no rule but those of its modules
pub records_break : (f : List ℕ) → records_read f ≡ accepted → (rank : Rank) (e : Refusal) → Breaks f rank e → BoardBreak (board_of f) rank e
records_break f x rank e b =
    let h = passes_short f x in
    let c = then_right (asked (leb (length f) 32768) Long) _ x in
    let D = modules_on f (module_count f) (end_of f 0) (due_on f 0 a_board begin (then_left (read f 0 1 board_shape) _ c)) (then_right (read f 0 1 board_shape) _ c) in
    elim (left_over f D (λ w. w) h b) [
      | at_record due q n e'' y r ↦ cc
      | at_trail q m r ↦ absurd (omega arith)
      | at_board board o g k ↦ subst (λ bs. BoardBreak bs rank e) (sym (laid_out_passes f board o g h).1) k
    ]
