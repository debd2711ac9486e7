-- A file is accepted exactly when it is the records of a board that keeps the rules, and a refusal is that of the first rule
-- that the file breaks.
use Rattle.std.proofs.Common.{◌≡◌, ℕ, ◌-◌, ◌<◌, ◌≤◌, ◌⊎◌, List, [], ◌∷◌, length, get_or, sym, refl, ap, ◌∙◌, subst, inl, inr, arith}
use Rattle.std.proofs.lemmas.List.{length-map}
use Rattle.rules.specs.declared.refusal.Refusal.{Refusal}
use Rattle.rules.specs.Refusals.{Verdict, accepted, refused, ◌then◌, number_of}
use Rattle.rules.specs.Boards.{Module, module_number}
use Rattle.rules.specs.Records.{records_read}
use Rattle.rules.specs.Judging.{module_of, units_of, board_of, modules_judged, verdict}
use Rattle.rules.specs.Rules.{OccurrenceRule, OccurrenceKeeps, occurrence_refusal, ModuleRule, ModuleKeeps, module_refusal, BoardKeeps}
use Rattle.rules.specs.Breaks.{Rank, Before, Breaks, of_occurrence, of_module, FirstBroken, AcceptedExactly, VerdictFirst}
use Rattle.rules.proofs.Verdicts.{passed, then_left, then_right}
use Rattle.rules.proofs.Laid.{unit_is, passes_short, passes_module_place, passes_placed, passes_laid_out, passes_range, laid_out_passes}
use Rattle.rules.proofs.Dues.{BoardBreak, records_first, records_break}
use Rattle.rules.proofs.Sounds.{no_placed}
use Rattle.rules.proofs.Keeping.{Keeps, no_unit, FirstOf, at_occurrence, at_module, modules_keep, keep_modules, modules_first}

-- Ranks

lesser : (n j k : ℕ) (xs ys : Rank) → j < n → k < n → Before (3 ∷ (n - j) ∷ xs) (3 ∷ (n - k) ∷ ys) → (k < j) ⊎ ((j ≡ k) × Before xs ys)
lesser n j k xs ys g h (inl b) = absurd (omega arith)
lesser n j k xs ys g h (inr b) = elim b.1 [ inl c ↦ inl (omega arith) | inr c ↦ inr (omega arith, c.1) ]

-- of module k, the rules behind it, those of the occurrences ahead of i, and those of a number below n at i are kept; the
-- module itself stands behind its last occurrence
record KeptAhead (board : List Module) (k i n : ℕ) : Type 0 where
  behind : (j : ℕ) → k < j → j < length board → Keeps board j
  ahead : (h : ℕ) → h < i → (r : OccurrenceRule) → OccurrenceKeeps board k h r
  here : i < length (module_number board k).occurrences → (r : OccurrenceRule) → number_of (occurrence_refusal r 0) < n → OccurrenceKeeps board k i r
  here_own : i ≡ length (module_number board k).occurrences → (r : ModuleRule) → number_of (module_refusal r 0) < n → ModuleKeeps board k r

module _ (board : List Module) (k i n : ℕ) (l : k < length board) (m : i ≤ length (module_number board k).occurrences) (kept : KeptAhead board k i n) where
  none_ahead : (rank : Rank) (e : Refusal) → BoardBreak board rank e → Before rank (3 ∷ (length board - k) ∷ i ∷ n ∷ []) → ⊥
  none_ahead rank e (inl b) o =
      let o' = subst (λ x. Before x (3 ∷ (length board - k) ∷ i ∷ n ∷ [])) b.rank_is o in
      b.broken (elim (lesser (length board) b.k k (b.i ∷ number_of (occurrence_refusal b.rule 0) ∷ []) (i ∷ n ∷ []) b.module_there l o') [
        | inl g ↦ (kept.behind b.k g b.module_there).occurrences b.i b.occurrence_there b.rule
        | inr g ↦
            let c = ap (λ j. length (module_number board j).occurrences) g.0 in
            subst (λ j. OccurrenceKeeps board j b.i b.rule) (sym g.0) (elim g.1 [
              | inl h ↦ kept.ahead b.i h b.rule
              | inr h ↦ subst (λ j. OccurrenceKeeps board k j b.rule) (sym h.0) (kept.here (omega arith) b.rule (omega (arith, h.1)))
            ])
      ])
  none_ahead rank e (inr b) o =
      let o' = subst (λ x. Before x (3 ∷ (length board - k) ∷ i ∷ n ∷ [])) b.rank_is o in
      b.broken (elim (lesser (length board) b.k k (length (module_number board b.k).occurrences ∷ number_of (module_refusal b.rule 0) ∷ []) (i ∷ n ∷ []) b.module_there l o') [
        | inl g ↦ (kept.behind b.k g b.module_there).own b.rule
        | inr g ↦
            let c = ap (λ j. length (module_number board j).occurrences) g.0 in
            subst (λ j. ModuleKeeps board j b.rule) (sym g.0) (elim g.1 [
              | inl h ↦ absurd (omega arith)
              | inr h ↦ kept.here_own (omega arith) b.rule (omega (arith, h.1))
            ])
      ])

-- A file whose records pass and whose modules do not

modules_refused : (f : List ℕ) → records_read f ≡ accepted → (e : Refusal) → FirstOf (units_of f) e → FirstBroken f e
modules_refused f p e (at_occurrence k i r l m broken is behind ahead here) =
    let z : length (board_of f) ≡ length (units_of f) = length-map (units_of f) module_of in
    let h : k < length (board_of f) = omega arith in
    let place = ap (λ u. (get_or u.placed i no_placed).place) (unit_is f k no_unit h) ∙ passes_placed f p k h i m no_placed in
    let kept : KeptAhead (board_of f) k i (number_of (occurrence_refusal r 0)) = record { behind = λ j g t. behind j g (omega arith); ahead = ahead; here = λ _. here; here_own = λ t. absurd (omega arith) } in
    record {
      rank = 3 ∷ (length (board_of f) - k) ∷ i ∷ number_of (occurrence_refusal r 0) ∷ [];
      broken = subst (Breaks f _) (sym (is ∙ ap (occurrence_refusal r) place)) (of_occurrence (board_of f) k i r (passes_laid_out f p) (passes_range f p) h m broken);
      first = λ other e' b. none_ahead (board_of f) k i (number_of (occurrence_refusal r 0)) h (omega arith) kept other e' (records_break f p other e' b);
    }
modules_refused f p e (at_module k r l broken is behind ahead here) =
    let z : length (board_of f) ≡ length (units_of f) = length-map (units_of f) module_of in
    let h : k < length (board_of f) = omega arith in
    let i = length (module_number (board_of f) k).occurrences in
    let place = ap (λ u. u.place) (unit_is f k no_unit h) ∙ passes_module_place f p k (omega arith) in
    let kept : KeptAhead (board_of f) k i (number_of (module_refusal r 0)) = record { behind = λ j g t. behind j g (omega arith); ahead = ahead; here = λ t. absurd (omega arith); here_own = λ _. here } in
    record {
      rank = 3 ∷ (length (board_of f) - k) ∷ i ∷ number_of (module_refusal r 0) ∷ [];
      broken = subst (Breaks f _) (sym (is ∙ ap (module_refusal r) place)) (of_module (board_of f) k r (passes_laid_out f p) (passes_range f p) h broken);
      first = λ other e' b. none_ahead (board_of f) k i (number_of (module_refusal r 0)) h (omega arith) kept other e' (records_break f p other e' b);
    }

keeps_all : (board : List Module) → BoardKeeps board → (rank : Rank) (e : Refusal) → BoardBreak board rank e → ⊥
keeps_all board k rank e (inl b) = b.broken (k.occurrences b.k b.module_there b.i b.occurrence_there b.rule)
keeps_all board k rank e (inr b) = b.broken (k.modules b.k b.module_there b.rule)

-- The theorems

pub accepted_exactly : (f : List ℕ) → AcceptedExactly f
accepted_exactly f = (
  λ e.
      let p = then_left (records_read f) (modules_judged 0 (units_of f)) e in
      record { board = board_of f; short = passes_short f p; laid_out = passes_laid_out f p; range = passes_range f p; keeps = modules_keep (units_of f) (then_right (records_read f) (modules_judged 0 (units_of f)) e) },
  λ b.
      let p = laid_out_passes f b.board b.laid_out b.range b.short in
      passed (records_read f) (modules_judged 0 (units_of f)) p.0 ∙ keep_modules (units_of f) (subst BoardKeeps (sym p.1) b.keeps),
)

first : (f : List ℕ) (r m : Verdict) → records_read f ≡ r → modules_judged 0 (units_of f) ≡ m → VerdictFirst f (r then m)
first f (refused e) m p q = records_first f e p
first f accepted accepted p q = λ rank e b. keeps_all (board_of f) (modules_keep (units_of f) q) rank e (records_break f p rank e b)
first f accepted (refused e) p q = modules_refused f p e (modules_first (units_of f) e q)

pub verdict_first : (f : List ℕ) → VerdictFirst f (verdict f)
verdict_first f = first f (records_read f) (modules_judged 0 (units_of f)) refl refl
