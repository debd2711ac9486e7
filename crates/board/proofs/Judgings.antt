-- The tables of a file's modules, from the last to the first.
use Rattle.std.proofs.Common.{◌≡◌, ℕ, ◌+◌, ◌<◌, ◌≤◌, cond, List, [], length, get_or, set, sym, ap, ◌∙◌, subst, inl, inr, arith, get_or-set_other, get_or-set_same}
use Rattle.std.proofs.lemmas.Bool.{eq-eqb, ne_eqb, cases_eq}
use Rattle.rules.specs.Boards.{node}
use Rattle.rules.specs.Records.{module_count}
use Rattle.rules.specs.Judging.{module_of, unit_no, seen_from}
use Rattle.rules.proofs.Modules.{seen_more}
use Rattle.board.specs.declared.tables.Summary.{Summary}
use Rattle.board.specs.Summaries.{Described, no_summary}
use Rattle.board.specs.Tallies.{StartsOf}

-- what is known of the modules, with one more
pub summaries_more : (f : List ℕ) (k n : ℕ) (ss : List Summary) (s : Summary) → k < length ss → n ≡ module_count f → k < n → ((j : ℕ) → k + 1 ≤ j → j < n → Described (seen_from f (k + 1) j) (get_or ss j no_summary)) → Described (node (module_of (unit_no f k)) (seen_from f (k + 1))) s → (j : ℕ) → k ≤ j → j < n → Described (seen_from f k j) (get_or (set ss k s) j no_summary)
summaries_more f k n ss s l e h g d j a b =
    let m = seen_more f k j (omega arith) in
    elim (cases_eq j k) [
      | inl q ↦
          let w : seen_from f k j ≡ node (module_of (unit_no f k)) (seen_from f (k + 1)) = m ∙ ap (λ x. cond x (node (module_of (unit_no f k)) (seen_from f (k + 1))) (seen_from f (k + 1) j)) (eq-eqb j k q) in
          let v : get_or (set ss k s) j no_summary ≡ s = ap (λ x. get_or (set ss k s) x no_summary) q ∙ get_or-set_same ss k s no_summary l in
          subst (λ x. Described x (get_or (set ss k s) j no_summary)) (sym w) (subst (Described (node (module_of (unit_no f k)) (seen_from f (k + 1)))) (sym v) d)
      | inr ne ↦
          let w : seen_from f k j ≡ seen_from f (k + 1) j = m ∙ ap (λ x. cond x (node (module_of (unit_no f k)) (seen_from f (k + 1))) (seen_from f (k + 1) j)) (ne_eqb j k ne) in
          let v : get_or (set ss k s) j no_summary ≡ get_or ss j no_summary = get_or-set_other ss k j s no_summary ne in
          let lt : k + 1 ≤ j = omega arith in
          subst (λ x. Described x (get_or (set ss k s) j no_summary)) (sym w) (subst (Described (seen_from f (k + 1) j)) (sym v) (g j lt b))
    ]

pub starts_more : (f : List ℕ) (k n : ℕ) (ss : List (List ℕ)) (s : List ℕ) → k < length ss → ((j : ℕ) → k + 1 ≤ j → j < n → StartsOf f j (get_or ss j [])) → StartsOf f k s → (j : ℕ) → k ≤ j → j < n → StartsOf f j (get_or (set ss k s) j [])
starts_more f k n ss s l g d j a b =
    elim (cases_eq j k) [
      | inl q ↦
          let v : get_or (set ss k s) j [] ≡ s = ap (λ x. get_or (set ss k s) x []) q ∙ get_or-set_same ss k s [] l in
          subst (StartsOf f j) (sym v) (subst (λ x. StartsOf f x s) (sym q) d)
      | inr ne ↦
          let lt : k + 1 ≤ j = omega arith in
          subst (StartsOf f j) (sym (get_or-set_other ss k j s [] ne)) (g j lt b)
    ]
