-- The modules of a board, from the last to the first.
use Rattle.std.proofs.Common.{◌≡◌, ℕ, zero, suc, ◌+◌, ◌-◌, ◌<◌, ◌≤◌, cond, eqb, List, [], ◌∷◌, map, length, get_or, drop, refl, ap, ◌∙◌, subst, le_of_suc-le-suc, add-zero, arith, length-drop}
use lib.ListN.{length-map}
use Rattle.std.proofs.lemmas.List.{drop_more, drop_all}
use Rattle.std.proofs.lemmas.Bool.{ne_eqb}
use Rattle.rules.specs.declared.refusal.Refusal.{Refusal}
use Rattle.rules.specs.Refusals.{accepted, refused, ◌then◌}
use Rattle.rules.specs.Boards.{Module, absent, node, design_from}
use Rattle.rules.specs.Records.{end_of, module_end, module_count, module_at}
use Rattle.rules.specs.Judging.{PlacedModule, unit_at, units_at, units_of, module_of, module_judged, modules_judged, unit_no, seen_from}
use Rattle.rules.proofs.Verdicts.{passed, failed}

pub design_low : (k : ℕ) (ms : List Module) (j : ℕ) → j < k → design_from k ms j ≡ absent
design_low k [] j h = refl
design_low k (m ∷ ms) j h = ap (λ b. cond b (node m (design_from (suc k) ms)) (design_from (suc k) ms j)) (ne_eqb j k (λ e. omega arith)) ∙ design_low (suc k) ms j (omega arith)

pub design_high : (k : ℕ) (ms : List Module) (j : ℕ) → k + length ms ≤ j → design_from k ms j ≡ absent
design_high k [] j h = refl
design_high k (m ∷ ms) j h = ap (λ b. cond b (node m (design_from (suc k) ms)) (design_from (suc k) ms j)) (ne_eqb j k (λ e. omega arith)) ∙ design_high (suc k) ms j (omega arith)

pub length_units : (f : List ℕ) (at n : ℕ) → length (units_at f at n) ≡ n
unfolding units_at
length_units f at zero = refl
length_units f at (suc n) = ap suc (length_units f (module_end f at) n)

pub seen_low : (f : List ℕ) (k j : ℕ) → j < k → seen_from f k j ≡ absent
seen_low f k j h = design_low k (map module_of (drop k (units_of f))) j h

pub seen_high : (f : List ℕ) (k j : ℕ) → k ≤ module_count f → module_count f ≤ j → seen_from f k j ≡ absent
seen_high f k j h l =
    let e : length (map module_of (drop k (units_of f))) ≡ module_count f - k = length-map (drop k (units_of f)) module_of ∙ length-drop k (units_of f) ∙ ap (λ n. n - k) (length_units f (end_of f 0) (module_count f)) in
    design_high k (map module_of (drop k (units_of f))) j (omega arith)

unit_get_or : (f : List ℕ) (at n k : ℕ) (d : PlacedModule) → k < n → get_or (units_at f at n) k d ≡ unit_at f (module_at f at k)
unfolding units_at module_at
unit_get_or f at zero k d h = absurd (omega arith)
unit_get_or f at (suc n) zero d h = refl
unit_get_or f at (suc n) (suc k) d h = unit_get_or f (module_end f at) n k d (le_of_suc-le-suc h)

pub units_more : (f : List ℕ) (k : ℕ) → k < module_count f → drop k (units_of f) ≡ unit_no f k ∷ drop (k + 1) (units_of f)
units_more f k h =
    drop_more (units_of f) k (unit_no f 0) (omega (arith, length_units f (end_of f 0) (module_count f)))
    ∙ ap (λ u. u ∷ drop (k + 1) (units_of f)) (unit_get_or f (end_of f 0) (module_count f) k (unit_no f 0) h)

-- module k with those behind it, as the modules ahead of it see them
pub seen_more : (f : List ℕ) (k j : ℕ) → k < module_count f → seen_from f k j ≡ cond (eqb j k) (node (module_of (unit_no f k)) (seen_from f (k + 1))) (seen_from f (k + 1) j)
seen_more f k j h =
    let z : suc k ≡ k + 1 = omega arith in
    let ms = map module_of (drop (k + 1) (units_of f)) in
    ap (λ us. design_from k (map module_of us) j) (units_more f k h) ∙ ap (λ n. cond (eqb j k) (node (module_of (unit_no f k)) (design_from n ms)) (design_from n ms j)) z

pub judged_cons : (k : ℕ) (u : PlacedModule) (us : List PlacedModule) → modules_judged k (u ∷ us) ≡ (modules_judged (k + 1) us then module_judged (design_from (k + 1) (map module_of us)) u)
unfolding modules_judged
judged_cons k u us = let z : suc k ≡ k + 1 = omega arith in ap (λ n. modules_judged n us then module_judged (design_from n (map module_of us)) u) z

pub judged_step : (f : List ℕ) (k : ℕ) → k < module_count f → modules_judged (k + 1) (drop (k + 1) (units_of f)) ≡ accepted → modules_judged k (drop k (units_of f)) ≡ module_judged (seen_from f (k + 1)) (unit_no f k)
judged_step f k h e =
    ap (modules_judged k) (units_more f k h) ∙ judged_cons k (unit_no f k) (drop (k + 1) (units_of f)) ∙ passed (modules_judged (k + 1) (drop (k + 1) (units_of f))) _ e

-- the first failure from the last module on is the verdict
pub judged_fails : (us : List PlacedModule) (k j : ℕ) (r : Refusal) → modules_judged (k + j) (drop j us) ≡ refused r → modules_judged k us ≡ refused r
unfolding modules_judged
judged_fails [] k zero r e = cc
judged_fails [] k (suc j) r e = cc
judged_fails (u ∷ us) k zero r e = subst (λ n. modules_judged n (u ∷ us) ≡ refused r) (add-zero k) e
judged_fails (u ∷ us) k (suc j) r e =
    let z : k + suc j ≡ suc k + j = omega arith in
    failed (modules_judged (suc k) us) _ r (judged_fails us (suc k) j r (subst (λ n. modules_judged n (drop j us) ≡ refused r) z e))

pub judged_out : (f : List ℕ) (k : ℕ) (r : Refusal) → modules_judged k (drop k (units_of f)) ≡ refused r → modules_judged 0 (units_of f) ≡ refused r
judged_out f k r e = let z : k ≡ 0 + k = omega arith in judged_fails (units_of f) 0 k r (subst (λ n. modules_judged n (drop k (units_of f)) ≡ refused r) z e)

pub judged_end : (f : List ℕ) (k : ℕ) → module_count f ≤ k → modules_judged k (drop k (units_of f)) ≡ accepted
unfolding modules_judged
judged_end f k h = ap (modules_judged k) (drop_all k (units_of f) (omega (arith, length_units f (end_of f 0) (module_count f))))
