-- Lines cut from an input, and values read from a line, one byte at a time.
use Rattle.std.proofs.Common.{◌≡◌, ℕ, suc, ◌+◌, ◌<◌, ◌≤◌, Bool, true, false, cond, not, ◌&&◌, eqb, List, [], ◌∷◌, ◌++◌, length, get_or, take, drop, set, is_some, Some, None, Option, sym, refl, ap, ◌∙◌, append_assoc, arith}
use Rattle.std.proofs.lemmas.Bool.{both_ways, ltb-false}
use Rattle.std.proofs.lemmas.List.Folds.{list_all_at}
use Rattle.std.proofs.lemmas.Option.{cond_some, none-some}
use Rattle.std.proofs.lemmas.List.{append-nil, at_drop_more, at_drop_all, take_all, drop_all, take_more_set}
use Rattle.std.specs.List.{list_all, position, position_or_len}
use Rattle.signal.specs.Kinds.{Kind}
use Rattle.transcript.specs.Lines.{lines_of, first_line, after_line, onto_first, onto_values, value_of, values_of}

-- a line ends at the first byte 10

abbrev ends : ℕ → Bool
ends b = eqb b 10

take_one : (b : ℕ) (bs : List ℕ) (n : ℕ) → take (1 + n) (b ∷ bs) ≡ b ∷ take n bs
take_one b bs n = let e : 1 + n ≡ suc n = omega arith in ap (λ k. take k (b ∷ bs)) e

drop_one : (b : ℕ) (bs : List ℕ) (n : ℕ) → drop (1 + n + 1) (b ∷ bs) ≡ drop (n + 1) bs
drop_one b bs n = let e : 1 + n + 1 ≡ suc (n + 1) = omega arith in ap (λ k. drop k (b ∷ bs)) e

first_is : (input : List ℕ) → first_line input ≡ take (position_or_len ends input) input
unfolding first_line
first_is [] = refl
first_is (b ∷ bs) =
    elim (eqb b 10) as (λ t. cond t [] (b ∷ first_line bs) ≡ take (cond (not t) (1 + position_or_len ends bs) 0) (b ∷ bs)) [ true ↦ refl | false ↦ ap (λ l. b ∷ l) (first_is bs) ∙ sym (take_one b bs (position_or_len ends bs)) ]

after_is : (input : List ℕ) → after_line input ≡ drop (position_or_len ends input + 1) input
unfolding after_line
after_is [] = refl
after_is (b ∷ bs) =
    elim (eqb b 10) as (λ t. cond t bs (after_line bs) ≡ drop (cond (not t) (1 + position_or_len ends bs) 0 + 1) (b ∷ bs)) [ true ↦ refl | false ↦ after_is bs ∙ sym (drop_one b bs (position_or_len ends bs)) ]

missed : (b : Bool) (n : ℕ) → cond b (Some n) None ≡ None → b ≡ false
missed true n e = absurd (none-some n (sym e))
missed false n e = refl

-- what the place of the first byte 10 says of the line
module _ (input : List ℕ) where
  pub cut_first : (at : ℕ) → Some at ≡ position ends input → take at input ≡ first_line input
  cut_first at e = ap (λ k. take k input) (sym (cond_some _ _ at (sym e)).1) ∙ sym (first_is input)

  pub cut_after : (at : ℕ) → Some at ≡ position ends input → drop (at + 1) input ≡ after_line input
  cut_after at e = ap (λ k. drop (k + 1) input) (sym (cond_some _ _ at (sym e)).1) ∙ sym (after_is input)

  pub uncut_first : None ≡ position ends input → input ≡ first_line input
  uncut_first e = sym (first_is input ∙ take_all _ input (ltb-false _ _ (missed _ _ (sym e))))

  pub uncut_after : None ≡ position ends input → [] ≡ after_line input
  uncut_after e =
      let h = ltb-false _ _ (missed _ _ (sym e)) in
      sym (after_is input ∙ drop_all (position_or_len ends input + 1) input (omega (arith, h)))

-- the first line, and the lines after it
first_of : (b : ℕ) (bs : List ℕ) → lines_of (b ∷ bs) ≡ first_line (b ∷ bs) ∷ lines_of (after_line (b ∷ bs))
unfolding lines_of first_line after_line
first_of b [] = elim (eqb b 10) as (λ t. cond t ([] ∷ []) ((b ∷ []) ∷ []) ≡ cond t [] (b ∷ []) ∷ lines_of (cond t [] [])) [ true ↦ refl | false ↦ refl ]
first_of b (d ∷ bs) =
    elim (eqb b 10) as (λ t. cond t ([] ∷ lines_of (d ∷ bs)) (onto_first b (lines_of (d ∷ bs))) ≡ cond t [] (b ∷ first_line (d ∷ bs)) ∷ lines_of (cond t (d ∷ bs) (after_line (d ∷ bs)))) [ true ↦ refl | false ↦ ap (onto_first b) (first_of d bs) ]

pub lines_first : (input : List ℕ) → 0 < length input → lines_of input ≡ first_line input ∷ lines_of (after_line input)
lines_first [] h = absurd (omega arith)
lines_first (b ∷ bs) h = first_of b bs

pub after_shorter : (b : ℕ) (bs : List ℕ) → length (after_line (b ∷ bs)) ≤ length bs
unfolding after_line
after_shorter b [] = elim (eqb b 10) as (λ t. length {A = ℕ} (cond t [] []) ≤ 0) [ true ↦ omega arith | false ↦ omega arith ]
after_shorter b (d ∷ bs) =
    elim (eqb b 10) as (λ t. length (cond t (d ∷ bs) (after_line (d ∷ bs))) ≤ length (d ∷ bs)) [ true ↦ omega arith | false ↦ omega (arith, after_shorter d bs) ]

pub after_falls : (input : List ℕ) → 0 < length input → length (after_line input) < length input
after_falls [] h = omega arith
after_falls (b ∷ bs) h = omega (arith, after_shorter b bs)

-- values with others behind them, if those are there
abbrev pub behind : {V : Type 0} → List V → Option (List V) → Option (List V)
behind vs None = None
behind vs (Some ws) = Some (vs ++ ws)

behind_more : {V : Type 0} (vs : List V) (v : V) (r : Option (List V)) → behind vs (onto_values (Some v) r) ≡ behind (vs ++ v ∷ []) r
behind_more vs v None = refl
behind_more vs v (Some ws) = ap Some (sym (append_assoc vs (v ∷ []) ws))

pub is_none : {X : Type 0} (o : Option X) → is_some o ≡ false → o ≡ None
is_none None e = refl
is_none (Some x) e = absurd (both_ways true e refl)

-- each character of a line stands for a value, or not
onto_each : {V : Type 0} (o : Option V) (r : Option (List V)) (b : Bool) → is_some r ≡ b → is_some (onto_values o r) ≡ is_some o && b
onto_each None r b e = refl
onto_each (Some v) None b e = e
onto_each (Some v) (Some vs) b e = e

pub all_is : {V : Type 0} (K : Kind V) (unknown : V) (line : List ℕ) → is_some (values_of K unknown line) ≡ list_all (λ c. is_some (value_of K unknown c)) line
unfolding values_of
all_is K unknown [] = refl
all_is K unknown (c ∷ cs) = onto_each (value_of K unknown c) (values_of K unknown cs) _ (all_is K unknown cs)

unless_false : (b : Bool) → (b ≡ false → ⊥) → b ≡ true
unless_false true f = refl
unless_false false f = absurd (f refl)

module _ {V : Type 0} (K : Kind V) (unknown : V) (line : List ℕ) (at : ℕ) (h : at < length line) where
  values_at : values_of K unknown (drop at line) ≡ onto_values (value_of K unknown (get_or line at 0)) (values_of K unknown (drop (at + 1) line))
  unfolding values_of
  values_at = at_drop_more (values_of K unknown) line at 0 h

  pub one_there : list_all (λ c. is_some (value_of K unknown c)) line ≡ true → is_some (value_of K unknown (get_or line at 0)) ≡ true
  one_there all = unless_false _ (λ e. both_ways _ (list_all_at (λ c. is_some (value_of K unknown c)) line at 0 h e) all)

  pub values_more : (ins : List V) (v : V) → at < length ins → value_of K unknown (get_or line at 0) ≡ Some v → values_of K unknown line ≡ behind (take at ins) (values_of K unknown (drop at line)) → values_of K unknown line ≡ behind (take (at + 1) (set ins at v)) (values_of K unknown (drop (at + 1) line))
  values_more ins v l e inv =
      inv ∙ ap (behind (take at ins)) (values_at ∙ ap (λ o. onto_values o (values_of K unknown (drop (at + 1) line))) e) ∙ behind_more (take at ins) v (values_of K unknown (drop (at + 1) line)) ∙ ap (λ vs. behind vs (values_of K unknown (drop (at + 1) line))) (sym (take_more_set ins at v l))

module _ {V : Type 0} (K : Kind V) (unknown : V) (line : List ℕ) where
  pub values_all : (ins : List V) (at : ℕ) → length line ≤ at → length ins ≡ length line → values_of K unknown line ≡ behind (take at ins) (values_of K unknown (drop at line)) → values_of K unknown line ≡ Some ins
  unfolding values_of
  values_all ins at h l inv =
      let full : take at ins ≡ ins = take_all at ins (omega arith) in
      inv ∙ ap (behind (take at ins)) (at_drop_all (values_of K unknown) line at h) ∙ ap Some (append-nil (take at ins) ∙ full)
