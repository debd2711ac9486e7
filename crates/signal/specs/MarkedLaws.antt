-- Marks over a kind that keeps the rules keep them.
use Rattle.std.specs.Prelude.{◌≡◌, ℕ, zero, suc, ◌<◌, Bool, true, false, cond, not, ◌&&◌, ◌||◌, ◌↔◌, Some, None, bit_or, nat_lt, refl}
use Rattle.std.proofs.Common.{sym, ◌∙◌, arith}
use Rattle.std.proofs.Math.Bool.{or-true}
use Rattle.std.proofs.lemmas.Bool.{and_right, or_from, lt-ltb}
use Rattle.signal.specs.declared.marks.Marks.{Marks}
use Rattle.signal.specs.Kinds.{Kind, Lawful, Situation, differ, Settled, Only, Admits, AdmitsBoth, Follows2, Follows3, Settles2, Settles3}
use Rattle.signal.specs.Sets.{has, some_below, meets}
use Rattle.signal.specs.Marked.{marked, with_marks, united}
use Rattle.signal.specs.Situations.{not_both, never_some, all_marks, none_otherwise}
use Rattle.signal.specs.Numbers.{has_or, none, none_at, none_all}

-- a set of marks meets a union if it meets one of the two
union_bit : (s a b x y : Bool) → (x || y || (s && (a || b))) ≡ (x || (s && a) || (y || (s && b)))
union_bit s a b x y = grind arith

union_below : (s : ℕ → Bool) (m n k : ℕ) → some_below k (λ i. s i && has (bit_or m n) i) ≡ (some_below k (λ i. s i && has m i) || some_below k (λ i. s i && has n i))
unfolding some_below
union_below s m n zero = refl
union_below s m n (suc k) =
    rw (union_below s m n k, has_or m n k) (union_bit (s k) (has m k) (has n k) (some_below k (λ i. s i && has m i)) (some_below k (λ i. s i && has n i)))

meets_union : (s : ℕ → Bool) (m n : ℕ) → meets s (bit_or m n) ≡ (meets s m || meets s n)
meets_union s m n = union_below s m n 64

meets_left : (s : ℕ → Bool) (m n : ℕ) → meets s m ≡ true → meets s (bit_or m n) ≡ true
meets_left s m n e = meets_union s m n ∙ rw e

meets_right : (s : ℕ → Bool) (m n : ℕ) → meets s n ≡ true → meets s (bit_or m n) ≡ true
meets_right s m n e = meets_union s m n ∙ rw e (or-true (meets s m))

meets_neither : (s : ℕ → Bool) (m n : ℕ) → meets s m ≡ false → meets s n ≡ false → meets s (bit_or m n) ≡ false
meets_neither s m n h k = meets_union s m n ∙ or_from (meets s m) (meets s n) h k

-- a value without marks is met by no set of marks
meets_none : (s : ℕ → Bool) → meets s 0 ≡ false
meets_none s = none_all 64 (λ k. s k && has 0 k) (λ k l. and_right (s k) (has 0 k) (none k l))

meets_empty : (s : ℕ → Bool) (m : ℕ) → some_below 64 (has m) ≡ false → meets s m ≡ false
meets_empty s m e = none_all 64 (λ k. s k && has m k) (λ k l. and_right (s k) (has m k) (none_at 64 (has m) e k l))

-- a value with a mark is met by the set of all marks
some_same : (n : ℕ) (p q : ℕ → Bool) → ((i : ℕ) → i < n → p i ≡ q i) → some_below n p ≡ some_below n q
unfolding some_below
some_same zero p q h = refl
some_same (suc n) p q h = rw (some_same n p q (λ i l. h i (omega arith)), h n (omega arith))

meets_all : (m : ℕ) → some_below 64 (has m) ≡ true → meets all_marks.marks m ≡ true
meets_all m e = some_same 64 (λ i. nat_lt i 64 && has m i) (has m) (λ i l. rw (lt-ltb i 64 l)) ∙ e

module _ {V : Type 0} (k : Kind V) (law : Lawful k) where
  -- where the situation has none of the value's marks, it admits what the value below admits
  same : (v : Marks V) (s : Situation) (b : Bool) → meets s.marks v.marks ≡ false → (marked k).admits v s b ≡ k.admits v.below s b
  same v s b e = rw e

  only_same : (v : Marks V) (s : Situation) (b : Bool) → meets s.marks v.marks ≡ false → Only k v.below s b → Only (marked k) v s b
  only_same v s b e o = (same v s b e ∙ o.0, same v s (not b) e ∙ o.1)

  only_below : (v : Marks V) (s : Situation) (b : Bool) → meets s.marks v.marks ≡ false → Only (marked k) v s b → Only k v.below s b
  only_below v s b e o = (sym (same v s b e) ∙ o.0, sym (same v s (not b) e) ∙ o.1)

  -- what the value below admits, the value admits
  over : (x : V) (m : ℕ) (s : Situation) (b : Bool) → Admits k x s b → Admits (marked k) (with_marks x m) s b
  over x m s b h = rw h (or-true (meets s.marks m))

  -- where a mark is met, the value admits every bit
  met : (x : V) (m : ℕ) (s : Situation) (b : Bool) → meets s.marks m ≡ true → Admits (marked k) (with_marks x m) s b
  met x m s b e = rw e

  -- what the value admits, the value below admits or a mark is met
  cases : {A : Type 0} (v : Marks V) (s : Situation) (b : Bool) → Admits (marked k) v s b → (meets s.marks v.marks ≡ true → A) → (Admits k v.below s b → A) → A
  cases {A} v s b h yes_met yes_below = go (meets s.marks v.marks) refl
    where
      go : (x : Bool) → meets s.marks v.marks ≡ x → A
      go true e = yes_met e
      go false e = yes_below (sym (same v s b e) ∙ h)

  united_follows : (f : V → V → V) (g : Bool → Bool → Bool) → Follows2 k f g → Follows2 (marked k) (united f) g
  united_follows f g below s v w a b h l =
      let m = bit_or v.marks w.marks in
      cases v s a h
      (λ e. met _ m s (g a b) (meets_left s.marks v.marks w.marks e))
      (λ p.
      cases w s b l
      (λ e. met _ m s (g a b) (meets_right s.marks v.marks w.marks e))
      (λ q. over _ m s (g a b) (below s v.below w.below a b p q)))

  pick_follows : Follows3 (marked k) (marked k).pick cond
  pick_follows s v w x a b c h l n =
      let m = bit_or v.marks w.marks in
      let all = bit_or m x.marks in
      cases v s a h
      (λ e. met _ all s (cond a b c) (meets_left s.marks m x.marks (meets_left s.marks v.marks w.marks e)))
      (λ p.
      cases w s b l
      (λ e. met _ all s (cond a b c) (meets_left s.marks m x.marks (meets_right s.marks v.marks w.marks e)))
      (λ q.
      cases x s c n
      (λ e. met _ all s (cond a b c) (meets_right s.marks m x.marks e))
      (λ r. over _ all s (cond a b c) (law.pick_follows s v.below w.below x.below a b c p q r))))

  -- a value is settled if none of its marks is met and the value below is settled
  apart : (v : Marks V) (s : Situation) → Settled (marked k) v s → (meets s.marks v.marks ≡ false) × Settled k v.below s
  apart v s (b, o) = go (meets s.marks v.marks) refl
    where
      go : (x : Bool) → meets s.marks v.marks ≡ x → (meets s.marks v.marks ≡ false) × Settled k v.below s
      go true e = not_both (sym (met v.below v.marks s (not b) e) ∙ o.1)
      go false e = (e, (b, only_below v s b e o))

  together : (x : V) (m : ℕ) (s : Situation) → meets s.marks m ≡ false → Settled k x s → Settled (marked k) (with_marks x m) s
  together x m s e (b, o) = (b, only_same (with_marks x m) s b e o)

  united_settles : (f : V → V → V) → Settles2 k f → Settles2 (marked k) (united f)
  united_settles f below s v w h l =
      let p = apart v s h in
      let q = apart w s l in
      together _ (bit_or v.marks w.marks) s (meets_neither s.marks v.marks w.marks p.0 q.0) (below s v.below w.below p.1 q.1)

  pick_settles : Settles3 (marked k) (marked k).pick
  pick_settles s v w x h l n =
      let p = apart v s h in
      let q = apart w s l in
      let r = apart x s n in
      let m = bit_or v.marks w.marks in
      together _ (bit_or m x.marks) s
      (meets_neither s.marks m x.marks (meets_neither s.marks v.marks w.marks p.0 q.0) r.0)
      (law.pick_settles s v.below w.below x.below p.1 q.1 r.1)

  told_cases : (v : Marks V) (b x : Bool) → some_below 64 (has v.marks) ≡ x → (cond x None (k.told v.below) ≡ Some b) ↔ ((s : Situation) → Only (marked k) v s b)
  told_cases v b true e = (λ t. never_some b t, λ h. not_both (sym (met v.below v.marks all_marks (not b) (meets_all v.marks e)) ∙ (h all_marks).1))
  told_cases v b false e = (
    λ t s. only_same v s b (meets_empty s.marks v.marks e) ((law.told_bit v.below b).0 t s),
    λ h. (law.told_bit v.below b).1 (λ s. only_below v s b (meets_empty s.marks v.marks e) (h s)),
  )

  told_bit : (v : Marks V) (b : Bool) → ((marked k).told v ≡ Some b) ↔ ((s : Situation) → Only (marked k) v s b)
  told_bit v b = told_cases v b _ refl

  pub marked_lawful : Lawful (marked k)
  marked_lawful = record {
    some_bit = λ v s. let below = law.some_bit v.below s in (below.0, over v.below v.marks s below.0 below.1);
    low_only = λ s. only_same (with_marks k.low 0) s false (meets_none s.marks) (law.low_only s);
    high_only = λ s. only_same (with_marks k.high 0) s true (meets_none s.marks) (law.high_only s);
    not_follows = λ s v a h. cases v s a h (λ e. met _ v.marks s (not a) e) (λ p. over _ v.marks s (not a) (law.not_follows s v.below a p));
    and_follows = united_follows k.and ◌&&◌ law.and_follows;
    or_follows = united_follows k.or ◌||◌ law.or_follows;
    xor_follows = united_follows k.xor differ law.xor_follows;
    pick_follows = pick_follows;
    not_settles = λ s v h. let p = apart v s h in together _ v.marks s p.0 (law.not_settles s v.below p.1);
    and_settles = united_settles k.and law.and_settles;
    or_settles = united_settles k.or law.or_settles;
    xor_settles = united_settles k.xor law.xor_settles;
    pick_settles = pick_settles;
    told_bit = told_bit;
    told_none = λ v. none_otherwise (marked k) v (told_bit v);
  }

  -- a value below that admits both bits, with no mark, does so too
  pub marked_open : (x : V) → AdmitsBoth k x → AdmitsBoth (marked k) (with_marks x 0)
  marked_open x h s b = over x 0 s b (h s b)
