-- The simulated run's checks refuse a call by the number that refuses it on the flat side.
use Rattle.std.proofs.Common.{◌≡◌, ℕ, suc, ◌+◌, ◌*◌, ◌<◌, ◌≤◌, Bool, true, false, not, ◌&&◌, eqb, ltb, leb, ◌≢◌, ◌⊎◌, length, sym, refl, ◌∙◌, subst, inl, inr, arith}
use Rattle.std.proofs.lemmas.Bool.{true≢false, false≢true, ltb-true, ltb-false, leb-true, leb-false, eqb-true, eqb-false, cases_order}
use Rattle.rules.specs.Boards.{Design, in_count, out_wires, cells}
use Rattle.rules.specs.Sound.{Sound}
use Rattle.flat.specs.Flat.{cell_places}
use Rattle.flat.specs.Runs.{Call, unless, refusal}
use Rattle.flat.specs.FlatRuns.{Wrong, Refuses}
use Rattle.flat.specs.RunLaws.{Fed, fed_step, fed_set, fed_clear, fed_read, fed_look}
use Rattle.flat.proofs.Keep.{length_rel}
use Rattle.flat.proofs.CellPlaces.{places_length}

-- the check fails exactly when the condition holds
abbrev Tells : Bool → Type 0 → Type 0
Tells right P = (right ≡ true → P → ⊥) × (right ≡ false → P)

tells_eq : (a c e : ℕ) → e ≡ c → Tells (eqb a c) (a ≢ e)
tells_eq a c e s = (λ t p. p (eqb-true a c t ∙ sym s), λ f q. eqb-false a c f (q ∙ s))

tells_below : (k c e : ℕ) → e ≡ c → Tells (ltb k c) (e ≤ k)
tells_below k c e s = (λ t p. let l = ltb-true k c t in let z : ⊥ = omega arith in z, λ f. let l = ltb-false k c f in omega arith)

tells_most : (a t : ℕ) → Tells (leb a t) (t < a)
tells_most a t = (λ e p. let l = leb-true a t e in let z : ⊥ = omega arith in z, λ f. leb-false a t f)

tells_last : (a n : ℕ) → Tells (not (eqb a n)) (a ≡ n)
tells_last a n =
    let by : (c : Bool) → eqb a n ≡ c → Tells (not c) (a ≡ n) =
    elim [ true ↦ λ e. (λ t p. false≢true t, λ f. eqb-true a n e) | false ↦ λ e. (λ t p. eqb-false a n e p, λ f. absurd (true≢false f)) ] in
    by (eqb a n) refl

tells_both : (b c : Bool) (P Q : Type 0) → Tells b P → Tells c Q → Tells (b && c) (P ⊎ Q)
tells_both true c P Q h k = (λ t. elim [ inl p ↦ h.0 refl p | inr q ↦ k.0 t q ], λ f. inr (k.1 f))
tells_both false c P Q h k = (λ t p. false≢true t, λ f. inl (h.1 refl))

-- the number r is 0 and no condition holds, or it is the least whose condition holds
abbrev pub Decided : ℕ → (ℕ → Type 0) → Type 0
Decided r W = ((r ≡ 0) × ((m : ℕ) → W m → ⊥)) ⊎ ((n : ℕ) × (r ≡ suc n) × (W (suc n) × ((m : ℕ) → m < suc n → W m → ⊥)))

last_check : (b : Bool) (P : Type 0) (n : ℕ) → Tells b P → Decided (unless b (suc n) 0) (λ m. (m ≡ suc n) × P)
last_check true P n h = inl (refl, λ m w. h.0 refl w.1)
last_check false P n h = inr (n, refl, ((refl, h.1 refl), λ m l w. let e = w.0 in let z : ⊥ = omega arith in z))

check : (b : Bool) (P : Type 0) (n r : ℕ) (W : ℕ → Type 0) → Tells b P → ((m : ℕ) → W m → suc n < m) → Decided r W → Decided (unless b (suc n) r) (λ m. ((m ≡ suc n) × P) ⊎ W m)
check true P n r W h above (inl (e, none)) = inl (e, λ m. elim [ inl w ↦ h.0 refl w.1 | inr w ↦ none m w ])
check true P n r W h above (inr (k, e, (w, least))) = inr (k, e, (inr w, λ m l. elim [ inl x ↦ h.0 refl x.1 | inr x ↦ least m l x ]))
check false P n r W h above d =
    inr (n, refl, (inl (refl, h.1 refl), λ m l. elim [ inl x ↦ (let e = x.0 in let z : ⊥ = omega arith in z) | inr x ↦ (let a = above m x in let z : ⊥ = omega arith in z) ]))

pub decides : {V : Type 0} (R : V → Bool → Type 0) (d : Design) → Sound d → (cycle : ℕ) {c : Call V} {f : Call Bool} → Fed R c f → Decided (refusal d cycle c) (Wrong d cycle f)
decides R d sound cycle (fed_step ins js r h) =
    let C = places_length d sound in
    let O = length (out_wires d) in
    check (eqb (length ins) (in_count d)) (length js ≢ in_count d) 12 _ _
    (let e = length_rel R ins js h in subst (λ n. Tells (eqb n (in_count d)) (length js ≢ in_count d)) (sym e) (tells_eq (length js) (in_count d) (in_count d) refl))
    (λ m. elim [ inl w ↦ (let e = w.0 in omega arith) | inr w ↦ (let e = w.0 in omega arith) ])
    (check (eqb r.cells (cells d) && (leb 1024 r.values && leb 8 r.levels)) ((r.cells ≢ length (cell_places d)) ⊎ ((r.values < 1024) ⊎ (r.levels < 8))) 14 _ _
    (tells_both (eqb r.cells (cells d)) (leb 1024 r.values && leb 8 r.levels) _ _ (tells_eq r.cells (cells d) (length (cell_places d)) C)
    (tells_both (leb 1024 r.values) (leb 8 r.levels) _ _ (tells_most 1024 r.values) (tells_most 8 r.levels)))
    (λ m w. let e = w.0 in omega arith)
    (last_check (leb ((cycle + 1) * O) r.tape && not (eqb cycle 65535)) ((r.tape < (cycle + 1) * O) ⊎ (cycle ≡ 65535)) 15
    (tells_both (leb ((cycle + 1) * O) r.tape) (not (eqb cycle 65535)) _ _ (tells_most ((cycle + 1) * O) r.tape) (tells_last cycle 65535))))
decides R d sound cycle (fed_set k v w n h) =
    let C = places_length d sound in
    check (ltb k (cells d)) (length (cell_places d) ≤ k) 13 _ _ (tells_below k (cells d) (length (cell_places d)) C) (λ m w. let e = w.0 in omega arith)
    (last_check (eqb n (cells d)) (n ≢ length (cell_places d)) 14 (tells_eq n (cells d) (length (cell_places d)) C))
decides R d sound cycle (fed_clear n) = last_check (eqb n (cells d)) (n ≢ length (cell_places d)) 14 (tells_eq n (cells d) (length (cell_places d)) (places_length d sound))
decides R d sound cycle (fed_read k n) =
    let C = places_length d sound in
    check (ltb k (cells d)) (length (cell_places d) ≤ k) 13 _ _ (tells_below k (cells d) (length (cell_places d)) C) (λ m w. let e = w.0 in omega arith)
    (last_check (eqb n (cells d)) (n ≢ length (cell_places d)) 14 (tells_eq n (cells d) (length (cell_places d)) C))
decides R d sound cycle (fed_look k j n t) =
    let C = places_length d sound in
    let O = length (out_wires d) in
    check (ltb j O) (O ≤ j) 13 _ _ (tells_below j O O refl) (λ m. elim [ inl w ↦ (let e = w.0 in omega arith) | inr w ↦ (let e = w.0 in omega arith) ])
    (check (eqb n (cells d) && leb (cycle * O) t) ((n ≢ length (cell_places d)) ⊎ (t < cycle * O)) 14 _ _
    (tells_both (eqb n (cells d)) (leb (cycle * O) t) _ _ (tells_eq n (cells d) (length (cell_places d)) C) (tells_most (cycle * O) t))
    (λ m w. let e = w.0 in omega arith)
    (last_check (ltb k cycle) (cycle ≤ k) 16 (tells_below k cycle cycle refl)))

-- one number refuses
pub refuses_one : (d : Design) (cycle : ℕ) (f : Call Bool) (n m : ℕ) → Refuses d cycle f n → Refuses d cycle f m → n ≡ m
refuses_one d cycle f n m a b =
    let by : (n ≡ m) ⊎ ((n < m) ⊎ (m < n)) → n ≡ m = elim [ inl e ↦ e | inr (inl l) ↦ absurd (b.1 n l a.0) | inr (inr l) ↦ absurd (a.1 m l b.0) ] in
    by (cases_order n m)
