-- Parts of a list that were lent, and gates on what they hold.
use borrow.Rule.Slice.PartMut.{put_mid}
use Rattle.std.proofs.Common.{◌≡◌, ℕ, ◌+◌, ◌-◌, ◌<◌, ◌≤◌, ◌≢◌, List, [], ◌∷◌, ◌++◌, map, length, get_or, take, drop, set, sym, refl, ap, ◌∙◌, arith, length-drop}
use mathlib.Core.Path.{fun_ext}
use Rattle.std.proofs.lemmas.List.{take_all, length-take-le, get_or-drop, get_or-take, get_or_append_left, get_or-append-add, get_or-map, length-map, get_or-set_other, drop_more}
use Rattle.flat.specs.Windows.{writes}
use Rattle.gates.specs.declared.Gate.{Gate}
use Rattle.gates.specs.declared.Gate.TheVariants.{Low, High, Buf, Not, And, Or, Xor, Nand, Nor, Xnor, Pick}
use Rattle.signal.specs.Kinds.{Kind}
use Rattle.signal.specs.GateValues.{input, gate_value}

pub lent : {X : Type 0} (xs : List X) (a k : ℕ) → a ≤ length xs → k ≡ length xs - a → take k (drop a xs) ≡ drop a xs
lent xs a k h e = take_all k (drop a xs) (omega (arith, length-drop a xs))

pub lent_length : {X : Type 0} (xs : List X) (a k : ℕ) → a ≤ length xs → k ≡ length xs - a → length (take k (drop a xs)) ≡ length xs - a
lent_length xs a k h e = ap length (lent xs a k h e) ∙ length-drop a xs

pub lent_get_or : {X : Type 0} (xs : List X) (a k j : ℕ) (d : X) → a ≤ length xs → k ≡ length xs - a → get_or (take k (drop a xs)) j d ≡ get_or xs (a + j) d
lent_get_or xs a k j d h e = ap (λ p. get_or p j d) (lent xs a k h e) ∙ get_or-drop a xs j d

-- a part of the pins
pub part_length : {X : Type 0} (ps : List X) (a n : ℕ) → a + n ≤ length ps → length (take n (drop a ps)) ≡ n
part_length ps a n h = length-take-le n (drop a ps) (omega (arith, length-drop a ps))

-- a gate looks at three values at most
pub three : {V : Type 0} (K : Kind V) (g : Gate) (vs : List V) → gate_value K g (input K vs 0 ∷ input K vs 1 ∷ input K vs 2 ∷ []) ≡ gate_value K g vs
three K Low vs = refl
three K High vs = refl
three K Buf vs = refl
three K Not vs = refl
three K And vs = refl
three K Or vs = refl
three K Xor vs = refl
three K Nand vs = refl
three K Nor vs = refl
three K Xnor vs = refl
three K Pick vs = refl

pub three_by : {V : Type 0} (K : Kind V) (g : Gate) (vs : List V) (r a b c : V) → r ≡ gate_value K g (a ∷ b ∷ c ∷ []) → a ≡ input K vs 0 → b ≡ input K vs 1 → c ≡ input K vs 2 → r ≡ gate_value K g vs
three_by K g vs r a b c e p q s =
    e ∙ ap (λ x. gate_value K g (x ∷ b ∷ c ∷ [])) p ∙ ap (λ x. gate_value K g (input K vs 0 ∷ x ∷ c ∷ [])) q ∙ ap (λ x. gate_value K g (input K vs 0 ∷ input K vs 1 ∷ x ∷ [])) s ∙ three K g vs

-- what lies ahead of a part that was lent, and within it
pub mid_below : {X : Type 0} (xs out : List X) (a k j : ℕ) (d : X) → a ≤ length xs → j < a → get_or (put_mid a k xs out) j d ≡ get_or xs j d
mid_below xs out a k j d h l =
    get_or_append_left (take a xs) (out ++ drop k (drop a xs)) d j (omega (arith, length-take-le a xs h)) ∙ get_or-take a xs j d l

pub mid_in : {X : Type 0} (xs out : List X) (a k j : ℕ) (d : X) → a ≤ length xs → j < length out → get_or (put_mid a k xs out) (a + j) d ≡ get_or out j d
mid_in xs out a k j d h l =
    ap (λ n. get_or (put_mid a k xs out) (n + j) d) (sym (length-take-le a xs h))
    ∙ get_or-append-add (take a xs) (out ++ drop k (drop a xs)) j d
    ∙ get_or_append_left out (drop k (drop a xs)) d j l

-- a part that was made low
pub lowered : {X : Type 0} (low : X) (xs out : List X) (a k j : ℕ) → a + k ≤ length xs → out ≡ map (λ _. low) (take k (drop a xs)) → j < k → get_or (put_mid a k xs out) (a + j) low ≡ low
lowered low xs out a k j h o l =
    let n : length out ≡ k = ap length o ∙ length-map (take k (drop a xs)) (λ _. low) ∙ part_length xs a k h in
    mid_in xs out a k j low (omega arith) (omega arith) ∙ ap (λ y. get_or y j low) o ∙ get_or-map (λ _. low) (take k (drop a xs)) j low low (omega (arith, part_length xs a k h))

-- one more value is handed up
pub hand_more : {V : Type 0} (K : Kind V) (ws : List V) (base to : ℕ) (os is : List ℕ) (k : ℕ) (v : V) → k < length os → k < length is → to + get_or is k 0 < base → v ≡ get_or ws (base + get_or os k 0) K.low →
    writes K to (drop (k + 1) is) (map (λ w. get_or (set ws (to + get_or is k 0) v) (base + w) K.low) (drop (k + 1) os)) (set ws (to + get_or is k 0) v) ≡ writes K to (drop k is) (map (λ w. get_or ws (base + w) K.low) (drop k os)) ws
hand_more {V} K ws base to os is k v h l apart e =
    let p = to + get_or is k 0 in
    let rd : ℕ → V = λ w. get_or ws (base + w) K.low in
    let f : (λ w. get_or (set ws p v) (base + w) K.low) ≡ rd = fun_ext (λ w. let ne : base + w ≢ p = omega arith in get_or-set_other ws p (base + w) v K.low ne) in
    ap (λ (r : ℕ → V). writes K to (drop (k + 1) is) (map r (drop (k + 1) os)) (set ws p v)) f
    ∙ ap (λ x. writes K to (drop (k + 1) is) (map rd (drop (k + 1) os)) (set ws p x)) e
    ∙ sym (ap (λ y. writes K to (drop k is) (map rd y) ws) (drop_more os k 0 h) ∙ ap (λ y. writes K to y (map rd (get_or os k 0 ∷ drop (k + 1) os)) ws) (drop_more is k 0 l))
