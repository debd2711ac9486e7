-- One record at a place: what reading finds there, and the same in words; the shapes of bodies likewise.
use Rattle.std.proofs.Common.{◌≡◌, ℕ, suc, ◌+◌, ◌-◌, ◌≤◌, Bool, true, ◌&&◌, eqb, leb, List, [], ◌∷◌, ◌++◌, length, get_or, take, drop, sym, refl, ap, ◌∙◌, subst, arith}
use Rattle.std.proofs.lemmas.List.{length-append, length-take-le, length-drop, take-append-drop, take_all, take_at, drop_at, drop-drop, get_or-drop}
use Rattle.std.proofs.lemmas.Bool.{eqb-true, eq-eqb, leb-true, le-leb, and_parts, and_from}
use Rattle.rules.specs.declared.refusal.Refusal.TheVariants.{Cut, Kind, Shape}
use Rattle.rules.specs.Refusals.{accepted, ◌then◌, asked}
use Rattle.rules.specs.Boards.{Occurrence, Module}
use Rattle.rules.specs.Records.{number_at, end_of, body, framed, read, board_shape, module_shape, occurrence_shape, inputs_in, outputs_in, wires_in, occurrences_in, states_in}
use Rattle.rules.specs.Judging.{occurrence_in}
use Rattle.rules.specs.Files.{word, RecordAt}
use Rattle.rules.specs.Breaks.{DueRecord, a_board, a_module, an_occurrence, BoardShape, ModuleShape, OccurrenceShape, ShapeRight}
use Rattle.rules.proofs.Verdicts.{asked_yes, passed, asked_accepted, then_left, then_right}

-- Bytes

number_drop : (f : List ℕ) (at i : ℕ) → number_at f (at + i) ≡ number_at (drop at f) i
number_drop f at i =
    let z : at + (i + 1) ≡ at + i + 1 = omega arith in
    let p : get_or (drop at f) i 0 ≡ get_or f (at + i) 0 = get_or-drop at f i 0 in
    let q : get_or (drop at f) (i + 1) 0 ≡ get_or f (at + i + 1) 0 = get_or-drop at f (i + 1) 0 ∙ ap (λ n. get_or f n 0) z in
    cc

number_here : (f : List ℕ) (at : ℕ) → number_at f at ≡ number_at (drop at f) 0
number_here f at = let z : at ≡ at + 0 = omega arith in ap (number_at f) z ∙ number_drop f at 0

four_ahead : (xs : List ℕ) → 4 ≤ length xs → xs ≡ get_or xs 0 0 ∷ get_or xs 1 0 ∷ get_or xs 2 0 ∷ get_or xs 3 0 ∷ drop 4 xs
four_ahead [] h = absurd (omega arith)
four_ahead (a ∷ []) h = absurd (omega arith)
four_ahead (a ∷ b ∷ []) h = absurd (omega arith)
four_ahead (a ∷ b ∷ c ∷ []) h = absurd (omega arith)
four_ahead (a ∷ b ∷ c ∷ d ∷ xs) h = refl

-- Records

-- what reading finds where a whole record stands
pub record Found (f : List ℕ) (at kind : ℕ) (b : List ℕ) : Type 0 where
  pub number : number_at f at ≡ length b
  pub kind_is : number_at f (at + 2) ≡ kind
  pub body_is : body f at ≡ b
  pub ends : end_of f at ≡ at + (4 + length b)
  pub within : end_of f at ≤ length f

pub found : (f : List ℕ) (at kind : ℕ) (b : List ℕ) → RecordAt f at kind b → Found f at kind b
found f at kind b r =
    let n : number_at f at ≡ length b = number_here f at ∙ ap (λ xs. number_at xs 0) r.bytes ∙ r.long in
    let d : drop (at + 4) f ≡ b ++ r.rest = sym (drop-drop 4 at f) ∙ ap (drop 4) r.bytes in
    let l : length f - at ≡ length (drop at f) = sym (length-drop at f) in
    let m : length (drop at f) ≡ 4 + (length b + length r.rest) = ap length r.bytes ∙ ap (λ k. suc (suc (suc (suc k)))) (length-append b r.rest) ∙ omega arith in
    record {
      number = n;
      kind_is = number_drop f at 2 ∙ ap (λ xs. number_at xs 2) r.bytes ∙ r.kind_is;
      body_is = ap (take (number_at f at)) d ∙ take_at b r.rest (number_at f at) (sym n);
      ends = omega arith;
      within = omega arith;
    }

pub whole : (f : List ℕ) (at : ℕ) → end_of f at ≤ length f → RecordAt f at (number_at f (at + 2)) (body f at)
whole f at h =
    let xs = drop at f in
    let l : length xs ≡ length f - at = length-drop at f in
    let n = number_at f at in
    let d : drop 4 xs ≡ drop (at + 4) f = drop-drop 4 at f in
    let m : length (drop (at + 4) f) ≡ length f - (at + 4) = length-drop (at + 4) f in
    record {
      length_low = get_or xs 0 0;
      length_high = get_or xs 1 0;
      kind_low = get_or xs 2 0;
      kind_high = get_or xs 3 0;
      rest = drop n (drop (at + 4) f);
      bytes = four_ahead xs (omega arith) ∙ ap (λ ys. get_or xs 0 0 ∷ get_or xs 1 0 ∷ get_or xs 2 0 ∷ get_or xs 3 0 ∷ ys) (d ∙ sym (take-append-drop n (drop (at + 4) f)));
      long = sym (number_here f at) ∙ sym (length-take-le n (drop (at + 4) f) (omega arith));
      kind_is = sym (number_drop f at 2);
    }

pub framed_record : (f : List ℕ) (at due : ℕ) → framed f at due ≡ accepted → RecordAt f at due (body f at)
framed_record f at due e =
    let C = asked (leb (end_of f at) (length f)) (Cut at) in
    let K = asked (eqb (number_at f (at + 2)) due) (Kind at) in
    subst (λ k. RecordAt f at k (body f at)) (eqb-true _ due (asked_accepted _ (Kind at) (then_right C K e))) (whole f at (leb-true _ _ (asked_accepted _ (Cut at) (then_left C K e))))

module _ (f : List ℕ) (at due : ℕ) (shape : List ℕ → Bool) where
  pub read_record : read f at due shape ≡ accepted → RecordAt f at due (body f at) × (shape (body f at) ≡ true)
  read_record e =
      let S = asked (shape (body f at)) (Shape at) in
      (framed_record f at due (then_left (framed f at due) S e), asked_accepted _ (Shape at) (then_right (framed f at due) S e))

  pub record_read : (b : List ℕ) → RecordAt f at due b → shape b ≡ true → read f at due shape ≡ accepted
  record_read b r s =
      let k = found f at due b r in
      let C = asked (leb (end_of f at) (length f)) (Cut at) in
      let K = asked (eqb (number_at f (at + 2)) due) (Kind at) in
      passed (C then K) _ (passed C K (asked_yes _ (Cut at) (le-leb _ _ k.within)) ∙ asked_yes _ (Kind at) (eq-eqb _ due k.kind_is))
      ∙ asked_yes _ (Shape at) (ap shape k.body_is ∙ s)

-- Shapes

-- two lists that fill what is behind the first k bytes
module _ (xs : List ℕ) (k : ℕ) where
  split : (i o : ℕ) → length xs ≡ k + i + o → drop k xs ≡ take i (drop k xs) ++ take o (drop (k + i) xs)
  split i o e =
      let d : length (drop (k + i) xs) ≡ length xs - (k + i) = length-drop (k + i) xs in
      sym (take-append-drop i (drop k xs)) ∙ ap (λ ys. take i (drop k xs) ++ ys) (drop-drop i k xs ∙ sym (take_all o (drop (k + i) xs) (omega arith)))

  split_first : (i o : ℕ) → length xs ≡ k + i + o → length (take i (drop k xs)) ≡ i
  split_first i o e = let d : length (drop k xs) ≡ length xs - k = length-drop k xs in length-take-le i (drop k xs) (omega arith)

  split_second : (i o : ℕ) → length xs ≡ k + i + o → length (take o (drop (k + i) xs)) ≡ o
  split_second i o e = let d : length (drop (k + i) xs) ≡ length xs - (k + i) = length-drop (k + i) xs in length-take-le o (drop (k + i) xs) (omega arith)

  first_of : (ys zs : List ℕ) → drop k xs ≡ ys ++ zs → take (length ys) (drop k xs) ≡ ys
  first_of ys zs e = ap (take (length ys)) e ∙ take_at ys zs (length ys) refl

  second_of : (ys zs : List ℕ) → drop k xs ≡ ys ++ zs → take (length zs) (drop (k + length ys) xs) ≡ zs
  second_of ys zs e = ap (take (length zs)) (sym (drop-drop (length ys) k xs) ∙ ap (drop (length ys)) e ∙ drop_at ys zs (length ys) refl) ∙ take_all (length zs) zs (omega arith)

two_long : (xs : List ℕ) → length xs ≡ 2 → xs ≡ get_or xs 0 0 ∷ get_or xs 1 0 ∷ []
two_long [] e = absurd (omega arith)
two_long (a ∷ []) e = absurd (omega arith)
two_long (a ∷ b ∷ []) e = refl
two_long (a ∷ b ∷ c ∷ xs) e = absurd (omega arith)

five_ahead : (xs : List ℕ) → 5 ≤ length xs → xs ≡ get_or xs 0 0 ∷ get_or xs 1 0 ∷ get_or xs 2 0 ∷ get_or xs 3 0 ∷ get_or xs 4 0 ∷ drop 5 xs
five_ahead [] h = absurd (omega arith)
five_ahead (a ∷ xs) h = ap (λ ys. a ∷ ys) (four_ahead xs (omega arith))

pub board_right : (b : List ℕ) → board_shape b ≡ true → BoardShape b
board_right b e =
    let p = and_parts (eqb (length b) 2) (leb 1 (number_at b 0) && leb (number_at b 0) 64) e in
    let q = and_parts (leb 1 (number_at b 0)) (leb (number_at b 0) 64) p.1 in
    record { low = get_or b 0 0; high = get_or b 1 0; bytes = two_long b (eqb-true (length b) 2 p.0); some = leb-true 1 (number_at b 0) q.0; few = leb-true (number_at b 0) 64 q.1 }

pub right_board : (b : List ℕ) → BoardShape b → board_shape b ≡ true
right_board b s =
    let g : board_shape (s.low ∷ s.high ∷ []) ≡ true = and_from _ _ (le-leb 1 (word s.low s.high) s.some) (le-leb (word s.low s.high) 64 s.few) in
    ap board_shape s.bytes ∙ g

pub occurrence_right : (b : List ℕ) → occurrence_shape b ≡ true → OccurrenceShape b
occurrence_right b e =
    let p = and_parts (leb 4 (length b)) _ e in
    let q = and_parts (leb (get_or b 2 0) 16) _ p.1 in
    let r = and_parts (leb (get_or b 3 0) 16) _ q.1 in
    let l = eqb-true (length b) (4 + get_or b 2 0 + get_or b 3 0) r.1 in
    let i : length (occurrence_in b).ins ≡ get_or b 2 0 = split_first b 4 (get_or b 2 0) (get_or b 3 0) l in
    let o : length (occurrence_in b).outs ≡ get_or b 3 0 = split_second b 4 (get_or b 2 0) (get_or b 3 0) l in
    let f : b ≡ get_or b 0 0 ∷ get_or b 1 0 ∷ get_or b 2 0 ∷ get_or b 3 0 ∷ drop 4 b = four_ahead b (leb-true 4 (length b) p.0) in
    let d : drop 4 b ≡ (occurrence_in b).ins ++ (occurrence_in b).outs = split b 4 (get_or b 2 0) (get_or b 3 0) l in
    record {
      low = get_or b 0 0;
      high = get_or b 1 0;
      ins = (occurrence_in b).ins;
      outs = (occurrence_in b).outs;
      bytes = cc;
      few_inputs = omega (arith, leb-true (get_or b 2 0) 16 q.0);
      few_outputs = omega (arith, leb-true (get_or b 3 0) 16 r.0);
    }

pub right_occurrence : (b : List ℕ) → OccurrenceShape b → occurrence_shape b ≡ true
right_occurrence b s =
    let n : length (s.ins ++ s.outs) ≡ length s.ins + length s.outs = length-append s.ins s.outs in
    let g : occurrence_shape (s.low ∷ s.high ∷ length s.ins ∷ length s.outs ∷ (s.ins ++ s.outs)) ≡ true = and_from _ _ (le-leb _ _ (omega arith)) (and_from _ _ (le-leb _ _ s.few_inputs) (and_from _ _ (le-leb _ _ s.few_outputs) (eq-eqb _ _ (omega arith)))) in
    ap occurrence_shape s.bytes ∙ g

-- the module that a body and the occurrences behind it make
abbrev pub module_in : List ℕ → List Occurrence → Module
module_in b os = record { inputs = inputs_in b; wires = wires_in b; outs = take (outputs_in b) (drop 5 b); occurrences = os; states = take (states_in b) (drop (5 + outputs_in b) b) }

pub module_right : (b : List ℕ) → module_shape b ≡ true → ModuleShape b
module_right b e =
    let p1 = and_parts (leb 5 (length b)) _ e in
    let p2 = and_parts (leb (inputs_in b) 16) _ p1.1 in
    let p3 = and_parts (leb (outputs_in b) 16) _ p2.1 in
    let p4 = and_parts (leb (inputs_in b) (wires_in b)) _ p3.1 in
    let p5 = and_parts (leb (wires_in b) 128) _ p4.1 in
    let p6 = and_parts (leb (occurrences_in b) 64) _ p5.1 in
    let p7 = and_parts (leb (states_in b) (occurrences_in b)) _ p6.1 in
    let l = eqb-true (length b) (5 + outputs_in b + states_in b) p7.1 in
    let m = module_in b [] in
    let o : length m.outs ≡ outputs_in b = split_first b 5 (outputs_in b) (states_in b) l in
    let s : length m.states ≡ states_in b = split_second b 5 (outputs_in b) (states_in b) l in
    let f : b ≡ inputs_in b ∷ outputs_in b ∷ wires_in b ∷ occurrences_in b ∷ states_in b ∷ drop 5 b = five_ahead b (leb-true 5 (length b) p1.0) in
    let d : drop 5 b ≡ m.outs ++ m.states = split b 5 (outputs_in b) (states_in b) l in
    record {
      inputs = inputs_in b;
      wires = wires_in b;
      occurrences = occurrences_in b;
      outs = m.outs;
      states = m.states;
      bytes = cc;
      few_inputs = leb-true _ _ p2.0;
      few_outputs = omega (arith, leb-true (outputs_in b) 16 p3.0);
      inputs_wired = leb-true _ _ p4.0;
      few_wires = leb-true _ _ p5.0;
      few_occurrences = leb-true _ _ p6.0;
      few_states = omega (arith, leb-true (states_in b) (occurrences_in b) p7.0);
    }

pub right_module : (b : List ℕ) → ModuleShape b → module_shape b ≡ true
right_module b s =
    let n : length (s.outs ++ s.states) ≡ length s.outs + length s.states = length-append s.outs s.states in
    let g : module_shape (s.inputs ∷ length s.outs ∷ s.wires ∷ s.occurrences ∷ length s.states ∷ (s.outs ++ s.states)) ≡ true = and_from _ _ (le-leb _ _ (omega arith)) (and_from _ _ (le-leb _ _ s.few_inputs) (and_from _ _ (le-leb _ _ s.few_outputs) (and_from _ _ (le-leb _ _ s.inputs_wired) (and_from _ _ (le-leb _ _ s.few_wires) (and_from _ _ (le-leb _ _ s.few_occurrences) (and_from _ _ (le-leb _ _ s.few_states) (eq-eqb _ _ (omega arith)))))))) in
    ap module_shape s.bytes ∙ g

abbrev pub shape_of : DueRecord → List ℕ → Bool
shape_of a_board b = board_shape b
shape_of (a_module modules) b = module_shape b
shape_of (an_occurrence occurrences modules) b = occurrence_shape b

pub shape_right : (due : DueRecord) (b : List ℕ) → shape_of due b ≡ true → ShapeRight due b
shape_right a_board b e = board_right b e
shape_right (a_module modules) b e = module_right b e
shape_right (an_occurrence occurrences modules) b e = occurrence_right b e

pub right_shape : (due : DueRecord) (b : List ℕ) → ShapeRight due b → shape_of due b ≡ true
right_shape a_board b s = right_board b s
right_shape (a_module modules) b s = right_module b s
right_shape (an_occurrence occurrences modules) b s = right_occurrence b s

-- What is read from a body of the right shape

pub occurrence_in_is : (b : List ℕ) (s : OccurrenceShape b) → occurrence_in b ≡ record { reference = word s.low s.high; ins = s.ins; outs = s.outs }
occurrence_in_is b s =
    let bs = s.low ∷ s.high ∷ length s.ins ∷ length s.outs ∷ (s.ins ++ s.outs) in
    let p : (occurrence_in bs).ins ≡ s.ins = first_of bs 4 s.ins s.outs refl in
    let q : (occurrence_in bs).outs ≡ s.outs = second_of bs 4 s.ins s.outs refl in
    ap occurrence_in s.bytes ∙ λ i. record { reference = word s.low s.high; ins = p i; outs = q i }

pub module_in_is : (b : List ℕ) (s : ModuleShape b) (os : List Occurrence) → module_in b os ≡ record { inputs = s.inputs; wires = s.wires; outs = s.outs; occurrences = os; states = s.states }
module_in_is b s os =
    let bs = s.inputs ∷ length s.outs ∷ s.wires ∷ s.occurrences ∷ length s.states ∷ (s.outs ++ s.states) in
    let p : (module_in bs os).outs ≡ s.outs = first_of bs 5 s.outs s.states refl in
    let q : (module_in bs os).states ≡ s.states = second_of bs 5 s.outs s.states refl in
    ap (λ x. module_in x os) s.bytes ∙ λ i. record { inputs = s.inputs; wires = s.wires; outs = p i; occurrences = os; states = q i }
