-- The law for runs.
use Rattle.std.proofs.Common.{◌≡◌, ℕ, zero, suc, ◌+◌, ◌*◌, ◌<◌, ◌≤◌, Bool, true, false, cond, eqb, ◌⊎◌, List, [], ◌∷◌, ◌++◌, map, length, get_or, set, replicate, Some, None, Option, sym, refl, ap, ◌∙◌, subst, ap₂, inl, inr, add-mul, one-mul, zero-mul, length-append, length-set}
use mathlib.Core.Path.{fun_ext}
use lib.ListN.{length-map, length-replicate}
use Rattle.std.proofs.lemmas.List.{get_or-map, get_or_past}
use Rattle.std.proofs.lemmas.Bool.{cases_lt, cases_eq, eqb-true, eqb-false}
use Rattle.gates.specs.declared.Part.{Part}
use Rattle.gates.specs.declared.Part.TheVariants.{Gate as gate, Cell as cell, Module as module_no}
use Rattle.gates.specs.declared.Gate.TheVariants.{Low}
use Rattle.signal.specs.Kinds.{Kind, Situation, Admits, Settled, AdmitsBoth, Lawful}
use Rattle.signal.specs.Bits.{bits}
use Rattle.signal.specs.GateValues.{gate_value, AllAdmit, AllSettled}
use Rattle.signal.proofs.GatesLaws.{gates_on_bits, input_settled, gate_admits, gate_settled}
use Rattle.rules.specs.Boards.{Occurrence, no_occurrence, Design, absent, node, part, occurrence_no, out_wires, cells}
use Rattle.rules.specs.Sound.{All, Refers, Sound}
use Rattle.flat.specs.Passes.{first, outputs, next}
use Rattle.flat.specs.Flat.{Place, Store, Bits, inside, AgreesAt, Agrees, flat_outputs, input_inside, input_bit, cell_places, cell_bits}
use Rattle.flat.specs.Laws.{All2, GatesKeep}
use Rattle.flat.specs.Runs.{Call, step, set_cell, clear, read, look, refused, Start, not_started, started, Run, Outcome, refusal, start_with, power, performed, carried_out, call, trace}
use Rattle.flat.specs.FlatRuns.{Flat, refused_by, stepped, FlatOutcome, Wrong, Accepts, FlatPerformed, FlatCall, FlatRun, FlatStart}
use Rattle.flat.specs.RunLaws.{Fed, fed_step, fed_set, fed_clear, fed_read, fed_look, both_refused, both_stepped, both_done, both_value, Alike, Matches, BothStart, AdmitsThere, Follows, SettledIn, SettledOut, CountsRight, Sized, One, OneFlatRun, LawForPoweredRuns, LawForColdRuns, LawForRuns}
use Rattle.flat.proofs.Lists.{refer_at}
use Rattle.flat.proofs.Keep.{keep, get_or_rel, append_rel, length_rel}
use Rattle.flat.proofs.Walk.{next_length}
use Rattle.flat.proofs.CellPlaces.{places_length}
use Rattle.flat.proofs.Settle.{outputs_known, next_known, ins_known}
use Rattle.flat.proofs.Exist.{solve, solve_agrees, bits_agree}
use Rattle.flat.proofs.Count.{counted as count_is}
use Rattle.flat.proofs.Places.{written_bits}
use Rattle.flat.proofs.Refusals.{Decided, decides, refuses_one}

-- What the gates keep

module _ {V : Type 0} (K : Kind V) (law : Lawful K) (s : Situation) where
  admit_from : (vs : List V) (bs : List Bool) → All2 (AdmitsThere K s) vs bs → AllAdmit K vs s bs
  admit_from [] [] a = tt
  admit_from [] (b ∷ bs) a = elim a [ ]
  admit_from (v ∷ vs) [] a = elim a [ ]
  admit_from (v ∷ vs) (b ∷ bs) a = (a.0, admit_from vs bs a.1)

  gates_admit : GatesKeep K bits (AdmitsThere K s)
  gates_admit = record {
    low = (law.low_only s).0;
    gates = λ g vs bs pins a.
        subst (λ b. Admits K (gate_value K g vs) s b) (sym (gates_on_bits g bs (sym (length_rel (AdmitsThere K s) vs bs a) ∙ pins))) (gate_admits K law g vs s bs pins (admit_from vs bs a));
  }

  abbrev SettledThere : V → V → Type 0
  SettledThere v w = Settled K v s

  settled_from : (vs ws : List V) → All2 SettledThere vs ws → AllSettled K vs s
  settled_from [] [] a = tt
  settled_from [] (w ∷ ws) a = elim a [ ]
  settled_from (v ∷ vs) [] a = elim a [ ]
  settled_from (v ∷ vs) (w ∷ ws) a = (a.0, settled_from vs ws a.1)

  settled_to : (vs : List V) → AllSettled K vs s → All2 SettledThere vs vs
  settled_to [] a = tt
  settled_to (v ∷ vs) a = (a.0, settled_to vs a.1)

  settled_low : Settled K K.low s
  settled_low = (false, law.low_only s)

  gates_settle : GatesKeep K K SettledThere
  gates_settle = record { low = settled_low; gates = λ g vs ws pins a. gate_settled K law g vs s (settled_from vs ws a) }

-- Related lists

module _ {V W : Type 0} (R : V → W → Type 0) where
  set_rel : (vs : List V) (ws : List W) (k : ℕ) (v : V) (w : W) → All2 R vs ws → R v w → All2 R (set vs k v) (set ws k w)
  set_rel [] [] k v w a r = tt
  set_rel [] (y ∷ ws) k v w a r = elim a [ ]
  set_rel (x ∷ vs) [] k v w a r = elim a [ ]
  set_rel (x ∷ vs) (y ∷ ws) zero v w a r = (r, a.1)
  set_rel (x ∷ vs) (y ∷ ws) (suc k) v w a r = (a.0, set_rel vs ws k v w a.1 r)

  -- a value that is related to each that stands at an element
  replicate_rel : {X : Type 0} (v : V) (f : X → W) → ((x : X) → R v (f x)) → (xs : List X) → All2 R (replicate (length xs) v) (map f xs)
  replicate_rel v f h [] = tt
  replicate_rel v f h (x ∷ xs) = (h x, replicate_rel v f h xs)

-- A call of a run and of a flat run

module _ {V : Type 0} (K : Kind V) (R : V → Bool → Type 0) (laws : GatesKeep K bits R) (d : Design) (sound : Sound d) where
  all_cells : (v : V) (store : Store) → ((p : Place) → R v (store p)) → All2 R (replicate (cells d) v) (cell_bits d store)
  all_cells v store h = subst (λ n. All2 R (replicate n v) (cell_bits d store)) (places_length d sound) (replicate_rel R v store h (cell_places d))

  within : (k n : ℕ) → (n ≤ k → ⊥) → k < n
  within k n h = let by : (k < n) ⊎ (n ≤ k) → k < n = elim [ inl l ↦ l | inr l ↦ absurd (h l) ] in by (cases_lt k n)

  performed_rel : (s : Run V) (f : Flat) → Alike R d s f → {c : Call V} {e : Call Bool} → Fed R c e → Accepts d f.cycle e → (o : FlatOutcome) → FlatPerformed d f e o → Matches R d (performed K d s c) o
  performed_rel s f a (fed_step ins js r h) ok o p =
      let b = p.0 in
      let cs = cell_bits d f.store in
      let both = keep V Bool R K bits laws d sound ins js s.cells cs h a.cells in
      let outs : All2 R (outputs K d ins s.cells) (flat_outputs d b) = subst (All2 R (outputs K d ins s.cells)) (sym (outputs_known d sound js f.store b p.1)) both.0 in
      let after : All2 R (next K d ins s.cells) (cell_bits d (input_bit d b)) = subst (All2 R (next K d ins s.cells)) (sym (next_known d sound js f.store b p.1)) both.1 in
      subst (Matches R d (performed K d s (step ins r))) (sym p.2)
      (record { run = record { cells = after; tape = append_rel R s.tape (outputs K d ins s.cells) f.tape (flat_outputs d b) a.tape outs; cycle = ap (λ n. n + 1) a.cycle }; answer = both_stepped _ })
  performed_rel s f a (fed_set k v b n h) ok o p =
      let l = within k (length (cell_places d)) (λ l. ok 14 (inl (refl, l))) in
      subst (Matches R d (performed K d s (set_cell k v n))) (sym p)
      (record { run = record { cells = subst (All2 R (set s.cells k v)) (sym (written_bits d sound b f.store k l)) (set_rel R s.cells (cell_bits d f.store) k v b a.cells h); tape = a.tape; cycle = a.cycle }; answer = both_done })
  performed_rel s f a (fed_clear n) ok o p =
      subst (Matches R d (performed K d s (clear n))) (sym p) (record { run = record { cells = all_cells K.low (λ q. false) (λ q. laws.low); tape = a.tape; cycle = a.cycle }; answer = both_done })
  performed_rel s f a (fed_read k n) ok o p =
      let l = within k (length (cell_places d)) (λ l. ok 14 (inl (refl, l))) in
      subst (Matches R d (performed K d s (read k n))) (sym p)
      (record { run = a; answer = both_value _ _ (subst (R (get_or s.cells k K.low)) (get_or-map f.store (cell_places d) k [] false l) (get_or_rel R s.cells (cell_bits d f.store) K.low false a.cells laws.low k)) })
  performed_rel s f a (fed_look k j n t) ok o p =
      subst (Matches R d (performed K d s (look k j n t))) (sym p) (record { run = a; answer = both_value _ _ (get_or_rel R s.tape f.tape K.low false a.tape laws.low (k * length (out_wires d) + j)) })

  carried_rel : (s : Run V) (f : Flat) → Alike R d s f → {c : Call V} {e : Call Bool} → Fed R c e → (o : FlatOutcome) → FlatCall d f e o → (r : ℕ) → Decided r (Wrong d f.cycle e) → Matches R d (carried_out K d s c r) o
  carried_rel s f a {c} {e} h o (inl (m, x, p)) r (inl (z, none)) = absurd (none m x.0)
  carried_rel s f a {c} {e} h o (inr (ok, p)) r (inl (z, none)) = subst (λ n. Matches R d (carried_out K d s c n) o) (sym z) (performed_rel s f a h ok o p)
  carried_rel s f a {c} {e} h o (inl (m, x, p)) r (inr (n, z, y)) =
      let same : m ≡ suc n = refuses_one d f.cycle e m (suc n) x y in
      subst (λ k. Matches R d (carried_out K d s c k) o) (sym z) (subst (Matches R d (record { run = s; answer = refused (suc n) })) (sym (p ∙ ap (λ k. record { run = f; answer = refused_by k }) same)) (record { run = a; answer = both_refused (suc n) }))
  carried_rel s f a {c} {e} h o (inr (ok, p)) r (inr (n, z, y)) = absurd (ok (suc n) y.0)

  call_rel : (s : Run V) (f : Flat) → Alike R d s f → (c : Call V) (e : Call Bool) → Fed R c e → (o : FlatOutcome) → FlatCall d f e o → Matches R d (call K d s c) o
  call_rel s f a c e h o p =
      carried_rel s f a h o p (refusal d s.cycle c) (subst (λ n. Decided (refusal d n c) (Wrong d f.cycle e)) (sym a.cycle) (decides R d sound f.cycle h))

  pub trace_rel : (s : Run V) (f : Flat) → Alike R d s f → (cs : List (Call V)) (es : List (Call Bool)) → All2 (Fed R) cs es → (os : List FlatOutcome) → FlatRun d f es os → All2 (Matches R d) (trace (call K d) s cs) os
  trace_rel s f a [] [] h [] run = tt
  trace_rel s f a [] [] h (o ∷ os) run = elim run [ ]
  trace_rel s f a [] (e ∷ es) h os run = elim h [ ]
  trace_rel s f a (c ∷ cs) [] h os run = elim h [ ]
  trace_rel s f a (c ∷ cs) (e ∷ es) h [] run = elim run [ ]
  trace_rel s f a (c ∷ cs) (e ∷ es) h (o ∷ os) run =
      let m = call_rel s f a c e h.0 o run.0 in
      (m, trace_rel (call K d s c).run o.run m.run cs es h.1 os run.1)

-- There is one flat run

-- bits that agree put the same bits on the input wires of the cells
module _ (below : ℕ → Design) (ih : (j : ℕ) → Sound (below j) → (ins : List Bool) (store : Store) (a b : Bits) → Agrees (below j) ins store a → Agrees (below j) ins store b → (p : Place) → input_bit (below j) a p ≡ input_bit (below j) b p) where
  inside_same : (store : Store) (a b : Bits) (i : ℕ) (o : Occurrence) (p : Option Part) → Refers (λ j. Sound (below j)) p → map (b []) o.ins ≡ map (a []) o.ins → AgreesAt (λ j. Agrees (below j)) below store a i o p → AgreesAt (λ j. Agrees (below j)) below store b i o p →
      (way : Place) → input_inside (λ j. input_bit (below j) (inside i a)) p (map (a []) o.ins) way ≡ input_inside (λ j. input_bit (below j) (inside i b)) p (map (b []) o.ins) way
  inside_same store a b i o (Some (gate g)) refer e agree_a agree_b way = refl
  inside_same store a b i o (Some cell) refer e agree_a agree_b way = ap (λ (vs : List Bool). get_or vs 0 false) (sym e)
  inside_same store a b i o (Some (module_no j)) refer e agree_a agree_b way =
      ih j refer (map (a []) o.ins) (inside i store) (inside i a) (inside i b) agree_a.1 (subst (λ vs. Agrees (below j) vs (inside i store) (inside i b)) e agree_b.1) way
  inside_same store a b i o None refer e agree_a agree_b way = refl

low_part : part no_occurrence ≡ Some (gate Low)
unfolding part
low_part = refl

input_same : (d : Design) → Sound d → (ins : List Bool) (store : Store) (a b : Bits) → Agrees d ins store a → Agrees d ins store b → (p : Place) → input_bit d a p ≡ input_bit d b p
input_same absent sound ins store a b agree_a agree_b p = refl
input_same (node m below) sound ins store a b agree_a agree_b [] = refl
input_same (node m below) sound ins store a b agree_a agree_b (i ∷ way) =
    let F : Bits → ℕ → Place → Bool = λ x j. input_bit (below j) (inside i x) in
    let by : (i < length m.occurrences) ⊎ (length m.occurrences ≤ i) → input_bit (node m below) a (i ∷ way) ≡ input_bit (node m below) b (i ∷ way) =
    elim [
      | inl h ↦ inside_same below (λ j. input_same (below j)) store a b i (occurrence_no m i) (part (occurrence_no m i)) (refer_at m below sound i h) (ins_known m below sound ins store b agree_b i h ∙ sym (ins_known m below sound ins store a agree_a i h)) (agree_a.1 i h) (agree_b.1 i h) way
      | inr h ↦ subst (λ (o : Occurrence). input_inside (F a) (part o) (map (a []) o.ins) way ≡ input_inside (F b) (part o) (map (b []) o.ins) way) (sym (get_or_past m.occurrences i no_occurrence h))
          (ap (λ q. input_inside (F a) q [] way) low_part ∙ sym (ap (λ q. input_inside (F b) q [] way) low_part))
    ] in
    by (cases_lt i (length m.occurrences))

equal_fed : (bs : List Bool) → All2 (λ a b. a ≡ b) bs bs
equal_fed [] = tt
equal_fed (b ∷ bs) = (refl, equal_fed bs)

fed_same : (c : Call Bool) → Fed (λ a b. a ≡ b) c c
fed_same (step ins r) = fed_step ins ins r (equal_fed ins)
fed_same (set_cell k v n) = fed_set k v v n refl
fed_same (clear n) = fed_clear n
fed_same (read k n) = fed_read k n
fed_same (look k j n t) = fed_look k j n t

module _ (d : Design) (sound : Sound d) where
  performed_some : (f : Flat) (c : Call Bool) → (o : FlatOutcome) × FlatPerformed d f c o
  performed_some f (step ins r) = (_, (solve d ins f.store, solve_agrees d sound ins f.store, refl))
  performed_some f (set_cell k b n) = (_, refl)
  performed_some f (clear n) = (_, refl)
  performed_some f (read k n) = (_, refl)
  performed_some f (look k j n t) = (_, refl)

  call_some : (f : Flat) (c : Call Bool) → (o : FlatOutcome) × FlatCall d f c o
  call_some f c =
      let by : Decided (refusal d f.cycle c) (Wrong d f.cycle c) → (o : FlatOutcome) × FlatCall d f c o =
      elim [ inl x ↦ (let p = performed_some f c in (p.0, inr (x.1, p.1))) | inr x ↦ (record { run = f; answer = refused_by (suc x.0) }, inl (suc x.0, x.2, refl)) ] in
      by (decides (λ a b. a ≡ b) d sound f.cycle (fed_same c))

  run_some : (f : Flat) (cs : List (Call Bool)) → (os : List FlatOutcome) × FlatRun d f cs os
  run_some f [] = ([], tt)
  run_some f (c ∷ cs) =
      let o = call_some f c in
      let rest = run_some o.0.run cs in
      (o.0 ∷ rest.0, (o.1, rest.1))

  performed_one : (f : Flat) (c : Call Bool) (o p : FlatOutcome) → FlatPerformed d f c o → FlatPerformed d f c p → p ≡ o
  performed_one f (step ins r) o p x y =
      let a = x.0 in
      let b = y.0 in
      let outs : flat_outputs d b ≡ flat_outputs d a = outputs_known d sound ins f.store b y.1 ∙ sym (outputs_known d sound ins f.store a x.1) in
      let after : input_bit d b ≡ input_bit d a = fun_ext (input_same d sound ins f.store b a y.1 x.1) in
      y.2 ∙ ap₂ (λ (store : Store) (vs : List Bool). record { run = record { store = store; tape = f.tape ++ vs; cycle = f.cycle + 1 }; answer = stepped }) after outs ∙ sym x.2
  performed_one f (set_cell k b n) o p x y = y ∙ sym x
  performed_one f (clear n) o p x y = y ∙ sym x
  performed_one f (read k n) o p x y = y ∙ sym x
  performed_one f (look k j n t) o p x y = y ∙ sym x

  call_one : (f : Flat) (c : Call Bool) (o p : FlatOutcome) → FlatCall d f c o → FlatCall d f c p → p ≡ o
  call_one f c o p (inl x) (inl y) = y.2 ∙ ap (λ n. record { run = f; answer = refused_by n }) (refuses_one d f.cycle c y.0 x.0 y.1 x.1) ∙ sym x.2
  call_one f c o p (inl x) (inr y) = absurd (y.0 x.0 x.1.0)
  call_one f c o p (inr x) (inl y) = absurd (x.0 y.0 y.1.0)
  call_one f c o p (inr x) (inr y) = performed_one f c o p x.1 y.1

  run_one : (f : Flat) (cs : List (Call Bool)) (os ps : List FlatOutcome) → FlatRun d f cs os → FlatRun d f cs ps → ps ≡ os
  run_one f [] [] [] x y = refl
  run_one f [] [] (p ∷ ps) x y = elim y [ ]
  run_one f [] (o ∷ os) ps x y = elim x [ ]
  run_one f (c ∷ cs) [] ps x y = elim x [ ]
  run_one f (c ∷ cs) (o ∷ os) [] x y = elim y [ ]
  run_one f (c ∷ cs) (o ∷ os) (p ∷ ps) x y =
      let e = call_one f c o p x.0 y.0 in
      ap₂ {C = List FlatOutcome} (λ z zs. z ∷ zs) e (run_one o.run cs os ps x.1 (subst (λ (z : FlatOutcome). FlatRun d z.run cs ps) e y.1))

  start_one : (store : Store) (n : ℕ) → One (FlatStart d store n)
  start_one store n =
      let C = length (cell_places d) in
      let fresh : Flat = record { store = store; tape = []; cycle = 0 } in
      let by : (n ≡ C) ⊎ (n ≡ C → ⊥) → One (FlatStart d store n) =
      elim [
        | inl e ↦ (started fresh, (e, refl), elim [ not_started m ↦ λ h. absurd (h.1 e) | started f ↦ λ h. ap started h.1 ])
        | inr ne ↦ (not_started 15, (refl, ne), elim [ not_started m ↦ λ h. ap not_started h.0 | started f ↦ λ h. absurd (ne h.0) ])
      ] in
      by (cases_eq n C)

  pub one_flat_run : OneFlatRun d
  one_flat_run = record {
    bits = bits_agree d sound;
    start = start_one;
    run = λ f cs. let x = run_some f cs in (x.0, x.1, λ ps y. run_one f cs x.0 ps x.1 y);
  }

-- Starts

module _ {V : Type 0} (d : Design) (v : V) (n : ℕ) where
  abbrev pub fresh_run : Run V
  fresh_run = record { cells = replicate (cells d) v; tape = []; cycle = 0 }

  start_rel : Sound d → (P : Run V → Flat → Type 0) (store : Store) → P fresh_run (record { store = store; tape = []; cycle = 0 }) → (f : Start Flat) → FlatStart d store n f → BothStart P (start_with d v n) f
  start_rel sound P store p f h =
      let C = places_length d sound in
      let by : (c : Bool) → eqb n (cells d) ≡ c → (f : Start Flat) → FlatStart d store n f → BothStart P (cond c (started fresh_run) (not_started 15)) f =
      elim [
        | true ↦ λ e. elim [ not_started m ↦ λ h. absurd (h.1 (eqb-true n (cells d) e ∙ sym C)) | started g ↦ λ h. subst (P fresh_run) (sym h.1) p ]
        | false ↦ λ e. elim [ not_started m ↦ λ h. sym h.0 | started g ↦ λ h. absurd (eqb-false n (cells d) e (h.0 ∙ C)) ]
      ] in
      by (eqb n (cells d)) refl f h

  run_in : Start (Run V) → Run V
  run_in (not_started m) = fresh_run
  run_in (started s) = s

  pub start_run : (run : Run V) → start_with d v n ≡ started run → run ≡ fresh_run
  unfolding run_in
  start_run run h =
      let by : (c : Bool) → cond c (started fresh_run) (not_started 15) ≡ started run → run ≡ fresh_run = elim [ true ↦ λ e. sym (ap run_in e) | false ↦ λ e. sym (ap run_in e) ] in
      by (eqb n (cells d)) h

-- What holds after each call of a sequence

module _ {V : Type 0} (K : Kind V) (d : Design) where
  -- of a call: what holds if it is performed, and if it is refused
  carried_all : (S : Outcome V → Type 0) (s : Run V) (c : Call V) → S (performed K d s c) → ((n : ℕ) → S (record { run = s; answer = refused n })) → (r : ℕ) → S (carried_out K d s c r)
  carried_all S s c a b zero = a
  carried_all S s c a b (suc n) = b (suc n)

  call_all : (S : Outcome V → Type 0) (s : Run V) (c : Call V) → S (performed K d s c) → ((n : ℕ) → S (record { run = s; answer = refused n })) → S (call K d s c)
  call_all S s c a b = carried_all S s c a b (refusal d s.cycle c)

  -- c. the count
  performed_counts : Sound d → (s : Run V) (c : Call V) → CountsRight d (performed K d s c).answer
  performed_counts sound s (step ins r) = count_is K d sound ins s.cells
  performed_counts sound s (set_cell k v n) = tt
  performed_counts sound s (clear n) = tt
  performed_counts sound s (read k n) = tt
  performed_counts sound s (look k j n t) = tt

  trace_counts : Sound d → (s : Run V) (cs : List (Call V)) → All (λ o. CountsRight d o.answer) (trace (call K d) s cs)
  trace_counts sound s [] = tt
  trace_counts sound s (c ∷ cs) = (call_all (λ o. CountsRight d o.answer) s c (performed_counts sound s c) (λ n. tt), trace_counts sound (call K d s c).run cs)

  -- the sizes
  pub performed_sized : Sound d → (s : Run V) (c : Call V) → Sized d s → Sized d (performed K d s c).run
  performed_sized sound s (step ins r) h =
      let O = length (out_wires d) in
      let outs = length-append s.tape (outputs K d ins s.cells) ∙ ap₂ ◌+◌ h.tape (length-map (out_wires d) (first K d ins s.cells).values) in
      let more : (s.cycle + 1) * O ≡ s.cycle * O + O = add-mul s.cycle 1 O ∙ ap (λ n. s.cycle * O + n) (one-mul O) in
      record { cells = next_length K d sound ins s.cells; tape = outs ∙ sym more }
  performed_sized sound s (set_cell k v n) h = record { cells = length-set s.cells k v ∙ h.cells; tape = h.tape }
  performed_sized sound s (clear n) h = record { cells = length-replicate (cells d) K.low; tape = h.tape }
  performed_sized sound s (read k n) h = h
  performed_sized sound s (look k j n t) h = h

  trace_sized : Sound d → (s : Run V) → Sized d s → (cs : List (Call V)) → All (λ o. Sized d o.run) (trace (call K d) s cs)
  trace_sized sound s h [] = tt
  trace_sized sound s h (c ∷ cs) =
      let x = call_all (λ o. Sized d o.run) s c (performed_sized sound s c h) (λ n. h) in
      (x, trace_sized sound (call K d s c).run x cs)

  pub fresh_sized : (v : V) (n : ℕ) → Sized d (fresh_run d v n)
  fresh_sized v n = record { cells = length-replicate (cells d) v; tape = sym (zero-mul (length (out_wires d))) }

-- b. settled values
module _ {V : Type 0} (K : Kind V) (law : Lawful K) (s : Situation) (d : Design) (sound : Sound d) where
  settled_set : (vs : List V) (k : ℕ) (v : V) → AllSettled K vs s → Settled K v s → AllSettled K (set vs k v) s
  settled_set [] k v a h = tt
  settled_set (x ∷ vs) zero v a h = (h, a.1)
  settled_set (x ∷ vs) (suc k) v a h = (a.0, settled_set vs k v a.1 h)

  settled_append : (vs ws : List V) → AllSettled K vs s → AllSettled K ws s → AllSettled K (vs ++ ws) s
  settled_append [] ws a b = b
  settled_append (v ∷ vs) ws a b = (a.0, settled_append vs ws a.1 b)

  settled_replicate : (n : ℕ) → AllSettled K (replicate n K.low) s
  settled_replicate zero = tt
  settled_replicate (suc n) = (settled_low K law s, settled_replicate n)

  performed_settled : (t : Run V) (c : Call V) → AllSettled K t.cells s → AllSettled K t.tape s → SettledIn K s c → SettledOut K s (performed K d t c)
  performed_settled t (step ins r) a b h =
      let R = SettledThere K law s in
      let both = keep V V R K K (gates_settle K law s) d sound ins ins t.cells t.cells (settled_to K law s ins h) (settled_to K law s t.cells a) in
      record { cells = settled_from K law s (next K d ins t.cells) _ both.1; tape = settled_append t.tape (outputs K d ins t.cells) b (settled_from K law s (outputs K d ins t.cells) _ both.0); answer = tt }
  performed_settled t (set_cell k v n) a b h = record { cells = settled_set t.cells k v a h; tape = b; answer = tt }
  performed_settled t (clear n) a b h = record { cells = settled_replicate (cells d); tape = b; answer = tt }
  performed_settled t (read k n) a b h = record { cells = a; tape = b; answer = input_settled K law t.cells s a k }
  performed_settled t (look k j n u) a b h = record { cells = a; tape = b; answer = input_settled K law t.tape s b (k * length (out_wires d) + j) }

  trace_settled : (t : Run V) → AllSettled K t.cells s → AllSettled K t.tape s → (cs : List (Call V)) → All (SettledIn K s) cs → All (SettledOut K s) (trace (call K d) t cs)
  trace_settled t a b [] h = tt
  trace_settled t a b (c ∷ cs) h =
      let x = call_all K d (SettledOut K s) t c (performed_settled t c a b h.0) (λ n. record { cells = a; tape = b; answer = tt }) in
      (x, trace_settled (call K d t c).run x.cells x.tape cs h.1)

-- The law

module _ {V : Type 0} (K : Kind V) (law : Lawful K) (d : Design) (sound : Sound d) where
  fresh_follows : (s : Situation) (v : V) (n : ℕ) (store : Store) → ((p : Place) → Admits K v s (store p)) → Follows K d (start_with d v) (call K d) s (fresh_run d v n) (record { store = store; tape = []; cycle = 0 })
  fresh_follows s v n store h =
      let R = AdmitsThere K s in
      let laws = gates_admit K law s in
      let f : Flat = record { store = store; tape = []; cycle = 0 } in
      let alike : Alike R d (fresh_run d v n) f = record { cells = all_cells K R laws d sound v store h; tape = tt; cycle = refl } in
      (alike, λ calls flat_calls fed os run. trace_rel K R laws d sound (fresh_run d v n) f alike calls flat_calls fed os run)

  pub powered_law : LawForPoweredRuns K d
  powered_law = record {
    as_defined = λ n run e calls. refl;
    never_denies = λ s n f h. start_rel d K.low n sound (Follows K d (power K d) (call K d) s) (λ p. false) (fresh_follows s K.low n (λ p. false) (λ p. (law.low_only s).0)) f h;
    stays_settled = λ s n run e calls h.
        subst (λ (t : Run V). All (SettledOut K s) (trace (call K d) t calls)) (sym (start_run d K.low n run e)) (trace_settled K law s d sound (fresh_run d K.low n) (settled_replicate K law s d sound (cells d)) tt calls h);
    counts = λ n run e calls. trace_counts K d sound run calls;
    sizes = λ n run e calls. trace_sized K d sound run (subst (Sized d) (sym (start_run d K.low n run e)) (fresh_sized K d K.low n)) calls;
    one = one_flat_run d sound;
  }

  pub cold_law : (u : V) → AdmitsBoth K u → LawForColdRuns K d u
  cold_law u both = record {
    as_defined = λ n run e calls. refl;
    never_denies = λ store s n f h. start_rel d u n sound (Follows K d (start_with d u) (call K d) s) store (fresh_follows s u n store (λ p. both s (store p))) f h;
    counts = λ n run e calls. trace_counts K d sound run calls;
    sizes = λ n run e calls. trace_sized K d sound run (subst (Sized d) (sym (start_run d u n run e)) (fresh_sized K d u n)) calls;
  }

  pub runs_law : (u : V) → AdmitsBoth K u → LawForRuns K d u
  runs_law u both = record { powered = powered_law; cold = cold_law u both }
