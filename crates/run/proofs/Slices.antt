-- Calls on slices follow the definition of runs.
use Rattle.std.proofs.Common.{◌≡◌, ℕ, zero, suc, ◌+◌, ◌*◌, ◌<◌, ◌≤◌, Bool, true, false, not, ◌&&◌, eqb, ltb, leb, ◌⊎◌, List, [], ◌∷◌, ◌++◌, length, get_or, take, drop, set, Ok, Err, Result, sym, refl, ap, ◌∙◌, subst, inl, inr, append_assoc, arith, length-append}
use Rattle.std.proofs.lemmas.List.{same_lists, get_or-take, get_or_append_left, length-take, length-take-le, take-append-drop}
use Rattle.std.proofs.lemmas.Bool.{eqb-true, leb-true, ltb-true, and_parts}
use Rattle.signal.specs.Kinds.{Kind}
use Rattle.signal.specs.GateValues.{input}
use Rattle.rules.specs.Boards.{Design, in_count, out_wires, cells}
use Rattle.rules.specs.Sound.{Sound}
use Rattle.flat.specs.Passes.{step_of}
use Rattle.flat.specs.Runs.{Call, step, refused, counted, value_is, Run, Outcome, unless, refusal, performed, carried_out, call}
use Rattle.flat.specs.RunLaws.{Sized}
use Rattle.flat.proofs.Runs.{performed_sized}
use Rattle.run.specs.declared.refusal.CallRefusal.{CallRefusal}
use Rattle.run.specs.declared.refusal.CallRefusal.TheVariants.{Count, Index, Fit, Tape, Unseen}
use Rattle.run.specs.Refusals.{number_of}
use Rattle.run.specs.Calls.{Memory, room, StepContract, SetContract, ClearContract, ReadContract, LookContract}
use Rattle.run.proofs.Tapes.{next_cycle, seen_place}
use Rattle.run.specs.Slices.{Made, step_made, set_made, clear_made, read_made, look_made, call_of, cycle_behind, cells_handed, tape_handed, cells_left, tape_left, BuildsOn, Handed, Met, Follows, HandedOn, FollowOn, SlicesFollow, Owned, FrontOf, memory_behind, LentOn, MemoryBuilds}

-- Lists that build on others

module _ {V : Type 0} where
  same_held : (slice held : List V) → length slice ≡ length held → BuildsOn slice held → slice ≡ held
  same_held slice held e b = same_lists slice held e (λ k v h. b k v h (omega arith))

  front_held : (slice held : List V) (n : ℕ) → length held ≡ n → n ≤ length slice → BuildsOn slice held → take n slice ≡ held
  front_held slice held n e h b =
      let l : length (take n slice) ≡ n = length-take-le n slice h in
      same_lists (take n slice) held (l ∙ sym e) (λ k v g. let i : k < n = omega arith in get_or-take n slice k v i ∙ b k v (omega arith) (omega arith))

  same_builds : (slice held : List V) → slice ≡ held → BuildsOn slice held
  same_builds slice held e k v g h = ap (λ xs. get_or xs k v) e

  none_builds : (held : List V) → BuildsOn [] held
  none_builds held k v g h = absurd (omega arith)

  longer_builds : (slice held rest : List V) → slice ≡ held ++ rest → BuildsOn slice held
  longer_builds slice held rest e k v g h = ap (λ xs. get_or xs k v) e ∙ get_or_append_left held rest v k h

-- the values of one more cycle behind those so far
put_behind : {V : Type 0} (fore fore' outs outs' rest : List V) → fore ≡ fore' → outs ≡ outs' → fore ++ (outs ++ rest) ≡ (fore' ++ outs') ++ rest
put_behind fore fore' outs outs' rest e f = ap (λ xs. xs ++ (outs ++ rest)) e ∙ ap (λ xs. fore' ++ (xs ++ rest)) f ∙ sym (append_assoc fore' outs' rest)

-- what was left is what was handed over, and the run holds the same; or it is as much as the run holds
abbrev Covers : {V : Type 0} (handed left held held' : List V) → Type 0
Covers handed left held held' = ((left ≡ handed) × (held' ≡ held)) ⊎ (length held' ≤ length left)

-- Refusals

pub passes : (right : Bool) (n rest : ℕ) → 0 < n → 0 ≡ unless right n rest → (right ≡ true) × (0 ≡ rest)
passes true n rest h e = (refl, e)
passes false n rest h e = absurd (omega arith)

module _ {V : Type 0} (K : Kind V) (d : Design) where
  pub refused_at : (s : Run V) (c : Call V) (e : CallRefusal) → carried_out K d s c (number_of e) ≡ record { run = s; answer = refused (number_of e) }
  refused_at s c Count = refl
  refused_at s c Index = refl
  refused_at s c Fit = refl
  refused_at s c Tape = refl
  refused_at s c Unseen = refl

  refused_call : (s : Run V) (c : Call V) (e : CallRefusal) → number_of e ≡ refusal d s.cycle c → record { run = s; answer = refused (number_of e) } ≡ call K d s c
  refused_call s c e q = sym (refused_at s c e) ∙ ap (carried_out K d s c) q

  accepted_call : (s : Run V) (c : Call V) → 0 ≡ refusal d s.cycle c → performed K d s c ≡ call K d s c
  accepted_call s c q = ap (carried_out K d s c) q

  -- Sizes

  sized_carried : Sound d → (s : Run V) (c : Call V) → Sized d s → (n : ℕ) → Sized d (carried_out K d s c n).run
  sized_carried sound s c h zero = performed_sized K d sound s c h
  sized_carried sound s c h (suc n) = h

  -- One call

  -- a call as the definition has it; it leaves what it was handed, and the run the same, or as much as the run holds
  record Kept (s : Run V) (m : Made V) (o : Outcome V) : Type 0 where
    follows : Follows K d s.cycle m o
    cells_kept : Covers (cells_handed m) (cells_left m) s.cells o.run.cells
    tape_kept : Covers (tape_handed m) (tape_left m) s.tape o.run.tape

  abbrev Right : Run V → Made V → Type 0
  Right s m = Kept s m (call K d s (call_of m))

  -- a refused call, which left what it was handed
  follow_refused : (s : Run V) (m : Made V) (e : CallRefusal) → number_of e ≡ refusal d s.cycle (call_of m) → cells_left m ≡ cells_handed m → tape_left m ≡ tape_handed m → Follows K d s.cycle m (record { run = s; answer = refused (number_of e) }) → Right s m
  follow_refused s m e q a b f =
      let k : Kept s m (record { run = s; answer = refused (number_of e) }) = record { follows = f; cells_kept = inl (a, refl); tape_kept = inl (b, refl) } in
      subst (Kept s m) (refused_call s (call_of m) e q) k

  follow_accepted : (s : Run V) (m : Made V) → 0 ≡ refusal d s.cycle (call_of m) → Kept s m (performed K d s (call_of m)) → Right s m
  follow_accepted s m q f = subst (Kept s m) (accepted_call s (call_of m) q) f

  step_follows : (s : Run V) → Sized d s → (ins : List V) (before after : Memory V) (r : Result ℕ CallRefusal) → before.cycle ≡ s.cycle → StepContract K d ins before after r → BuildsOn before.cells s.cells → BuildsOn before.tape s.tape → Right s (step_made ins before after r)
  step_follows s z ins before after (Err e) n c f g =
      let q = c.refusal ∙ ap (λ k. refusal d k (step ins (room before))) n in
      let same = c.outcome in
      follow_refused s (step_made ins before after (Err e)) e q (ap (λ (m : Memory V). m.cells) same) (ap (λ (m : Memory V). m.tape) same)
      (record {
        answer = refl;
        cells = subst (λ (m : Memory V). BuildsOn m.cells s.cells) (sym same) f;
        tape = subst (λ (m : Memory V). BuildsOn m.tape s.tape) (sym same) g;
        cycle_is = ap (λ (m : Memory V). m.cycle) same ∙ n;
      })
  step_follows s z ins before after (Ok n) e c f g =
      let O = length (out_wires d) in
      let call_made = step ins (room before) in
      let q = c.refusal ∙ ap (λ k. refusal d k call_made) e in
      let p13 = passes (eqb (length ins) (in_count d)) 13 _ (omega arith) q in
      let p15 = passes (eqb (length before.cells) (cells d) && (leb 1024 (length before.work) && leb 8 (length before.levels))) 15 _ (omega arith) p13.1 in
      let p16 = passes (leb ((s.cycle + 1) * O) (length before.tape) && not (eqb s.cycle 65535)) 16 0 (omega arith) p15.1 in
      let many = eqb-true (length before.cells) (cells d) (and_parts (eqb (length before.cells) (cells d)) _ p15.0).0 in
      let long = leb-true ((s.cycle + 1) * O) (length before.tape) (and_parts (leb ((s.cycle + 1) * O) (length before.tape)) _ p16.0).0 in
      let more = next_cycle s.cycle O in
      let same = same_held before.cells s.cells (many ∙ sym z.cells) f in
      let done = c.outcome in
      let fore = ap (λ k. take (k * O) before.tape) e ∙ front_held before.tape s.tape (s.cycle * O) z.tape (omega arith) g in
      let rest = drop (before.cycle * O + O) before.tape in
      let cells = done.cells ∙ ap (λ cs. (step_of K d ins cs).cells) same in
      let tape = done.tape ∙ put_behind (take (before.cycle * O) before.tape) s.tape (step_of K d ins before.cells).outs (step_of K d ins s.cells).outs rest fore (ap (λ cs. (step_of K d ins cs).outs) same) in
      let behind = s.tape ++ (step_of K d ins s.cells).outs in
      follow_accepted s (step_made ins before after (Ok n)) q
      (record {
        follows = record {
          answer = ap counted (done.count ∙ ap (λ cs. (step_of K d ins cs).count) same);
          cells = same_builds after.cells _ cells;
          tape = longer_builds after.tape behind rest tape;
          cycle_is = done.cycle ∙ ap (λ k. k + 1) e;
        };
        cells_kept = inr (omega (arith, ap length cells));
        tape_kept = inr (omega (arith, ap length tape, length-append behind rest));
      })

  set_follows : (s : Run V) → Sized d s → (k : ℕ) (v : V) (before after : List V) (r : Result (Unit {0}) CallRefusal) → SetContract d s.cycle k v before after r → BuildsOn before s.cells → Right s (set_made k v before after r)
  set_follows s z k v before after (Err e) c f =
      follow_refused s (set_made k v before after (Err e)) e c.refusal c.outcome refl
      (record { answer = refl; cells = subst (λ xs. BuildsOn xs s.cells) (sym c.outcome) f; tape = none_builds s.tape; cycle_is = refl })
  set_follows s z k v before after (Ok x) c f =
      let p14 = passes (ltb k (cells d)) 14 _ (omega arith) c.refusal in
      let p15 = passes (eqb (length before) (cells d)) 15 0 (omega arith) p14.1 in
      let same = same_held before s.cells (eqb-true (length before) (cells d) p15.0 ∙ sym z.cells) f in
      let e = c.outcome ∙ ap (λ xs. set xs k v) same in
      follow_accepted s (set_made k v before after (Ok x)) c.refusal
      (record {
        follows = record { answer = refl; cells = same_builds after _ e; tape = none_builds s.tape; cycle_is = refl };
        cells_kept = inr (omega (arith, ap length e));
        tape_kept = inl (refl, refl);
      })

  clear_follows : (s : Run V) → Sized d s → (before after : List V) (r : Result (Unit {0}) CallRefusal) → ClearContract K d s.cycle before after r → BuildsOn before s.cells → Right s (clear_made before after r)
  clear_follows s z before after (Err e) c f =
      follow_refused s (clear_made before after (Err e)) e c.refusal c.outcome refl
      (record { answer = refl; cells = subst (λ xs. BuildsOn xs s.cells) (sym c.outcome) f; tape = none_builds s.tape; cycle_is = refl })
  clear_follows s z before after (Ok x) c f =
      let e = c.outcome in
      follow_accepted s (clear_made before after (Ok x)) c.refusal
      (record {
        follows = record { answer = refl; cells = same_builds after _ e; tape = none_builds s.tape; cycle_is = refl };
        cells_kept = inr (omega (arith, ap length e));
        tape_kept = inl (refl, refl);
      })

  read_follows : (s : Run V) → Sized d s → (k : ℕ) (held : List V) (r : Result V CallRefusal) → ReadContract K d s.cycle k held r → BuildsOn held s.cells → Right s (read_made k held r)
  read_follows s z k held (Err e) c f =
      follow_refused s (read_made k held (Err e)) e c.refusal refl refl (record { answer = refl; cells = f; tape = none_builds s.tape; cycle_is = refl })
  read_follows s z k held (Ok x) c f =
      let p14 = passes (ltb k (cells d)) 14 _ (omega arith) c.refusal in
      let p15 = passes (eqb (length held) (cells d)) 15 0 (omega arith) p14.1 in
      let same = same_held held s.cells (eqb-true (length held) (cells d) p15.0 ∙ sym z.cells) f in
      follow_accepted s (read_made k held (Ok x)) c.refusal
      (record {
        follows = record { answer = ap value_is (c.answer ∙ ap (λ xs. input K xs k) same); cells = f; tape = none_builds s.tape; cycle_is = refl };
        cells_kept = inl (refl, refl);
        tape_kept = inl (refl, refl);
      })

  look_follows : (s : Run V) → Sized d s → (k j : ℕ) (held tape : List V) (r : Result V CallRefusal) → LookContract K d s.cycle k j held tape r → BuildsOn held s.cells → BuildsOn tape s.tape → Right s (look_made k j held tape r)
  look_follows s z k j held tape (Err e) c f g =
      follow_refused s (look_made k j held tape (Err e)) e c.refusal refl refl (record { answer = refl; cells = f; tape = g; cycle_is = refl })
  look_follows s z k j held tape (Ok x) c f g =
      let O = length (out_wires d) in
      let p14 = passes (ltb j O) 14 _ (omega arith) c.refusal in
      let p15 = passes (eqb (length held) (cells d) && leb (s.cycle * O) (length tape)) 15 _ (omega arith) p14.1 in
      let p17 = passes (ltb k s.cycle) 17 0 (omega arith) p15.1 in
      let long = leb-true (s.cycle * O) (length tape) (and_parts (eqb (length held) (cells d)) _ p15.0).1 in
      let there = seen_place k s.cycle j O (ltb-true k s.cycle p17.0) (ltb-true j O p14.0) in
      let same = g (k * O + j) K.low (omega arith) (omega (arith, z.tape)) in
      follow_accepted s (look_made k j held tape (Ok x)) c.refusal
      (record {
        follows = record { answer = ap value_is (c.answer ∙ same); cells = f; tape = g; cycle_is = refl };
        cells_kept = inl (refl, refl);
        tape_kept = inl (refl, refl);
      })

  one_follows : (s : Run V) → Sized d s → (m : Made V) → Handed s m → Met K d s.cycle m → Right s m
  one_follows s z (step_made ins before after r) h c = step_follows s z ins before after r c.0 c.1 h.cells h.tape
  one_follows s z (set_made k v before after r) h c = set_follows s z k v before after r c h.cells
  one_follows s z (clear_made before after r) h c = clear_follows s z before after r c h.cells
  one_follows s z (read_made k held r) h c = read_follows s z k held r c h.cells
  one_follows s z (look_made k j held tape r) h c = look_follows s z k j held tape r c h.cells h.tape

  -- Many calls

  follow_on : Sound d → (s : Run V) → Sized d s → (n : ℕ) → n ≡ s.cycle → (made : List (Made V)) → HandedOn K d n s made → FollowOn K d n s made
  follow_on sound s z n e [] h = tt
  follow_on sound s z n e (m ∷ ms) h =
      let met = subst (λ k. Met K d k m) e h.1 in
      let f = subst (λ k. Follows K d k m (call K d s (call_of m))) (sym e) (one_follows s z m h.0 met).follows in
      (f, follow_on sound (call K d s (call_of m)).run (sized_carried sound s (call_of m) z (refusal d s.cycle (call_of m))) (cycle_behind n m) f.cycle_is ms h.2)

  -- Calls on one memory

  front_builds : (slice whole held : List V) → FrontOf slice whole → BuildsOn whole held → BuildsOn slice held
  front_builds slice whole held e b k v g h =
      let l : length slice ≤ length whole = omega (arith, ap length e, length-take (length slice) whole) in
      ap (λ xs. get_or xs k v) e ∙ get_or-take (length slice) whole k v g ∙ b k v (omega arith) h

  whole_builds : (handed left whole held held' : List V) → FrontOf handed whole → BuildsOn whole held → BuildsOn left held' → Covers handed left held held' → BuildsOn (left ++ drop (length handed) whole) held'
  whole_builds handed left whole held held' e b f (inl c) =
      let same = ap (λ xs. xs ++ drop (length handed) whole) (c.0 ∙ e) ∙ take-append-drop (length handed) whole in
      subst (λ xs. BuildsOn (left ++ drop (length handed) whole) xs) (sym c.1) (subst (λ xs. BuildsOn xs held) (sym same) b)
  whole_builds handed left whole held held' e b f (inr c) =
      λ k v g h. let i : k < length left = omega arith in get_or_append_left left (drop (length handed) whole) v k i ∙ f k v i h

  builds_on : Sound d → (s : Run V) → Sized d s → (n : ℕ) → n ≡ s.cycle → (own : Owned V) → BuildsOn own.cells s.cells → BuildsOn own.tape s.tape → (made : List (Made V)) → LentOn K d n own made → HandedOn K d n s made
  builds_on sound s z n e own bc bt [] h = tt
  builds_on sound s z n e own bc bt (m ∷ ms) h =
      let lent = h.0 in
      let met = subst (λ k. Met K d k m) e h.1 in
      let handed : Handed s m = record { cells = front_builds (cells_handed m) own.cells s.cells lent.cells bc; tape = front_builds (tape_handed m) own.tape s.tape lent.tape bt } in
      let kept = one_follows s z m handed met in
      let o = call K d s (call_of m) in
      let cycle = ap (λ k. cycle_behind k m) e ∙ kept.follows.cycle_is in
      let cs = whole_builds (cells_handed m) (cells_left m) own.cells s.cells o.run.cells lent.cells bc kept.follows.cells kept.cells_kept in
      let ts = whole_builds (tape_handed m) (tape_left m) own.tape s.tape o.run.tape lent.tape bt kept.follows.tape kept.tape_kept in
      (handed, h.1, builds_on sound o.run (sized_carried sound s (call_of m) z (refusal d s.cycle (call_of m))) (cycle_behind n m) cycle (memory_behind own m) cs ts ms h.2)

pub slices_follow : {V : Type 0} (K : Kind V) → SlicesFollow K
slices_follow K d sound s z made h = follow_on K d sound s z s.cycle refl made h

pub memory_builds : {V : Type 0} (K : Kind V) → MemoryBuilds K
memory_builds K d sound s z own bc bt made h = builds_on K d sound s z s.cycle refl own bc bt made h
