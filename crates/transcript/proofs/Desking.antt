-- What a desk stands for, after each of its calls.
use Rattle.std.proofs.Common.{◌≡◌, ℕ, ◌+◌, ◌-◌, ◌*◌, ◌<◌, ◌≤◌, Bool, true, false, cond, not, ◌&&◌, eqb, leb, List, [], ◌∷◌, ◌++◌, length, take, drop, replicate, Some, Ok, Err, vec_items, Result, sym, refl, ap, ◌∙◌, append_assoc, zero-mul, arith, leb-true, MatchResult}
use borrow.Author.Tests.{eqb_apart}
use Rattle.std.proofs.lemmas.List.{drop-take, length-append, length-map, length-take-le, nil_from_length, take_at}
use Rattle.signal.specs.Kinds.{Kind}
use Rattle.rules.specs.declared.refusal.Refusal.{Refusal}
use Rattle.rules.specs.Refusals.{accepted, refused as refuses_by}
use Rattle.rules.specs.Judging.{verdict, board_of}
use Rattle.rules.specs.Boards.{Design, in_count, out_wires, cells, top}
use Rattle.flat.specs.Passes.{step_of}
use Rattle.flat.specs.Runs.{Room, Call, step, refused, counted, Run, refusal, carried_out, power}
use Rattle.board.specs.declared.board.Board.{Board}
use Rattle.walk.specs.declared.level.Level.{Level}
use Rattle.walk.specs.Steps.{design_in}
use Rattle.run.specs.declared.refusal.CallRefusal.{CallRefusal}
use Rattle.run.specs.Refusals.{number_of, refused_by}
use Rattle.run.specs.Calls.{Stepped, StepContract, board_under, memory, room, start_in}
use Rattle.run.proofs.Slices.{refused_at}
use Rattle.run.proofs.Starts.{begun}
use Rattle.run.proofs.Tapes.{next_cycle}
use Rattle.transcript.specs.declared.session.Desk.{Desk}
use Rattle.transcript.specs.Desks.{Answered, Fresh, Told, cycle_of, design_of, done_by, run_of, taped}
use Rattle.transcript.specs.Lines.{after_line, first_line, inputs_of, lines_of}
use Rattle.transcript.specs.Printed.{board_line, ended_line, kind_line, refused_line, step_line}
use Rattle.transcript.specs.Sessions.{answer_line, answers, by_verdict, line_done, powered, room_of, transcript}
use Rattle.transcript.proofs.Cutting.{lines_first}

-- the tape's part for the cycles so far, with the values of one more cycle

grown : {V : Type 0} (tape outs rest : List V) (cycle n : ℕ) → cycle * n ≤ length tape → length outs ≡ n → take ((cycle + 1) * n) (take (cycle * n) tape ++ (outs ++ rest)) ≡ take (cycle * n) tape ++ outs
grown tape outs rest cycle n h e =
    let long : length (take (cycle * n) tape ++ outs) ≡ (cycle + 1) * n =
    length-append (take (cycle * n) tape) outs ∙ omega (arith, length-take-le (cycle * n) tape h, next_cycle cycle n) in
    ap (take ((cycle + 1) * n)) (sym (append_assoc (take (cycle * n) tape) outs rest)) ∙ take_at (take (cycle * n) tape ++ outs) rest ((cycle + 1) * n) long

-- what an accepted step says of the tape and of the cycle

by_tests : (counts fits tapes ends : Bool) → ◌≡◌ {A = ℕ} 0 (cond counts (cond fits (cond (tapes && not ends) 0 16) 15) 13) → (tapes ≡ true) × (ends ≡ false)
by_tests true true true false e = (refl, refl)
by_tests true true true true e = absurd (omega arith)
by_tests true true false ends e = absurd (omega arith)
by_tests true false tapes ends e = absurd (omega arith)
by_tests false fits tapes ends e = absurd (omega arith)

accepts : {V : Type 0} (d : Design) (cycle : ℕ) (ins : List V) (r : Room) → 0 ≡ refusal d cycle (step ins r) → ((cycle + 1) * length (out_wires d) ≤ r.tape) × (cycle ≡ 65535 → ⊥)
accepts d cycle ins r e =
    let t = by_tests (eqb (length ins) (in_count d)) (eqb r.cells (cells d) && (leb 1024 r.values && leb 8 r.levels)) (leb ((cycle + 1) * length (out_wires d)) r.tape) (eqb cycle 65535) e in
    (leb-true _ _ t.0, eqb_apart _ _ t.1)

abbrev as_room : ℕ → ℕ → ℕ → ℕ → Room
as_room c t v l = record { cells = c; tape = t; values = v; levels = l }

abbrev as_run : {V : Type 0} → List V → List V → ℕ → Run V
as_run cs tape cycle = record { cells = cs; tape = tape; cycle = cycle }

-- a step on a line that is well formed
module _ {V : Type 0} (K : Kind V) (u : V) (s : Desk V) (line : List ℕ) (vs ins cs tp wk : List V) (ls : List Level) where
  module _ (read : Some vs ≡ inputs_of K u (in_count (design_of s)) line) (ins_is : ins ≡ vs) (cs_is : cs ≡ vec_items s.cells) (tp_is : tp ≡ vec_items s.tape) (wk_is : wk ≡ vec_items s.work) (ls_is : ls ≡ vec_items s.levels) where
    abbrev d : Design
    d = design_of s

    abbrev asks : Call V
    asks = step vs (room_of K u (design_of s) (run_of s))

    room_is : room (memory s.run cs tp wk ls) ≡ room_of K u d (run_of s)
    room_is =
        let t : length tp ≡ 4096 = ap length tp_is ∙ sym s.tape.ok.0 ∙ s.tape_size in
        let w : length wk ≡ 1024 = ap length wk_is ∙ sym s.work.ok.0 ∙ s.work_size in
        let l : length ls ≡ 8 = ap length ls_is ∙ sym s.levels.ok.0 ∙ s.level_count in
        ap (λ n. as_room n (length tp) (length wk) (length ls)) (ap length cs_is) ∙ ap (λ n. as_room (length (vec_items s.cells)) n (length wk) (length ls)) t ∙ ap (λ n. as_room (length (vec_items s.cells)) 4096 n (length ls)) w ∙ ap (λ n. as_room (length (vec_items s.cells)) 4096 1024 n) l

    asked_is : refusal d (cycle_of s) (step ins (room (memory s.run cs tp wk ls))) ≡ refusal d (cycle_of s) asks
    asked_is = ap (λ i. refusal d (cycle_of s) (step i (room (memory s.run cs tp wk ls)))) ins_is ∙ ap (λ r. refusal d (cycle_of s) (step vs r)) room_is

    done_is : (k : ℕ) → k ≡ refusal d (cycle_of s) (step ins (room (memory s.run cs tp wk ls))) → done_by K u s line ≡ carried_out K d (run_of s) asks k
    done_is k e = ap (line_done K u d (run_of s)) (sym read) ∙ ap (carried_out K d (run_of s) asks) (sym (e ∙ asked_is))

    module _ (t : Desk V) (cs' tp' wk' : List V) (ls' : List Level) (cells_are : vec_items t.cells ≡ cs') (tape_is : vec_items t.tape ≡ tp') (board_is : board_under t.run ≡ board_under s.run) where
      design_is : design_of t ≡ d
      design_is = ap design_in board_is

      run_is : (cycle : ℕ) (cs'' tape'' : List V) → vec_items t.cells ≡ cs'' → take (taped t) (vec_items t.tape) ≡ tape'' → cycle_of t ≡ cycle → run_of t ≡ as_run cs'' tape'' cycle
      run_is cycle cs'' tape'' a b e = ap (λ x. as_run x (take (taped t) (vec_items t.tape)) (cycle_of t)) a ∙ ap (λ x. as_run cs'' x (cycle_of t)) b ∙ ap (as_run cs'' tape'') e

      taped_is : (cycle : ℕ) → cycle_of t ≡ cycle → taped t ≡ cycle * length (out_wires d)
      taped_is cycle e = ap (λ n. n * length (out_wires (design_of t))) e ∙ ap (λ x. cycle * length (out_wires x)) design_is

      told_by : (r : Result ℕ CallRefusal) → refused_by r ≡ refusal d (cycle_of s) (step ins (room (memory s.run cs tp wk ls))) → MatchResult r (Stepped K d ins (memory s.run cs tp wk ls) (memory t.run cs' tp' wk' ls')) (λ _. memory t.run cs' tp' wk' ls' ≡ memory s.run cs tp wk ls) → Told K u s line t r
      told_by (Ok n) e st =
          let done : done_by K u s line ≡ carried_out K d (run_of s) asks 0 = done_is 0 e in
          let k : taped t ≡ (cycle_of s + 1) * length (out_wires d) = taped_is (cycle_of s + 1) st.cycle in
          let same = ap (λ i. step_of K d i cs) ins_is ∙ ap (step_of K d vs) cs_is in
          let long : cycle_of s * length (out_wires d) ≤ length (vec_items s.tape) = omega (arith, s.tape.ok.0, s.tape_size, s.filled) in
          let outs = (step_of K d vs (vec_items s.cells)).outs in
          let tail = drop (cycle_of s * length (out_wires d) + length (out_wires d)) (vec_items s.tape) in
          let tape_now : tp' ≡ take (cycle_of s * length (out_wires d)) (vec_items s.tape) ++ (outs ++ tail) =
          st.tape ∙ ap (λ o. take (cycle_of s * length (out_wires d)) tp ++ (o.outs ++ drop (cycle_of s * length (out_wires d) + length (out_wires d)) tp)) same ∙ ap (λ t. take (cycle_of s * length (out_wires d)) t ++ (outs ++ drop (cycle_of s * length (out_wires d) + length (out_wires d)) t)) tp_is in
          let tape_more : take (taped t) (vec_items t.tape) ≡ take (taped s) (vec_items s.tape) ++ outs =
          ap (λ j. take j (vec_items t.tape)) k ∙ ap (take ((cycle_of s + 1) * length (out_wires d))) (tape_is ∙ tape_now) ∙ grown (vec_items s.tape) outs tail (cycle_of s) (length (out_wires d)) long (length-map (out_wires d) _) in
          record {
            design = design_is;
            run = run_is (cycle_of s + 1) _ _ (cells_are ∙ st.cells ∙ ap (λ o. o.cells) same) tape_more st.cycle ∙ sym (ap (λ o. o.run) done);
            cycle = st.cycle;
            answer = ap counted (st.count ∙ ap (λ o. o.count) same) ∙ sym (ap (λ o. o.answer) done);
          }
      told_by (Err e) h kept =
          let done : done_by K u s line ≡ record { run = run_of s; answer = refused (number_of e) } = done_is (number_of e) h ∙ refused_at K d (run_of s) asks e in
          let cycle_is : cycle_of t ≡ cycle_of s = ap (λ m. m.cycle) kept in
          let k : taped t ≡ taped s = taped_is (cycle_of s) cycle_is in
          record {
            design = design_is;
            run = run_is (cycle_of s) _ _ (cells_are ∙ ap (λ m. m.cells) kept ∙ cs_is) (ap (λ j. take j (vec_items t.tape)) k ∙ ap (take (taped s)) (tape_is ∙ ap (λ m. m.tape) kept ∙ tp_is)) cycle_is ∙ sym (ap (λ o. o.run) done);
            cycle = cycle_is;
            answer = sym (ap (λ o. o.answer) done);
          }

      pub told_step : (r : Result ℕ CallRefusal) → StepContract K d ins (memory s.run cs tp wk ls) (memory t.run cs' tp' wk' ls') r → Told K u s line t r
      told_step r c = told_by r c.refusal c.outcome

-- the desk at its start

pub fresh : {V : Type 0} (K : Kind V) (b : Board) (s : Desk V) (cs : List V) (n : ℕ) → start_in (Ok s.run) cs ≡ power K (design_in b) n → board_under s.run ≡ b → vec_items s.cells ≡ cs → Fresh K b s
fresh K b s cs n start board cells_are =
    let design_is : design_of s ≡ design_in b = ap design_in board in
    let low = begun K (design_in b) cs (cycle_of s) n start in
    let taped_is : taped s ≡ 0 = ap (λ k. k * length (out_wires (design_of s))) low.1 ∙ zero-mul _ in
    record {
      design = design_is;
      run = ap (λ x. as_run x (take (taped s) (vec_items s.tape)) (cycle_of s)) cells_are ∙ ap (λ k. as_run cs (take k (vec_items s.tape)) (cycle_of s)) taped_is ∙ ap (λ xs. as_run xs [] (cycle_of s)) low.0 ∙ ap (as_run (replicate (cells (design_in b)) K.low) []) low.1 ∙ ap (λ d. powered K K.low d) (sym design_is);
    }

module _ {V : Type 0} (K : Kind V) (u : V) (s : Desk V) (line : List ℕ) (t : Desk V) where
  -- what the tape has from the last cycle
  shown : (n : ℕ) (told : Told K u s line t (Ok n)) (from width : ℕ) → from ≡ cycle_of s → width ≡ length (out_wires (design_of t)) → take (from * width + width - from * width) (drop (from * width) (vec_items t.tape)) ≡ drop (length (run_of s).tape) (done_by K u s line).run.tape
  shown n told from width from_is width_is =
      let o = length (out_wires (design_of s)) in
      let outs : width ≡ o = width_is ∙ ap (λ d. length (out_wires d)) told.design in
      let at : from * width ≡ taped s = ap (λ k. k * width) from_is ∙ ap (λ k. cycle_of s * k) outs in
      let long : length (run_of s).tape ≡ taped s = length-take-le (taped s) (vec_items s.tape) (omega (arith, s.tape.ok.0, s.tape_size, s.filled)) in
      let all : taped t ≡ taped s + o = ap (λ k. k * length (out_wires (design_of t))) told.cycle ∙ ap (λ d. (cycle_of s + 1) * length (out_wires d)) told.design ∙ next_cycle (cycle_of s) o in
      let one : from * width + width - from * width ≡ o = omega (arith, outs) in
      ap (λ k. take k (drop (from * width) (vec_items t.tape))) one ∙ ap (λ k. take o (drop k (vec_items t.tape))) at ∙ sym (drop-take (taped s) o (vec_items t.tape)) ∙ ap (λ k. drop (taped s) (take k (vec_items t.tape))) (sym all) ∙ ap (λ k. drop k (run_of t).tape) (sym long) ∙ ap (λ r. drop (length (run_of s).tape) r.tape) told.run

  pub answered_step : (n : ℕ) (told : Told K u s line t (Ok n)) (cycle from width : ℕ) → cycle ≡ cycle_of s → from ≡ cycle → width ≡ length (out_wires (design_of t)) → (items : List V) → items ≡ vec_items t.tape → (was text : List ℕ) → text ≡ was ++ step_line K cycle (take (from * width + width - from * width) (drop (from * width) items)) n → Answered K u s line t was text
  answered_step n told cycle from width cycle_is from_is width_is items items_are was text e =
      let slice = ap (λ xs. take (from * width + width - from * width) (drop (from * width) xs)) items_are ∙ shown n told from width (from_is ∙ cycle_is) width_is in
      record {
        design = told.design;
        run = told.run;
        printed = e ∙ ap (λ k. was ++ step_line K k (take (from * width + width - from * width) (drop (from * width) items)) n) cycle_is ∙ ap (λ xs. was ++ step_line K (cycle_of s) xs n) slice ∙ ap (λ a. was ++ answer_line K u (design_of s) (run_of s) (done_by K u s line).run.tape a) told.answer;
      }

  pub answered_refusal : (e : CallRefusal) (told : Told K u s line t (Err e)) (number : ℕ) → number ≡ number_of e → (was text : List ℕ) → text ≡ was ++ refused_line number → Answered K u s line t was text
  answered_refusal e told number number_is was text h =
      record {
        design = told.design;
        run = told.run;
        printed = h ∙ ap (λ n. was ++ refused_line n) number_is ∙ ap (λ a. was ++ answer_line K u (design_of s) (run_of s) (done_by K u s line).run.tape a) told.answer;
      }

module _ {V : Type 0} (K : Kind V) (u : V) (s : Desk V) where
  -- one line's answer, and those of the lines after it
  pub answers_more : (input line rest : List ℕ) (t : Desk V) (was text : List ℕ) → 0 < length input → line ≡ first_line input → rest ≡ after_line input → Answered K u s line t was text → text ++ answers K u (design_of t) (run_of t) (lines_of rest) ≡ was ++ answers K u (design_of s) (run_of s) (lines_of input)
  unfolding answers
  answers_more input line rest t was text h line_is rest_is a =
      let first = answer_line K u (design_of s) (run_of s) (done_by K u s line).run.tape (done_by K u s line).answer in
      let others = answers K u (design_of s) (done_by K u s line).run (lines_of rest) in
      let cut : lines_of input ≡ line ∷ lines_of rest = lines_first input h ∙ ap (λ l. l ∷ lines_of (after_line input)) (sym line_is) ∙ ap (λ r. line ∷ lines_of r) (sym rest_is) in
      let same : answers K u (design_of t) (run_of t) (lines_of rest) ≡ others = ap (λ d. answers K u d (run_of t) (lines_of rest)) a.design ∙ ap (λ r. answers K u (design_of s) r (lines_of rest)) a.run in
      ap (λ b. text ++ b) same ∙ ap (λ b. b ++ others) a.printed ∙ append_assoc was first others ∙ ap (λ ls. was ++ answers K u (design_of s) (run_of s) ls) (sym cut)

  pub answers_none : (rest : List ℕ) → length rest ≡ 0 → answers K u (design_of s) (run_of s) (lines_of rest) ≡ ended_line (cycle_of s)
  unfolding answers lines_of
  answers_none rest e = ap (λ r. answers K u (design_of s) (run_of s) (lines_of r)) (nil_from_length rest e)

-- the whole text

pub whole_refused : {V : Type 0} (K : Kind V) (u : V) (file input : List ℕ) (e : Refusal) (was text : List ℕ) → verdict file ≡ refuses_by e → was ≡ [] → text ≡ was ++ board_line e → text ≡ transcript K u file input
whole_refused K u file input e was text v empty h = h ∙ ap (λ t. t ++ board_line e) empty ∙ sym (ap (λ w. by_verdict w (kind_line K ++ answers K u (top (board_of file)) (powered K u (top (board_of file))) (lines_of input))) v)

pub whole_accepted : {V : Type 0} (K : Kind V) (u : V) (file input : List ℕ) (b : Board) (s : Desk V) (was t text : List ℕ) → verdict file ≡ accepted → b.judged.file.now ≡ file → Fresh K b s → was ≡ [] → t ≡ was ++ kind_line K → text ≡ t ++ answers K u (design_of s) (run_of s) (lines_of input) → text ≡ transcript K u file input
whole_accepted K u file input b s was t text v file_is f empty h e =
    let design_is : design_of s ≡ top (board_of file) = f.design ∙ ap (λ x. top (board_of x)) file_is in
    let start : answers K u (design_of s) (run_of s) (lines_of input) ≡ answers K u (top (board_of file)) (powered K u (top (board_of file))) (lines_of input) =
    ap (λ r. answers K u (design_of s) r (lines_of input)) f.run ∙ ap (λ d. answers K u d (powered K u d) (lines_of input)) design_is in
    e ∙ ap (λ x. t ++ x) start ∙ ap (λ x. x ++ answers K u (top (board_of file)) (powered K u (top (board_of file))) (lines_of input)) (h ∙ ap (λ x. x ++ kind_line K) empty) ∙ sym (ap (λ w. by_verdict w (kind_line K ++ answers K u (top (board_of file)) (powered K u (top (board_of file))) (lines_of input))) v)
