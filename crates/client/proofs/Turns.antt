-- The steps of a drive, read off the tape.
use Rattle.std.proofs.Common.{◌≡◌, ℕ, ◌+◌, ◌*◌, ◌<◌, ◌≤◌, Bool, false, not, ◌&&◌, eqb, ltb, leb, List, [], ◌∷◌, ◌++◌, length, get_or, take, drop, set, Ok, sym, ap, ◌∙◌, arith}
use lib.ListN.{length-map}
use Rattle.std.proofs.lemmas.List.{append-nil, append_assoc, get_or_append_left, get_or-append-add, length-take-le, take_all, drop_all, take_more_set, drop_more}
use Rattle.std.proofs.lemmas.Bool.{leb-true, ltb-true, and_parts}
use Rattle.signal.specs.Bits.{bits}
use Rattle.signal.specs.GateValues.{input}
use Rattle.rules.specs.Boards.{Design, in_count, out_wires, cells}
use Rattle.flat.specs.Passes.{step_of, first}
use Rattle.flat.specs.Runs.{refusal, look}
use Rattle.run.proofs.Slices.{passes}
use Rattle.run.proofs.Tapes.{next_cycle}
use Rattle.run.specs.Calls.{Memory, StepContract, LookContract, with_cycle}
use Rattle.client.specs.Drives.{turns_from}

-- One step and a look at its output 0

-- output 0 of cycle k on the tape to which that cycle was added
on_tape : (d : Design) (outs tape : List Bool) (k : ℕ) → length outs ≡ length (out_wires d) → 0 < length (out_wires d) → k * length (out_wires d) ≤ length tape → input bits (with_cycle d k outs tape) (k * length (out_wires d) + 0) ≡ input bits outs 0
on_tape d outs tape k each some room =
    let at = k * length (out_wires d) in
    let rest = drop (at + length (out_wires d)) tape in
    ap (λ m. get_or (take at tape ++ (outs ++ rest)) (m + 0) false) (sym (length-take-le at tape room)) ∙ get_or-append-add (take at tape) (outs ++ rest) 0 false ∙ get_or_append_left outs rest false 0 (omega (arith, each, some))

pub seen : (d d' : Design) (ins held : List Bool) (before after : Memory Bool) (k count : ℕ) (v : Bool) → d' ≡ d → before.cycle ≡ k → StepContract bits d ins before after (Ok count) → LookContract bits d' after.cycle k 0 held after.tape (Ok v) → v ≡ input bits (step_of bits d ins before.cells).outs 0
seen d d' ins held before after k count v same at stepped looked =
    let O = length (out_wires d) in
    let outs = (step_of bits d ins before.cells).outs in
    let p13 = passes (eqb (length ins) (in_count d)) 13 _ (omega arith) stepped.refusal in
    let p15 = passes (eqb (length before.cells) (cells d) && (leb 1024 (length before.work) && leb 8 (length before.levels))) 15 _ (omega arith) p13.1 in
    let p16 = passes (leb ((before.cycle + 1) * O) (length before.tape) && not (eqb before.cycle 65535)) 16 0 (omega arith) p15.1 in
    let long = leb-true ((before.cycle + 1) * O) (length before.tape) (and_parts (leb ((before.cycle + 1) * O) (length before.tape)) _ p16.0).0 in
    let some : 0 < O = ltb-true 0 O (passes (ltb 0 O) 14 _ (omega arith) (looked.refusal ∙ ap (λ e. refusal {V = Bool} e after.cycle (look k 0 (length held) (length after.tape))) same)).0 in
    let more = next_cycle before.cycle O in
    let each : length outs ≡ O = length-map (out_wires d) (first bits d ins before.cells).values in
    looked.answer ∙ ap (λ e. input bits after.tape (k * length (out_wires e) + 0)) same ∙ ap (λ t. input bits t (k * O + 0)) stepped.outcome.tape ∙ ap (λ n. input bits (with_cycle d before.cycle outs before.tape) (n * O + 0)) (sym at) ∙ on_tape d outs before.tape before.cycle each some (omega (arith, long, more))

-- The loop

pub once_more : (d : Design) (rows : List (List Bool)) (turns cs cs' ins e : List Bool) (k : ℕ) (v : Bool) → k < length turns → k < length rows → get_or rows k e ≡ ins → v ≡ input bits (step_of bits d ins cs).outs 0 → cs' ≡ (step_of bits d ins cs).cells → take (k + 1) (set turns k v) ++ turns_from d cs' (drop (k + 1) rows) ≡ take k turns ++ turns_from d cs (drop k rows)
once_more d rows turns cs cs' ins e k v few fewer this found next =
    let rest = drop (k + 1) rows in
    let left : turns_from d cs (drop k rows) ≡ v ∷ turns_from d cs' rest =
    ap (turns_from d cs) (drop_more rows k e fewer) ∙ ap (λ i. turns_from d cs (i ∷ rest)) this ∙ ap (λ x. x ∷ turns_from d (step_of bits d ins cs).cells rest) (sym found) ∙ ap (λ xs. v ∷ turns_from d xs rest) (sym next) in
    ap (λ xs. xs ++ turns_from d cs' rest) (take_more_set turns k v few) ∙ append_assoc (take k turns) (v ∷ []) (turns_from d cs' rest) ∙ ap (λ xs. take k turns ++ xs) (sym left)

pub all_found : (d : Design) (rows : List (List Bool)) (turns cs : List Bool) (k : ℕ) → length turns ≤ k → length rows ≤ k → take k turns ++ turns_from d cs (drop k rows) ≡ turns
all_found d rows turns cs k t r =
    ap (λ xs. take k turns ++ turns_from d cs xs) (drop_all k rows r) ∙ append-nil (take k turns) ∙ take_all k turns t
