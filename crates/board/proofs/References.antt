-- One occurrence: its through inputs as a set of bits, and its checks by the summary of its part.
use Rattle.std.proofs.Common.{◌≡◌, ℕ, zero, suc, ◌<◌, ◌≤◌, Bool, true, false, cond, eqb, List, [], ◌∷◌, map, length, Some, None, Option, sym, refl, ap, ◌∙◌, subst, suc-le-suc, le_of_suc-le-suc, arith}
use mathlib.Core.Path.{fun_ext}
use Rattle.std.proofs.lemmas.Bool.{eqb-true, and_parts}
use Rattle.gates.specs.declared.Part.{Part}
use Rattle.gates.specs.declared.Part.TheVariants.{Gate as gate, Cell as cell, Module as module_no}
use Rattle.gates.specs.Gates.{part_of}
use Rattle.rules.specs.declared.refusal.Refusal.{Refusal}
use Rattle.rules.specs.declared.refusal.Refusal.TheVariants.{Refer, Pins}
use Rattle.rules.specs.Refusals.{accepted, refused, asked}
use Rattle.rules.specs.Records.{number_at, body}
use Rattle.rules.specs.Boards.{Occurrence, Design, part, inputs_due, outputs_due}
use Rattle.rules.specs.Wires.{Wires, put, upd, any, picked, through_of, through, reached}
use Rattle.rules.specs.Judging.{known, pins_judged, occurrence_judged, occurrence_at}
use Rattle.rules.proofs.Verdicts.{passed, failed, asked_accepted, then_left}
use Rattle.rules.proofs.Sounds.{every_each}
use Rattle.board.specs.WireTables.{bit, fill}
use Rattle.board.specs.Summaries.{SummaryOf, passing, reach_on}
use Rattle.board.specs.declared.tables.Summary.{Summary}

-- the set of all sixteen inputs
pub ones_bit : (x : ℕ) → x < 16 → bit 65535 x ≡ true
ones_bit = every_each 16 (bit 65535) refl

pub picked_same : {X : Type 0} (f g : ℕ → Bool) (n : ℕ) (xs : List X) → length xs ≤ n → ((k : ℕ) → k < n → f k ≡ g k) → picked f xs ≡ picked g xs
picked_same f g n [] h e = refl
picked_same f g zero (x ∷ xs) h e = absurd (omega arith)
picked_same f g (suc n) (x ∷ xs) h e =
    let t = picked_same (λ k. f (suc k)) (λ k. g (suc k)) n xs (le_of_suc-le-suc h) (λ k l. e (suc k) (suc-le-suc l)) in
    ap (λ b. cond b (x ∷ picked (λ k. f (suc k)) xs) (picked (λ k. f (suc k)) xs)) (e 0 (omega arith)) ∙ ap (λ l. cond (g 0) (x ∷ l) l) t

pub picked_every : {X : Type 0} (xs : List X) → picked (λ _. true) xs ≡ xs
picked_every [] = refl
picked_every (x ∷ xs) = ap (λ l. x ∷ l) (picked_every xs)

picked_none : {X : Type 0} (xs : List X) → picked (λ _. false) xs ≡ []
picked_none [] = refl
picked_none (x ∷ xs) = picked_none xs

passing_through : (below : ℕ → Design) (p : Option Part) (ins : List ℕ) → picked (passing below p) ins ≡ through_of (λ j. through (below j)) p ins
passing_through below (Some (gate g)) ins = picked_every ins
passing_through below (Some cell) ins = picked_none ins
passing_through below (Some (module_no j)) ins = refl
passing_through below None ins = picked_none ins

through_picked : (below : ℕ → Design) (p : Option Part) (s : Summary) (ins : List ℕ) → SummaryOf below p s → length ins ≤ 16 → picked (bit s.through) ins ≡ through_of (λ j. through (below j)) p ins
through_picked below p s ins k h = picked_same (bit s.through) (passing below p) 16 ins h k.through ∙ passing_through below p ins

put_fill : {V : Type 0} (outs pins : List ℕ) (v : V) (ws : Wires V) → length outs ≡ length pins → put outs (map (λ _. v) pins) ws ≡ fill outs v ws
put_fill [] pins v ws e = refl
put_fill (o ∷ outs) [] v ws e = absurd (omega arith)
put_fill (o ∷ outs) (p ∷ pins) v ws e = put_fill outs pins v (upd o v ws) (omega arith)

pub pins_right : (a b : ℕ) (thr : List ℕ) (wires : ℕ) (dr : ℕ → Bool) (place : ℕ) (ins outs : List ℕ) → pins_judged a b thr wires dr place ins outs ≡ accepted → length outs ≡ b
pins_right a b thr wires dr place ins outs e =
    eqb-true (length outs) b (and_parts (eqb (length ins) a) (eqb (length outs) b) (asked_accepted _ (Pins place) (then_left _ _ e))).1

part_is : (o : Occurrence) (r : ℕ) → r ≡ o.reference → part_of r ≡ part o
unfolding part
part_is o r e = ap part_of e

module _ (below : ℕ → Design) (wires : ℕ) (dr : ℕ → Bool) (f : List ℕ) (at : ℕ) (reference : ℕ) (er : reference ≡ number_at (body f at) 0) where
  -- the reference is refused
  pub unknown_is : (r : Refusal) → asked (known below (part_of reference)) (Refer at) ≡ refused r → occurrence_judged below wires dr (occurrence_at f at) ≡ refused r
  unknown_is r v =
      let o = (occurrence_at f at).occurrence in
      let p = part o in
      failed (asked (known below p) (Refer at)) (pins_judged (inputs_due below p) (length (outputs_due below p)) (through_of (λ j. through (below j)) p o.ins) wires dr at o.ins o.outs) r (subst (λ q. asked (known below q) (Refer at) ≡ refused r) (part_is o reference er) v)

  module _ (s : Summary) (ins outs : List ℕ) (ei : ins ≡ (occurrence_at f at).occurrence.ins) (eo : outs ≡ (occurrence_at f at).occurrence.outs)
      (ek : asked (known below (part_of reference)) (Refer at) ≡ accepted) (es : SummaryOf below (part_of reference) s) (few : length ins ≤ 16) where
    pub summary_is : SummaryOf below (part (occurrence_at f at).occurrence) s
    summary_is = subst (λ p. SummaryOf below p s) (part_is (occurrence_at f at).occurrence reference er) es

    pub judged_is : occurrence_judged below wires dr (occurrence_at f at) ≡ pins_judged s.inputs s.outputs (picked (bit s.through) ins) wires dr at ins outs
    judged_is =
        let o = (occurrence_at f at).occurrence in
        let p = part o in
        let thr = through_of (λ j. through (below j)) p in
        let k : asked (known below p) (Refer at) ≡ accepted = subst (λ q. asked (known below q) (Refer at) ≡ accepted) (part_is o reference er) ek in
        let t : picked (bit s.through) ins ≡ thr o.ins = through_picked below p s ins summary_is few ∙ ap thr ei in
        passed (asked (known below p) (Refer at)) _ k
        ∙ ap (λ x. pins_judged x (length (outputs_due below p)) (thr o.ins) wires dr at o.ins o.outs) (sym summary_is.inputs)
        ∙ ap (λ x. pins_judged s.inputs x (thr o.ins) wires dr at o.ins o.outs) (sym summary_is.outputs)
        ∙ ap (λ x. pins_judged s.inputs s.outputs x wires dr at o.ins o.outs) (sym t)
        ∙ ap (λ x. pins_judged s.inputs s.outputs (picked (bit s.through) ins) wires dr at x o.outs) (sym ei)
        ∙ ap (λ x. pins_judged s.inputs s.outputs (picked (bit s.through) ins) wires dr at ins x) (sym eo)

    pub reach_is : (ws : Wires (ℕ → Bool)) (mask : ℕ) → length outs ≡ s.outputs → ((x : ℕ) → bit mask x ≡ any (λ w. ws w x) (picked (bit s.through) ins)) → fill outs (bit mask) ws ≡ reach_on below (occurrence_at f at).occurrence ws
    reach_is ws mask l h =
        let o = (occurrence_at f at).occurrence in
        let p = part o in
        let thr = through_of (λ j. through (below j)) p in
        let t : picked (bit s.through) ins ≡ thr o.ins = through_picked below p s ins summary_is few ∙ ap thr ei in
        let m : bit mask ≡ reached ws (thr o.ins) = fun_ext (λ x. h x ∙ ap (any (λ w. ws w x)) t) in
        ap (λ x. fill x (bit mask) ws) eo ∙ ap (λ v. fill o.outs v ws) m ∙ sym (put_fill o.outs (outputs_due below p) _ ws (ap length (sym eo) ∙ l ∙ summary_is.outputs))
