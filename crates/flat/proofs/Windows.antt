-- A module's wires as a part of the working values.
use Rattle.std.proofs.Common.{◌≡◌, ℕ, ◌+◌, ◌<◌, ◌≤◌, Bool, true, false, cond, eqb, ltb, ◌≢◌, List, [], ◌∷◌, length, get_or, set, sym, refl, ◌∙◌, subst, arith, length-set}
use Rattle.std.proofs.lemmas.List.{get_or-set_same, get_or-set_other}
use Rattle.std.proofs.lemmas.Bool.{ltb-true, ltb-false, eqb-true, eqb-false}
use Rattle.signal.specs.Kinds.{Kind}
use Rattle.signal.specs.GateValues.{input}
use Rattle.rules.specs.Wires.{Wires, upd, put}
use Rattle.rules.specs.Sound.{All}
use Rattle.flat.specs.Passes.{start}
use Rattle.flat.specs.Windows.{Shows, writes, WindowsShow}
use Rattle.flat.proofs.Lists.{map_on}

module _ {V : Type 0} (K : Kind V) where
  set_shows : (values : List V) (base wires : ℕ) (ws : Wires V) → base + wires ≤ length values → Shows K values base wires ws → (o : ℕ) (v : V) → o < wires → Shows K (set values (base + o) v) base wires (upd o v ws)
  set_shows values base wires ws fits shows o v h w l =
      let by : (b : Bool) → eqb w o ≡ b → get_or (set values (base + o) v) (base + w) K.low ≡ cond b v (ws w) =
      elim [
        | true ↦ λ e. let q : w ≡ o = eqb-true w o e in subst (λ x. get_or (set values (base + o) v) (base + x) K.low ≡ v) (sym q) (get_or-set_same values (base + o) v K.low (omega arith))
        | false ↦ λ e. let ne : base + w ≢ base + o = λ q. eqb-false w o e (omega arith) in get_or-set_other values (base + o) (base + w) v K.low ne ∙ shows w l
      ] in
      by (eqb w o) refl

  written : (values : List V) (base wires : ℕ) (ws : Wires V) → base + wires ≤ length values → Shows K values base wires ws → (os : List ℕ) (vs : List V) → All (λ w. w < wires) os → Shows K (writes K base os vs values) base wires (put os vs ws)
  written values base wires ws fits shows [] vs a = shows
  written values base wires ws fits shows (o ∷ os) [] a = shows
  written values base wires ws fits shows (o ∷ os) (v ∷ vs) a =
      let n = length-set values (base + o) v in
      let fits' : base + wires ≤ length (set values (base + o) v) = omega arith in
      written (set values (base + o) v) base wires (upd o v ws) fits' (set_shows values base wires ws fits shows o v a.0) os vs a.1

  others : (values : List V) (base wires b w : ℕ) (us : Wires V) → b + w ≤ base → Shows K values b w us → (os : List ℕ) (vs : List V) → Shows K (writes K base os vs values) b w us
  others values base wires b w us apart shows [] vs = shows
  others values base wires b w us apart shows (o ∷ os) [] = shows
  others values base wires b w us apart shows (o ∷ os) (v ∷ vs) =
      others (set values (base + o) v) base wires b w us apart (λ x l. let ne : b + x ≢ base + o = omega arith in get_or-set_other values (base + o) (b + x) v K.low ne ∙ shows x l) os vs

  begins : (values : List V) (base wires inputs : ℕ) (ins : List V) → ((k : ℕ) → k < inputs → get_or values (base + k) K.low ≡ input K ins k) → ((k : ℕ) → inputs ≤ k → k < wires → get_or values (base + k) K.low ≡ K.low) → Shows K values base wires (start K inputs ins)
  begins values base wires inputs ins given rest w l =
      let by : (b : Bool) → ltb w inputs ≡ b → get_or values (base + w) K.low ≡ cond b (input K ins w) K.low =
      elim [ true ↦ λ e. given w (ltb-true w inputs e) | false ↦ λ e. rest w (ltb-false w inputs e) l ] in
      by (ltb w inputs) refl

pub windows_show : (V : Type 0) → WindowsShow V
windows_show V K = record {
  reads = λ values base wires ws shows is a. map_on (λ w. w < wires) (λ w. get_or values (base + w) K.low) ws shows is a;
  written = written K;
  others = others K;
  begins = begins K;
}
