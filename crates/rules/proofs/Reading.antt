-- Records one after another.
use Rattle.std.proofs.Common.{◌≡◌, ℕ, zero, suc, ◌+◌, ◌-◌, ◌≤◌, Bool, eqb, List, length, sym, refl, ap, ◌∙◌, add-one, arith}
use Rattle.rules.specs.declared.refusal.Refusal.{Refusal}
use Rattle.rules.specs.declared.refusal.Refusal.TheVariants.{Shape, Trail}
use Rattle.rules.specs.Refusals.{accepted, refused, ◌then◌, asked}
use Rattle.rules.proofs.Verdicts.{passed, failed}
use Rattle.rules.specs.Records.{end_of, body, framed, after, read, occurrence_shape, occurrences_read, module_end, module_read, module_at, modules_read}

after_suc : (f : List ℕ) (at k : ℕ) → after f at (suc k) ≡ end_of f (after f at k)
unfolding after
after_suc f at zero = refl
after_suc f at (suc k) = after_suc f (end_of f at) k

pub after_more : (f : List ℕ) (at k : ℕ) → after f at (k + 1) ≡ end_of f (after f at k)
after_more f at k = rw add-one (after_suc f at k)

module_at_suc : (f : List ℕ) (at k : ℕ) → module_at f at (suc k) ≡ module_end f (module_at f at k)
unfolding module_at
module_at_suc f at zero = refl
module_at_suc f at (suc k) = module_at_suc f (module_end f at) k

pub module_at_more : (f : List ℕ) (at k : ℕ) → module_at f at (k + 1) ≡ module_end f (module_at f at k)
module_at_more f at k = rw add-one (module_at_suc f at k)

occurrences_step : (f : List ℕ) (at m : ℕ) → occurrences_read f at (m + 1) ≡ (read f at 3 occurrence_shape then occurrences_read f (end_of f at) m)
unfolding occurrences_read
occurrences_step f at m = rw add-one

pub occurrences_on : (f : List ℕ) (at n m : ℕ) → m + 1 ≡ n → read f at 3 occurrence_shape ≡ accepted → occurrences_read f at n ≡ occurrences_read f (end_of f at) m
occurrences_on f at n m e h = ap (occurrences_read f at) (sym e) ∙ occurrences_step f at m ∙ passed (read f at 3 occurrence_shape) (occurrences_read f (end_of f at) m) h

pub occurrences_off : (f : List ℕ) (at n m : ℕ) (r : Refusal) → m + 1 ≡ n → read f at 3 occurrence_shape ≡ refused r → occurrences_read f at n ≡ refused r
occurrences_off f at n m r e h = ap (occurrences_read f at) (sym e) ∙ occurrences_step f at m ∙ failed (read f at 3 occurrence_shape) (occurrences_read f (end_of f at) m) r h

modules_step : (f : List ℕ) (at m : ℕ) → modules_read f at (m + 1) ≡ (module_read f at then modules_read f (module_end f at) m)
unfolding modules_read
modules_step f at m = rw add-one

pub modules_on : (f : List ℕ) (at n m : ℕ) → m + 1 ≡ n → module_read f at ≡ accepted → modules_read f at n ≡ modules_read f (module_end f at) m
modules_on f at n m e h = ap (modules_read f at) (sym e) ∙ modules_step f at m ∙ passed (module_read f at) (modules_read f (module_end f at) m) h

pub modules_off : (f : List ℕ) (at n m : ℕ) (r : Refusal) → m + 1 ≡ n → module_read f at ≡ refused r → modules_read f at n ≡ refused r
modules_off f at n m r e h = ap (modules_read f at) (sym e) ∙ modules_step f at m ∙ failed (module_read f at) (modules_read f (module_end f at) m) r h

-- a record that is whole, with the shape of what was handed on
pub read_on : (f : List ℕ) (at due : ℕ) (shape : List ℕ → Bool) (b : List ℕ) → b ≡ body f at → framed f at due ≡ accepted → asked (shape b) (Shape at) ≡ accepted → read f at due shape ≡ accepted
read_on f at due shape b e h k = passed (framed f at due) (asked (shape (body f at)) (Shape at)) h ∙ ap (λ x. asked (shape x) (Shape at)) (sym e) ∙ k

pub read_off : (f : List ℕ) (at due : ℕ) (shape : List ℕ → Bool) (b : List ℕ) (r : Refusal) → b ≡ body f at → framed f at due ≡ accepted → asked (shape b) (Shape at) ≡ refused r → read f at due shape ≡ refused r
read_off f at due shape b r e h k = passed (framed f at due) (asked (shape (body f at)) (Shape at)) h ∙ ap (λ x. asked (shape x) (Shape at)) (sym e) ∙ k

pub read_cut : (f : List ℕ) (at due : ℕ) (shape : List ℕ → Bool) (r : Refusal) → framed f at due ≡ refused r → read f at due shape ≡ refused r
read_cut f at due shape r h = failed (framed f at due) (asked (shape (body f at)) (Shape at)) r h

pub none_left : (f : List ℕ) (at n k : ℕ) → n ≤ k → occurrences_read f at (n - k) ≡ accepted
unfolding occurrences_read
none_left f at n k h = let z : n - k ≡ 0 = omega arith in rw z

pub all_read : (f : List ℕ) (at n k : ℕ) → n ≤ k → modules_read f at (n - k) ≡ asked (eqb at (length f)) (Trail at)
unfolding modules_read
all_read f at n k h = let z : n - k ≡ 0 = omega arith in rw z
