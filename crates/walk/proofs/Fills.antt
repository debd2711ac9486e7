-- Cells of which each was made by the same call.
use Rattle.std.proofs.Common.{◌≡◌, ◌∷◌, [], List, length, replicate, refl, ap, ◌∙◌, subst}
use Rattle.std.specs.List.{FoldsTo}

all_made : {F X : Type 0} (R : F → X → F → Type 0) (f : F) (v : X) → ((x : X) (q : F) → R f x q → (x ≡ v) × (q ≡ f)) → (xs : List X) (last : F) → FoldsTo R f xs last → xs ≡ replicate (length xs) v
all_made R f v made [] last h = refl
all_made R f v made (x ∷ xs) last h =
    let one = made x h.0 h.1 in
    ap (λ y. y ∷ xs) one.0 ∙ ap (λ ys. v ∷ ys) (all_made R f v made xs last (subst (λ g. FoldsTo R g xs last) one.1 h.2))

pub all_filled : {F X : Type 0} (R : F → X → F → Type 0) (f : F) (v : X) → ((x : X) (q : F) → R f x q → (x ≡ v) × (q ≡ f)) → (old new : List X) (last : F) → length new ≡ length old → FoldsTo R f new last → new ≡ replicate (length old) v
all_filled R f v made old new last e h = all_made R f v made new last h ∙ ap (λ n. replicate n v) e
