use Rattle.std.proofs.Common.{◌≡◌, ℕ, ◌+◌, ◌<◌, List, [], ◌∷◌, ◌++◌, map, length, get_or, take, drop, set, sym, ap, ◌∙◌, append_assoc, add-one, arith, drop-cons}
use Rattle.std.proofs.lemmas.List.{get_or_read, map_more, set_at, length-map, length-take-le}
use Rattle.walk.proofs.windows.deliver.Goals as goal

filled_more : {X Y : Type 0} (f : X → Y) (ps : List X) (d : X) (out old : List Y) (j : ℕ) (v e : Y) → j < length ps → j < length old → v ≡ f (get_or ps j d) → out ≡ map f (take j ps) ++ drop j old → set out j v ≡ map f (take (j + 1) ps) ++ drop (j + 1) old
filled_more f ps d out old j v e h k q o =
    let l : length (map f (take j ps)) ≡ j = length-map (take j ps) f ∙ length-take-le j ps (omega arith) in
    let c : drop j old ≡ get_or old j e ∷ drop (j + 1) old = rw (add-one, drop-cons old j e) in
    ap (λ x. set x j v) (o ∙ ap (λ x. map f (take j ps) ++ x) c)
    ∙ set_at (map f (take j ps)) (get_or old j e) (drop (j + 1) old) v j l
    ∙ ap (λ x. map f (take j ps) ++ x ∷ drop (j + 1) old) q
    ∙ sym (append_assoc (map f (take j ps)) (f (get_or ps j d) ∷ []) (drop (j + 1) old))
    ∙ ap (λ x. x ++ drop (j + 1) old) (sym (map_more f ps j d h))

pub loop-k-preserved : goal.loop-k-preserved
loop-k-preserved g c =
    let low = g.K.Signal.kind.low in
    let w = c.args.work.now in
    let j = c.loop-k.k in
    let x = c.index-work-outs.result in
    let h : j < length c.args.outs.now = omega arith in
    let r = get_or_read w (get_or c.args.outs.now j 0) x (c.requires.reads j h) c.index-work-outs.is low in
    filled_more (λ p. get_or w p low) c.args.outs.now 0 c.loop-k.outputs c.args.outputs.now j x low h (omega arith) r c.loop-k.invariant
