use Rattle.std.proofs.Common.{◌+◌, ◌<◌, length, get_or, ap, ◌∙◌, arith, rules}
use Rattle.std.proofs.lemmas.List.{get_or_read, length_push}
use Rattle.std.proofs.lemmas.Slice.Zip.{zip_turn}
use Rattle.walk.proofs.Values.{hand_more}
use Rattle.walk.proofs.windows.hand_up.Goals as goal

pub offset_bounds-work-base : goal.offset_bounds-work-base
offset_bounds-work-base g c =
    let t = zip_turn c.args.pins.now c.args.outs.now _ c.into_iter-pin-iterator.result c.loop-pin.pin-iterator c.next.new.self _ (cc) (cc) c.loop-pin.yielded_by _ c.in-Some.is c.next.ensures.steps in
    let h : c.args.base + c.in-Some.out.now < length c.loop-pin.work = omega (arith, t.3 0, c.requires.reads (length c.loop-pin.yielded) t.1) in
    search rules

pub offset_bounds-work-to : goal.offset_bounds-work-to
offset_bounds-work-to g c =
    let t = zip_turn c.args.pins.now c.args.outs.now _ c.into_iter-pin-iterator.result c.loop-pin.pin-iterator c.next.new.self _ (cc) (cc) c.loop-pin.yielded_by _ c.in-Some.is c.next.ensures.steps in
    let h : c.args.to + c.in-Some.pin.now < length c.loop-pin.work = omega (arith, t.2 0, t.3 0, c.requires.apart (length c.loop-pin.yielded) t.0, c.requires.reads (length c.loop-pin.yielded) t.1) in
    search rules

pub loop-pin-preserved : goal.loop-pin-preserved
loop-pin-preserved g c =
    let K = g.K.Signal.kind in
    let ws = c.loop-pin.work in
    let k = length c.loop-pin.yielded in
    let os = c.args.outs.now in
    let is = c.args.pins.now in
    let t = zip_turn is os _ c.into_iter-pin-iterator.result c.loop-pin.pin-iterator c.next.new.self _ (cc) (cc) c.loop-pin.yielded_by _ c.in-Some.is c.next.ensures.steps in
    let r = c.requires.reads k t.1 in
    let i = c.index-work-base.is ∙ ap (λ w. get_or ws (c.args.base + w) c.index-work-base.result) (t.3 0) in
    let v = get_or_read ws (c.args.base + get_or os k 0) c.index-work-base.result (omega arith) i K.low in
    rw (length_push c.loop-pin.yielded (c.in-Some.pin, c.in-Some.out), t.2 0) (hand_more K ws c.args.base c.args.to os is k c.index-work-base.result t.1 t.0 (c.requires.apart k t.0) v ∙ c.loop-pin.invariant)
