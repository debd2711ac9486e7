use Rattle.std.proofs.Common.{is_some, sym, ap, ◌∙◌, arith, rules}
use Rattle.gates.specs.Gates.{part_of}
use Rattle.walk.proofs.Bytes.{few_occurrences, here, refers, two_bytes}
use Rattle.walk.proofs.reading.Module.occurrence.Goals as goal

pub offset_bounds-records-i : goal.offset_bounds-records-i
offset_bounds-records-i c = let h = few_occurrences c.args.self in search rules

pub bounds-records-i : goal.bounds-records-i
bounds-records-i c = omega (arith, few_occurrences c.args.self, c.requires)

pub bounds-file-at : goal.bounds-file-at
bounds-file-at c = let h = (here c.args.self c.args.i c.requires _ c.records.ensures).within in search rules

pub bounds-file-at-2 : goal.bounds-file-at-2
bounds-file-at-2 c = let h = (here c.args.self c.args.i c.requires _ c.records.ensures).within in search rules

pub bounds-file-at-3 : goal.bounds-file-at-3
bounds-file-at-3 c = let h = (here c.args.self c.args.i c.requires _ c.records.ensures).within in search rules

pub bounds-file-at-4 : goal.bounds-file-at-4
bounds-file-at-4 c = let h = (here c.args.self c.args.i c.requires _ c.records.ensures).within in search rules

pub slice_bounds-result-end : goal.slice_bounds-result-end
slice_bounds-result-end c = let h = (here c.args.self c.args.i c.requires _ c.records.ensures).within in search rules

pub slice_bounds-result-end-2 : goal.slice_bounds-result-end-2
slice_bounds-result-end-2 c = let h = (here c.args.self c.args.i c.requires _ c.records.ensures).within in search rules

pub unwrap-part-requires : goal.unwrap-part-requires
unwrap-part-requires c =
    let l = here c.args.self c.args.i c.requires _ c.records.ensures in
    let n = c.from_le_bytes-reference.ensures ∙ two_bytes _ _ in
    ap is_some (c.of_reference.ensures ∙ ap part_of n ∙ l.part_is) ∙ refers c.args.self c.args.i c.requires

pub returns : goal.returns
returns c =
    let l = here c.args.self c.args.i c.requires _ c.records.ensures in
    let n = c.from_le_bytes-reference.ensures ∙ two_bytes _ _ in
    record { part = sym l.part_is ∙ sym (ap part_of n) ∙ sym c.of_reference.ensures ∙ c.unwrap-part.ensures; ins = l.ins_are; outs = l.outs_are }
