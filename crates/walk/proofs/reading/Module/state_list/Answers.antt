use Rattle.std.proofs.Common.{rules}
use Rattle.walk.proofs.Bytes.{lists}
use Rattle.walk.proofs.reading.Module.state_list.Goals as goal

pub overflow_add-start : goal.overflow_add-start
overflow_add-start c = let h = (lists c.args.self _ c.records-records.ensures).small in search rules

pub overflow_add-start-2 : goal.overflow_add-start-2
overflow_add-start-2 c = let h = (lists c.args.self _ c.records-records.ensures).small in search rules

pub overflow_add-end : goal.overflow_add-end
overflow_add-end c = let h = (lists c.args.self _ c.records-records.ensures).small in search rules

pub slice_bounds-result-end : goal.slice_bounds-result-end
slice_bounds-result-end c = let h = (lists c.args.self _ c.records-records.ensures).within in search rules

pub returns : goal.returns
returns c = (lists c.args.self _ c.records-records.ensures).states_are
