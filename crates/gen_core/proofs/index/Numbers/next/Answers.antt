use Rattle.gen_core.proofs.index.Numbers.next.Goals as goal

pub returns : goal.returns
returns c = c.earlier.ensures _ _ c.args.from c.one_from.ensures c.next_in.ensures
