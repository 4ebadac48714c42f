use Rattle.std.proofs.Common.{sym, subst}
use Rattle.term_store.specs.Apart.{IsApart}
use Rattle.term_store.proofs.Apartness.{apart_none}
use Rattle.term_store.proofs.store.Store.unify.Goals as goal

pub unify_beyond-requires-clause-apart : goal.unify_beyond-requires-clause-apart
unify_beyond-requires-clause-apart c = subst (IsApart c.args.self.now.heap) (sym c.none-none.ensures) (apart_none c.args.self.now.heap)
