use Rattle.std.proofs.Common.{[], OnOk, refl, sym, subst}
use Rattle.term_store.specs.Cells.{heap_of}
use Rattle.term_store.specs.Entering.{IsKnown, Meets}
use Rattle.term_store.specs.Making.{Longer}
use Rattle.term_store.proofs.Knowing.{longer_same}
use Rattle.term_store.proofs.known.make_others.Goals as goal

pub returns-then-len-count-clause-longer : goal.returns-then-len-count-clause-longer
returns-then-len-count-clause-longer c = let h = heap_of c.args.cells.now in longer_same h h refl

pub make_known-requires-clause-known : goal.make_known-requires-clause-known
make_known-requires-clause-known c =
    subst (λ h. IsKnown h c.args.from c.args.known.now.items) (sym c.move_frontier.ensures.kept) c.requires.known

pub returns-clause-longer : goal.returns-clause-longer
returns-clause-longer c = subst (λ h. Longer h (heap_of c.make_known.new.cells)) c.move_frontier.ensures.kept c.make_known.ensures.longer

pub returns-clause-meets : goal.returns-clause-meets
returns-clause-meets c =
    subst
    (λ h. OnOk c.make_known.result (Meets h c.args.from c.args.known.now.items [] (heap_of c.make_known.new.cells) c.make_known.new.known.items))
    c.move_frontier.ensures.kept c.make_known.ensures.meets
