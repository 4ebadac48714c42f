use Rattle.std.proofs.Common.{◌≡◌, ◌∷◌, [], ap, subst, sym, ◌∙◌}
use Rattle.pl_term.specs.declared.node.Node.TheVariants.{Atom, Comp}
use Rattle.named_terms.proofs.NamedLaws.{put_last}
use Rattle.named_terms.proofs.node.NumberedNode.behind.Goals as goal

-- The text is that of the node: `c.in-Atom.is`, `c.in-Comp.is` say which node it is.

pub returns-in_ok-place-in-Atom-clause-named : goal.returns-in_ok-place-in-Atom-clause-named
returns-in_ok-place-in-Atom-clause-named c = (put_last c.args.names.now.items c.put_name.new.names.items _ c.in_ok-place-in-Atom.place c.in_ok-place-in-Atom.ensures.place c.in_ok-place-in-Atom.ensures.more).0

pub returns-in_ok-place-in-Atom-clause-node : goal.returns-in_ok-place-in-Atom-clause-node
returns-in_ok-place-in-Atom-clause-node c =
    ap Atom (put_last c.args.names.now.items c.put_name.new.names.items _ c.in_ok-place-in-Atom.place c.in_ok-place-in-Atom.ensures.place c.in_ok-place-in-Atom.ensures.more).1 ∙ sym c.in-Atom.is

pub returns-in_ok-place-in-Atom-clause-more : goal.returns-in_ok-place-in-Atom-clause-more
returns-in_ok-place-in-Atom-clause-more c = (_ ∷ [], c.in_ok-place-in-Atom.ensures.more)

pub returns-in_ok-place-in-Comp-clause-named : goal.returns-in_ok-place-in-Comp-clause-named
returns-in_ok-place-in-Comp-clause-named c = (put_last c.args.names.now.items c.put_name-in-Comp.new.names.items _ c.in_ok-place-in-Comp.place c.in_ok-place-in-Comp.ensures.place c.in_ok-place-in-Comp.ensures.more).0

pub returns-in_ok-place-in-Comp-clause-node : goal.returns-in_ok-place-in-Comp-clause-node
returns-in_ok-place-in-Comp-clause-node c =
    ap (λ t. Comp t c.in-Comp.k) (put_last c.args.names.now.items c.put_name-in-Comp.new.names.items _ c.in_ok-place-in-Comp.place c.in_ok-place-in-Comp.ensures.place c.in_ok-place-in-Comp.ensures.more).1
    ∙ sym c.in-Comp.is

pub returns-in_ok-place-in-Comp-clause-more : goal.returns-in_ok-place-in-Comp-clause-more
returns-in_ok-place-in-Comp-clause-more c = (_ ∷ [], c.in_ok-place-in-Comp.ensures.more)
