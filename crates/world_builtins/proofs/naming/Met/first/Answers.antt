use Rattle.std.proofs.Common.{◌≡◌, IsSome, of_z, to_z, w64, sym, subst, ap, ◌∙◌, arith, rules}
use Rattle.std.proofs.lemmas.Int.{to_z-of_z}
use Rattle.pl_term.specs.declared.node.Node.TheVariants.{Int}
use Rattle.term_store.specs.Contents.{arguments_at}
use Rattle.term_store.specs.Heap.{atom_name}
use Rattle.named_terms.specs.NamedNodes.{text_by}
use Rattle.world_builtins.specs.Following.{IsFirst}
use Rattle.world_builtins.specs.Spelling.{text_of}
use Rattle.world_builtins.proofs.Followed.{atom_at_held, atom_first, compound_at_held, compound_first, how_many_at, integer_first, variable_first}
use Rattle.world_builtins.proofs.naming.Met.first.Goals as goal

pub returns-in-Variable-clause-first : goal.returns-in-Variable-clause-first
returns-in-Variable-clause-first g c =
    variable_first (g.A.Atoms.held c.args.atoms.now) c.args.store.now c.args.place c.args.places.now.items c.in-Variable.x c.in-Variable.ensures

pub returns-in-Integer-clause-first : goal.returns-in-Integer-clause-first
returns-in-Integer-clause-first g c =
    let m = g.A.Atoms.held c.args.atoms.now in
    let s = c.args.store.now in
    let ps = c.args.places.now.items in
    let same : to_z w64 (of_z w64 c.in-Integer.i) ≡ c.in-Integer.i = search (rules, to_z-of_z) in
    subst (λ j. IsFirst m s c.args.place ps (Int j) ps) (sym same) (integer_first m s c.args.place ps c.in-Integer.i c.in-Integer.ensures)

pub place-requires-clause-held : goal.place-requires-clause-held
place-requires-clause-held g c =
    let m = g.A.Atoms.held c.args.atoms.now in
    subst (λ k. IsSome (m k)) (sym c.slot.ensures) (atom_at_held m c.args.store.now c.args.place c.in-Atom.a c.in-Atom.ensures c.requires.held)

pub returns-in_ok-at-in-Atom-clause-first : goal.returns-in_ok-at-in-Atom-clause-first
returns-in_ok-at-in-Atom-clause-first g c =
    let m = g.A.Atoms.held c.args.atoms.now in
    atom_first m c.args.store.now c.args.place c.args.places.now.items c.in-Atom.a (text_by c.place.new.self.names.items c.in_ok-at-in-Atom.at) c.in-Atom.ensures
    (c.in_ok-at-in-Atom.ensures.place.1 ∙ ap (λ k. text_of m (atom_name k)) c.slot.ensures)

pub place-requires-in-Compound-clause-held : goal.place-requires-in-Compound-clause-held
place-requires-in-Compound-clause-held g c =
    let m = g.A.Atoms.held c.args.atoms.now in
    let s = c.args.store.now in
    let a = c.in-Compound.arguments in
    let e = c.in-Compound.ensures in
    let parts = compound_at_held m s c.args.place c.in-Compound.f (arguments_at s a) e.0 (omega (arith, how_many_at s a e.1.0, e.1.1)) c.requires.held in
    subst (λ k. IsSome (m k)) (sym c.slot-in-Compound.ensures) parts.0

pub returns-in_ok-push_arguments-in-Compound-clause-first : goal.returns-in_ok-push_arguments-in-Compound-clause-first
returns-in_ok-push_arguments-in-Compound-clause-first g c =
    let m = g.A.Atoms.held c.args.atoms.now in
    let s = c.args.store.now in
    let a = c.in-Compound.arguments in
    let e = c.in-Compound.ensures in
    let long = how_many_at s a e.1.0 in
    let text = c.in_ok-at-in-Compound.ensures.place.1 ∙ ap (λ k. text_of m (atom_name k)) c.slot-in-Compound.ensures in
    compound_first m s c.args.place c.args.places.now.items c.in-Compound.f
    (text_by c.place-in-Compound.new.self.names.items c.in_ok-at-in-Compound.at) _ (arguments_at s a)
    c.push_arguments.new.places.items e.0 text (omega (arith, long, c.len.ensures)) (omega (arith, long, e.1.1)) c.in_ok-push_arguments-in-Compound.ensures

pub returns-in_ok-push_arguments-in-Compound-clause-others : goal.returns-in_ok-push_arguments-in-Compound-clause-others
returns-in_ok-push_arguments-in-Compound-clause-others g c =
    let m = g.A.Atoms.held c.args.atoms.now in
    let s = c.args.store.now in
    let a = c.in-Compound.arguments in
    let e = c.in-Compound.ensures in
    let parts = compound_at_held m s c.args.place c.in-Compound.f (arguments_at s a) e.0 (omega (arith, how_many_at s a e.1.0, e.1.1)) c.requires.held in
    let put = c.in_ok-push_arguments-in-Compound.ensures in
    record { inside = put.inside c.requires.others.inside; held = put.held m parts.1 c.requires.others.held }
