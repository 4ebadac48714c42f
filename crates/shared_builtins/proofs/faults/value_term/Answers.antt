use Rattle.std.proofs.Common.{zero, ap₂, ◌∙◌}
use Rattle.pl_term.specs.Tree.{comp, more, none}
use Rattle.term_store.specs.Heap.{atom_name}
use Rattle.builtin_rows.proofs.Balls.{makes_again, makes_one, two_places}
use Rattle.shared_builtins.proofs.Faulting.{value_held, value_reads}
use Rattle.shared_builtins.proofs.faults.value_term.Goals as goal

pub make_compound-requires-clause-places : goal.make_compound-requires-clause-places
make_compound-requires-clause-places c = two_places c.args.store.now c.args.flag c.args.value c.requires.0 c.requires.1

pub make_compound-requires-2-clause-places : goal.make_compound-requires-2-clause-places
make_compound-requires-2-clause-places c =
    let t = c.make_compound.new.self in two_places t c.atom-kind.result c.in_ok-pair.pair (c.atom-kind.ensures t).0 c.in_ok-pair.ensures.made.holds

pub returns-clause-made : goal.returns-clause-made
returns-clause-made c =
    let s = c.args.store.now in
    let t = c.make_compound.new.self in
    let u = c.make_compound-2.new.self in
    let first = c.in_ok-pair.ensures in
    let second = c.in_ok-term.ensures in (
      makes_again zero s t u (makes_one s t _ c.in_ok-pair.pair first.made first.numbers first.adds) (makes_one t u _ c.in_ok-term.term second.made second.numbers second.adds),
      second.made.holds,
    )

pub returns-clause-term : goal.returns-clause-term
returns-clause-term c m stands =
    let t = c.make_compound.new.self in
    value_reads m stands c.args.store.now c.make_compound-2.new.self c.in_ok-term.term c.args.flag c.args.value
    (c.in_ok-term.ensures.made.means ∙ ap₂ (λ a b. comp (atom_name 77) a (more b none)) (c.atom-kind.ensures t).1 c.in_ok-pair.ensures.made.means)

pub returns-clause-held : goal.returns-clause-held
returns-clause-held c m stands held =
    let t = c.make_compound.new.self in
    value_held m stands c.args.store.now c.make_compound-2.new.self c.in_ok-term.term c.args.flag c.args.value
    (c.in_ok-term.ensures.made.means ∙ ap₂ (λ a b. comp (atom_name 77) a (more b none)) (c.atom-kind.ensures t).1 c.in_ok-pair.ensures.made.means) held.0 held.1
