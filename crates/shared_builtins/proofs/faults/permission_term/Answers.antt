use Rattle.std.proofs.Common.{ap₂, ◌∙◌}
use Rattle.pl_term.specs.Tree.{comp, more, none}
use Rattle.term_store.specs.Contents.{term_at}
use Rattle.term_store.specs.Heap.{atom_name}
use Rattle.builtin_rows.proofs.Balls.{makes_one}
use Rattle.shared_builtins.proofs.Faulting.{permission_held, permission_reads, three_places}
use Rattle.shared_builtins.proofs.faults.permission_term.Goals as goal

pub make_compound-requires-clause-places : goal.make_compound-requires-clause-places
make_compound-requires-clause-places c =
    let s = c.args.store.now in
    three_places s c.atom-done.result c.atom-thing.result c.args.culprit (c.atom-done.ensures s).0 (c.atom-thing.ensures s).0 c.requires.1.1

pub returns-clause-made : goal.returns-clause-made
returns-clause-made c =
    let made = c.in_ok-term.ensures in (makes_one c.args.store.now c.make_compound.new.self _ c.in_ok-term.term made.made made.numbers made.adds, made.made.holds)

pub returns-clause-term : goal.returns-clause-term
returns-clause-term c m stands =
    let s = c.args.store.now in
    permission_reads m stands s c.make_compound.new.self c.in_ok-term.term c.args.action c.args.kind c.args.culprit c.requires.0 c.requires.1.0
    (c.in_ok-term.ensures.made.means ∙ ap₂ (λ a b. comp (atom_name 142) a (more b (more (term_at s c.args.culprit) none))) (c.atom-done.ensures s).1 (c.atom-thing.ensures s).1)

pub returns-clause-held : goal.returns-clause-held
returns-clause-held c m stands held =
    let s = c.args.store.now in
    permission_held m stands s c.make_compound.new.self c.in_ok-term.term c.args.action c.args.kind c.args.culprit c.requires.0 c.requires.1.0
    (c.in_ok-term.ensures.made.means ∙ ap₂ (λ a b. comp (atom_name 142) a (more b (more (term_at s c.args.culprit) none))) (c.atom-done.ensures s).1 (c.atom-thing.ensures s).1) held
