use Rattle.std.proofs.Common.{◌++◌, ◌+◌, length, map, drop, ap, ◌∙◌, arith}
use Rattle.pl_term.specs.Tree.{compound}
use Rattle.term_store.specs.Heap.{atom_name}
use Rattle.term_store.specs.Contents.{arguments_at, term_at}
use Rattle.iso_search.proofs.Converting.{grows_made}
use Rattle.iso_search.proofs.Enlarging.{made_of}
use Rattle.iso_search.proofs.extending.extend.Goals as goal

pub returns-clause-grows : goal.returns-clause-grows
returns-clause-grows c =
    let s = c.args.store.now in
    let made = c.in_ok-goal.ensures in
    grows_made s c.make_compound.new.self (compound (atom_name c.args.name) (map (term_at s) c.deref.result.now)) c.in_ok-goal.goal made.made made.numbers made.adds

pub returns-clause-made : goal.returns-clause-made
returns-clause-made c =
    let s = c.args.store.now in
    let v = c.push_arguments.new.places in
    let ps = c.deref.result.now in
    made_of s c.make_compound.new.self c.args.name ps (map (term_at s) c.args.places.items ++ drop 1 (arguments_at s c.args.call))
    (record { goal = c.in_ok-goal.goal; cells = c.len.result + 1 }) c.in_ok-goal.ensures.made
    (ap (map (term_at s)) c.deref.ensures.value ∙ c.in_ok-push_arguments.ensures.pushed)
    (omega (arith, c.len.ensures, v.ok.0, ap length c.deref.ensures.value))
