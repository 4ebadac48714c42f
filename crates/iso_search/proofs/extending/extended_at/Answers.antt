use Rattle.std.proofs.Common.{◌≡◌, ◌<◌, ◌++◌, length, map, drop, subst, ap, ◌∙◌, refl, arith}
use Rattle.pl_term.specs.Tree.{compound}
use Rattle.term_store.specs.Heap.{atom_name}
use Rattle.term_store.specs.Contents.{arguments_at, term_at}
use Rattle.iso_search.specs.Spelling.{text_of}
use Rattle.iso_search.proofs.Constructing.{how_many}
use Rattle.iso_search.proofs.Enlarging.{alone, alone_compound, atom_extended, callable_at, callable_compound, compound_extended, itself_at, more_than_one}
use Rattle.iso_search.proofs.extending.extended_at.Goals as goal

pub returns-then-len-eq1-2-clause-extended : goal.returns-then-len-eq1-2-clause-extended
returns-then-len-eq1-2-clause-extended c v =
    let s = c.args.store.now in
    let own = c.in-Compound.own in
    let f = atom_name c.in-Compound.name in
    let xs = arguments_at s own in
    let at = c.in-Compound.ensures.0 in
    let full : 0 < length xs = omega (arith, how_many s own c.in-Compound.ensures.1.0, c.in-Compound.ensures.1.1) in
    let one : c.args.call.count ≡ 1 = omega (arith, c.len-in-Compound.ensures, c.if-len-eq1-2.true) in
    alone v s c.args.goal c.args.call (record { goal = c.args.goal; cells = 0 }) c.requires.call one refl refl
    (callable_at v s c.args.goal (compound f xs) at (callable_compound (text_of v.names) f xs full))
    (itself_at v s c.args.goal (compound f xs) at (alone_compound (text_of v.names) f xs full))

pub returns-in_ok-extended-in-Atom-clause-extended : goal.returns-in_ok-extended-in-Atom-clause-extended
returns-in_ok-extended-in-Atom-clause-extended c v =
    let s = c.args.store.now in
    let call = c.args.call in
    let several =
    subst (λ n. 1 < n) c.len.ensures (more_than_one c.len.result (omega (arith, c.len.ensures, c.requires.some)) c.if-len-eq1.false) in
    atom_extended v s c.extend.new.store c.args.goal call c.in_ok-extended-in-Atom.extended c.in-Atom.name
    (map (term_at s) c.new-places.result.items ++ drop 1 (arguments_at s call)) c.requires.call several c.in-Atom.ensures
    (ap (λ l. map (term_at s) l ++ drop 1 (arguments_at s call)) c.new-places.ensures.items) c.in_ok-extended-in-Atom.ensures.made

pub returns-in_ok-extended-in-Compound-clause-extended : goal.returns-in_ok-extended-in-Compound-clause-extended
returns-in_ok-extended-in-Compound-clause-extended c v =
    let s = c.args.store.now in
    let call = c.args.call in
    let own = c.in-Compound.own in
    let several =
    subst (λ n. 1 < n) c.len-in-Compound.ensures
    (more_than_one c.len-in-Compound.result (omega (arith, c.len-in-Compound.ensures, c.requires.some)) c.if-len-eq1-2.false) in
    compound_extended v s c.extend-in-Compound.new.store c.args.goal own call c.in_ok-extended-in-Compound.extended c.in-Compound.name
    (map (term_at s) c.push_arguments.new.places.items ++ drop 1 (arguments_at s call)) c.in-Compound.ensures.1.0 c.in-Compound.ensures.1.1 c.requires.call several
    c.in-Compound.ensures.0
    (ap (λ l. l ++ drop 1 (arguments_at s call))
    (c.in_ok-push_arguments-in-Compound.ensures.pushed ∙ ap (λ l. map (term_at s) l ++ drop 0 (arguments_at s own)) c.new-places-in-Compound.ensures.items))
    c.in_ok-extended-in-Compound.ensures.made
