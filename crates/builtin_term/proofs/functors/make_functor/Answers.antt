use Rattle.std.proofs.Common.{◌+◌, ◌*◌, codes, length, map, refl, ap, ◌∙◌, arith}
use Rattle.pl_model.specs.BuiltinRows.{Answer}
use Rattle.pl_model.specs.History.{proc}
use Rattle.pl_model.specs.Terms.{named_term}
use Rattle.pl_model.specs.TermBuiltins.{new_variables, three}
use Rattle.pl_term.specs.Tree.{compound}
use Rattle.term_store.specs.Heap.{atom_name}
use Rattle.term_store.specs.Contents.{term_at}
use Rattle.world_builtins.specs.Spelling.{reads, text_of}
use Rattle.builtin_rows.proofs.Balls.{makes_one}
use Rattle.builtin_term.proofs.PartAnswers.{makes_room, none_of, refused_given, some_of}
use Rattle.builtin_term.proofs.FunctorRows.{functor_made}
use Rattle.builtin_term.proofs.Making.{fresh_count, makes_after, makes_then}
use Rattle.builtin_term.proofs.FixedNames.{functor_is}
use Rattle.builtin_term.proofs.functors.make_functor.Goals as goal

pub make_compound-requires-clause-full : goal.make_compound-requires-clause-full
make_compound-requires-clause-full c =
    omega (
      arith,
      c.requires.some,
      ap length c.deref.ensures.value,
      fresh_count c.take_room.new.store c.make_variables.new.store c.args.next c.args.count c.in_ok-arguments-in-None.arguments.items c.in_ok-arguments-in-None.ensures.fresh,
    )

pub returns-in-Some-clause-row : goal.returns-in-Some-clause-row
returns-in-Some-clause-row c m stands name arity =
    let s = c.args.store.now in
    let k = c.args.count in
    let a : Answer =
    record {
      terms = three (named_term (text_of m (atom_name c.args.f)) (new_variables c.args.next k)) (reads m s c.args.name) (reads m s c.args.arity);
      fresh = k;
      made = 2 * k + 1;
    } in
    refused_given s c.args.next (proc (codes "functor") 3) m c.take_room.new.store a c.in-Some.row
    (λ ts. some_of _ c.in_ok-refused.refused c.in-Some.row c.in-Some.is c.in_ok-refused.ensures.refused m (codes "functor") ts a stands functor_is refl refl)

pub returns-in_ok-term-in-None-clause-row : goal.returns-in_ok-term-in-None-clause-row
returns-in_ok-term-in-None-clause-row c m stands name arity =
    let s = c.args.store.now in
    let t = c.take_room.new.store in
    let u = c.make_variables.new.store in
    let w = c.make_compound.new.self in
    let k = c.args.count in
    let next = c.args.next in
    let f = atom_name c.args.f in
    let term = c.in_ok-term-in-None.term in
    let made = c.in_ok-term-in-None.ensures in
    let fresh = c.in_ok-arguments-in-None.ensures.fresh in
    let vs = c.deref.result.now in
    let same = none_of _ c.in_ok-refused.refused c.in-None.is c.in_ok-refused.ensures.taken in
    functor_made m s w next c.args.f k term c.args.name c.args.arity
    (makes_then s u w next k (2 * k + 1) (makes_after s t u next k (2 * k + 1) (makes_room s t next (2 * k + 1) same) fresh.makes)
    (makes_one u w (compound f (map (term_at u) vs)) term made.made made.numbers made.adds))
    made.made.holds (made.made.means ∙ ap (λ ps. compound f (map (term_at u) ps)) c.deref.ensures.value ∙ ap (compound f) fresh.stand)
    c.requires.name c.requires.stands c.requires.arity name arity
    (none_of _ c.in_ok-refused.refused c.in-None.is c.in_ok-refused.ensures.numbers) (none_of _ c.in_ok-refused.refused c.in-None.is c.in_ok-refused.ensures.cells)
