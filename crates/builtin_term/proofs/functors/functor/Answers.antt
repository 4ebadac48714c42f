use Rattle.std.proofs.Common.{◌<◌, length, pos, codes, sym, ap, subst, ◌∙◌, arith}
use Rattle.std.proofs.Common.{SFits, w64}
use Rattle.std.proofs.lemmas.Int.{to_z-of_z}
use Rattle.pl_term.specs.Tree.{int}
use Rattle.pl_model.specs.History.{proc}
use Rattle.pl_model.specs.TermBuiltins.{functor_of}
use Rattle.term_store.specs.Contents.{arguments_at}
use Rattle.world_builtins.specs.Spelling.{reads, spelled, text_of}
use Rattle.builtin_term.specs.Giving.{IsGiven}
use Rattle.builtin_term.proofs.PartAnswers.{ok_weaker}
use Rattle.builtin_term.proofs.Compounds.{how_many}
use Rattle.builtin_term.proofs.FunctorRows.{compound_taken, taken_held}
use Rattle.builtin_term.proofs.functors.functor.Goals as goal

pub returns-in-Variable-clause-row : goal.returns-in-Variable-clause-row
returns-in-Variable-clause-row c =
    let s = c.args.store.now in
    let p = proc (codes "functor") 3 in
    ok_weaker _ _ c.construct.result c.construct.ensures.row
    (λ r h m stands term name arity.
    subst (λ u. IsGiven s c.args.next p (functor_of c.args.next (spelled (text_of m) u) (reads m s c.args.name) (reads m s c.args.arity)) m c.construct.new.store r)
    (sym c.in-Variable.ensures) (h m c.in-Variable.field-0 stands name arity))

pub returns-in-Ok-clause-row : goal.returns-in-Ok-clause-row
returns-in-Ok-clause-row c =
    let s = c.args.store.now in
    let p = proc (codes "functor") 3 in
    let a = c.in-Compound.arguments in
    let ts = arguments_at s a in
    let long = how_many s a c.in-Compound.ensures.1.0 in
    let x = c.atom.result in
    let y = c.integer-in-Compound.result in
    let count = c.in-Ok.count in
    let fits : SFits w64 count = subst (SFits w64) (sym c.in-Ok.ensures.1) c.in-Ok.ensures.0 in
    let e = (c.integer-in-Compound.ensures s).1 ∙ ap int (to_z-of_z w64 count fits) in
    let some : 0 < length ts = omega (arith, long, c.in-Compound.ensures.1.1) in
    let t = c.answer_functor-in-Compound.new.store in
    ok_weaker _ _ c.answer_functor-in-Compound.result c.answer_functor-in-Compound.ensures.row
    (λ r h m stands term name arity.
    let held = taken_held m s c.args.next c.in-Compound.f ts c.args.term x y count some c.in-Compound.ensures.0 (c.atom.ensures s).1 e term in
    subst (λ d. IsGiven s c.args.next p d m t r)
    (compound_taken m s c.args.next c.in-Compound.f ts c.args.term x y count some c.in-Compound.ensures.0 (c.atom.ensures s).1 e
    (reads m s c.args.name) (reads m s c.args.arity) (c.in-Ok.ensures.1 ∙ ap pos (c.len.ensures ∙ sym long)))
    (h m stands term held.0 held.1))
