use Rattle.std.proofs.Common.{refl, ap, ◌∙◌, arith}
use Rattle.pl_term.specs.Tree.{more, none}
use Rattle.pl_model.specs.AtomBuiltins.{five}
use Rattle.world_builtins.specs.Spelling.{reads}
use Rattle.builtin_rows.specs.declared.predicates.Pred.TheVariants.{One, SubAtom}
use Rattle.builtin_rows.specs.Predicates.{arity_of}
use Rattle.builtin_rows.specs.Dispatching.{Dispatches}
use Rattle.builtin_rows.proofs.Answering.{settles}
use Rattle.iso_engine.specs.Dispatching.{terms_of}
use Rattle.iso_engine.proofs.DispatchedPlaces.{terms_five, terms_one}
use Rattle.iso_engine.proofs.TableRows.{as_same}
use Rattle.iso_engine.proofs.dispatch.dispatch.Goals as goal

pub returns-in-One : goal.returns-in-One
returns-in-One g c =
    let s = c.args.store.now in
    let m = g.A.Atoms.held c.args.atoms.now in
    let a = c.args.arguments in
    let next = c.args.next in
    let term = c.argument-term.result in
    let result = c.row_of_one.result in
    let t = c.row_of_one.new.store in
    let refused = g.A.Atoms.refusals c.args.atoms.now in
    let asked = g.A.Atoms.asked c.args.atoms.now in
    as_same (λ p ts. Dispatches s next p ts m m refused refused asked asked t result) c.args.pred (One c.in-One.test) (terms_of m s a) (more (reads m s term) none)
    c.in-One.is (terms_one m s a c.requires.inside term (c.requires.count ∙ ap arity_of c.in-One.is) c.argument-term.ensures.stands)
    (settles s t (One c.in-One.test) (more (reads m s term) none) next m m refused refused asked asked result refl refl refl
    (c.row_of_one.ensures.does m next (omega arith)) c.row_of_one.ensures.refuses)

pub returns-in-SubAtom : goal.returns-in-SubAtom
returns-in-SubAtom g c =
    let s = c.args.store.now in
    let m = g.A.Atoms.held c.args.atoms.now in
    let a = c.args.arguments in
    let row = c.row_of_five in
    let first = c.argument-first-in-SubAtom in
    let second = c.argument-second-in-SubAtom in
    let third = c.argument-third-in-SubAtom in
    let fourth = c.argument-fourth in
    let fifth = c.argument-fifth in
    as_same (λ p ts. Dispatches s c.args.next p ts m (g.A.Atoms.held row.new.atoms) (g.A.Atoms.refusals c.args.atoms.now) (g.A.Atoms.refusals row.new.atoms)
    (g.A.Atoms.asked c.args.atoms.now) (g.A.Atoms.asked row.new.atoms) row.new.store row.result) c.args.pred SubAtom (terms_of m s a)
    (five (reads m s first.result) (reads m s second.result) (reads m s third.result) (reads m s fourth.result) (reads m s fifth.result)) c.in-SubAtom.is
    (terms_five m s a c.requires.inside first.result second.result third.result fourth.result fifth.result (c.requires.count ∙ ap arity_of c.in-SubAtom.is)
    first.ensures.stands second.ensures.stands third.ensures.stands fourth.ensures.stands fifth.ensures.stands)
    (row.ensures c.args.next (omega arith))
