use Rattle.std.proofs.Common.{◌<◌, ap, sym, subst, ◌∙◌}
use Rattle.std.specs.Prelude.{All}
use Rattle.pl_model.specs.laws.Shown.{proc_of}
use Rattle.clause_db.specs.Index.{Indexed}
use Rattle.clause_db.specs.Located.{Locates}
use Rattle.clause_db.specs.Parts.{piece, added_to}
use Rattle.clause_db.proofs.Added.{on_ok}
use Rattle.clause_db.proofs.Indexing.{names_set}
use Rattle.clause_db.proofs.Pieces.{test, all_found, with_found, with_missed}
use Rattle.clause_db.proofs.Searched.{located_item, located_within}
use Rattle.clause_db.proofs.parts.add_to.Goals as goal

pub add_in-requires-clause-later : goal.add_in-requires-clause-later
add_in-requires-clause-later g c =
    let p = proc_of c.args.p.now in
    let at = subst (Locates (test p) c.args.parts.now.items) c.in-Some.is c.requires.located in
    subst (λ x. All (λ d. d.place < c.args.by.place) x.clauses) (sym (c.index_mut.ensures.value ∙ located_item (test p) c.args.parts.now.items c.in-Some.i _ at))
    (all_found p (λ x. All (λ d. d.place < c.args.by.place) x.clauses) c.args.parts.now.items c.in-Some.i at c.requires.later)

pub returns-in-Some-clause-ok : goal.returns-in-Some-clause-ok
returns-in-Some-clause-ok g c =
    let p = proc_of c.args.p.now in
    let at = subst (Locates (test p) c.args.parts.now.items) c.in-Some.is c.requires.located in
    on_ok c.add_in.result _ _
    (λ e. with_found c.args.by c.args.p.now c.args.clause c.args.parts.now.items c.in-Some.i c.add_in.new.part at
    (e ∙ ap (λ x. added_to c.args.by c.args.clause (piece x)) (c.index_mut.ensures.value ∙ located_item (test p) c.args.parts.now.items c.in-Some.i _ at)))
    c.add_in.ensures.ok

pub returns-in-Some-clause-indexed : goal.returns-in-Some-clause-indexed
returns-in-Some-clause-indexed g c =
    let p = proc_of c.args.p.now in
    let at = subst (Locates (test p) c.args.parts.now.items) c.in-Some.is c.requires.located in
    subst (Indexed c.args.index.now)
    (sym (names_set c.args.parts.now.items c.in-Some.i c.add_in.new.part _ (located_within (test p) c.args.parts.now.items c.in-Some.i at) (c.add_in.ensures.name ∙ ap (λ x. x.name) c.index_mut.ensures.value)))
    c.requires.indexed

pub returns-in-None-clause-ok : goal.returns-in-None-clause-ok
returns-in-None-clause-ok g c =
    let p = proc_of c.args.p.now in
    let missed = subst (Locates (test p) c.args.parts.now.items) c.in-None.is c.requires.located in
    on_ok c.add_new.result _ _ (λ e. e ∙ with_missed c.args.by c.args.p.now c.args.clause c.args.parts.now.items missed) c.add_new.ensures.ok
