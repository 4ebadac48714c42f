use Rattle.std.proofs.Common.{◌≡◌, None, find, min, refl, ap, sym, subst, ◌∙◌}
use Rattle.pl_model.specs.laws.Shown.{proc_of}
use Rattle.clause_db.specs.Located.{IsAt}
use Rattle.clause_db.specs.Parts.{piece}
use Rattle.clause_db.specs.Abolished.{closed, live_cells}
use Rattle.clause_db.proofs.Changing.{changed_found, changed_missed}
use Rattle.clause_db.proofs.Closing.{same_found, on_err}
use Rattle.clause_db.proofs.Erasing.{if_ok}
use Rattle.clause_db.proofs.Pieces.{test, clauses_found, clauses_missed}
use Rattle.clause_db.proofs.Searched.{located_item}
use Rattle.clause_db.proofs.abolish.close_in.Goals as goal

pub returns-in-Some-clause-cells : goal.returns-in-Some-clause-cells
returns-in-Some-clause-cells g c =
    let p = proc_of c.args.p.now in
    let at = subst (λ l. IsAt (test p) l c.in-Some.i) c.as_slice.ensures.value c.in-Some.ensures in
    if_ok c.close.result _ _
    (λ n e. e
    ∙ ap (λ ds. min (live_cells g.C.Kept.size ds) 18446744073709551615)
    (ap (λ x. x.clauses) (c.index_mut.ensures.value ∙ located_item (test p) c.args.parts.now.items c.in-Some.i _ at)
    ∙ sym (clauses_found p c.args.parts.now.items c.in-Some.i at)))
    c.close.ensures.cells

pub returns-in-Some-clause-ok : goal.returns-in-Some-clause-ok
returns-in-Some-clause-ok g c =
    let p = proc_of c.args.p.now in
    let at = subst (λ l. IsAt (test p) l c.in-Some.i) c.as_slice.ensures.value c.in-Some.ensures in
    if_ok c.close.result _ _
    (λ n e. changed_found (closed c.args.place) (λ x. refl) p c.args.parts.now.items c.in-Some.i c.close.new.part at
    (e ∙ ap (λ x. closed c.args.place (piece x)) (c.index_mut.ensures.value ∙ located_item (test p) c.args.parts.now.items c.in-Some.i _ at)))
    c.close.ensures.ok

pub returns-in-Some-clause-err : goal.returns-in-Some-clause-err
returns-in-Some-clause-err g c =
    let p = proc_of c.args.p.now in
    let at = subst (λ l. IsAt (test p) l c.in-Some.i) c.as_slice.ensures.value c.in-Some.ensures in
    on_err c.close.result _ _
    (λ e. same_found p c.args.parts.now.items c.in-Some.i c.close.new.part at
    (e ∙ ap piece (c.index_mut.ensures.value ∙ located_item (test p) c.args.parts.now.items c.in-Some.i _ at)))
    c.close.ensures.err

pub returns-in-None-clause-cells : goal.returns-in-None-clause-cells
returns-in-None-clause-cells g c =
    let p = proc_of c.args.p.now in
    let missed = subst (λ l. find (test p) l ≡ None) c.as_slice.ensures.value c.in-None.ensures in
    sym (ap (λ ds. min (live_cells g.C.Kept.size ds) 18446744073709551615) (clauses_missed p c.args.parts.now.items missed))

pub returns-in-None-clause-ok : goal.returns-in-None-clause-ok
returns-in-None-clause-ok g c =
    let p = proc_of c.args.p.now in
    let missed = subst (λ l. find (test p) l ≡ None) c.as_slice.ensures.value c.in-None.ensures in
    changed_missed (closed c.args.place) (λ x. refl) p c.args.parts.now.items missed
