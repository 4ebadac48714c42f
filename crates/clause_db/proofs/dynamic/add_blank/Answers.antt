use Rattle.std.proofs.Common.{◌≡◌, None, find, subst, ◌∙◌}
use Rattle.pl_model.specs.laws.Shown.{proc_of}
use Rattle.clause_db.specs.Located.{IsAt}
use Rattle.clause_db.proofs.Added.{on_ok}
use Rattle.clause_db.proofs.MadeDynamic.{blank_found, blank_missed}
use Rattle.clause_db.proofs.Pieces.{test}
use Rattle.clause_db.proofs.dynamic.add_blank.Goals as goal

pub returns-in-Some-clause-ok : goal.returns-in-Some-clause-ok
returns-in-Some-clause-ok g c =
    let p = proc_of c.args.p.now in
    let at = subst (λ l. IsAt (test p) l c.in-Some.field-0) c.as_slice.ensures.value c.in-Some.ensures in
    blank_found c.args.p.now c.args.parts.now.items c.in-Some.field-0 at

pub returns-in-None-clause-ok : goal.returns-in-None-clause-ok
returns-in-None-clause-ok g c =
    let p = proc_of c.args.p.now in
    let missed = subst (λ l. find (test p) l ≡ None) c.as_slice.ensures.value c.in-None.ensures in
    on_ok c.push_blank.result _ _ (λ e. e ∙ blank_missed c.args.p.now c.args.parts.now.items missed) c.push_blank.ensures.ok
