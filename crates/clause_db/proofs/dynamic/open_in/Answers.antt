use Rattle.std.proofs.Common.{◌≡◌, None, find, refl, ap, subst, ◌∙◌}
use Rattle.pl_model.specs.laws.Shown.{proc_of}
use Rattle.clause_db.specs.declared.access.Access.TheVariants.{Dynamic}
use Rattle.clause_db.specs.Located.{IsAt}
use Rattle.clause_db.specs.Parts.{piece, opened}
use Rattle.clause_db.proofs.Changing.{changed_found, changed_missed}
use Rattle.clause_db.proofs.Pieces.{test}
use Rattle.clause_db.proofs.Searched.{located_item}
use Rattle.clause_db.proofs.dynamic.open_in.Goals as goal

pub returns-in-Some : goal.returns-in-Some
returns-in-Some g c =
    let p = proc_of c.args.p.now in
    let at = subst (λ l. IsAt (test p) l c.in-Some.i) c.as_slice.ensures.value c.in-Some.ensures in
    changed_found (opened c.args.place Dynamic) (λ x. refl) p c.args.parts.now.items c.in-Some.i c.make.new.part at
    (c.make.ensures ∙ ap (λ x. opened c.args.place Dynamic (piece x)) (c.index_mut.ensures.value ∙ located_item (test p) c.args.parts.now.items c.in-Some.i _ at))

pub returns-in-None : goal.returns-in-None
returns-in-None g c =
    let p = proc_of c.args.p.now in
    let missed = subst (λ l. find (test p) l ≡ None) c.as_slice.ensures.value c.in-None.ensures in
    changed_missed (opened c.args.place Dynamic) (λ x. refl) p c.args.parts.now.items missed
