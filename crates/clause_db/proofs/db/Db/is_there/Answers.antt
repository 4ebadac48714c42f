use Rattle.std.proofs.Common.{◌≡◌, None, find, ap, sym, subst, ◌∙◌}
use Rattle.std.specs.Prelude.{is_some}
use Rattle.pl_model.specs.laws.Shown.{proc_of}
use Rattle.clause_db.specs.Located.{IsAt}
use Rattle.clause_db.specs.Parts.{piece, piece_access, access_at}
use Rattle.clause_db.proofs.Pieces.{test, access_found, access_missed}
use Rattle.clause_db.proofs.Searched.{located_item}
use Rattle.clause_db.proofs.db.Db.is_there.Goals as goal

pub returns-in-Some : goal.returns-in-Some
returns-in-Some g c =
    let p = proc_of c.args.p.now in
    let at = subst (λ l. IsAt (test p) l c.in-Some.i) c.as_slice.ensures.value c.in-Some.ensures in
    c.is_some.ensures
    ∙ ap is_some
    (c.access_in.ensures
    ∙ ap (λ x. piece_access c.args.g (piece x)) (c.index.ensures ∙ located_item (test p) c.self.inside.parts.items c.in-Some.i _ at)
    ∙ sym (access_found p c.args.g c.self.inside.parts.items c.in-Some.i at)
    ∙ ap (λ h. access_at c.args.g h.parts p) c.self.view_is)

pub returns-in-None : goal.returns-in-None
returns-in-None g c =
    let p = proc_of c.args.p.now in
    let missed = subst (λ l. find (test p) l ≡ None) c.as_slice.ensures.value c.in-None.ensures in
    ap is_some (sym (access_missed p c.args.g c.self.inside.parts.items missed) ∙ ap (λ h. access_at c.args.g h.parts p) c.self.view_is)
