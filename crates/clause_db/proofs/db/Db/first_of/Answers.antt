use Rattle.std.proofs.Common.{◌≡◌, None, find, filter, ap, sym, subst, ◌∙◌}
use Rattle.pl_model.specs.laws.Shown.{proc_of}
use Rattle.gen_core.specs.Visible.{first_choice, is_choice}
use Rattle.clause_db.specs.Located.{IsAt}
use Rattle.clause_db.specs.Parts.{clauses_at}
use Rattle.clause_db.proofs.Pieces.{test, clauses_found, clauses_missed}
use Rattle.clause_db.proofs.Searched.{located_item}
use Rattle.clause_db.proofs.db.Db.first_of.Goals as goal

pub returns-in-Some : goal.returns-in-Some
returns-in-Some g c =
    let p = proc_of c.args.p.now in
    let at = subst (λ l. IsAt (test p) l c.in-Some.i) c.as_slice.ensures.value c.in-Some.ensures in
    c.next_after.ensures
    ∙ ap (λ ds. first_choice (filter (is_choice g.C.Key.Ord.cmp g.C.Kept.any g.C.Kept.key_of c.args.g c.args.goal.now) ds))
    (ap (λ x. x.clauses) (c.index.ensures ∙ located_item (test p) c.self.inside.parts.items c.in-Some.i _ at)
    ∙ sym (clauses_found p c.self.inside.parts.items c.in-Some.i at)
    ∙ ap (λ h. clauses_at h.parts p) c.self.view_is)

pub returns-in-None : goal.returns-in-None
returns-in-None g c =
    let p = proc_of c.args.p.now in
    let missed = subst (λ l. find (test p) l ≡ None) c.as_slice.ensures.value c.in-None.ensures in
    ap (λ ds. first_choice (filter (is_choice g.C.Key.Ord.cmp g.C.Kept.any g.C.Kept.key_of c.args.g c.args.goal.now) ds))
    (sym (clauses_missed p c.self.inside.parts.items missed) ∙ ap (λ h. clauses_at h.parts p) c.self.view_is)
