use Rattle.std.proofs.Common.{◌≡◌, Some, None, find, ap, sym, subst, ◌∙◌}
use Rattle.std.specs.List.{slice_get}
use Rattle.std.specs.Option.{option_map}
use Rattle.pl_model.specs.laws.Shown.{proc_of}
use Rattle.clause_db.specs.Located.{IsAt}
use Rattle.clause_db.specs.Parts.{Piece, is_part_of, piece}
use Rattle.clause_db.proofs.Erasing.{get_piece}
use Rattle.clause_db.proofs.Pieces.{test, piece_missed}
use Rattle.clause_db.proofs.Procs.{is_same}
use Rattle.clause_db.proofs.Says.{missed_says}
use Rattle.clause_db.proofs.Searched.{located_item, located_within}
use Rattle.clause_db.proofs.db.Db.index_of.Goals as goal

pub returns-in-Some-clause-there : goal.returns-in-Some-clause-there
returns-in-Some-clause-there g c =
    let p = proc_of c.args.p.now in
    let inside = c.self.inside.parts.items in
    let at = subst (λ l. IsAt (test p) l c.in-Some.i) c.as_slice.ensures.value c.in-Some.ensures in
    sym (ap (λ h. option_map (λ (x : Piece _). proc_of x.name) (slice_get h.parts c.in-Some.i)) c.self.view_is)
    ∙ ap (option_map (λ (x : Piece _). proc_of x.name)) (get_piece 0 0 inside c.in-Some.i at.item (located_within (test p) inside c.in-Some.i at) ∙ ap (λ x. Some (piece x)) (located_item (test p) inside c.in-Some.i at.item at))
    ∙ ap Some (is_same (proc_of at.item.name) p at.hits)

pub returns-in-None-clause-none : goal.returns-in-None-clause-none
returns-in-None-clause-none g c = λ f d n s low.
    let p = proc_of c.args.p.now in
    let missed = subst (λ l. find (test p) l ≡ None) c.as_slice.ensures.value c.in-None.ensures in
    missed_says f c.args.self.now d s n low p (sym (ap (λ h. find (is_part_of p) h.parts) c.self.view_is) ∙ piece_missed p c.self.inside.parts.items missed)
