use Rattle.std.proofs.Common.{ap, sym, subst, ◌∙◌}
use Rattle.std.specs.Option.{IfSome}
use Rattle.clause_db.specs.Parts.{piece}
use Rattle.clause_db.specs.Reclaimed.{reclaimed, IsDropped}
use Rattle.clause_db.proofs.Added.{on_ok}
use Rattle.clause_db.proofs.Erasing.{if_ok, get_piece}
use Rattle.clause_db.proofs.Reclaiming.{set_reclaimed}
use Rattle.clause_db.proofs.reclaim.reclaim_at.Goals as goal

pub returns-clause-ok : goal.returns-clause-ok
returns-clause-ok g c =
    on_ok c.reclaim_part.result _ _
    (λ e. set_reclaimed c.args.floor c.args.parts.now.items c.args.i c.index_mut.result.now c.reclaim_part.new.part c.requires
    (e ∙ ap (λ x. reclaimed c.args.floor (piece x)) c.index_mut.ensures.value))
    c.reclaim_part.ensures.ok

pub returns-clause-dropped : goal.returns-clause-dropped
returns-clause-dropped g c =
    if_ok c.reclaim_part.result _ _
    (λ r e. subst (λ o. IfSome o (λ x. IsDropped c.args.floor x.clauses r.places.items r.clauses.items))
    (sym (get_piece 0 0 c.args.parts.now.items c.args.i c.index_mut.result.now c.requires))
    (subst (λ x. IsDropped c.args.floor x.clauses r.places.items r.clauses.items) c.index_mut.ensures.value e))
    c.reclaim_part.ensures.dropped
