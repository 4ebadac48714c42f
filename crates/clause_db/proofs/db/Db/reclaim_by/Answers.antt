use Rattle.std.proofs.Common.{◌≡◌, ap, sym, subst, ◌∙◌}
use Rattle.clause_db.specs.Stands.{StandsFor}
use Rattle.clause_db.proofs.Added.{on_ok}
use Rattle.clause_db.proofs.Reclaiming.{stands_reclaimed, left_at}
use Rattle.pl_model.specs.Service.{clause_cells}
use Rattle.clause_db.specs.Reading.{read_held}
use Rattle.clause_db.specs.Reclaimed.{reclaimed_held}
use Rattle.clause_db.proofs.Erasing.{if_both}
use Rattle.clause_db.proofs.ReadReclaimed.{reclaimed_read}
use Rattle.clause_db.proofs.Weighing.{reclaimed_weight}
use Rattle.clause_db.proofs.db.Db.reclaim_by.Goals as goal

pub returns-clause-stands : goal.returns-clause-stands
returns-clause-stands g c =
    on_ok c.reclaim_in.result _ _
    (λ e. λ b s. subst (λ n. StandsFor g.C.Kept.size n b) (sym e) (stands_reclaimed g.C.Kept.size c.args.self.now b s c.args.floor c.args.i))
    c.reclaim_in.ensures.held

pub returns-clause-left : goal.returns-clause-left
returns-clause-left g c =
    on_ok c.reclaim_in.result _ _
    (λ e. λ b s l. left_at g.C.Kept.size c.args.self.now c.reclaim_in.new.self b s c.args.floor c.args.i e l c.reclaim_in.ensures.apart)
    c.reclaim_in.ensures.held

pub returns-clause-rest : goal.returns-clause-rest
returns-clause-rest g c = on_ok c.reclaim_in.result _ _ (λ e. (ap (λ h. h.next) e, ap (λ h. h.floor) e)) c.reclaim_in.ensures.held

pub returns-clause-says : goal.returns-clause-says
returns-clause-says g c =
    on_ok c.reclaim_in.result _ _
    (λ e. λ f b s. subst (λ n. StandsFor clause_cells n b) (sym (ap (read_held f) e ∙ reclaimed_read f c.args.floor c.args.i c.args.self.now)) (stands_reclaimed clause_cells (read_held f c.args.self.now) b s c.args.floor c.args.i))
    c.reclaim_in.ensures.held

pub returns-clause-weighs : goal.returns-clause-weighs
returns-clause-weighs g c =
    if_both c.reclaim_in.result (λ _. c.reclaim_in.new.self ≡ reclaimed_held c.args.i c.args.floor c.args.self.now) _ _
    (λ r e d. λ w. reclaimed_weight w c.args.i c.args.floor c.args.self.now c.reclaim_in.new.self r.items c.requires e d)
    c.reclaim_in.ensures.held c.reclaim_in.ensures.dropped
