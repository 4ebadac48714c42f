use Rattle.std.proofs.Common.{refl, ◌∙◌}
use Rattle.pl_model.specs.laws.Shown.{proc_of}
use Rattle.pl_model.specs.FirstArguments.{are_apart}
use Rattle.clause_db.proofs.Faults.{call_fault_same}
use Rattle.clause_db.proofs.Added.{match_some, match_none}
use Rattle.clause_db.proofs.Named.{call_then}
use Rattle.clause_db.proofs.db.Db.call.Goals as goal

pub returns-in-Some : goal.returns-in-Some
returns-in-Some g c = λ d s.
    match_some _ _ _ c.in-Some.fault (c.in-Some.ensures ∙ call_fault_same g.C.Kept.size c.args.self.now d s c.args.g c.requires (proc_of c.args.p.now) c.args.by) refl

pub returns-in-None : goal.returns-in-None
returns-in-None g c = λ d s.
    match_none _ _ _ (c.in-None.ensures ∙ call_fault_same g.C.Kept.size c.args.self.now d s c.args.g c.requires (proc_of c.args.p.now) c.args.by)
    (c.first_of.ensures ∙ call_then g.C.Kept.size c.args.self.now d s (λ x. are_apart g.C.Key.Ord.cmp g.C.Kept.any c.args.goal.now (g.C.Kept.key_of x)) c.args.g (proc_of c.args.p.now) c.requires)
