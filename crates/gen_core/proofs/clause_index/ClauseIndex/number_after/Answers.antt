use Rattle.std.proofs.Common.{ap, sym, ◌∙◌, map}
use Rattle.gen_core.specs.Visible.{behind}
use Rattle.gen_core.specs.ClauseIndex.{clauses_of}
use Rattle.gen_core.proofs.Entries.{from_zero}
use Rattle.gen_core.proofs.Listed.{behind_none, behind_some, of}
use Rattle.gen_core.proofs.clause_index.ClauseIndex.number_after.Goals as goal

pub returns-in-Some-number_of : goal.returns-in-Some-number_of
returns-in-Some-number_of g c =
    ap (λ p. behind p (clauses_of c.args.self.now.clauses)) c.in-Some.is
    ∙ behind_some g.C.Key.Ord.cmp g.C.Kept.any g.C.Kept.key_of c.args.self.now c.requires c.in-Some.place c.in-Some-number_of.number c.in-Some-number_of.ensures.number

pub returns-in-None-number_of : goal.returns-in-None-number_of
returns-in-None-number_of g c =
    ap (λ p. behind p (clauses_of c.args.self.now.clauses)) c.in-Some.is
    ∙ behind_none g.C.Key.Ord.cmp g.C.Kept.any g.C.Kept.key_of c.args.self.now c.requires c.in-Some.place c.in-None-number_of.ensures.number

pub returns-in-None : goal.returns-in-None
returns-in-None g c =
    ap (λ p. behind p (clauses_of c.args.self.now.clauses)) c.in-None.is
    ∙ ap (map (λ e. e.1.dated)) (sym (from_zero of c.args.self.now.clauses.entries))
