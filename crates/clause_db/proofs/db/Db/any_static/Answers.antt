use Rattle.std.proofs.Common.{sym, ◌∙◌, arith}
use Rattle.pl_model.specs.laws.Shown.{proc_of}
use Rattle.clause_db.specs.Parts.{held_access}
use Rattle.clause_db.specs.Faults.{is_static_access}
use Rattle.clause_db.proofs.Searched.{any_hit, any_next}
use Rattle.clause_db.proofs.db.Db.any_static.Goals as goal

pub returns-then-is_static : goal.returns-then-is_static
returns-then-is_static g c =
    sym (any_hit (λ p. is_static_access (held_access c.args.g c.args.self.now (proc_of p))) c.args.ps.now c.loop-i.i c.index-ps-i.result (omega (arith, c.loop-i-test.true)) c.index-ps-i.is (sym c.is_static.ensures ∙ c.if-is_static.true))

pub loop-i-preserved : goal.loop-i-preserved
loop-i-preserved g c =
    any_next (λ p. is_static_access (held_access c.args.g c.args.self.now (proc_of p))) c.args.ps.now c.loop-i.i c.index-ps-i.result (omega (arith, c.loop-i-test.true)) c.index-ps-i.is c.loop-i.invariant (sym c.is_static.ensures ∙ c.if-is_static.false)
