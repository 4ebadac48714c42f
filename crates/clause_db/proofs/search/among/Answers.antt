use Rattle.std.proofs.Common.{sym, ◌∙◌, arith}
use Rattle.pl_model.specs.laws.Shown.{proc_of}
use Rattle.clause_db.specs.Located.{stands_at}
use Rattle.clause_db.specs.Parts.{piece, is_part_of}
use Rattle.clause_db.proofs.Searched.{none_next}
use Rattle.clause_db.proofs.search.among.Goals as goal

pub loop-j-preserved : goal.loop-j-preserved
loop-j-preserved g c =
    none_next (stands_at (λ x. is_part_of (proc_of c.args.p.now) (piece x)) c.args.parts.now) c.args.places.now c.loop-j.j (omega (arith, c.loop-j-test.true)) 0 c.loop-j.invariant (sym c.is_at.ensures ∙ c.if-is_at.false)
