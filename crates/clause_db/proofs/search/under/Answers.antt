use Rattle.std.proofs.Common.{◌≡◌, false, sym, subst, ◌∙◌}
use Rattle.std.specs.Prelude.{IfNone}
use Rattle.std.specs.List.{list_any}
use Rattle.pl_model.specs.laws.Shown.{proc_of}
use Rattle.clause_db.specs.Located.{stands_at}
use Rattle.clause_db.proofs.Indexing.{none_under}
use Rattle.clause_db.proofs.Pieces.{test}
use Rattle.clause_db.proofs.search.under.Goals as goal

pub returns-clause-none : goal.returns-clause-none
returns-clause-none g c =
    let at = stands_at (test (proc_of c.args.p.now)) c.args.parts.now in
    none_under at c.args.places.now.one c.args.places.now.others.items c.among.result (sym c.is_at.ensures ∙ c.if-is_at.false)
    (subst (λ l. IfNone c.among.result (list_any at l ≡ false)) c.as_slice.ensures.value c.among.ensures.none)
