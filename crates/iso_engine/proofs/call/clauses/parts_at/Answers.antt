use Rattle.std.proofs.Common.{◌==◌, ◌&&◌, sym, ap, ◌∙◌}
use Rattle.std.proofs.lemmas.Bool.{ne_eqb}
use Rattle.term_store.specs.Contents.{arguments_at}
use Rattle.term_store.specs.NumberedNames.{neck}
use Rattle.iso_search.proofs.Constructing.{how_many}
use Rattle.iso_engine.proofs.Copies.{fact_parts}
use Rattle.iso_engine.proofs.Looks.{IsFact, other_count, other_name}
use Rattle.iso_engine.proofs.call.clauses.parts_at.Goals.{else-eq-via-then-eq+else-len-eq2, else-eq-via-else-eq}
use Rattle.iso_engine.proofs.call.clauses.parts_at.Goals as goal

pub returns-else-eq : goal.returns-else-eq
returns-else-eq c =
    let s = c.args.store.now in
    let a = c.in-Compound.arguments in
    let f = c.in-Compound.name in
    let seen = c.in-Compound.ensures in
    let fact : IsFact f a.count =
    elim c.else-eq.branch [
      | else-eq-via-then-eq+else-len-eq2 w ↦ other_count f a.count (ne_eqb a.count 2 (λ e. w.if-len-eq2.false (w.len.ensures ∙ e)))
      | else-eq-via-else-eq w ↦ other_name f a.count (sym c.eq.ensures ∙ w.if-eq.false)
    ]
    in
    let both = fact_parts s c.args.clause c.atom.result f (arguments_at s a) seen.0 (ap (λ n. (f == neck) && (n == 2)) (how_many s a seen.1.0) ∙ fact) (c.atom.ensures s).1 in
    record { head_holds = c.requires; body_holds = (c.atom.ensures s).0; head_is = both.0; body_is = both.1 }
