use Rattle.std.proofs.Common.{sym, ◌∙◌}
use Rattle.std.proofs.lemmas.Bool.{ne_eqb}
use Rattle.term_store.specs.Contents.{arguments_at, term_at}
use Rattle.iso_search.proofs.Constructing.{how_many}
use Rattle.iso_engine.proofs.Looks.{goal_key, other_count, other_name}
use Rattle.iso_engine.proofs.call.goals.key_at.Goals.{else-eq-via-then-eq+else-len-eq2, else-eq-via-else-eq}
use Rattle.iso_engine.proofs.call.goals.key_at.Goals as goal

pub returns-else-eq : goal.returns-else-eq
returns-else-eq c =
    let s = c.args.store.now in
    let a = c.in-Compound.arguments in
    let seen = c.in-Compound.ensures in
    elim c.else-eq.branch [
      | else-eq-via-then-eq+else-len-eq2 w ↦
          goal_key c.in-Compound.name a.count (arguments_at s a) (term_at s c.args.goal) (term_at s c.argument-first.result) c.argument_key_at.result
          seen.0 (how_many s a seen.1.0) seen.1.1
          (other_count c.in-Compound.name a.count (ne_eqb a.count 2 (λ e. w.if-len-eq2.false (w.len.ensures ∙ e))))
          c.argument-first.ensures.stands c.argument_key_at.ensures
      | else-eq-via-else-eq w ↦
          goal_key c.in-Compound.name a.count (arguments_at s a) (term_at s c.args.goal) (term_at s c.argument-first.result) c.argument_key_at.result
          seen.0 (how_many s a seen.1.0) seen.1.1
          (other_name c.in-Compound.name a.count (sym c.eq.ensures ∙ w.if-eq.false))
          c.argument-first.ensures.stands c.argument_key_at.ensures
    ]
