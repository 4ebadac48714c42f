use Rattle.std.proofs.Common.{◌≡◌, Option, sym, ap, subst, ◌∙◌}
use Rattle.std.specs.Prelude.{option_map}
use Rattle.std.specs.Option.{IsSome, IfSome}
use Rattle.std.specs.List.{All}
use Rattle.world_api.specs.Answers.{alias_names, named_by}
use Rattle.world_api.specs.Texts.{text_of}
use Rattle.world_api.specs.declared.reply.Name.{Name}
use Rattle.counted_terms.proofs.TermNames.{named_held, named_says}
use Rattle.counted_terms.proofs.names.name_in.Goals as goal

pub returns-clause-says : goal.returns-clause-says
returns-clause-says c = λ m stand. named_says m stand c.args.term.now c.nodes.result.now c.nodes.ensures.spelled ∙ ap (option_map (named_by (text_of m))) (sym c.named_by_nodes.ensures)

pub returns-clause-named : goal.returns-clause-named
returns-clause-named c = λ m held.
    subst (λ (o : Option Name). IfSome o (λ n. All (λ a. IsSome (m a)) (alias_names n))) (sym c.named_by_nodes.ensures)
    (named_held m c.args.term.now c.nodes.result.now c.nodes.ensures.spelled held)
