use Rattle.std.proofs.Common.{IsSome, Option, Ok, refl, subst}
use Rattle.std.specs.List.{All}
use Rattle.pl_term.specs.Tree.{Tree}
use Rattle.term_store.specs.NumberedNames.{names_of, term_by}
use Rattle.world_api.specs.Texts.{text_of}
use Rattle.pl_consult.specs.declared.stage.Stage.TheVariants.{Clause, Items}
use Rattle.pl_consult.specs.Steps.{AddedSo, added_names}
use Rattle.pl_consult.proofs.AddLaws.{add_goes}
use Rattle.pl_consult.proofs.NarrowLaws.{narrows_bare}
use Rattle.pl_consult.proofs.adds.go_on.Goals as goal

pub refuse-requires : goal.refuse-requires
refuse-requires g c =
    subst (λ (o : Option Tree). All (λ a. IsSome (g.A.Atoms.held c.args.atoms.now a)) (added_names names_of (Ok o))) c.in-Some.is c.requires

pub returns-in-None-clause-moved : goal.returns-in-None-clause-moved
returns-in-None-clause-moved g c term clause kept t u renamed added =
    add_goes term c.args.consult.now clause kept c.args.place c.args.operators.now t u c.args.text.now.items renamed
    (subst (λ (o : Option Tree). AddedSo kept (term_by (text_of (g.A.Atoms.held c.args.atoms.now))) (Ok o) t u) c.in-None.is added)

pub returns-in-Some-clause-moved : goal.returns-in-Some-clause-moved
returns-in-Some-clause-moved g c term clause kept t u renamed added =
    c.refuse.ensures.moved term clause kept t u renamed
    (subst (λ (o : Option Tree). AddedSo kept (term_by (text_of (g.A.Atoms.held c.args.atoms.now))) (Ok o) t u) c.in-Some.is added)

pub returns-in-None-clause-narrows : goal.returns-in-None-clause-narrows
returns-in-None-clause-narrows g c word t = narrows_bare word c.args.consult.now (Clause t c.args.place c.args.operators.now) Items refl refl refl
