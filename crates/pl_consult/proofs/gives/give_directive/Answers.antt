use Rattle.std.proofs.Common.{refl}
use Rattle.pl_term.specs.Tree.{Tree}
use Rattle.script_api.specs.declared.script.Next.TheVariants.{Memory}
use Rattle.pl_consult.specs.declared.stage.Stage.TheVariants.{Directive}
use Rattle.pl_consult.proofs.StepLaws.{stayed}
use Rattle.std.specs.List.{Contains}
use Rattle.world_api.specs.Asked.{texts_in}
use Rattle.world_api.proofs.Gaining.{gains_nothing}
use Rattle.pl_consult.proofs.NarrowLaws.{narrows_same}
use Rattle.pl_consult.proofs.gives.give_directive.Goals as goal

pub returns-clause-moved : goal.returns-clause-moved
returns-clause-moved g c file t out =
    stayed (λ (u : Tree). u) file (Directive c.args.goal c.args.place) t t out Memory tt refl refl

pub returns-clause-asked : goal.returns-clause-asked
returns-clause-asked g c =
    gains_nothing (Contains (texts_in c.args.goal)) (g.A.Atoms.asked c.args.atoms.now) (g.A.Atoms.asked c.args.atoms.now) refl

pub returns-clause-narrows : goal.returns-clause-narrows
returns-clause-narrows g c word file = narrows_same word file (Directive c.args.goal c.args.place)
