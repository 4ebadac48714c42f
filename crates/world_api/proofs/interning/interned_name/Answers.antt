use Rattle.std.proofs.Common.{◌≡◌, refl}
use Rattle.pl_term.specs.Tree.{Chars}
use Rattle.world_api.proofs.Gaining.{gains_one}
use Rattle.world_api.proofs.interning.interned_name.Goals as goal

pub returns-in-Is-clause-asked : goal.returns-in-Is-clause-asked
returns-in-Is-clause-asked g c =
    gains_one (λ (u : Chars). u ≡ c.args.name.now) c.intern.result c.args.name.now (g.A.Atoms.asked c.args.atoms.now) (g.A.Atoms.asked c.intern.new.self) refl c.intern.ensures.request

pub returns-in-Full-clause-asked : goal.returns-in-Full-clause-asked
returns-in-Full-clause-asked g c =
    gains_one (λ (u : Chars). u ≡ c.args.name.now) c.intern.result c.args.name.now (g.A.Atoms.asked c.args.atoms.now) (g.A.Atoms.asked c.intern.new.self) refl c.intern.ensures.request

pub returns-in-Again-clause-asked : goal.returns-in-Again-clause-asked
returns-in-Again-clause-asked g c =
    gains_one (λ (u : Chars). u ≡ c.args.name.now) c.intern.result c.args.name.now (g.A.Atoms.asked c.args.atoms.now) (g.A.Atoms.asked c.intern.new.self) refl c.intern.ensures.request

pub returns-in-Worn-clause-asked : goal.returns-in-Worn-clause-asked
returns-in-Worn-clause-asked g c =
    gains_one (λ (u : Chars). u ≡ c.args.name.now) c.intern.result c.args.name.now (g.A.Atoms.asked c.args.atoms.now) (g.A.Atoms.asked c.intern.new.self) refl c.intern.ensures.request
