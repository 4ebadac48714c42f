use Rattle.std.proofs.Common.{◌≡◌, refl}
use Rattle.pl_term.specs.Tree.{Chars}
use Rattle.world_api.proofs.Gaining.{gains_one}
use Rattle.iso_engine.proofs.state.leaving.interned.Goals as goal

pub returns-in-Is-clause-asks : goal.returns-in-Is-clause-asks
returns-in-Is-clause-asks g c =
    gains_one (λ (u : Chars). u ≡ c.args.text.now) c.intern.result c.args.text.now (g.A.Atoms.asked c.args.atoms.now) (g.A.Atoms.asked c.intern.new.self) refl c.intern.ensures.request

pub returns-in-Full-clause-asks : goal.returns-in-Full-clause-asks
returns-in-Full-clause-asks g c =
    gains_one (λ (u : Chars). u ≡ c.args.text.now) c.intern.result c.args.text.now (g.A.Atoms.asked c.args.atoms.now) (g.A.Atoms.asked c.intern.new.self) refl c.intern.ensures.request

pub returns-in-Again-clause-asks : goal.returns-in-Again-clause-asks
returns-in-Again-clause-asks g c =
    gains_one (λ (u : Chars). u ≡ c.args.text.now) c.intern.result c.args.text.now (g.A.Atoms.asked c.args.atoms.now) (g.A.Atoms.asked c.intern.new.self) refl c.intern.ensures.request

pub returns-in-Worn-clause-asks : goal.returns-in-Worn-clause-asks
returns-in-Worn-clause-asks g c =
    gains_one (λ (u : Chars). u ≡ c.args.text.now) c.intern.result c.args.text.now (g.A.Atoms.asked c.args.atoms.now) (g.A.Atoms.asked c.intern.new.self) refl c.intern.ensures.request
