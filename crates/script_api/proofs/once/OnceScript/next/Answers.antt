use Rattle.std.proofs.Common.{arith, sym, ◌∙◌, subst, IsSome}
use Rattle.std.specs.List.{All}
use Rattle.world_api.specs.Texts.{text_of}
use Rattle.script_api.specs.declared.once.Stage.{Stage}
use Rattle.script_api.specs.Onces.{names_of}
use Rattle.world_api.proofs.Gaining.{gains_nothing}
use Rattle.script_api.proofs.OnceLaws.{given_from, end_from, stays_from, same_texts, same_words}
use Rattle.script_api.proofs.once.OnceScript.next.Goals as goal

pub returns-in-Fresh-clause-given : goal.returns-in-Fresh-clause-given
returns-in-Fresh-clause-given g c =
    let is = sym c.replace.ensures.value ∙ c.in-Fresh.is
    in let held : All (λ a. IsSome (g.W.A.Atoms.held c.args.atoms.now a)) (g.T.Named.names c.in-Fresh.goal) =
    subst (λ (s : Stage g.row.T.Denot). All (λ a. IsSome (g.W.A.Atoms.held c.args.atoms.now a)) (names_of g.T.Named.names s)) is c.requires.held
    in given_from g.T.Kept.term _ _ _ c.in-Fresh.goal _ _ _ _ _ _ _ _ is
    (g.met.T.Named.names_tell c.in-Fresh.goal _ _ (same_texts (g.W.A.Atoms.held c.args.atoms.now) (g.W.A.Atoms.held c.take_up-stage.new.atoms) _ held c.take_up-stage.ensures.holds))
    c.take_up-stage.ensures.counted c.take_up-stage.ensures.taken

pub returns-in-Some-clause-given : goal.returns-in-Some-clause-given
returns-in-Some-clause-given g c =
    end_from g.T.Kept.term _ _ _ _ _ _ _ _ _ (sym c.replace.ensures.value ∙ c.in-AtHand.is) c.replace.ensures.after (omega arith)

pub returns-in_default-clause-given : goal.returns-in_default-clause-given
returns-in_default-clause-given g c =
    stays_from g.T.Kept.term _ (text_of (g.W.A.Atoms.held c.args.atoms.now)) _ _ _ c.args.moves.now c.args.moves.now _ (sym c.replace.ensures.value ∙ c.in-AtHand.is)

pub returns-in-Fresh-clause-asked : goal.returns-in-Fresh-clause-asked
returns-in-Fresh-clause-asked g c =
    gains_nothing _ (g.W.A.Atoms.asked c.args.atoms.now) (g.W.A.Atoms.asked c.take_up-stage.new.atoms) c.take_up-stage.ensures.asked

pub returns-in-Fresh-clause-words : goal.returns-in-Fresh-clause-words
returns-in-Fresh-clause-words g c e job cs = same_words g.T.Kept.term _ _ _ _ job cs
