use Rattle.std.proofs.Common.{length, sym, subst, ap, ◌∙◌}
use Rattle.pl_model.specs.History.{History}
use Rattle.pl_history.specs.Fronts.{FrontState}
use Rattle.atom_words.specs.Seats.{seen}
use Rattle.atom_api.specs.Names.{Names}
use Rattle.atom_table.specs.Naming.{names}
use Rattle.kept_answers.specs.Answered.{AreSound}
use Rattle.pl_sched.proofs.known.KnownAtoms.find.Goals as goal

pub returns-in-Some-clause-kept : goal.returns-in-Some-clause-kept
returns-in-Some-clause-kept g c _ =
    let goals = g.K.Naming.goals in
    let n : Names = names (seen c.args.self.now.atoms.seat) in
    let heard = c.hear.ensures.heard c.if-not-hear.false in
    let sound : AreSound goals c.args.front.now.seen n c.hear.new.self.answers.spaces.items =
    subst (λ (m : Names). AreSound goals c.args.front.now.seen m c.hear.new.self.answers.spaces.items) (ap (λ a. names (seen a.seat)) c.hear.ensures.atoms)
    (subst (λ (h : History). AreSound goals h (names (seen c.hear.new.self.atoms.seat)) c.hear.new.self.answers.spaces.items) heard c.hear.new.self.sound) in
    c.in-Some.ensures.kept goals c.args.front.now.seen n sound (sym (c.generation.ensures ∙ ap (λ (f : FrontState). length f.seen) c.hear.ensures.front)) c.hear.new.self.nothing
