use Rattle.std.proofs.Common.{length, ap, sym, subst, ◌∙◌}
use Rattle.pl_model.specs.History.{History}
use Rattle.pl_history.specs.Fronts.{FrontState}
use Rattle.atom_words.specs.Seats.{seen}
use Rattle.atom_api.specs.Names.{Names}
use Rattle.atom_table.specs.Naming.{names}
use Rattle.kept_answers.specs.Answered.{IsGiven}
use Rattle.pl_sched.proofs.known.KnownAtoms.keep.Goals as goal

pub invariant_of-self : goal.invariant_of-self
invariant_of-self g c =
    let s = c.hear.new.self in
    let heard = c.hear.ensures.heard c.if-hear.true in
    record {
      here = s.here;
      sound =
          c.keep.ensures.sound g.K.Naming.goals s.front.seen (names (seen s.atoms.seat))
          (subst (λ (h : History). IsGiven g.K.Naming.goals h (names (seen s.atoms.seat)) c.args.asked.now c.args.found.now) (sym heard)
          (subst (λ (n : Names). IsGiven g.K.Naming.goals c.args.front.now.seen n c.args.asked.now c.args.found.now) (ap (λ a. names (seen a.seat)) (sym c.hear.ensures.atoms)) c.requires.given))
          (ap (length {A = Rattle.pl_model.specs.History.Entry}) heard ∙ sym (c.generation.ensures ∙ ap (λ (f : FrontState). length f.seen) c.hear.ensures.front))
          s.sound;
    }
