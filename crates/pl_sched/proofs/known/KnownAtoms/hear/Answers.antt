use Rattle.std.proofs.Common.{ap, sym, subst, ◌∙◌, arith}
use Rattle.pl_model.specs.History.{History}
use Rattle.pl_history.specs.Fronts.{FrontState}
use Rattle.atom_words.specs.Seats.{seen}
use Rattle.atom_api.specs.Names.{Names}
use Rattle.atom_table.specs.Naming.{names}
use Rattle.kept_answers.specs.Answered.{AreSound}
use Rattle.kept_answers.proofs.Staying.{all_stay}
use Rattle.pl_sched.proofs.known.KnownAtoms.hear.Goals as goal

pub invariant_of-self : goal.invariant_of-self
invariant_of-self g c =
    let f = c.args.self.now.front in
    let n : Names = names (seen c.args.self.now.atoms.seat) in
    let ss = c.args.self.now.answers.spaces.items in
    let is = c.inform.ensures.other in
    let longer = c.inform.ensures.seen (omega (arith, c.if-generation.false, c.generation.ensures, c.generation-2.ensures)) in
    record {
      here = ap (λ (x : FrontState). x.table) is ∙ c.args.self.now.here;
      sound =
          subst (λ (h : History). AreSound g.K.Naming.goals h n ss) (longer.1 ∙ ap (λ (x : FrontState). x.seen) (sym is))
          (all_stay g.K.Naming.goals f.seen longer.0 n ss c.args.self.now.sound);
    }
