use Rattle.std.proofs.Common.{subst}
use Rattle.pl_term.specs.Tree.{Tree}
use Rattle.atom_api.specs.Names.{Names}
use Rattle.atom_words.specs.Seats.{seen}
use Rattle.atom_table.specs.Naming.{names}
use Rattle.term_store.specs.ArgumentKeys.{clause_key}
use Rattle.term_store.specs.NumberedNames.{term_by}
use Rattle.term_store.specs.declared.argument_key.ArgumentKey.{ArgumentKey}
use Rattle.world_api.specs.declared.answer.Answer.{Answer}
use Rattle.world_api.specs.declared.visit.Visit.TheVariants.{Call}
use Rattle.world_api.specs.Answers.{Visited}
use Rattle.world_api.specs.Texts.{text_of}
use Rattle.pl_hub.specs.Fronts.{told_of}
use Rattle.hub_tests.specs.Open.{IsOpen, key_by}
use Rattle.hub_tests.proofs.OpenLists.{call_open, procedure, still_held}
use Rattle.hub_tests.proofs.players.Player.call.Goals as goal

pub invariant_of-self-in-Some : goal.invariant_of-self-in-Some
invariant_of-self-in-Some g c =
    let goals = g.K.Naming.goals in
    let own = c.self.inside.own in
    let m : Names = names (seen c.self.inside.atoms.seat) in
    let n : Names = names (seen c.call_clauses-answer.new.atoms.seat) in
    let old = told_of goals c.self.inside.front in
    let new = told_of goals c.call_clauses-answer.new.front in
    let before = c.args.shared.now.seen in
    let h = c.in-Some.ensures in
    let keyed = subst (λ (k : ArgumentKey). Visited term_by clause_key (text_of m) (text_of n) (Call (procedure own) k) c.call_clauses-answer.result old before new) c.key.ensures.key c.call_clauses-answer.ensures.visited in
    let found = subst (λ (a : Answer Tree). Visited term_by clause_key (text_of m) (text_of n) (Call (procedure own) (key_by c.args.i)) a old before new) h.1 keyed in
    record {
      history = c.self.invariant.history;
      runs = c.call_clauses-answer.ensures.own;
      holds = still_held m n c.call_clauses-answer.ensures.holds own c.self.invariant.holds;
      listed = λ e.
          subst (λ p. IsOpen n own c.args.i c.in-Some.generation p new) h.2
          (call_open m n c.self.inside.atoms.lawful.stand c.call_clauses-answer.new.atoms.lawful.stand c.call_clauses-answer.ensures.holds own c.args.i c.self.invariant.holds old before new h.0 c.in-Some.generation found);
    }
