use Rattle.std.proofs.Common.{subst, sym}
use Rattle.pl_term.specs.Tree.{Tree}
use Rattle.atom_api.specs.Names.{Names}
use Rattle.atom_words.specs.Seats.{seen}
use Rattle.atom_table.specs.Naming.{names}
use Rattle.term_store.specs.ArgumentKeys.{clause_key}
use Rattle.term_store.specs.NumberedNames.{term_by}
use Rattle.term_store.specs.declared.argument_key.ArgumentKey.{ArgumentKey}
use Rattle.world_api.specs.declared.answer.Answer.{Answer}
use Rattle.world_api.specs.declared.visit.Visit.TheVariants.{Next}
use Rattle.world_api.specs.Answers.{IsPlace, Visited}
use Rattle.world_api.specs.Texts.{text_of}
use Rattle.pl_hub.specs.Fronts.{told_of}
use Rattle.hub_tests.specs.Open.{IsOpen, key_by}
use Rattle.hub_tests.proofs.OpenLists.{is_place, next_open, procedure, still_held}
use Rattle.hub_tests.proofs.players.Player.retry.Goals as goal

pub next_clause-answer-requires-clause-next : goal.next_clause-answer-requires-clause-next
next_clause-answer-requires-clause-next g c =
    let m : Names = names (seen c.self.inside.atoms.seat) in
    let old = told_of g.K.Naming.goals c.self.inside.front in
    subst (λ (k : ArgumentKey). IsPlace term_by clause_key (text_of m) (procedure c.self.inside.own) k c.self.inside.generation c.self.inside.place old) (sym c.key.ensures.key)
    (is_place m c.self.inside.atoms.lawful.stand c.self.inside.own c.self.inside.key c.self.inside.generation c.self.inside.place old (c.self.invariant.listed c.if-not-self.false))

pub invariant_of-self-in-Some : goal.invariant_of-self-in-Some
invariant_of-self-in-Some g c =
    let goals = g.K.Naming.goals in
    let own = c.self.inside.own in
    let key = c.self.inside.key in
    let at = c.self.inside.generation in
    let place = c.self.inside.place in
    let m : Names = names (seen c.self.inside.atoms.seat) in
    let n : Names = names (seen c.next_clause-answer.new.atoms.seat) in
    let old = told_of goals c.self.inside.front in
    let new = told_of goals c.next_clause-answer.new.front in
    let before = c.args.shared.now.seen in
    let h = c.in-Some.ensures in
    let keyed = subst (λ (k : ArgumentKey). Visited term_by clause_key (text_of m) (text_of n) (Next (procedure own) k at place) c.next_clause-answer.result old before new) c.key.ensures.key c.next_clause-answer.ensures.visited in
    let found = subst (λ (a : Answer Tree). Visited term_by clause_key (text_of m) (text_of n) (Next (procedure own) (key_by key) at place) a old before new) h.1 keyed in
    record {
      history = c.self.invariant.history;
      runs = c.next_clause-answer.ensures.own;
      holds = still_held m n c.next_clause-answer.ensures.holds own c.self.invariant.holds;
      listed = λ e.
          subst (λ p. IsOpen n own key c.in-Some.generation p new) h.2
          (next_open m n c.self.inside.atoms.lawful.stand c.next_clause-answer.new.atoms.lawful.stand c.next_clause-answer.ensures.holds own key c.self.invariant.holds old before new at place h.0 c.in-Some.generation (c.self.invariant.listed e) found);
    }
