use Rattle.std.proofs.Common.{Some, sym, ap, subst, ◌∙◌}
use Rattle.pl_model.specs.Threads.{opening_count}
use Rattle.atom_words.specs.Seats.{seen}
use Rattle.pl_history.specs.Fronts.{FrontState, without}
use Rattle.hub_database.specs.Clauses.{clause_by}
use Rattle.pl_hub.specs.State.{IsShared}
use Rattle.pl_hub.proofs.Opening.{shared_opens}
use Rattle.pl_hub.proofs.shared.Shared.new.Goals as goal

pub invariant_of-result-2 : goal.invariant_of-result-2
invariant_of-result-2 g c =
    subst (λ (x : FrontState). IsShared g.K.NamesTable.atoms g.K.NamesTable.size g.K.Naming.history g.K.Naming.goals x (Some c.args.keeper) c.in_ok-db.db c.in_ok-queues.queues c.first_number.result c.new-begun.result.items)
    (sym (c.hand.ensures.hub ∙ ap (λ (x : FrontState). record x { lives = without 1 x.lives }) c.requires.hub))
    (shared_opens g.K.NamesTable.atoms g.K.NamesTable.size g.K.Naming.history g.K.Naming.goals (Some c.args.keeper) c.in_ok-db.db c.in_ok-queues.queues c.first_number.result c.new-begun.result.items
    c.requires.keeper c.requires.none (c.in_ok-db.ensures.says (clause_by (seen c.args.keeper.seat)))
    c.in_ok-db.ensures.settings.0 c.in_ok-db.ensures.settings.1 c.in_ok-db.ensures.start.0 c.in_ok-db.ensures.start.1
    c.in_ok-db.ensures.weighs c.in_ok-queues.ensures (c.first_number.ensures ∙ ap opening_count (sym c.requires.goals)) c.new-begun.ensures.items)
