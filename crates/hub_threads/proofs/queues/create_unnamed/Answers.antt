use Rattle.std.proofs.Common.{◌+◌, refl, ◌∙◌, arith, codes}
use Rattle.std.specs.Prelude.{None, length, pos}
use Rattle.pl_term.specs.Tree.{int}
use Rattle.pl_model.specs.ErrorTerms.{resource_error}
use Rattle.pl_model.specs.History.{make_queue}
use Rattle.pl_model.specs.Requests as requests
use Rattle.world_api.specs.declared.reply.Name.TheVariants.{Number}
use Rattle.hub_threads.specs.Rows.{updates_in}
use Rattle.hub_threads.proofs.Creating.{made_below, made_changes, made_weighs, unnamed}
use Rattle.hub_threads.proofs.RefusedRows.{refuses_decides, updates_refused}
use Rattle.hub_threads.proofs.Sending.{nothing_below}
use Rattle.hub_threads.proofs.queues.create_unnamed.Goals as goal

pub returns-then-generation-ge-MOST_UPDATES-clause-below : goal.returns-then-generation-ge-MOST_UPDATES-clause-below
returns-then-generation-ge-MOST_UPDATES-clause-below c = nothing_below c.args.queues.now c.args.count.now c.args.generation (updates_in c.worn_out.result) c.requires.below

pub returns-then-generation-ge-MOST_UPDATES-clause-says : goal.returns-then-generation-ge-MOST_UPDATES-clause-says
returns-then-generation-ge-MOST_UPDATES-clause-says c = λ k m e goals h stand long stands.
    refuses_decides k m e (requests.create_queue None) c.args.queues.now c.args.count.now goals h (resource_error (codes "generations"))
    (unnamed k c.args.queues.now c.args.count.now goals h stands e ∙ updates_refused (length h) (requests.named (int (pos c.args.count.now))) (make_queue c.args.count.now None) (let high = c.if-generation-ge-MOST_UPDATES.true in let l = long in omega (arith, high, l)))
    stands c.worn_out.result (c.worn_out.ensures.says m stand)

pub returns-in-Ok-clause-stored : goal.returns-in-Ok-clause-stored
returns-in-Ok-clause-stored c = λ w. made_weighs c.args.queues.now c.make_queue.new.self c.args.count.now None c.is_sound.ensures c.in-Ok.ensures.made w

pub returns-in-Ok-clause-below : goal.returns-in-Ok-clause-below
returns-in-Ok-clause-below c = made_below c.args.queues.now c.make_queue.new.self c.args.count.now None c.is_sound.ensures c.in-Ok.ensures.made c.args.generation (c.args.count.now + 1) refl c.requires.below

pub returns-in-Ok-clause-says : goal.returns-in-Ok-clause-says
returns-in-Ok-clause-says c = λ k m e goals h stand long stands.
    made_changes c.args.queues.now c.make_queue.new.self c.args.count.now (c.args.count.now + 1) None c.is_sound.ensures c.in-Ok.ensures.made refl k m e goals c.args.generation h (requests.create_queue None) (int (pos c.args.count.now)) (Number c.args.count.now)
    long (let low = c.if-generation-ge-MOST_UPDATES.false in omega (arith, low)) (unnamed k c.args.queues.now c.args.count.now goals h stands e) refl stands
