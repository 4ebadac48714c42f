use Rattle.std.proofs.Common.{ℕ, ◌++◌, [], ◌∷◌, sym, ap, ◌∙◌, arith}
use Rattle.std.specs.Ordering.{nat_cmp}
use Rattle.std.specs.BTreeSet as set
use Rattle.counted_terms.proofs.Listing.{fixed_one, set_now, listed_new, was_new, unmet}
use Rattle.counted_terms.proofs.term.add.Goals as goal

pub returns-then-slot-lt-COUNT-clause-met : goal.returns-then-slot-lt-COUNT-clause-met
returns-then-slot-lt-COUNT-clause-met c = λ k. unmet (set.contains nat_cmp c.args.met.now k) (fixed_one k c.args.slot c.if-slot-lt-COUNT.true)

pub returns-in_ok-push-clause-listed : goal.returns-in_ok-push-clause-listed
returns-in_ok-push-clause-listed c = listed_new c.args.met.now c.insert.new.self c.args.slot (omega (arith, c.if-slot-lt-COUNT.false)) c.in_ok-insert.ensures.updates c.args.atoms.now.items c.push.new.self.items c.requires.listed
    (was_new (set.contains nat_cmp c.args.met.now c.args.slot) (sym c.in_ok-insert.ensures.added ∙ c.if-branch.true)) (c.in_ok-push.ensures.items ∙ ap (λ (a : ℕ). c.args.atoms.now.items ++ a ∷ []) c.at.ensures)

pub returns-in_ok-push-clause-met : goal.returns-in_ok-push-clause-met
returns-in_ok-push-clause-met c = set_now c.args.met.now c.insert.new.self c.args.slot (omega (arith, c.if-slot-lt-COUNT.false)) c.in_ok-insert.ensures.updates
