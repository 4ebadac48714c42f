use Rattle.std.proofs.Common.{◌≡◌, false, refl}
use Rattle.pl_model.specs.FirstArguments.{are_apart}
use Rattle.pl_model.specs.History.{Clause}
use Rattle.term_store.specs.ArgumentKeys.{clause_key, is_any, key_order}
use Rattle.term_store.specs.declared.argument_key.ArgumentKey.TheVariants.{Any}
use Rattle.hub_database.proofs.Fronts.{each_always}
use Rattle.hub_database.proofs.finding.is_headed_so.Goals as goal

pub returns-in-Some : goal.returns-in-Some
returns-in-Some c = λ yes. record {
  clause = c.in-Some.hit.clause.now;
  place = c.in-Some.hit.place;
  more = c.in-Some.hit.more;
  held = c.in-Some.ensures.held;
  own = c.is_of.ensures yes;
  first = λ f d s. c.in-Some.ensures.says f d (λ (x : Clause). false) s (each_always (λ t. are_apart key_order is_any Any (clause_key t) ≡ false) (λ t. refl) c.args.db.now);
}
