use Rattle.std.proofs.Common.{◌≡◌, ℕ, true, false, sym, subst, ◌∙◌}
use Rattle.std.specs.Option.{IsSome}
use Rattle.pl_model.specs.Threads.{is_alias}
use Rattle.atom_api.specs.Names.{Names}
use Rattle.atom_words.specs.Seats.{seen}
use Rattle.atom_table.specs.Naming.{names}
use Rattle.world_api.specs.Texts.{text_of}
use Rattle.hub_threads.proofs.CreatedThreads.{free_then, taken_then}
use Rattle.hub_threads.proofs.beginning.check_aliases.Goals as goal

pub check_alias-requires : goal.check_alias-requires
check_alias-requires g c = record {
  held = subst (λ (z : Names). IsSome (z c.a-item.result)) (sym c.loop-a.invariant.held)
      (subst (λ (x : ℕ). IsSome (names (seen c.args.atoms.now.seat) x)) (sym c.a-item.is) (c.requires.aliases c.loop-a.a-index c.a-item.result c.loop-a-test.true));
}

pub returns-in-Ok-true-clause-checks : goal.returns-in-Ok-true-clause-checks
returns-in-Ok-true-clause-checks g c =
    let m = names (seen c.args.atoms.now.seat) in
    let a : ℕ = c.a-item.result in (
      taken_then (is_alias c.args.queues.now.state) (text_of m) c.args.aliases.now c.loop-a.a-index a c.loop-a-test.true c.a-item.is c.loop-a.invariant.free
          (subst (λ (z : Names). is_alias c.args.queues.now.state (text_of z a) ≡ true) c.loop-a.invariant.held (c.in-Ok-true.ensures.names ∙ c.in-Ok-true.field-0-test)),
      subst (λ (x : ℕ). IsSome (m x)) (sym c.a-item.is) (c.requires.aliases c.loop-a.a-index a c.loop-a-test.true),
    )

pub loop-a-preserved : goal.loop-a-preserved
loop-a-preserved g c =
    let m = names (seen c.args.atoms.now.seat) in
    let a : ℕ = c.a-item.result in
    record {
      free = free_then (is_alias c.args.queues.now.state) (text_of m) c.args.aliases.now c.loop-a.a-index a c.loop-a-test.true c.a-item.is c.loop-a.invariant.free
          (subst (λ (z : Names). is_alias c.args.queues.now.state (text_of z a) ≡ false) c.loop-a.invariant.held (c.in-Ok-false.ensures.names ∙ c.in-Ok-false.field-0-test));
      held = c.check_alias.ensures.held ∙ c.loop-a.invariant.held;
      refusals = c.check_alias.ensures.refusals ∙ c.loop-a.invariant.refusals;
      asked = c.check_alias.ensures.asked ∙ c.loop-a.invariant.asked;
    }
