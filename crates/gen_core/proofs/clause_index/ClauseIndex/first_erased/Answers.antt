use Rattle.std.proofs.Common.{sym, ◌∙◌}
use Rattle.std.proofs.lemmas.Bool.{false≢true}
use Rattle.gen_core.proofs.Erasures.{nothing_listed, first_from_pairs}
use Rattle.gen_core.proofs.clause_index.ClauseIndex.first_erased.Goals as goal

pub returns-in-None : goal.returns-in-None
returns-in-None g c =
    λ k q. sym (c.requires.listed_erased k q) ∙ nothing_listed c.args.self.now.erased (k, q) (λ l. false≢true (c.in-None.ensures.variant.1 l))

pub returns-in-Some : goal.returns-in-Some
returns-in-Some g c = (
  sym (c.requires.listed_erased c.in-Some.first.now.0 c.in-Some.first.now.1) ∙ c.in-Some.ensures.member,
  λ k q h. first_from_pairs c.in-Some.first.now.0 c.in-Some.first.now.1 k q (c.in-Some.ensures.least (k, q) (c.requires.listed_erased k q ∙ h)),
)
