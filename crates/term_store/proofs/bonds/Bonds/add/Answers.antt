use Rattle.std.proofs.Common.{is_ok, ap, ◌∙◌}
use Rattle.term_store.specs.Shorts.{BondList}
use Rattle.term_store.proofs.Bonding.{bonds_added}
use Rattle.term_store.proofs.bonds.Bonds.add.Goals as goal

pub returns-clause-items : goal.returns-clause-items
returns-clause-items c =
    bonds_added c.self.inside.values c.push_none.new.self (is_ok c.push_none.result) c.self.inside.trail.items c.push_none.ensures
    ∙ ap (λ (v : BondList). v.items) c.self.view_is
