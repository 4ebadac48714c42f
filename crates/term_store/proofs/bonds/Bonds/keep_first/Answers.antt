use Rattle.std.proofs.Common.{◌<◌, map, sym, ap, subst, ◌∙◌}
use Rattle.std.specs.List.{All}
use Rattle.term_store.specs.Shorts.{BondList, bond_of}
use Rattle.term_store.proofs.Bonding.{bonds_taken}
use Rattle.term_store.proofs.bonds.Bonds.keep_first.Goals as goal

pub returns-clause-items : goal.returns-clause-items
returns-clause-items c =
    let ts = c.self.inside.trail.items in
    ap (λ vs. map (bond_of vs) ts) c.truncate.ensures
    ∙ bonds_taken c.self.inside.values c.args.count ts (subst (λ (v : BondList). All (λ b. b.slot < c.args.count) v.items) (sym c.self.view_is) c.requires)
    ∙ ap (λ (v : BondList). v.items) c.self.view_is
