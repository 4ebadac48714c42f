use Rattle.std.proofs.Common.{◌≡◌, ◌<◌, [], ◌∷◌, ◌++◌, length, map, None, sym, ap, ap₂, subst, ◌∙◌}
use Rattle.term_store.specs.Heap.{find}
use Rattle.term_store.specs.Shorts.{BondList, bond_of}
use Rattle.term_store.proofs.Bonding.{bonds_bound}
use Rattle.term_store.proofs.bonds.Bonds.bind.Goals as goal

pub returns-clause-items : goal.returns-clause-items
returns-clause-items c =
    let vs = c.self.inside.values in
    let ts = c.self.inside.trail.items in
    let i = c.args.slot in
    let pushed : c.push_reserved.new.self.items ≡ ts ++ i ∷ [] =
    c.push_reserved.ensures.items ∙ ap₂ (λ l n. l ++ n ∷ []) c.in_ok-reserve.ensures.items c.in_ok-short.ensures in
    ap₂ (λ ws l. map (bond_of ws) l) c.in_ok-set.ensures pushed
    ∙ bonds_bound vs i c.args.word ts (subst (λ (v : BondList). i < length v.values) (sym c.self.view_is) c.requires.slot)
    (subst (λ (v : BondList). find i v.items ≡ None) (sym c.self.view_is) c.requires.free)
    ∙ ap (λ (v : BondList). v.items ++ record { slot = i; word = c.args.word } ∷ []) c.self.view_is
