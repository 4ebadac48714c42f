use Rattle.std.proofs.Common.{◌≡◌, ◌<◌, [], ◌∷◌, ◌++◌, length, map, set, None, Some, sym, ap, ap₂, subst, ◌∙◌}
use Rattle.term_store.specs.Heap.{find}
use Rattle.term_store.specs.Shorts.{BondList, bond_of, long_word}
use Rattle.term_store.proofs.Bonding.{bonds_bound}
use Rattle.term_store.proofs.bonds.Bonds.bind_short.Goals as goal

pub returns-clause-values : goal.returns-clause-values
returns-clause-values c =
    c.set_short.ensures ∙ ap (set c.self.inside.values c.args.slot) c.requires.word
    ∙ ap (λ (v : BondList). set v.values c.args.slot (Some (long_word [] c.args.short))) c.self.view_is

pub returns-clause-items : goal.returns-clause-items
returns-clause-items c =
    let vs = c.self.inside.values in
    let ts = c.self.inside.trail.items in
    let i = c.args.slot in
    let w = long_word [] c.args.short in
    let pushed : c.push_reserved.new.self.items ≡ ts ++ i ∷ [] = c.push_reserved.ensures.items ∙ ap (λ l. l ++ i ∷ []) c.in_ok-reserve_one.ensures.items in
    ap₂ (λ ws l. map (bond_of ws) l) (c.set_short.ensures ∙ ap (set vs i) c.requires.word) pushed
    ∙ bonds_bound vs i w ts (subst (λ (v : BondList). i < length v.values) (sym c.self.view_is) c.requires.slot)
    (subst (λ (v : BondList). find i v.items ≡ None) (sym c.self.view_is) c.requires.free)
    ∙ ap (λ (v : BondList). v.items ++ record { slot = i; word = w } ∷ []) c.self.view_is
