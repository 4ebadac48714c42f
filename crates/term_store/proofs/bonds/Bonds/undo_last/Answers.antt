use Rattle.std.proofs.Common.{◌≡◌, ◌<◌, [], ◌∷◌, ◌++◌, length, map, sym, ap, subst, ◌∙◌}
use Rattle.std.specs.List.{All}
use Rattle.term_store.specs.Fit.{OnceFrom}
use Rattle.term_store.specs.Shorts.{BondList, bond_of, last_bond}
use Rattle.term_store.proofs.Bonding.{last_inside, undone}
use Rattle.term_store.proofs.bonds.Bonds.undo_last.Goals as goal

pub clear-requires : goal.clear-requires
clear-requires c =
    last_inside c.self.inside.values c.self.inside.trail.items c.pop.new.self.items c.in-Some.slot c.in-Some.ensures.items
    (subst (λ (v : BondList). All (λ b. b.slot < length v.values) v.items) (sym c.self.view_is) c.requires.slots)

pub returns-in-Some-clause-split : goal.returns-in-Some-clause-split
returns-in-Some-clause-split c =
    let vs = c.self.inside.values in
    let ts = c.self.inside.trail.items in
    let cs = c.pop.new.self.items in
    let e : map (bond_of vs) ts ≡ c.args.self.now.items = ap (λ (v : BondList). v.items) c.self.view_is in
    sym e
    ∙ undone vs ts cs c.in-Some.slot c.in-Some.ensures.items (subst (λ (v : BondList). OnceFrom [] v.items) (sym c.self.view_is) c.requires.once)
    ∙ ap (λ ws. map (bond_of ws) cs ++ last_bond (map (bond_of vs) ts) ∷ []) (sym c.clear.ensures)
    ∙ ap (λ bs. map (bond_of c.clear.new.self) cs ++ last_bond bs ∷ []) e
