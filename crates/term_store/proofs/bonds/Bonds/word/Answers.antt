use Rattle.std.proofs.Common.{◌<◌, length, sym, subst}
use Rattle.std.specs.List.{All}
use Rattle.std.proofs.lemmas.List.{length-map}
use Rattle.term_store.specs.Shorts.{BondList, bond_of}
use Rattle.term_store.proofs.Bonding.{slot_inside}
use Rattle.term_store.proofs.bonds.Bonds.word.Goals as goal

pub get-requires : goal.get-requires
get-requires c =
    let vs = c.self.inside.values in
    let ts = c.self.inside.trail.items in
    let inside : c.args.at < length ts =
    subst (λ n. c.args.at < n) (length-map ts (bond_of vs)) (subst (λ (v : BondList). c.args.at < length v.items) (sym c.self.view_is) c.requires.inside) in
    slot_inside vs ts c.args.at c.index.result.now inside c.index.ensures
    (subst (λ (v : BondList). All (λ b. b.slot < length v.values) v.items) (sym c.self.view_is) c.requires.slots)
