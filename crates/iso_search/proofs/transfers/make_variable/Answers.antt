use Rattle.std.proofs.Common.{refl}
use Rattle.iso_search.specs.declared.transfers.Copies.{Copies}
use Rattle.iso_search.proofs.Transferring.{variable_added}
use Rattle.iso_search.proofs.transfers.make_variable.Goals as goal

pub returns-clause-copies : goal.returns-clause-copies
returns-clause-copies c s =
    let after : Copies = record { variables = c.push.new.self; compounds = c.args.copies.now.compounds } in
    variable_added s c.args.other.now c.make_variable.new.self c.args.copies.now after c.args.number c.in_ok-place.place (c.requires.copies s) c.in_ok-place.ensures.made
    c.in_ok-place.ensures.adds c.in_ok-push.ensures.items refl
