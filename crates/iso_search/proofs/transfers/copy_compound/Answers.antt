use Rattle.std.proofs.Common.{map, refl, ap, ◌∙◌}
use Rattle.term_store.specs.Contents.{term_at}
use Rattle.iso_search.specs.declared.transfers.Copies.{Copies}
use Rattle.iso_search.proofs.Transferring.{compound_added}
use Rattle.iso_search.proofs.transfers.copy_compound.Goals as goal

pub returns-clause-copies : goal.returns-clause-copies
returns-clause-copies c =
    let after : Copies = record { variables = c.args.copies.now.variables; compounds = c.push.new.self } in
    compound_added c.args.store.now c.args.other.now c.make_compound.new.self c.args.copies.now after c.args.compound c.deref.result.now c.in_ok-place.place
    c.requires.copies c.in_ok-place.ensures.made c.in_ok-place.ensures.adds (ap (map (term_at c.args.other.now)) c.deref.ensures.value ∙ c.in_ok-copy_arguments.ensures.means) c.in_ok-push.ensures.items refl
