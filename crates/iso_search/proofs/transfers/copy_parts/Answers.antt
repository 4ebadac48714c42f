use Rattle.iso_search.proofs.Transferring.{grows_then}
use Rattle.iso_search.proofs.transfers.copy_parts.Goals as goal

pub copy_compounds-requires-clause-copies : goal.copy_compounds-requires-clause-copies
copy_compounds-requires-clause-copies c = c.in_ok-make_variables.ensures.copies c.args.store.now

pub returns-in_err-copy_compounds-clause-grows : goal.returns-in_err-copy_compounds-clause-grows
returns-in_err-copy_compounds-clause-grows c =
    grows_then c.args.other.now c.make_variables.new.other c.copy_compounds.new.other c.make_variables.ensures.grows c.copy_compounds.ensures.grows

pub returns-in-Some-clause-grows : goal.returns-in-Some-clause-grows
returns-in-Some-clause-grows c =
    grows_then c.args.other.now c.make_variables.new.other c.copy_compounds.new.other c.make_variables.ensures.grows c.copy_compounds.ensures.grows

pub returns-clause-grows : goal.returns-clause-grows
returns-clause-grows c =
    grows_then c.args.other.now c.make_variables.new.other c.copy_compounds.new.other c.make_variables.ensures.grows c.copy_compounds.ensures.grows
