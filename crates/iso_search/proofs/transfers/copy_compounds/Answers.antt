use Rattle.iso_search.proofs.Transferring.{grows_then}
use Rattle.iso_search.proofs.transfers.copy_compounds.Goals as goal

pub returns-in_err-copy_compound-clause-grows : goal.returns-in_err-copy_compound-clause-grows
returns-in_err-copy_compound-clause-grows c =
    grows_then c.args.other.now c.loop-compound.other c.copy_compound.new.other c.loop-compound.invariant.grows c.copy_compound.ensures.grows

pub loop-compound-preserved : goal.loop-compound-preserved
loop-compound-preserved c =
    record {
      grows = grows_then c.args.other.now c.loop-compound.other c.copy_compound.new.other c.loop-compound.invariant.grows c.copy_compound.ensures.grows;
      copies = c.in_ok-copy_compound.ensures.copies;
    }
