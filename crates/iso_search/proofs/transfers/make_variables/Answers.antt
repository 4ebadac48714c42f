use Rattle.iso_search.proofs.Transferring.{grows_then}
use Rattle.iso_search.proofs.transfers.make_variables.Goals as goal

pub returns-in_err-make_variable-clause-grows : goal.returns-in_err-make_variable-clause-grows
returns-in_err-make_variable-clause-grows c =
    grows_then c.args.other.now c.loop-number.other c.make_variable.new.other c.loop-number.invariant.grows c.make_variable.ensures.grows

pub loop-number-preserved : goal.loop-number-preserved
loop-number-preserved c =
    record {
      grows = grows_then c.args.other.now c.loop-number.other c.make_variable.new.other c.loop-number.invariant.grows c.make_variable.ensures.grows;
      copies = c.in_ok-make_variable.ensures.copies;
    }
