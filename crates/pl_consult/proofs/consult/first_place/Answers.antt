use Rattle.pl_consult.proofs.ConsultLemmas.{too_large_lines}
use Rattle.pl_consult.proofs.consult.first_place.Goals as goal

pub returns-then-text-gt-MOST_BYTES-clause-lines : goal.returns-then-text-gt-MOST_BYTES-clause-lines
returns-then-text-gt-MOST_BYTES-clause-lines c =
    too_large_lines c.args.name.now c.args.text.now c.args.out.now.items _ c.requires c.if-text-gt-MOST_BYTES.true c.in_ok-put_too_large.ensures
