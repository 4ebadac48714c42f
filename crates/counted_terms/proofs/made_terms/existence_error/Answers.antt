use Rattle.std.proofs.Common.{◌≡◌, codes}
use Rattle.std.proofs.lemmas.Result.{IfOk-weaker}
use Rattle.counted_terms.proofs.MadeTerms.{existence_is, held_some}
use Rattle.counted_terms.proofs.made_terms.existence_error.Goals as goal

pub returns-clause-says : goal.returns-clause-says
returns-clause-says c =
    IfOk-weaker c.paired.result _ _ (λ e says m t stand p. says m (codes "existence_error") t stand (stand 84 (codes "existence_error") existence_is) p) c.paired.ensures.says

pub returns-clause-named : goal.returns-clause-named
returns-clause-named c =
    IfOk-weaker c.paired.result _ _ (λ e named m stand p all. named m (held_some m 84 (codes "existence_error") (stand 84 (codes "existence_error") existence_is)) p all) c.paired.ensures.named
