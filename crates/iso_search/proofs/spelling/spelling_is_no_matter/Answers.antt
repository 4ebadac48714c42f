use Rattle.iso_search.proofs.Spelt.{unify-spelled, bound-spelled}
use Rattle.iso_search.proofs.spelling.spelling_is_no_matter.Goals as goal

pub returns : goal.returns
returns c = record { unified = unify-spelled; bound = bound-spelled }
