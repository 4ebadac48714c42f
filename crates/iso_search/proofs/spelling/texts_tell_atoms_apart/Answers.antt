use Rattle.iso_search.proofs.Texts.{texts_apart}
use Rattle.iso_search.proofs.spelling.texts_tell_atoms_apart.Goals as goal

pub returns : goal.returns
returns c = texts_apart
