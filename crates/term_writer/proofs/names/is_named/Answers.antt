use Rattle.term_writer.proofs.Texts.{named}
use Rattle.term_writer.proofs.names.is_named.Goals as goal

pub returns : goal.returns
returns c = named _ _ _ c.utf8.text c.requires c.is.ensures
