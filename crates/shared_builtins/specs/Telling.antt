-- Names by which terms over atoms are read as terms over texts.
use Rattle.atom_api.specs.Names.{Names}
use Rattle.iso_search.specs.Spelling.{TellsApart, text_of}
use Rattle.builtin_rows.specs.Lists.{IsNaming}

-- The fixed atoms have their texts, no two atoms have one text, and what is no atom is spelled by no text.
pub record TellsAtoms (m : Names) : Type 0 where
  pub naming : IsNaming m
  pub apart : TellsApart (text_of m)
