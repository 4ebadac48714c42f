-- The texts of sections.
use Rattle.std.specs.Prelude.{◌≡◌, List, [], ◌∷◌, ◌++◌, Option, Some, None, encode_utf8_all}
use Rattle.pl_term.specs.Tree.{Chars}
use Rattle.pl_report.specs.declared.parts.Section.{Section}
use Rattle.pl_report.specs.Sections.{AreWritten, section_text, transcript_text}

-- A section has this text.
pub record IsSection (s : Section) (wanted : Chars) : Type 0 where
  pub written : Chars
  pub spelled : s.text.now ≡ encode_utf8_all written
  pub says : section_text s.kind written s.how s.ops.now ≡ wanted

-- These sections have this text together.
pub record AreSections (ss : List Section) (wanted : Chars) : Type 0 where
  pub written : List Chars
  pub spelled : AreWritten ss written
  pub says : transcript_text ss written ≡ wanted

-- There is such a section where the text is not empty.
abbrev pub IsPart : Option Section → Chars → Type 0
IsPart None wanted = wanted ≡ []
IsPart (Some s) wanted = IsSection s wanted

-- A section is put, if there is one.
abbrev pub PutSo : List Section → List Section → Option Section → Type 0
PutSo old new None = new ≡ old
PutSo old new (Some s) = new ≡ old ++ s ∷ []
