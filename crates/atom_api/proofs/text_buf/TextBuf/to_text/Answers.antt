use Rattle.std.proofs.Common.{sym}
use Rattle.std.proofs.lemmas.Str.{chars_from_encodes}
use Rattle.atom_api.proofs.text_buf.TextBuf.to_text.Goals as goal

pub returns : goal.returns
returns c = let same = chars_from_encodes c.args.self.now c.as_str.result.now c.as_str.utf8 (sym c.as_str.ensures) in rw same c.from_str.ensures
