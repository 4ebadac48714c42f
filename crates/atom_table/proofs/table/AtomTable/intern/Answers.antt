use Rattle.std.proofs.Common.{◌∙◌, refl, arith}
use Rattle.atom_words.specs.Texts.{bucket}
use Rattle.atom_words.specs.Seats.{seen}
use Rattle.bucket_rows.specs.Walks.{spelled}
use Rattle.atom_table.proofs.Telling.{sound_told}
use Rattle.atom_table.proofs.Settling.{walking_rest}
use Rattle.atom_table.proofs.table.AtomTable.intern.Goals as goal

pub returns-else-bytes-gt-MOST_BYTES-clause-sits : goal.returns-else-bytes-gt-MOST_BYTES-clause-sits
returns-else-bytes-gt-MOST_BYTES-clause-sits c = let t = c.args.text.now in let told = c.intern_short.ensures.told.2 in (
  (c.intern_short.ensures.same.0 ∙ c.requires.sits.0.0, told.rest.size ∙ c.requires.sits.0.1, told.rest.gone ∙ c.requires.sits.0.2),
  told.rest.own ∙ c.requires.sits.1,
  sound_told t (bucket c.intern_short.ensures.told.0 (spelled t)) (seen c.args.seat.now) (seen c.intern_short.new.seat) c.intern_short.result c.scalars.ensures told c.requires.sits.2,
)

pub returns-else-bytes-gt-MOST_BYTES-clause-walking : goal.returns-else-bytes-gt-MOST_BYTES-clause-walking
returns-else-bytes-gt-MOST_BYTES-clause-walking c = walking_rest (seen c.args.seat.now) (seen c.intern_short.new.seat) c.intern_short.ensures.told.2.rest c.requires.walking

pub returns-then-bytes-gt-MOST_BYTES-clause-answer : goal.returns-then-bytes-gt-MOST_BYTES-clause-answer
returns-then-bytes-gt-MOST_BYTES-clause-answer c = let is = c.size-bytes.ensures in (8, omega arith, (omega (arith, c.if-bytes-gt-MOST_BYTES.true, is), is, refl))
