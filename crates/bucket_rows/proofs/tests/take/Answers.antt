use Rattle.std.proofs.Common.{◌≡◌, ℕ, List, sym, ap, ◌∙◌, subst}
use Rattle.atom_words.specs.Texts.{row_of, bucket}
use Rattle.atom_words.specs.Seats.{seen, PutsRow}
use Rattle.atom_words.specs.Kinds.{after}
use Rattle.atom_words.specs.declared.view.View.{View}
use Rattle.bucket_rows.specs.Walks.{spelled}
use Rattle.bucket_rows.proofs.Filling.{text_row_is}
use Rattle.bucket_rows.proofs.Reading.{reserved_as, missing_as, ready_put}
use Rattle.bucket_rows.proofs.Making.{Beside, beside_trans, beside_reserve, beside_puts, walking_beside}
use Rattle.bucket_rows.proofs.tests.take.Goals as goal

pub returns-in-Ok-clause-fits : goal.returns-in-Ok-clause-fits
returns-in-Ok-clause-fits c = let v : View = seen c.args.seat.now in let u : View = seen c.reserve.new.seat in let w : View = seen c.put_text.new.seat in
    let b = beside_trans v u w (beside_reserve v c.args.slot u c.in-Ok.ensures.steps) (beside_puts (row_of c.as_bytes.result.now) u w c.put_text.ensures.steps) in
    (c.put_text.ensures.same.0 ∙ (c.reserve.ensures.same.0 ∙ c.requires.fits.0), b.size ∙ c.requires.fits.1, b.gone ∙ c.requires.fits.2)

pub returns-in-Ok-clause-ready : goal.returns-in-Ok-clause-ready
returns-in-Ok-clause-ready c = λ _. let v : View = seen c.args.seat.now in let u : View = seen c.reserve.new.seat in let w : View = seen c.put_text.new.seat in let row : List ℕ = spelled c.args.text.now in let r = reserved_as v c.args.slot u c.in-Ok.ensures.steps in
    let is : row_of c.as_bytes.result.now ≡ row = ap row_of (c.as_bytes.ensures.value ∙ c.as_str.ensures) in
    let b = beside_trans v u w (beside_reserve v c.args.slot u c.in-Ok.ensures.steps) (beside_puts (row_of c.as_bytes.result.now) u w c.put_text.ensures.steps) in
    (ready_put row c.args.slot u w (text_row_is (Rattle.std.proofs.Common.encode_utf8_all c.args.text.now) c.requires.short) r.own (c.requires.missing.0, c.requires.missing.1, missing_as row (bucket c.requires.missing.0 row) v u r.walk c.requires.missing.2) (subst (λ (l : List ℕ). PutsRow l u w) is c.put_text.ensures.steps), walking_beside v w b c.requires.walking)
