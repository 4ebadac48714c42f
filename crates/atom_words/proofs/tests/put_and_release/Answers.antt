use Rattle.std.proofs.Common.{List, ℕ, refl, ap, ◌∙◌, inr}
use Rattle.atom_words.specs.Texts.{row_of}
use Rattle.atom_words.specs.Seats.{seen}
use Rattle.atom_words.specs.declared.view.View.{View}
use Rattle.atom_words.proofs.Putting.{row_length, row_keeps, row_own}
use Rattle.atom_words.proofs.Padding.{formed_row}
use Rattle.atom_words.proofs.tests.put_and_release.Goals as goal

pub release-requires-clause-fits : goal.release-requires-clause-fits
release-requires-clause-fits c = let v : View = seen c.args.seat.now in let row : List ℕ = row_of c.args.text.now in (
  c.put_text.ensures.same.0 ∙ c.requires.fits.0,
  (row_keeps (λ (y : View). y.size) (λ _ _. refl) (λ _ _. refl) (λ _ _ _. refl) (λ _. refl) row v (seen c.put_text.new.seat) c.put_text.ensures.steps ∙ c.requires.fits.1),
  (row_keeps (λ (y : View). y.gone) (λ _ _. refl) (λ _ _. refl) (λ _ _ _. refl) (λ _. refl) row v (seen c.put_text.new.seat) c.put_text.ensures.steps ∙ c.requires.fits.2),
)

pub release-requires-clause-unlinked : goal.release-requires-clause-unlinked
release-requires-clause-unlinked c = let v : View = seen c.args.seat.now in let row : List ℕ = row_of c.args.text.now in let o = c.requires.own.0 in
    let now = row_own o row v (seen c.put_text.new.seat) c.requires.own.3 c.requires.own.1 c.put_text.ensures.steps in (record o { text = row; bound = now.0 }, now.1, c.requires.own.2, inr (row_length c.args.text.now, formed_row c.args.text.now c.requires.short))

pub returns-clause-fits : goal.returns-clause-fits
returns-clause-fits c = let v : View = seen c.args.seat.now in let row : List ℕ = row_of c.args.text.now in (
  c.release.ensures.same.0 ∙ (c.put_text.ensures.same.0 ∙ c.requires.fits.0),
  ap (λ (y : View). y.size) c.release.ensures.steps ∙ ((row_keeps (λ (y : View). y.size) (λ _ _. refl) (λ _ _. refl) (λ _ _ _. refl) (λ _. refl) row v (seen c.put_text.new.seat) c.put_text.ensures.steps ∙ c.requires.fits.1)),
  ap (λ (y : View). y.gone) c.release.ensures.steps ∙ ((row_keeps (λ (y : View). y.gone) (λ _ _. refl) (λ _ _. refl) (λ _ _ _. refl) (λ _. refl) row v (seen c.put_text.new.seat) c.put_text.ensures.steps ∙ c.requires.fits.2)),
)
