use Rattle.std.proofs.Common.{sym, ap, ◌∙◌, subst}
use Rattle.atom_words.specs.Seats.{Walking}
use Rattle.atom_words.specs.declared.view.View.{View}
use Rattle.bucket_rows.proofs.tests.raised.Goals as goal

pub returns-clause-fits : goal.returns-clause-fits
returns-clause-fits c = let u = c.raise.ensures.unchanged.2 in (c.raise.ensures.same.0 ∙ c.requires.fits.0, ap (λ (y : View). y.size) u ∙ c.requires.fits.1, ap (λ (y : View). y.gone) u ∙ c.requires.fits.2)

pub returns-clause-none : goal.returns-clause-none
returns-clause-none c = ap (λ (y : View). y.own) c.raise.ensures.unchanged.2 ∙ c.requires.none

pub returns-clause-walking : goal.returns-clause-walking
returns-clause-walking c = subst (λ (y : View). Walking y) (sym c.raise.ensures.unchanged.2) c.requires.walking
