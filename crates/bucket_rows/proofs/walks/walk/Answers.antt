use Rattle.std.proofs.Common.{◌<◌, ℕ, List, sym, ap, ◌∙◌, subst, IfOk, MatchOption}
use Rattle.atom_words.specs.Texts.{bucket}
use Rattle.atom_words.specs.Plays.{Alone}
use Rattle.atom_words.specs.Seats.{seen, Walking}
use Rattle.atom_words.specs.declared.view.View.{View}
use Rattle.bucket_rows.specs.Walks.{spelled, Walks, Missing, Aside, held_after, refused_after}
use Rattle.bucket_rows.proofs.Reading.{aside_trans, aside_loaded, held_loaded, refused_loaded, last_loaded}
use Rattle.bucket_rows.proofs.walks.walk.Goals as goal

pub walk_row-requires-clause-fits : goal.walk_row-requires-clause-fits
walk_row-requires-clause-fits c = let is = c.row_in_use-row_size.ensures.steps in (c.row_in_use-row_size.ensures.same.0 ∙ c.requires.fits.0, ap (λ (y : View). y.size) is ∙ c.requires.fits.1, ap (λ (y : View). y.gone) is ∙ c.requires.fits.2)

pub walk_row-requires-clause-none : goal.walk_row-requires-clause-none
walk_row-requires-clause-none c = ap (λ (y : View). y.own) c.row_in_use-row_size.ensures.steps ∙ c.requires.none

pub walk_row-requires-clause-walking : goal.walk_row-requires-clause-walking
walk_row-requires-clause-walking c = subst (λ (y : View). Walking y) (sym c.row_in_use-row_size.ensures.steps) c.requires.walking

pub returns-clause-steps : goal.returns-clause-steps
returns-clause-steps c = let v : View = seen c.args.seat.now in let s : ℕ = c.row_in_use-row_size.result in let row : List ℕ = spelled c.args.text.now in
    (s, c.row_in_use-row_size.ensures.row.0, subst (λ (y : View). Walks row (bucket s row) y c.walk_row.result (seen c.walk_row.new.seat)) c.row_in_use-row_size.ensures.steps c.walk_row.ensures.steps)

pub returns-clause-aside : goal.returns-clause-aside
returns-clause-aside c = let v : View = seen c.args.seat.now in let u : View = seen c.row_in_use-row_size.new.seat in
    aside_trans v u (seen c.walk_row.new.seat) (subst (Aside v) (sym c.row_in_use-row_size.ensures.steps) (aside_loaded v 1 c.row_in_use-row_size.result)) c.walk_row.ensures.aside

pub returns-clause-held : goal.returns-clause-held
returns-clause-held c = let v : View = seen c.args.seat.now in let row : List ℕ = spelled c.args.text.now in c.walk_row.ensures.held ∙ (ap (λ (y : View). held_after row y c.walk_row.result) c.row_in_use-row_size.ensures.steps ∙ held_loaded row v 1 c.row_in_use-row_size.result c.walk_row.result)

pub returns-clause-refused : goal.returns-clause-refused
returns-clause-refused c = let v : View = seen c.args.seat.now in c.walk_row.ensures.refused ∙ (ap (λ (y : View). refused_after y c.walk_row.result) c.row_in_use-row_size.ensures.steps ∙ refused_loaded v 1 c.row_in_use-row_size.result c.walk_row.result)

pub returns-clause-last : goal.returns-clause-last
returns-clause-last c = let v : View = seen c.args.seat.now in let s : ℕ = c.row_in_use-row_size.result in let row : List ℕ = spelled c.args.text.now in
    last_loaded row s c.args.words.now.size.slots 1 s v (seen c.walk_row.new.seat) c.walk_row.result c.row_in_use-row_size.ensures.row.0
    (subst (λ (y : View). IfOk c.walk_row.result (λ o. MatchOption o (Missing row (bucket s row) (seen c.walk_row.new.seat)) (λ a. (a < c.args.words.now.size.slots) × Alone y a row))) c.row_in_use-row_size.ensures.steps c.walk_row.ensures.last)
