use Rattle.std.proofs.Common.{◌≡◌, ℕ, ◌<◌, ◌++◌, [], ◌∷◌, List, sym, ◌∙◌, subst, None}
use Rattle.atom_words.specs.Plays.{Alone}
use Rattle.atom_words.specs.Texts.{bucket}
use Rattle.atom_words.specs.Seats.{seen}
use Rattle.atom_words.specs.declared.size.Size.{Size}
use Rattle.atom_words.specs.declared.view.View.{View}
use Rattle.bucket_rows.specs.Walks.{spelled}
use Rattle.bucket_rows.proofs.Reading.{missing_as, reserved_as}
use Rattle.bucket_rows.proofs.Making.{beside_reserve}
use Rattle.atom_table.specs.Opening.{Carries, Placed}
use Rattle.atom_table.proofs.Settling.{placed_reserved, sitting_by, ok_map}
use Rattle.atom_table.proofs.opening.take_fixed.Goals as goal

pub settle-requires-clause-fits : goal.settle-requires-clause-fits
settle-requires-clause-fits c = let b = beside_reserve (seen c.args.seat.now) c.args.slot (seen c.reserve.new.seat) c.in-Ok.ensures.steps in (c.reserve.ensures.same.0 ∙ c.requires.fits.0, b.size ∙ c.requires.fits.1, b.gone ∙ c.requires.fits.2)

pub settle-requires-clause-own : goal.settle-requires-clause-own
settle-requires-clause-own c = (reserved_as (seen c.args.seat.now) c.args.slot (seen c.reserve.new.seat) c.in-Ok.ensures.steps).own

pub settle-requires-clause-sitting : goal.settle-requires-clause-sitting
settle-requires-clause-sitting c = let v : View = seen c.args.seat.now in let u : View = seen c.reserve.new.seat in let b = beside_reserve v c.args.slot u c.in-Ok.ensures.steps in sitting_by v u b.cycle b.undealt c.requires.sitting

pub settle-requires-clause-missing : goal.settle-requires-clause-missing
settle-requires-clause-missing c = let row : List ℕ = spelled c.args.text.now in (c.requires.missing.0, c.requires.missing.1, missing_as row (bucket c.requires.missing.0 row) (seen c.args.seat.now) (seen c.reserve.new.seat) (reserved_as (seen c.args.seat.now) c.args.slot (seen c.reserve.new.seat) c.in-Ok.ensures.steps).walk c.requires.missing.2)

pub returns-in-Ok-clause-placed : goal.returns-in-Ok-clause-placed
returns-in-Ok-clause-placed c = let row : List ℕ = spelled c.args.text.now in let v : View = seen c.args.seat.now in let u : View = seen c.reserve.new.seat in let w : View = seen c.settle.new.seat in let b = beside_reserve v c.args.slot u c.in-Ok.ensures.steps in
    let inside : c.args.slot < v.size.slots = subst (λ (y : Size). c.args.slot < y.slots) (sym c.requires.fits.1) c.requires.slot in
    ok_map (λ _. (w.held ≡ u.held ++ record { slot = c.args.slot; text = row } ∷ []) × Alone u c.args.slot row × (c.args.slot < c.args.words.now.size.slots) × (w.own ≡ None) × Carries u w) (λ _. Placed row c.args.slot v w) c.settle.result
    (λ _ p. placed_reserved row c.args.slot v u w b c.requires.none p.0 p.1 inside p.3 p.4) c.settle.ensures.placed
