use Rattle.std.proofs.Common.{◌≡◌, ℕ, ◌<◌, List, [], ◌∷◌, ◌++◌, refl, sym, ap, ◌∙◌, subst, arith, Some, None, Ok, Option}
use Rattle.atom_words.specs.Texts.{bucket}
use Rattle.atom_words.specs.Plays.{Alone}
use Rattle.atom_words.specs.Seats.{seen, Walking}
use Rattle.bucket_rows.proofs.Reading.{walking_as}
use Rattle.atom_words.specs.declared.size.Size.{Size}
use Rattle.atom_words.specs.declared.view.View.{View}
use Rattle.bucket_rows.specs.Walks.{spelled, MissingIn, held_after}
use Rattle.atom_table.proofs.Telling.{found_told, later_told}
use Rattle.atom_table.proofs.table.AtomTable.intern_short.Goals as goal

pub returns-in-Some-clause-told : goal.returns-in-Some-clause-told
returns-in-Some-clause-told c = let t = c.args.text.now in let row : List ℕ = spelled t in let v : View = seen c.args.seat.now in let u : View = seen c.ask.new.seat in let x : View = seen c.walk.new.seat in
    let P : Option ℕ → Type 0 = λ o. Rattle.std.proofs.Common.MatchOption o (MissingIn row x) (λ a. (a < c.args.self.now.words.size.slots) × Alone u a row) in
    let last = subst P c.in-Some.is c.in-Ok.ensures.last in (
      8,
      omega arith,
      found_told t (bucket 8 row) c.requires.short v u x c.ask.ensures.steps c.walk.ensures.aside c.in-Some.a (c.in-Ok.ensures.held ∙ ap (λ (o : Option ℕ). held_after row u (Ok o)) c.in-Some.is) c.in-Ok.ensures.refused
          (subst (λ (n : Size). c.in-Some.a < n.slots) (sym c.requires.fits.1) last.0) last.1,
    )

pub returns-in-None-clause-told : goal.returns-in-None-clause-told
returns-in-None-clause-told c = let t = c.args.text.now in let row : List ℕ = spelled t in let v : View = seen c.args.seat.now in let u : View = seen c.ask.new.seat in let x : View = seen c.walk.new.seat in
    let made = c.make.ensures.told in (made.0, made.1, later_told t (bucket made.0 row) c.requires.short v u x c.ask.ensures.steps c.walk.ensures.aside (c.in-Ok.ensures.held ∙ ap (λ (o : Option ℕ). held_after row u (Ok o)) c.in-None.is) c.in-Ok.ensures.refused c.make.result (seen c.make.new.seat) made.2)

pub walk-requires-clause-walking : goal.walk-requires-clause-walking
walk-requires-clause-walking c = subst (λ (y : View). Walking y) (sym c.ask.ensures.steps) c.requires.walking

pub make-requires-clause-walking : goal.make-requires-clause-walking
make-requires-clause-walking c = walking_as (seen c.ask.new.seat) (seen c.walk.new.seat) c.walk.ensures.aside (subst (λ (y : View). Walking y) (sym c.ask.ensures.steps) c.requires.walking)
