use Rattle.std.proofs.Common.{◌≡◌, ◌≢◌, ◌+◌, ◌*◌, ◌<◌, ℕ, length, [], ◌∷◌, sym, ap, ◌∙◌, subst, inl, inr, Some}
use Rattle.atom_words.specs.Board.{text_at}
use Rattle.atom_words.specs.Kinds.{view_after}
use Rattle.atom_words.specs.declared.size.Size.{Size}
use Rattle.atom_words.specs.declared.view.Own.{Own}
use Rattle.atom_words.specs.declared.view.View.{View}
use Rattle.atom_words.specs.declared.kind.Kind.TheVariants.{PutWord}
use Rattle.atom_words.proofs.Steps.{putting_word}
use Rattle.atom_words.proofs.words.Words.put_word.Goals as goal

pub returns-then-found-word-clause-steps : goal.returns-then-found-word-clause-steps
returns-then-found-word-clause-steps c = inl (c.find_word-found.ensures.found c.if-found-word.true)

pub store-requires : goal.store-requires
store-requires c = let v : View = c.args.seat.now.me.0 in let u : View = c.find_word-found.new.seat.me.0 in let o = c.requires.own in let is = c.find_word-found.ensures.other c.if-found-word.false in
    let size : u.size ≡ v.size = ap (λ (y : View). y.size) is in let same : c.args.self.now.size ≡ u.size = sym c.requires.fits.1 ∙ sym size in (
      c.find_word-found.ensures.same.0 ∙ c.requires.fits.0,
      c.requires.inside,
      putting_word c.args.self.now.table.shared.key c.args.self.now.table.shared.table_id.slots c.find_word-found.new.seat.id c.find_word-found.new.seat.me (c.args.self.now.keyed ∙ same) (ap (λ (y : View). y.gone) is ∙ c.requires.fits.2)
          c.args.place c.args.word o.0 (ap (λ (y : View). y.own) is ∙ o.1) o.2 o.3 (subst (λ (z : Size). o.0.slot < z.slots) (sym size) o.4) (o.5 ∙ ap (λ (z : Size). text_at z o.0.slot (length o.0.text)) (sym size)),
    )

pub returns-clause-steps : goal.returns-clause-steps
returns-clause-steps c = let is = c.find_word-found.ensures.other c.if-found-word.false in
    inr (c.args.place, c.find_word-found.result, c.if-found-word.false, c.store.ensures.2.1 ∙ ap (λ (y : View). view_after y (PutWord c.args.word)) is)
