use Rattle.std.proofs.Common.{◌≡◌, ℕ, ◌<◌, ◌++◌, [], ◌∷◌, subst, Ok}
use Rattle.atom_words.specs.Plays.{Alone}
use Rattle.atom_words.specs.Seats.{seen}
use Rattle.atom_words.specs.declared.view.View.{View}
use Rattle.bucket_rows.specs.Walks.{spelled}
use Rattle.atom_table.proofs.Adding.{added}
use Rattle.atom_table.proofs.opening.settle.Goals as goal

pub returns-in-Ok-clause-placed : goal.returns-in-Ok-clause-placed
returns-in-Ok-clause-placed c = let t = c.args.text.now in let v : View = seen c.args.seat.now in let w : View = seen c.add_text.new.seat in let m = c.requires.missing.2 in let h = c.in-Ok.ensures.held c.args.slot c.requires.own in
    let a = added (spelled t) m.walk v c.args.slot c.requires.own (Ok c.in-Ok.field-0) w (c.in-Ok.ensures.steps m.walk m.at) in
    let b = subst (λ (k : ℕ). Alone v k (spelled t) × (k < c.args.words.now.size.slots) × (w.held ≡ v.held ++ record { slot = k; text = spelled t } ∷ [])) h.0 (h.2, h.1, h.3) in
    (b.2, b.0, b.1, a.none, record { gone = a.carried.gone; size = a.carried.size; fixed = a.carried.fixed; counts = a.carried.counts; undealt = a.carried.undealt; cycle = a.carried.cycle; sweep = a.carried.sweep; risen = a.carried.risen })
