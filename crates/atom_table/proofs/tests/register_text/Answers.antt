use Rattle.std.proofs.Common.{◌≡◌, ◌<◌, ℕ, ◌+◌, List, length, set, replicate, refl, sym, ap, ◌∙◌, subst, inl, arith, Some, option_map, get_or-set_same}
use lib.ListN.{length-replicate}
use Rattle.atomic_table.proofs.Lists.{at_last}
use Rattle.atom_words.specs.Views.{uncounted}
use Rattle.atom_words.specs.Kinds.{counted, once_more}
use Rattle.atom_words.specs.Seats.{seen, Has}
use Rattle.atom_words.specs.declared.view.Held.{Held}
use Rattle.atom_words.specs.declared.view.Counted.{Counted}
use Rattle.atom_words.specs.declared.view.View.{View}
use Rattle.bucket_rows.specs.Walks.{spelled}
use Rattle.atom_table.proofs.Settling.{counted_none}
use Rattle.atom_table.proofs.tests.register_text.Goals as goal

pub register-requires-clause-held : goal.register-requires-clause-held
register-requires-clause-held c = let v : View = seen c.args.seat.now in let h : Held = record { slot = c.in-Is.a; text = spelled c.args.text.now } in let told = c.in-Is.ensures.answer.2 in
    (h, inl (length v.held, ap (λ l. lib.ListN.get_elem? l (length v.held)) told.1 ∙ at_last v.held h (length v.held) refl), refl)

pub register-requires-clause-room : goal.register-requires-clause-room
register-requires-clause-room c = let v : View = seen c.args.seat.now in let n : ℕ = v.size.slots in let no = counted_none n c.in-Is.a in (replicate n uncounted, c.in-Is.ensures.rest.counts ∙ c.requires.counts, omega arith)

pub returns-in-Is-clause-counted : goal.returns-in-Is-clause-counted
returns-in-Is-clause-counted c = let v : View = seen c.args.seat.now in let w : View = seen c.intern.new.seat in let n : ℕ = v.size.slots in let cs : List Counted = replicate n uncounted in let h : Held = record { slot = c.in-Is.a; text = spelled c.args.text.now } in let told = c.in-Is.ensures.answer.2 in
    let ours : Has w h = inl (length v.held, ap (λ l. lib.ListN.get_elem? l (length v.held)) told.1 ∙ at_last v.held h (length v.held) refl) in
    let e = c.register.ensures.steps h ours refl in let counts : w.counts ≡ Some cs = c.in-Is.ensures.rest.counts ∙ c.requires.counts in let no = counted_none n c.in-Is.a in let long = length-replicate {A = Counted} n uncounted in
    let new : Counted = record { count = (counted cs c.in-Is.a).count + 1; text = spelled c.args.text.now } in
    let here : counted (set cs c.in-Is.a new) c.in-Is.a ≡ new = get_or-set_same cs c.in-Is.a new uncounted (omega (arith, told.3, long)) in
    (once_more h cs, ap (λ (y : View). y.counts) e ∙ ap (option_map (once_more h)) counts, subst (λ (d : Counted). 0 < d.count) (sym here) (omega arith))
