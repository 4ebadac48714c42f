use Rattle.std.proofs.Common.{◌+◌, ◌<◌, ◌≤◌, ◌^◌, sym, ap, subst, ◌∙◌}
use Rattle.pl_term.specs.Cells.{cells}
use Rattle.pl_term.specs.Variables.{rename}
use Rattle.pl_model.specs.BuiltinRows.{Answer}
use Rattle.pl_model.specs.History.{proc}
use Rattle.pl_model.specs.Terms.{arguments, variable_count}
use Rattle.builtin_rows.specs.Given.{with_room}
use Rattle.builtin_rows.specs.Rows.{ArePlaced, IsRow, Makes, listed, terms_at}
use Rattle.term_store.specs.NumberedNames.{term_by}
use Rattle.world_api.specs.Texts.{text_of}
use Rattle.world_builtins.specs.Spelling.{reads}
use Rattle.shared_builtins.specs.Following.{with_answer}
use Rattle.shared_builtins.proofs.Choosing.{none_of, some_of}
use Rattle.shared_builtins.proofs.CopiedRows.{copy_held, copy_made, copy_read, counted, full_room, made_row, room_made, sized}
use Rattle.shared_builtins.proofs.OverAtoms.{marked_over}
use Rattle.shared_builtins.proofs.rows.copied.Goals as goal

pub returns-in-Some-clause-row : goal.returns-in-Some-clause-row
returns-in-Some-clause-row c m n held names =
    let s = c.args.store.now in
    let x = c.args.goal.now in
    let is = c.requires.goal in
    let us = arguments (reads m s x.place) in
    let kept = c.args.term.now in
    let t = term_by (text_of m) kept in
    let a : Answer = record { terms = with_answer x.pred us (rename c.args.next t); fresh = variable_count t; made = cells t } in
    let f = is.predicate.0.0 in
    let u = c.take_room.new.store in
    let full = some_of _ c.in_ok-full.full c.in-Some.row c.in-Some.is c.in_ok-full.ensures.refused m f us a n.stands is.predicate.0.1
    (counted m kept ∙ sym c.variables-fresh.ensures) (sized m kept ∙ sym c.cells-made.ensures) in
    subst (λ d. IsRow s c.args.next us d m u c.in-Some.row) (sym (full_room m n.stands s x is c.args.next a))
    (subst (λ k. IsRow s c.args.next us (with_room (proc f k) c.args.next s.used s.budget a) m u c.in-Some.row) c.arity_of-arity.ensures full)

pub returns-in_ok-given-in-None-clause-row : goal.returns-in_ok-given-in-None-clause-row
returns-in_ok-given-in-None-clause-row c m n held names =
    let s = c.args.store.now in
    let x = c.args.goal.now in
    let is = c.requires.goal in
    let us = arguments (reads m s x.place) in
    let next = c.args.next in
    let kept = c.args.term.now in
    let t = term_by (text_of m) kept in
    let v = c.take_room.new.store in
    let u = c.build.new.self in
    let b = c.in_ok-given-in-None.ensures in
    let g = c.in_ok-given-in-None.given in
    let a : Answer = record { terms = with_answer x.pred us (rename next t); fresh = variable_count t; made = cells t } in
    let same = none_of _ c.in_ok-full.full c.in-None.is c.in_ok-full.ensures.taken in
    let fresh = c.variables-fresh.ensures ∙ sym (counted m kept) in
    let size = c.cells-made.ensures ∙ sym (sized m kept) in
    let makes = subst (λ k. Makes s next a.fresh k u) size
    (copy_made s v u next a.fresh c.cells-made.result kept g (room_made s v next c.cells-made.result same) b.built b.adds (sym (counted m kept))) in
    let others = c.others_of-others.ensures m n held in
    let read = copy_read m n.stands u g next kept b.built.means (marked_over u c.mark-whole.result g c.mark-whole.ensures.mark c.mark-whole.ensures.here b.built.holds) in
    let placed = subst (λ ps. ArePlaced m u (listed ps)) (sym c.with_given-places.ensures)
    (others.placed u g makes.others makes.adds.places b.built.holds (copy_held m u g next kept b.built.means names)) in
    let terms = sym (ap (with_answer x.pred us) read) ∙ sym (others.terms u g makes.others) ∙ sym (ap (λ ps. terms_at m u (listed ps)) c.with_given-places.ensures) in
    made_row m n.stands s u x is next a c.with_given-places.result c.variables-fresh.result terms fresh makes placed
    (subst (λ k. next + k < 2 ^ 64) fresh (none_of _ c.in_ok-full.full c.in-None.is c.in_ok-full.ensures.numbers))
    (subst (λ k. s.used + k ≤ s.budget) size (none_of _ c.in_ok-full.full c.in-None.is c.in_ok-full.ensures.cells))
