use Rattle.std.proofs.Common.{◌≡◌, drop, take, length, sym, ap, subst, ◌∙◌}
use Rattle.std.specs.List.{All}
use Rattle.std.proofs.Math.Seq.{drop-append_seam}
use Rattle.term_store.specs.Cells.{heap_of}
use Rattle.term_store.specs.Fit.{IsIn}
use Rattle.term_store.specs.Frontiers.{IsClosed}
use Rattle.term_store.specs.GroundMarks.{AreMarks}
use Rattle.term_store.specs.GroundTerms.{AreGroundTerms}
use Rattle.term_store.specs.Making.{with_args}
use Rattle.term_store.proofs.Stacking.{taken_inside}
use Rattle.term_store.proofs.build.join_words.Goals as goal

pub finish_compound-requires-clause-inside : goal.finish_compound-requires-clause-inside
finish_compound-requires-clause-inside c =
    let h = heap_of c.args.cells.now in
    let t = c.in-Ok.ensures.ok in
    let behind : drop c.len-start.result c.move_words.new.args.items ≡ t.taken =
    ap (λ n. drop n c.move_words.new.args.items) c.len-start.ensures
    ∙ ap (drop (length h.args)) t.moved ∙ drop-append_seam h.args t.taken in
    subst (λ ws. All (IsIn h) ws) (sym behind)
    (taken_inside (IsIn h) c.args.stack.now.items c.move_words.new.stack.items t.taken t.split c.requires.words)

pub finish_compound-requires-clause-marks : goal.finish_compound-requires-clause-marks
finish_compound-requires-clause-marks c =
    let h = heap_of c.args.cells.now in
    let args = c.move_words.new.args.items in
    let before : take c.len-start.result args ≡ h.args =
    ap (λ n. take n args) c.len-start.ensures ∙ c.move_words.ensures.kept in
    subst (λ ws. AreMarks c.args.cells.now.grounds.items (with_args h ws)) (sym before) c.requires.fit.marks

pub finish_compound-requires-clause-settled : goal.finish_compound-requires-clause-settled
finish_compound-requires-clause-settled c =
    let h = heap_of c.args.cells.now in
    let args = c.move_words.new.args.items in
    let before : take c.len-start.result args ≡ h.args =
    ap (λ n. take n args) c.len-start.ensures ∙ c.move_words.ensures.kept in
    subst (λ ws. AreGroundTerms c.args.cells.now.settled.list.items (with_args h ws)) (sym before) c.requires.fit.settled

pub finish_compound-requires-clause-closed : goal.finish_compound-requires-clause-closed
finish_compound-requires-clause-closed c =
    let h = heap_of c.args.cells.now in
    let args = c.move_words.new.args.items in
    let before : take c.len-start.result args ≡ h.args =
    ap (λ n. take n args) c.len-start.ensures ∙ c.move_words.ensures.kept in
    subst (λ ws. IsClosed c.args.cells.now.frontier (with_args h ws)) (sym before) c.requires.fit.closed
