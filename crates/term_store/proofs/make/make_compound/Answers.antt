use Rattle.std.proofs.Common.{◌≡◌, List, drop, take, length, map, sym, ap, subst, ◌∙◌}
use Rattle.std.specs.List.{All}
use Rattle.std.proofs.Math.Seq.{drop-append_seam}
use Rattle.std.proofs.lemmas.List.Elements.{All-map}
use Rattle.term_store.specs.declared.words.Word.{Word}
use Rattle.term_store.specs.Cells.{heap_of}
use Rattle.term_store.specs.Fit.{IsIn}
use Rattle.term_store.specs.Frontiers.{IsClosed}
use Rattle.term_store.specs.GroundMarks.{AreMarks}
use Rattle.term_store.specs.GroundTerms.{AreGroundTerms}
use Rattle.term_store.specs.Making.{with_args}
use Rattle.term_store.proofs.make.make_compound.Goals as goal

pub finish_compound-requires-clause-cache : goal.finish_compound-requires-clause-cache
finish_compound-requires-clause-cache c =
    record { long = c.requires.fit.cache.long; found = c.requires.fit.cache.found }

pub finish_compound-requires-clause-inside : goal.finish_compound-requires-clause-inside
finish_compound-requires-clause-inside c =
    let h = heap_of c.args.cells.now in
    let words : List Word = map (λ p. p.word) c.args.places.now in
    let behind : drop c.len-start.result c.push_places.new.args.items ≡ words =
    ap (λ n. drop n c.push_places.new.args.items) c.len-start.ensures
    ∙ ap (drop (length h.args)) c.in-Ok.ensures.ok ∙ drop-append_seam h.args words in
    subst (λ ws. All (IsIn h) ws) (sym behind) (All-map (IsIn h) (λ p. p.word) c.args.places.now c.requires.inside)

pub finish_compound-requires-clause-marks : goal.finish_compound-requires-clause-marks
finish_compound-requires-clause-marks c =
    let h = heap_of c.args.cells.now in
    let args = c.push_places.new.args.items in
    let before : take c.len-start.result args ≡ h.args =
    ap (λ n. take n args) c.len-start.ensures ∙ c.push_places.ensures.kept in
    subst (λ ws. AreMarks c.args.cells.now.grounds.items (with_args h ws)) (sym before) c.requires.fit.marks

pub finish_compound-requires-clause-settled : goal.finish_compound-requires-clause-settled
finish_compound-requires-clause-settled c =
    let h = heap_of c.args.cells.now in
    let args = c.push_places.new.args.items in
    let before : take c.len-start.result args ≡ h.args =
    ap (λ n. take n args) c.len-start.ensures ∙ c.push_places.ensures.kept in
    subst (λ ws. AreGroundTerms c.args.cells.now.settled.list.items (with_args h ws)) (sym before) c.requires.fit.settled

pub finish_compound-requires-clause-closed : goal.finish_compound-requires-clause-closed
finish_compound-requires-clause-closed c =
    let h = heap_of c.args.cells.now in
    let args = c.push_places.new.args.items in
    let before : take c.len-start.result args ≡ h.args =
    ap (λ n. take n args) c.len-start.ensures ∙ c.push_places.ensures.kept in
    subst (λ ws. IsClosed c.args.cells.now.frontier (with_args h ws)) (sym before) c.requires.fit.closed
