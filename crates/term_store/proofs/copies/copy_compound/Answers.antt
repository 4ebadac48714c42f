use Rattle.std.proofs.Common.{◌≡◌, ◌+◌, ◌≤◌, List, drop, take, length, map, sym, ap, subst, ◌∙◌}
use Rattle.std.specs.List.{All}
use Rattle.std.proofs.Math.Seq.{drop-append_seam}
use Rattle.std.proofs.lemmas.List.Elements.{All-map, All-weaker}
use Rattle.term_store.specs.declared.words.Word.{Word}
use Rattle.term_store.specs.declared.words.Head.{Head}
use Rattle.term_store.specs.Blocks.{IsPart, arguments_of, copied}
use Rattle.term_store.specs.Cells.{heap_of}
use Rattle.term_store.specs.Entering.{IsGroundBefore}
use Rattle.term_store.specs.Fit.{IsIn, IsWord}
use Rattle.term_store.specs.Frontiers.{IsClosed}
use Rattle.term_store.specs.GroundMarks.{AreMarks, IsMarked, IsMarkedBefore}
use Rattle.term_store.specs.GroundTerms.{AreGroundTerms}
use Rattle.term_store.specs.Heap.{words_of}
use Rattle.term_store.specs.Making.{with_args}
use Rattle.term_store.proofs.Copying.{head_fits}
use Rattle.term_store.proofs.Finding.{ground_before, not_true}
use Rattle.term_store.proofs.copies.copy_compound.Goals as goal

pub push_copies-requires-clause-within : goal.push_copies-requires-clause-within
push_copies-requires-clause-within c =
    let b = c.args.block.now in
    subst (λ (g : Head). g.start + g.count ≤ length b.args.items) (sym c.block_head-head.ensures) (head_fits b c.requires.block c.args.j c.requires.here).within

pub push_copies-requires-clause-parts : goal.push_copies-requires-clause-parts
push_copies-requires-clause-parts c =
    let b = c.args.block.now in
    subst (λ (g : Head). All (IsPart (record { low = c.args.low; variables = length c.args.known.now.items })) (words_of b.args.items g)) (sym c.block_head-head.ensures)
    c.requires.parts

pub push_copies-requires-clause-inside : goal.push_copies-requires-clause-inside
push_copies-requires-clause-inside c =
    let b = c.args.block.now in
    let h = heap_of c.args.cells.now in
    let moved = λ (w : Word). copied c.args.known.now.items c.args.low c.args.above w in
    subst (λ n. All (λ w. IsWord n c.len-heads.result (moved w)) (words_of b.args.items c.block_head-head.result)) (sym (c.len-slots.ensures ∙ c.args.cells.now.numbers.ok.0))
    (subst (λ n. All (λ w. IsWord (length h.numbers) n (moved w)) (words_of b.args.items c.block_head-head.result)) (sym (c.len-heads.ensures ∙ c.args.cells.now.heads.ok.0))
    (subst (λ (g : Head). All (λ w. IsIn h (moved w)) (words_of b.args.items g)) (sym c.block_head-head.ensures) c.requires.inside))

pub finish_marked-requires-clause-cache : goal.finish_marked-requires-clause-cache
finish_marked-requires-clause-cache c =
    record { long = c.requires.fit.cache.long; found = c.requires.fit.cache.found }

pub finish_marked-requires-clause-inside : goal.finish_marked-requires-clause-inside
finish_marked-requires-clause-inside c =
    let h = heap_of c.args.cells.now in
    let b = c.args.block.now in
    let parts = arguments_of b c.args.j in
    let words : List Word = map (copied c.args.known.now.items c.args.low c.args.above) parts in
    let behind : drop c.len-start.result c.push_copies.new.args.items ≡ words =
    ap (λ n. drop n c.push_copies.new.args.items) c.len-start.ensures
    ∙ ap (drop (length h.args)) c.in-Ok.ensures.ok
    ∙ drop-append_seam h.args (map (copied c.args.known.now.items c.args.low c.args.above) (words_of b.args.items c.block_head-head.result))
    ∙ ap (λ g. map (copied c.args.known.now.items c.args.low c.args.above) (words_of b.args.items g)) c.block_head-head.ensures in
    subst (λ ws. All (IsIn h) ws) (sym behind)
    (All-map (IsIn h) (copied c.args.known.now.items c.args.low c.args.above) parts c.requires.inside)

pub finish_marked-requires-clause-marks : goal.finish_marked-requires-clause-marks
finish_marked-requires-clause-marks c =
    let h = heap_of c.args.cells.now in
    let args = c.push_copies.new.args.items in
    let before : take c.len-start.result args ≡ h.args =
    ap (λ n. take n args) c.len-start.ensures ∙ c.push_copies.ensures.kept in
    subst (λ ws. AreMarks c.args.cells.now.grounds.items (with_args h ws)) (sym before) c.requires.fit.marks

pub finish_marked-requires-clause-settled : goal.finish_marked-requires-clause-settled
finish_marked-requires-clause-settled c =
    let h = heap_of c.args.cells.now in
    let args = c.push_copies.new.args.items in
    let before : take c.len-start.result args ≡ h.args =
    ap (λ n. take n args) c.len-start.ensures ∙ c.push_copies.ensures.kept in
    subst (λ ws. AreGroundTerms c.args.cells.now.settled.list.items (with_args h ws)) (sym before) c.requires.fit.settled

pub finish_marked-requires-clause-closed : goal.finish_marked-requires-clause-closed
finish_marked-requires-clause-closed c =
    let h = heap_of c.args.cells.now in
    let args = c.push_copies.new.args.items in
    let before : take c.len-start.result args ≡ h.args =
    ap (λ n. take n args) c.len-start.ensures ∙ c.push_copies.ensures.kept in
    subst (λ ws. IsClosed c.args.cells.now.frontier (with_args h ws)) (sym before) c.requires.fit.closed

pub finish_marked-requires-clause-ground : goal.finish_marked-requires-clause-ground
finish_marked-requires-clause-ground c e =
    let h = heap_of c.args.cells.now in
    let b = c.args.block.now in
    let gs = c.args.cells.now.grounds.items in
    let f = λ (w : Word). copied c.args.known.now.items c.args.low c.args.above w in
    let parts = words_of b.args.items c.block_head-head.result in
    let behind : drop c.len-start.result c.push_copies.new.args.items ≡ map f parts =
    ap (λ n. drop n c.push_copies.new.args.items) c.len-start.ensures ∙ ap (drop (length h.args)) c.in-Ok.ensures.ok ∙ drop-append_seam h.args (map f parts) in
    subst (All (IsMarked gs)) (sym behind)
    (All-map (IsMarked gs) f parts
    (subst (λ ms. All (λ w. IsMarked ms (f w)) parts) c.deref.ensures.value (c.in-Ok.ensures.found.any (not_true c.in-Ok.any e))))

pub returns-in_ok-finish_marked-in-Ok-clause-before : goal.returns-in_ok-finish_marked-in-Ok-clause-before
returns-in_ok-finish_marked-in-Ok-clause-before c e = (c.in-Ok.ensures.found.met e).0

pub returns-in_ok-finish_marked-in-Ok-clause-ground : goal.returns-in_ok-finish_marked-in-Ok-clause-ground
returns-in_ok-finish_marked-in-Ok-clause-ground c e =
    let h = heap_of c.args.cells.now in
    let known = c.args.known.now.items in
    let before = c.args.before in
    let b = c.args.block.now in
    let marked : All (IsMarkedBefore c.args.cells.now.grounds.items known before) (arguments_of b c.args.j) =
    subst (λ (g : Head). All (IsMarkedBefore c.args.cells.now.grounds.items known before) (words_of b.args.items g)) c.block_head-head.ensures
    (subst (λ ms. All (IsMarkedBefore ms known before) (words_of b.args.items c.block_head-head.result)) c.deref.ensures.value (c.in-Ok.ensures.found.met e).1) in
    All-weaker (IsMarkedBefore c.args.cells.now.grounds.items known before) (IsGroundBefore h known before)
    (ground_before c.args.cells.now.grounds.items h c.requires.fit.fit c.requires.fit.marks known before) (arguments_of b c.args.j) marked
