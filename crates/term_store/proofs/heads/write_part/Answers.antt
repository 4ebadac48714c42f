use Rattle.std.proofs.Common.{◌≡◌, ◌<◌, ◌≤◌, false, [], length, None, sym, ap, subst, ◌∙◌, arith}
use Rattle.std.proofs.lemmas.List.Elements.{All-weaker}
use Rattle.pl_term.specs.Variables.{has}
use Rattle.term_store.specs.declared.words.Word.TheVariants.{Var, Comp}
use Rattle.term_store.specs.Blocks.{arguments_of}
use Rattle.term_store.specs.Cells.{heap_of}
use Rattle.term_store.specs.Entering.{Extends, IsGroundBefore, Joined, entered}
use Rattle.term_store.specs.Fit.{IsIn}
use Rattle.term_store.specs.Heap.{Heap, find, meaning, numbered, pushed}
use Rattle.term_store.specs.Making.{Longer}
use Rattle.term_store.proofs.Copying.{range_fits}
use Rattle.term_store.proofs.Entering.{entered_bound, longer_free, longer_slot, new_absent, not_written, written}
use Rattle.term_store.proofs.Extending.{extends_grown, extends_longer, extends_then}
use Rattle.term_store.proofs.Finding.{ground_later}
use Rattle.term_store.proofs.Knowing.{longer_same, meets_longer}
use Rattle.term_store.proofs.Loading.{keeps_of, longer_twice}
use Rattle.term_store.proofs.heads.write_part.Goals as goal

pub returns-in_err-made-clause-extends : goal.returns-in_err-made-clause-extends
returns-in_err-made-clause-extends c =
    let h = heap_of c.args.cells.now in
    let d = heap_of c.make_known.new.cells in
    let e = heap_of c.copy_compounds.new.cells in
    let longer : Longer h e = longer_twice h d e c.make_known.ensures.longer c.copy_compounds.ensures.gains.longer in
    extends_longer h e longer

pub returns-in_err-is_held-clause-extends : goal.returns-in_err-is_held-clause-extends
returns-in_err-is_held-clause-extends c =
    let h = heap_of c.args.cells.now in
    let d = heap_of c.make_known.new.cells in
    let e = heap_of c.copy_compounds.new.cells in
    let longer : Longer h e = longer_twice h d e c.make_known.ensures.longer c.copy_compounds.ensures.gains.longer in
    subst (Extends h) (sym c.is_held.ensures.kept) (extends_longer h e longer)

pub returns-then-branch-clause-extends : goal.returns-then-branch-clause-extends
returns-then-branch-clause-extends c =
    let h = heap_of c.args.cells.now in
    let d = heap_of c.make_known.new.cells in
    let e = heap_of c.copy_compounds.new.cells in
    let longer : Longer h e = longer_twice h d e c.make_known.ensures.longer c.copy_compounds.ensures.gains.longer in
    subst (Extends h) (sym c.is_held.ensures.kept) (extends_longer h e longer)

pub is_held-requires-clause-inside : goal.is_held-requires-clause-inside
is_held-requires-clause-inside c = (c.in_ok-made.ensures.copied 0).inside

pub is_held-requires-clause-known : goal.is_held-requires-clause-known
is_held-requires-clause-known c =
    let d = heap_of c.make_known.new.cells in
    let e = heap_of c.copy_compounds.new.cells in
    All-weaker (IsIn d) (IsIn e) c.copy_compounds.ensures.gains.keeps.inside c.make_known.new.known.items c.in_ok-make_known.ensures.known.words

pub is_held-requires-clause-new : goal.is_held-requires-clause-new
is_held-requires-clause-new c x le lt =
    let h = heap_of c.args.cells.now in
    let d = heap_of c.make_known.new.cells in
    let e = heap_of c.copy_compounds.new.cells in
    let later = c.make_known.new.known.items in
    let within : x < length later = lt in
    let past : length c.args.known.now.items ≤ x = subst (λ n. n ≤ x) c.len-before.ensures le in
    new_absent h c.args.from c.args.known.now.items d later e c.args.slot x c.requires.known c.in_ok-make_known.ensures.meets c.in_ok-make_known.ensures.known
    c.copy_compounds.ensures.gains (longer_twice h d e c.make_known.ensures.longer c.copy_compounds.ensures.gains.longer) c.requires.slot past within

pub is_held-requires-clause-means : goal.is_held-requires-clause-means
is_held-requires-clause-means c =
    let b = c.args.block.now in
    let from = c.args.from in
    let d = heap_of c.make_known.new.cells in
    let e = heap_of c.copy_compounds.new.cells in
    let later = c.make_known.new.known.items in
    let p = Comp c.args.k in (
      from,
      (c.in_ok-made.ensures.copied from).means
          ∙ sym (entered_bound b d from later [] e later p
          (meets_longer d from later e c.make_known.ensures.fit.fit c.in_ok-make_known.ensures.known c.copy_compounds.ensures.gains.longer)),
    )

pub copy_compounds-requires-clause-few : goal.copy_compounds-requires-clause-few
copy_compounds-requires-clause-few c = omega (arith, c.len-before.ensures, c.in_ok-make_known.ensures.more)

pub is_held-requires-clause-ground : goal.is_held-requires-clause-ground
is_held-requires-clause-ground c e j lo hi =
    let d = heap_of c.make_known.new.cells in
    let known = c.make_known.new.known.items in
    let few : c.len-before.result ≤ length known = omega (arith, c.len-before.ensures, c.in_ok-make_known.ensures.more) in
    All-weaker (IsGroundBefore d known c.len-before.result) (IsGroundBefore (heap_of c.copy_compounds.new.cells) known c.len-before.result)
    (ground_later d (heap_of c.copy_compounds.new.cells) known c.len-before.result c.in_ok-make_known.ensures.known.words few c.copy_compounds.ensures.gains.keeps.means)
    (arguments_of c.args.block.now j) (c.in_ok-made.ensures.ground e j lo hi)

pub returns-in_err-term-clause-extends : goal.returns-in_err-term-clause-extends
returns-in_err-term-clause-extends c =
    let h = heap_of c.args.cells.now in
    let d = heap_of c.make_known.new.cells in
    let e = heap_of c.copy_compounds.new.cells in
    let longer : Longer h e = longer_twice h d e c.make_known.ensures.longer c.copy_compounds.ensures.gains.longer in
    subst (Extends h) (sym c.is_held.ensures.kept) (extends_longer h e longer)

pub bind_short-requires-clause-inside : goal.bind_short-requires-clause-inside
bind_short-requires-clause-inside c =
    subst (λ (g : Heap). IsIn g (Comp c.in_ok-term.term)) (sym c.is_held.ensures.kept)
    (subst (λ n. IsIn (heap_of c.copy_compounds.new.cells) (Comp n)) (sym c.in_ok-term.ensures) (c.in_ok-made.ensures.copied 0).inside)

pub bind_short-requires-clause-slot : goal.bind_short-requires-clause-slot
bind_short-requires-clause-slot c =
    let h = heap_of c.args.cells.now in
    let d = heap_of c.make_known.new.cells in
    let e = heap_of c.copy_compounds.new.cells in
    let longer : Longer h e = longer_twice h d e c.make_known.ensures.longer c.copy_compounds.ensures.gains.longer in
    subst (λ (g : Heap). c.args.slot < length g.numbers) (sym c.is_held.ensures.kept) (longer_slot h e c.args.slot longer c.requires.slot)

pub bind_short-requires-clause-free : goal.bind_short-requires-clause-free
bind_short-requires-clause-free c =
    let h = heap_of c.args.cells.now in
    let d = heap_of c.make_known.new.cells in
    let e = heap_of c.copy_compounds.new.cells in
    let longer : Longer h e = longer_twice h d e c.make_known.ensures.longer c.copy_compounds.ensures.gains.longer in
    subst (λ (g : Heap). find c.args.slot g.trail ≡ None) (sym c.is_held.ensures.kept) (longer_free h e c.args.slot longer c.requires.free)

pub bind_short-requires-clause-absent : goal.bind_short-requires-clause-absent
bind_short-requires-clause-absent c =
    let e = heap_of c.copy_compounds.new.cells in
    subst (λ (g : Heap). has (numbered g c.args.slot) (meaning g (Comp c.in_ok-term.term)) ≡ false) (sym c.is_held.ensures.kept)
    (subst (λ n. has (numbered e c.args.slot) (meaning e (Comp n)) ≡ false) (sym c.in_ok-term.ensures) (sym c.in_ok-is_held.ensures.held ∙ c.if-branch.false))

pub returns-in_err-bind_short-clause-extends : goal.returns-in_err-bind_short-clause-extends
returns-in_err-bind_short-clause-extends c =
    let h = heap_of c.args.cells.now in
    let d = heap_of c.make_known.new.cells in
    let e = heap_of c.copy_compounds.new.cells in
    let after = heap_of c.bind_short.new.cells in
    let longer : Longer h e = longer_twice h d e c.make_known.ensures.longer c.copy_compounds.ensures.gains.longer in
    extends_then h e after (extends_longer h e longer)
    (extends_longer e after (longer_same e after (c.in_err-bind_short.ensures.kept ∙ c.is_held.ensures.kept)))

pub returns-clause-extends : goal.returns-clause-extends
returns-clause-extends c =
    let h = heap_of c.args.cells.now in
    let d = heap_of c.make_known.new.cells in
    let e = heap_of c.copy_compounds.new.cells in
    let after = heap_of c.bind_short.new.cells in
    let longer : Longer h e = longer_twice h d e c.make_known.ensures.longer c.copy_compounds.ensures.gains.longer in
    extends_then h e after (extends_longer h e longer)
    (extends_grown e after
    (record {
      bonds = _;
      grown = c.in_ok-bind_short.ensures.bound ∙ ap (λ (g : Heap). pushed g c.args.slot (Comp c.in_ok-term.term)) c.is_held.ensures.kept;
    }))

pub returns-then-branch-clause-joins : goal.returns-then-branch-clause-joins
returns-then-branch-clause-joins c =
    let h = heap_of c.args.cells.now in
    let d = heap_of c.make_known.new.cells in
    let e = heap_of c.copy_compounds.new.cells in
    let longer : Longer h e = longer_twice h d e c.make_known.ensures.longer c.copy_compounds.ensures.gains.longer in
    let from = c.args.from in
    let slot = c.args.slot in
    not_written h from c.args.known.now.items c.args.block.now d c.make_known.new.known.items e slot c.args.k c.in_ok-made.made.at c.in_ok-make_known.ensures.meets
    c.make_known.ensures.fit.fit c.in_ok-make_known.ensures.known c.copy_compounds.ensures.gains c.copy_compounds.ensures.fit.fit
    (longer_slot h e slot longer c.requires.slot) (longer_free h e slot longer c.requires.free)
    ((keeps_of h e c.requires.fit.fit longer).means (Var slot) c.requires.slot) (c.in_ok-made.ensures.copied from)
    (sym c.in_ok-is_held.ensures.held ∙ c.if-branch.true)

pub returns-clause-joins : goal.returns-clause-joins
returns-clause-joins c =
    let h = heap_of c.args.cells.now in
    let d = heap_of c.make_known.new.cells in
    let e = heap_of c.copy_compounds.new.cells in
    let longer : Longer h e = longer_twice h d e c.make_known.ensures.longer c.copy_compounds.ensures.gains.longer in
    let b = c.args.block.now in
    let from = c.args.from in
    let known = c.args.known.now.items in
    let more = c.make_known.new.known.items in
    let k = c.args.k in
    let i = c.in_ok-made.made.at in
    let slot = c.args.slot in
    subst (λ x. Joined h from known (Var slot) (entered b h from known (Comp k)) x more)
    (sym (c.in_ok-bind_short.ensures.bound ∙ ap (λ (g : Heap). pushed g slot (Comp c.in_ok-term.term)) c.is_held.ensures.kept
    ∙ ap (λ n. pushed e slot (Comp n)) c.in_ok-term.ensures))
    (written h from known b d more e slot k i c.in_ok-make_known.ensures.meets c.make_known.ensures.fit.fit c.in_ok-make_known.ensures.known
    c.copy_compounds.ensures.gains c.copy_compounds.ensures.fit.fit (longer_slot h e slot longer c.requires.slot) (longer_free h e slot longer c.requires.free)
    ((keeps_of h e c.requires.fit.fit longer).means (Var slot) c.requires.slot) (c.in_ok-made.ensures.copied from)
    (sym c.in_ok-is_held.ensures.held ∙ c.if-branch.false))

pub returns-then-branch-clause-few : goal.returns-then-branch-clause-few
returns-then-branch-clause-few c less =
    let b = c.args.block.now in
    c.in_ok-make_known.ensures.few b.variables
    (subst (λ r. r.variables ≤ b.variables) (sym c.range_of-range.ensures) (range_fits b c.requires.block c.args.k c.requires.inside).few) less

pub returns-clause-few : goal.returns-clause-few
returns-clause-few c less =
    let b = c.args.block.now in
    c.in_ok-make_known.ensures.few b.variables
    (subst (λ r. r.variables ≤ b.variables) (sym c.range_of-range.ensures) (range_fits b c.requires.block c.args.k c.requires.inside).few) less
