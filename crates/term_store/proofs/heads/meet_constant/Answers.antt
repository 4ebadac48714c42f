use Rattle.std.proofs.Common.{refl, sym, ap, subst, ◌∙◌}
use Rattle.pl_term.specs.Variables.{has}
use Rattle.term_store.specs.declared.words.Plan.TheVariants.{Same, Clash, Bind}
use Rattle.term_store.specs.Cells.{heap_of}
use Rattle.term_store.specs.Entering.{Joined}
use Rattle.term_store.specs.Heap.{meaning, numbered, pushed}
use Rattle.term_store.proofs.Entering.{bind_value, constant_absent, constant_planned, joined_pushed, joined_same, never_clashes, never_same, prepared}
use Rattle.term_store.proofs.Extending.{extends_grown, extends_longer}
use Rattle.term_store.proofs.Knowing.{longer_same, meets_none}
use Rattle.term_store.proofs.heads.meet_constant.Goals as goal

pub bind-requires-clause-absent : goal.bind-requires-clause-absent
bind-requires-clause-absent c =
    let h = heap_of c.args.cells.now in
    ap (λ w. has (numbered h c.in-Bind.slot) (meaning h w))
    (bind_value c.deref-at.result c.args.part c.in-Bind.slot c.in-Bind.value c.requires.constant (sym c.compare_words.ensures ∙ c.in-Bind.is))
    ∙ constant_absent h (numbered h c.in-Bind.slot) c.args.part c.requires.constant

pub returns-in_err-bind-in-Bind-clause-extends : goal.returns-in_err-bind-in-Bind-clause-extends
returns-in_err-bind-in-Bind-clause-extends c =
    let h = heap_of c.args.cells.now in
    extends_longer h (heap_of c.bind.new.cells) (longer_same h (heap_of c.bind.new.cells) c.in_err-bind-in-Bind.ensures.kept)

pub returns-in-Same-clause-extends : goal.returns-in-Same-clause-extends
returns-in-Same-clause-extends c = let h = heap_of c.args.cells.now in extends_longer h h (longer_same h h refl)

pub returns-in-Same-clause-joins : goal.returns-in-Same-clause-joins
returns-in-Same-clause-joins c from known known_is =
    let h = heap_of c.args.cells.now in
    joined_same h from known c.args.word (meaning h c.args.part) known_is
    (sym c.deref-at.ensures.means
    ∙ constant_planned h c.deref-at.result c.args.part c.compare_words.result Same c.requires.fit.fit c.deref-at.ensures.inside c.deref-at.ensures.free
    c.requires.constant c.compare_words.ensures c.in-Same.is)

pub returns-in-Clash-clause-extends : goal.returns-in-Clash-clause-extends
returns-in-Clash-clause-extends c = let h = heap_of c.args.cells.now in extends_longer h h (longer_same h h refl)

pub returns-in-Clash-clause-joins : goal.returns-in-Clash-clause-joins
returns-in-Clash-clause-joins c from known known_is =
    let h = heap_of c.args.cells.now in
    never_same (meaning h c.deref-at.result) (meaning h c.args.part) (meaning h c.args.word) (meaning h c.args.part) c.deref-at.ensures.means refl
    (never_clashes (meaning h c.deref-at.result) (meaning h c.args.part)
    (constant_planned h c.deref-at.result c.args.part c.compare_words.result Clash c.requires.fit.fit c.deref-at.ensures.inside c.deref-at.ensures.free
    c.requires.constant c.compare_words.ensures c.in-Clash.is))

pub returns-in_ok-bind-in-Bind-clause-extends : goal.returns-in_ok-bind-in-Bind-clause-extends
returns-in_ok-bind-in-Bind-clause-extends c =
    let h = heap_of c.args.cells.now in
    let d = heap_of c.bind.new.cells in
    extends_grown h d (record { bonds = _; grown = c.in_ok-bind-in-Bind.ensures.bound })

pub returns-in_ok-bind-in-Bind-clause-joins : goal.returns-in_ok-bind-in-Bind-clause-joins
returns-in_ok-bind-in-Bind-clause-joins c from known known_is =
    let h = heap_of c.args.cells.now in
    let at = c.deref-at.result in
    let p = c.args.part in
    let slot = c.in-Bind.slot in
    let value = c.in-Bind.value in
    subst (λ d. Joined h from known c.args.word (meaning h p) d known) (sym c.in_ok-bind-in-Bind.ensures.bound)
    (prepared h from known c.args.word (meaning h p) h known at (meaning h p) (pushed h slot value) known (meets_none h from known) c.deref-at.ensures.means refl
    (joined_pushed h from known at (meaning h p) slot value known_is
    (constant_planned h at p c.compare_words.result (Bind slot value) c.requires.fit.fit c.deref-at.ensures.inside c.deref-at.ensures.free c.requires.constant
    c.compare_words.ensures c.in-Bind.is)
    (ap (λ w. has (numbered h slot) (meaning h w)) (bind_value at p slot value c.requires.constant (sym c.compare_words.ensures ∙ c.in-Bind.is))
    ∙ constant_absent h (numbered h slot) p c.requires.constant)))
