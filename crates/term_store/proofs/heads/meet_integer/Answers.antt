use Rattle.std.proofs.Common.{◌≡◌, ◌∙◌, [], Some, false, eqb, refl, sym, ap, subst, get_or, pos, rules, w32}
use mir.Val.{SFits, of_z}
use Rattle.std.specs.Ordering.{int_eq}
use Rattle.pl_term.specs.Variables.{has}
use Rattle.term_store.specs.declared.words.Word.{Word}
use Rattle.term_store.specs.declared.words.Word.TheVariants.{Int}
use Rattle.term_store.specs.declared.shorts.Short.{Short}
use Rattle.term_store.specs.declared.shorts.Short.TheVariants.{Slot}
use Rattle.term_store.specs.Cells.{IsFree, heap_of}
use Rattle.term_store.specs.Entering.{IsConstant, Joined, Joins}
use Rattle.term_store.specs.Fit.{Below, IsIn}
use Rattle.term_store.specs.Heap.{meaning, numbered, pushed}
use Rattle.term_store.specs.Shorts.{IsPlain, long_word, value_word}
use Rattle.term_store.proofs.Constants.{integer_bound, integers_joined, number_test}
use Rattle.term_store.proofs.Entering.{constant_absent}
use Rattle.term_store.proofs.Extending.{extends_grown, extends_longer}
use Rattle.term_store.proofs.Knowing.{longer_same}
use Rattle.term_store.proofs.Shorting.{word_is}
use Rattle.term_store.proofs.heads.meet_integer.Goals as goal

pub bind_short-requires-clause-slot : goal.bind_short-requires-clause-slot
bind_short-requires-clause-slot c =
    let f = c.requires.held in
    subst (IsIn (heap_of c.args.cells.now)) (word_is c.args.held (Slot c.in-Slot.slot) f.word tt c.in-Slot.is f.short) f.inside

pub bind_short-requires-clause-free : goal.bind_short-requires-clause-free
bind_short-requires-clause-free c =
    let f = c.requires.held in
    subst (IsFree (heap_of c.args.cells.now)) (word_is c.args.held (Slot c.in-Slot.slot) f.word tt c.in-Slot.is f.short) f.free

pub bind_short-requires-clause-plain : goal.bind_short-requires-clause-plain
bind_short-requires-clause-plain c = subst IsPlain (sym c.requires.kept) tt

pub bind_short-requires-clause-word : goal.bind_short-requires-clause-word
bind_short-requires-clause-word c = subst (λ (s : Short). value_word [] s ≡ Some (long_word [] s)) (sym c.requires.kept) refl

pub bind_short-requires-clause-below : goal.bind_short-requires-clause-below
bind_short-requires-clause-below c = subst (λ (s : Short). Below c.in-Slot.slot (long_word [] s)) (sym c.requires.kept) tt

pub bind_short-requires-clause-inside : goal.bind_short-requires-clause-inside
bind_short-requires-clause-inside c = subst (λ (s : Short). IsIn (heap_of c.args.cells.now) (long_word [] s)) (sym c.requires.kept) tt

pub bind_short-requires-clause-absent : goal.bind_short-requires-clause-absent
bind_short-requires-clause-absent c =
    let h = heap_of c.args.cells.now in
    subst (λ (s : Short). has (numbered h c.in-Slot.slot) (meaning h (long_word [] s)) ≡ false) (sym c.requires.kept)
    (constant_absent h (numbered h c.in-Slot.slot) (Int c.args.number) tt)

pub returns-in_err-bind_short-in-Slot-clause-extends : goal.returns-in_err-bind_short-in-Slot-clause-extends
returns-in_err-bind_short-in-Slot-clause-extends c =
    let h = heap_of c.args.cells.now in
    let d = heap_of c.bind_short.new.cells in
    extends_longer h d (longer_same h d c.in_err-bind_short-in-Slot.ensures.kept)

pub returns-in_ok-bind_short-in-Slot-clause-extends : goal.returns-in_ok-bind_short-in-Slot-clause-extends
returns-in_ok-bind_short-in-Slot-clause-extends c =
    let h = heap_of c.args.cells.now in
    let d = heap_of c.bind_short.new.cells in
    extends_grown h d (record { bonds = _; grown = c.in_ok-bind_short-in-Slot.ensures.bound })

pub returns-in_ok-bind_short-in-Slot-clause-joins : goal.returns-in_ok-bind_short-in-Slot-clause-joins
returns-in_ok-bind_short-in-Slot-clause-joins c from known known_is =
    let h = heap_of c.args.cells.now in
    let e = heap_of c.bind_short.new.cells in
    let slot = c.in-Slot.slot in
    let w = get_or h.args c.args.left (Int (pos 0)) in
    let after : e ≡ pushed h slot (Int c.args.number) =
    c.in_ok-bind_short-in-Slot.ensures.bound ∙ ap (λ (s : Short). pushed h slot (long_word [] s)) c.requires.kept in
    subst (λ (q : Word). Joined h from known w (meaning h q) e known) (sym c.requires.number)
    (subst (λ d. Joined h from known w (meaning h (Int c.args.number)) d known) (sym after)
    (integer_bound h c.requires.fit.fit c.args.held w c.requires.held c.args.number from known slot c.in-Slot.is known_is))

pub returns-in-Number-clause-extends : goal.returns-in-Number-clause-extends
returns-in-Number-clause-extends c = let h = heap_of c.args.cells.now in extends_longer h h (longer_same h h refl)

pub returns-in-Number-clause-joins : goal.returns-in-Number-clause-joins
returns-in-Number-clause-joins c from known known_is =
    let h = heap_of c.args.cells.now in
    let w = get_or h.args c.args.left (Int (pos 0)) in
    let n = c.in-Number.n in
    let m = c.args.number in
    let fits_n : SFits w32 n = search rules in
    let fits_m : SFits w32 m = search rules in
    let same : eqb (of_z w32 n) (of_z w32 m) ≡ int_eq n m = number_test n m fits_n fits_m in
    subst (λ q. Joins q h from known w (meaning h (get_or c.args.block.now.args.items c.args.right (Int (pos 0)))) h known) (sym same)
    (subst (λ (q : Word). Joins (int_eq n m) h from known w (meaning h q) h known) (sym c.requires.number)
    (integers_joined h c.requires.fit.fit c.args.held w c.requires.held m from known n c.in-Number.is known_is))

pub meet_long-requires-clause-constant : goal.meet_long-requires-clause-constant
meet_long-requires-clause-constant c = subst IsConstant (sym c.requires.number) tt
