use Rattle.std.proofs.Common.{◌∙◌, refl, sym, subst, get_or, pos}
use Rattle.std.proofs.lemmas.Result.{IfOk-weaker}
use Rattle.term_store.specs.declared.words.Word.TheVariants.{Int}
use Rattle.term_store.specs.Cells.{heap_of}
use Rattle.term_store.specs.Entering.{Joins, value}
use Rattle.term_store.specs.Fit.{IsIn}
use Rattle.term_store.proofs.Constants.{first_few, first_joined}
use Rattle.term_store.proofs.Extending.{extends_longer}
use Rattle.term_store.proofs.Knowing.{longer_same}
use Rattle.term_store.proofs.heads.meet_slot.Goals as goal

pub returns-in_err-meet_first-clause-extends : goal.returns-in_err-meet_first-clause-extends
returns-in_err-meet_first-clause-extends c = let h = heap_of c.args.cells.now in extends_longer h h (longer_same h h refl)

pub returns-in_ok-meet_first-clause-extends : goal.returns-in_ok-meet_first-clause-extends
returns-in_ok-meet_first-clause-extends c = let h = heap_of c.args.cells.now in extends_longer h h (longer_same h h refl)

pub returns-in_ok-meet_first-clause-joins : goal.returns-in_ok-meet_first-clause-joins
returns-in_ok-meet_first-clause-joins c =
    let h = heap_of c.args.cells.now in
    first_joined h c.args.from c.args.known.now.items (get_or h.args c.args.at (Int (pos 0))) c.args.variable c.meet_first.new.known.items c.requires.fit.fit
    c.requires.known (c.if-variable-len.true ∙ c.len.ensures) c.in_ok-meet_first.ensures.first

pub returns-in_ok-meet_first-clause-few : goal.returns-in_ok-meet_first-clause-few
returns-in_ok-meet_first-clause-few c n below most =
    let h = heap_of c.args.cells.now in
    first_few h c.args.known.now.items (get_or h.args c.args.at (Int (pos 0))) c.meet_first.new.known.items c.args.variable n c.in_ok-meet_first.ensures.first
    (c.if-variable-len.true ∙ c.len.ensures) below

pub meet_variable-requires-clause-word : goal.meet_variable-requires-clause-word
meet_variable-requires-clause-word c = subst (IsIn (heap_of c.args.cells.now)) (sym c.word_at-word.ensures) c.requires.word

pub returns-else-variable-len-clause-joins : goal.returns-else-variable-len-clause-joins
returns-else-variable-len-clause-joins c =
    let h = heap_of c.args.cells.now in
    let known = c.args.known.now.items in
    IfOk-weaker c.meet_variable.result _ _
    (λ r j. subst (λ w. Joins r h c.args.from known w (value h c.args.from known c.args.variable) (heap_of c.meet_variable.new.cells) c.meet_variable.new.known.items)
    c.word_at-word.ensures j)
    c.meet_variable.ensures.joins
