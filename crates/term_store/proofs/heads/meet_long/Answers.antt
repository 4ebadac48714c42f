use Rattle.std.proofs.Common.{ℕ, List, IfOk, get_or, pos, sym, subst}
use Rattle.term_store.specs.declared.words.Word.{Word}
use Rattle.term_store.specs.declared.words.Word.TheVariants.{Int}
use Rattle.term_store.specs.Cells.{heap_of}
use Rattle.term_store.specs.Entering.{IsConstant, IsKnown, Joins}
use Rattle.term_store.specs.Fit.{IsIn}
use Rattle.term_store.specs.Heap.{meaning}
use Rattle.term_store.proofs.heads.meet_long.Goals as goal

pub meet_constant-requires-clause-word : goal.meet_constant-requires-clause-word
meet_constant-requires-clause-word c = subst (IsIn (heap_of c.args.cells.now)) (sym c.word_at-word.ensures) c.requires.word

pub meet_constant-requires-clause-constant : goal.meet_constant-requires-clause-constant
meet_constant-requires-clause-constant c = subst IsConstant (sym c.block_word-part.ensures) c.requires.constant

pub returns-clause-joins : goal.returns-clause-joins
returns-clause-joins c =
    let h = heap_of c.args.cells.now in
    let d = heap_of c.meet_constant.new.cells in
    let p = get_or c.args.block.now.args.items c.args.right (Int (pos 0)) in
    subst (λ (w : Word). IfOk c.meet_constant.result (λ r. (from : ℕ) (known : List Word) → IsKnown h from known → Joins r h from known w (meaning h p) d known))
    c.word_at-word.ensures
    (subst (λ (q : Word). IfOk c.meet_constant.result (λ r. (from : ℕ) (known : List Word) → IsKnown h from known → Joins r h from known c.word_at-word.result (meaning h q) d known))
    c.block_word-part.ensures c.meet_constant.ensures.joins)
