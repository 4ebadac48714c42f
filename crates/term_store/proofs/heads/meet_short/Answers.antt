use Rattle.std.proofs.Common.{◌≡◌, ◌∙◌, get_or, pos, sym, ap, subst, rules, w32}
use mir.Val.{of_z, to_z}
use Rattle.std.proofs.lemmas.Int.{to_z-of_z}
use Rattle.std.proofs.lemmas.Result.{IfOk-weaker}
use Rattle.term_store.specs.declared.words.Word.{Word}
use Rattle.term_store.specs.declared.words.Word.TheVariants.{Int}
use Rattle.term_store.specs.declared.shorts.Short.TheVariants.{Name, Number}
use Rattle.term_store.specs.Cells.{heap_of}
use Rattle.term_store.specs.Entering.{Joins}
use Rattle.term_store.specs.Heap.{meaning}
use Rattle.term_store.proofs.Shorting.{word_is}
use Rattle.term_store.proofs.heads.meet_short.Goals as goal

pub meet_name-requires-clause-held : goal.meet_name-requires-clause-held
meet_name-requires-clause-held c = (get_or (heap_of c.args.cells.now).args c.args.left (Int (pos 0)), c.follow-held.ensures)

pub returns-in-Name-clause-joins : goal.returns-in-Name-clause-joins
returns-in-Name-clause-joins c =
    let h = heap_of c.args.cells.now in
    let d = heap_of c.meet_name.new.cells in
    let w = get_or h.args c.args.left (Int (pos 0)) in
    let p = get_or c.args.block.now.args.items c.args.right (Int (pos 0)) in
    let is = word_is c.args.part (Name c.in-Name.a) p tt c.in-Name.is c.requires.part in
    IfOk-weaker c.meet_name.result _ _
    (λ r joins from known known_is. subst (λ (q : Word). Joins r h from known w (meaning h q) d known) (sym is) (joins w c.follow-held.ensures from known known_is))
    c.meet_name.ensures.joins

pub meet_integer-requires-clause-number : goal.meet_integer-requires-clause-number
meet_integer-requires-clause-number c =
    let p = get_or c.args.block.now.args.items c.args.right (Int (pos 0)) in
    let same : to_z w32 (of_z w32 c.in-Number.n) ≡ c.in-Number.n = search (rules, to_z-of_z) in
    word_is c.args.part (Number c.in-Number.n) p tt c.in-Number.is c.requires.part ∙ ap Int (sym same)

pub meet_integer-requires-clause-kept : goal.meet_integer-requires-clause-kept
meet_integer-requires-clause-kept c =
    let same : to_z w32 (of_z w32 c.in-Number.n) ≡ c.in-Number.n = search (rules, to_z-of_z) in ap Number (sym same)
