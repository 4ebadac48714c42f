use Rattle.std.proofs.Common.{◌≡◌, ◌+◌, length, codes, sym, subst, ◌∙◌, arith}
use Rattle.pl_term.specs.Cells.{cells, compound_cells}
use Rattle.pl_term.specs.Variables.{rename, variables}
use Rattle.pl_model.specs.BuiltinRows.{Answer}
use Rattle.pl_model.specs.History.{proc}
use Rattle.pl_model.specs.TermBuiltins.{two}
use Rattle.term_store.specs.Contents.{term_at}
use Rattle.world_builtins.specs.Spelling.{reads}
use Rattle.builtin_rows.specs.Given.{with_room}
use Rattle.builtin_rows.specs.Rows.{IsRow}
use Rattle.builtin_term.proofs.CopyRows.{counted_cells, counted_variables}
use Rattle.builtin_term.proofs.FixedNames.{copy_term_is}
use Rattle.builtin_term.proofs.PartAnswers.{refused_given, some_of}
use Rattle.builtin_term.proofs.copies.refuse_copy.Goals as goal

pub returns-in-Some-2-clause-row : goal.returns-in-Some-2-clause-row
returns-in-Some-2-clause-row c m v stands held =
    let s = c.args.store.now in
    let next = c.args.next in
    let t = reads m s c.args.term in
    let ps = c.in_ok-variables.variables.items in
    let a : Answer = record { terms = two t (rename next t); fresh = length (variables t); made = cells t } in
    let count : c.len-count.result ≡ length ps = c.len-count.ensures ∙ c.in_ok-variables.variables.ok.0 in
    let counted : c.in-Some.cells ≡ compound_cells (term_at s c.args.term) = some_of _ c.in_ok-cells.field-0 c.in-Some.cells c.in-Some.is c.in_ok-cells.ensures.counted in
    let sum : c.in-Some-checked_add.made ≡ c.in-Some.cells + length ps = omega (arith, c.in-Some-checked_add.ensures, count) in
    refused_given s next (proc (codes "copy_term") 2) m c.take_room.new.store a c.in-Some-2.row
    (λ ts. subst (λ x. IsRow x next ts (with_room (proc (codes "copy_term") 2) next x.used x.budget a) m c.take_room.new.store c.in-Some-2.row)
    c.in_ok-cells.ensures.same
    (some_of _ c.in_ok-row.field-0 c.in-Some-2.row c.in-Some-2.is c.in_ok-row.ensures.refused m (codes "copy_term") ts a stands copy_term_is
    (counted_variables m s c.args.term ps c.in_ok-variables.ensures.stand ∙ sym count)
    (counted_cells m s c.args.term ps c.in-Some.cells c.in-Some-checked_add.made c.in_ok-variables.ensures.stand counted sum)))
