use Rattle.std.proofs.Common.{rules, ◌≡◌, codes, ap, subst, to_z, of_z, w64, ◌∙◌}
use Rattle.std.proofs.lemmas.Int.{to_z-of_z}
use Rattle.pl_term.specs.Tree.{int}
use Rattle.pl_model.specs.AtomBuiltins.{number_row}
use Rattle.pl_model.specs.Balls.{syntax_error}
use Rattle.pl_model.specs.BuiltinRows.{error, one_answer}
use Rattle.pl_model.specs.History.{proc}
use Rattle.pl_model.specs.TermBuiltins.{two}
use Rattle.world_builtins.specs.Spelling.{reads, spelled, text_of}
use Rattle.lex_core.specs.NumberTexts.{IsNumber}
use Rattle.builtin_atom.specs.Answering.{pair_at}
use Rattle.builtin_atom.proofs.Fixed.{illegal_number_is, integer_too_large_is}
use Rattle.builtin_atom.proofs.Looks.{integer_held}
use Rattle.builtin_atom.proofs.NumberLaws.{large_number, no_number, read_number}
use Rattle.builtin_atom.proofs.Rows.{row_as, with_ok}
use Rattle.builtin_atom.proofs.numbers.number_row.Goals as goal

pub returns-in-Illegal-clause-row : goal.returns-in-Illegal-clause-row
returns-in-Illegal-clause-row c =
    let s = c.args.store.now in
    let t = c.bad_syntax.new.store in
    with_ok _ _ c.bad_syntax.result
    (λ r h m p ts o stand held known number.
    let none = subst (λ n. IsNumber o n) c.in-Illegal.is number in
    let l = reads m s c.args.list in
    row_as s (proc p 2) ts (error (syntax_error (codes "illegal_number"))) (number_row l o) m t r (no_number l o none)
    (h m (codes "illegal_number") p ts stand illegal_number_is known))
    c.bad_syntax.ensures.row

pub returns-in-TooLarge-clause-row : goal.returns-in-TooLarge-clause-row
returns-in-TooLarge-clause-row c =
    let s = c.args.store.now in
    let t = c.bad_syntax-in-TooLarge.new.store in
    with_ok _ _ c.bad_syntax-in-TooLarge.result
    (λ r h m p ts o stand held known number.
    let large = subst (λ n. IsNumber o n) c.in-TooLarge.is number in
    let l = reads m s c.args.list in
    row_as s (proc p 2) ts (error (syntax_error (codes "integer_too_large"))) (number_row l o) m t r (large_number l o large.0 large.1.0 large.1.1)
    (h m (codes "integer_too_large") p ts stand integer_too_large_is known))
    c.bad_syntax-in-TooLarge.ensures.row

pub returns-in-Integer-clause-row : goal.returns-in-Integer-clause-row
returns-in-Integer-clause-row c m p ts o stand held known number =
    let s = c.args.store.now in
    let t = c.answer.new.store in
    let i = c.in-Integer.i in
    let place = c.integer.result in
    let is = subst (λ n. IsNumber o n) c.in-Integer.is number in
    let l = reads m s c.args.list in
    let same : to_z w64 (of_z w64 i) ≡ i = search (rules, to_z-of_z) in
    let reads_as = ap (spelled (text_of m)) ((c.integer.ensures s).1) ∙ ap int same in
    row_as s (proc p 2) ts (one_answer (pair_at m s place c.args.list)) (number_row l o) m t c.answer.result
    (ap (λ u. one_answer (two u l)) reads_as ∙ read_number l o i is.0 is.1)
    (c.answer.ensures.row m (proc p 2) ts (integer_held m s place (to_z w64 (of_z w64 i)) c.integer.ensures) held)

pub answer-requires-clause-first : goal.answer-requires-clause-first
answer-requires-clause-first c = (c.integer.ensures c.args.store.now).0
