use Rattle.std.proofs.Common.{arith, ap, sym, ◌∙◌}
use Rattle.builtin_rows.proofs.Listing.{arguments_long}
use Rattle.pl_model.specs.SharedBuiltins.{is_false}
use Rattle.term_store.specs.Contents.{arguments_at}
use Rattle.world_builtins.specs.Spelling.{spelled, text_of}
use Rattle.shared_builtins.proofs.Indicating.{name_held}
use Rattle.shared_builtins.proofs.Opting.{false_atom, no_false}
use Rattle.shared_builtins.proofs.options.is_false.Goals as goal

pub returns-in-Variable : goal.returns-in-Variable
returns-in-Variable c m n held = sym (ap (λ t. is_false (spelled (text_of m) t)) c.in-Variable.ensures)

pub returns-in-Integer : goal.returns-in-Integer
returns-in-Integer c m n held = sym (ap (λ t. is_false (spelled (text_of m) t)) c.in-Integer.ensures)

pub returns-in-Atom : goal.returns-in-Atom
returns-in-Atom c m n held =
    let s = c.args.store.now in
    let p = c.args.place in
    c.eq.ensures ∙ false_atom m n s p c.in-Atom.name c.in-Atom.ensures (name_held m s p c.in-Atom.name c.in-Atom.ensures held)

pub returns-in-Compound : goal.returns-in-Compound
returns-in-Compound c m n held =
    let s = c.args.store.now in
    let a = c.in-Compound in
    no_false m s c.args.place a.field-0 (arguments_at s a.field-1) (omega (arith, arguments_long s a.field-1 a.ensures.1.0, a.ensures.1.1)) a.ensures.0
