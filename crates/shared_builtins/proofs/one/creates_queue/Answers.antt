use Rattle.std.proofs.Common.{codes, arith}
use Rattle.builtin_rows.proofs.Listing.{arguments_long}
use Rattle.term_store.specs.Contents.{arguments_at}
use Rattle.shared_builtins.proofs.Checking.{is_fixed_name}
use Rattle.shared_builtins.proofs.FixedNames.{atom_is, type_error_is}
use Rattle.shared_builtins.proofs.Sharing.{compound_queue, integer_queue, named_queue, unnamed_queue}
use Rattle.shared_builtins.proofs.one.creates_queue.Goals as goal

pub returns-in-Variable : goal.returns-in-Variable
returns-in-Variable c m n held = unnamed_queue m c.args.store.now c.args.term _ c.in-Variable.ensures

pub returns-in-Atom : goal.returns-in-Atom
returns-in-Atom c m n held = named_queue m c.args.store.now c.args.term c.in-Atom.name c.in-Atom.ensures held

pub returns-in-Integer : goal.returns-in-Integer
returns-in-Integer c m n held = (
  integer_queue m c.args.store.now c.args.term _ c.in-Integer.ensures,
  ((is_fixed_name 177 (codes "type_error") type_error_is, (is_fixed_name 45 (codes "atom") atom_is, c.requires)), held),
)

pub returns-in-Compound : goal.returns-in-Compound
returns-in-Compound c m n held =
    let s = c.args.store.now in
    let a = c.in-Compound in (
      compound_queue m s c.args.term a.field-0 (arguments_at s a.field-1) (omega (arith, arguments_long s a.field-1 a.ensures.1.0, a.ensures.1.1)) a.ensures.0,
      ((is_fixed_name 177 (codes "type_error") type_error_is, (is_fixed_name 45 (codes "atom") atom_is, c.requires)), held),
    )
