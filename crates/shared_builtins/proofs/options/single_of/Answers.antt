use Rattle.std.proofs.Common.{◌≡◌, [], length, sym, ap, ◌∙◌, arith}
use Rattle.pl_term.specs.Tree.{atom}
use Rattle.term_store.specs.Contents.{arguments_at}
use Rattle.world_builtins.specs.Spelling.{spelled, text_of}
use Rattle.builtin_rows.proofs.Listing.{argument_held, arguments_long, compound_parts}
use Rattle.shared_builtins.specs.Options.{is_single}
use Rattle.shared_builtins.proofs.Opting.{not_single, single_read}
use Rattle.shared_builtins.proofs.options.single_of.Goals as goal

pub returns-in-Variable-clause-single : goal.returns-in-Variable-clause-single
returns-in-Variable-clause-single c m n held = ap (λ u. is_single (spelled (text_of m) u)) c.in-Variable.ensures

pub returns-in-Integer-clause-single : goal.returns-in-Integer-clause-single
returns-in-Integer-clause-single c m n held = ap (λ u. is_single (spelled (text_of m) u)) c.in-Integer.ensures

pub returns-in-Atom-clause-single : goal.returns-in-Atom-clause-single
returns-in-Atom-clause-single c m n held = ap (λ u. is_single (spelled (text_of m) u)) c.in-Atom.ensures

pub returns-then-len-ne1-clause-single : goal.returns-then-len-ne1-clause-single
returns-then-len-ne1-clause-single c m n held =
    let s = c.args.store.now in
    let a = c.in-Compound in
    let long = arguments_long s a.arguments a.ensures.1.0 in
    not_single m s c.args.place a.name (arguments_at s a.arguments) a.ensures.0 (λ k. c.if-len-ne1.true (c.len.ensures ∙ sym long ∙ k))

pub returns-else-len-ne1-clause-single : goal.returns-else-len-ne1-clause-single
returns-else-len-ne1-clause-single c m n held =
    let s = c.args.store.now in
    let p = c.args.place in
    let a = c.in-Compound in
    let ts = arguments_at s a.arguments in
    let long = arguments_long s a.arguments a.ensures.1.0 in
    let one : length ts ≡ 1 = long ∙ sym c.len.ensures ∙ c.if-len-ne1.false in
    let parts = compound_parts m s p a.name a.arguments a.ensures.0 a.ensures.1.0 a.ensures.1.1 held in (
      single_read m s p c.argument.result a.name ts a.ensures.0 one c.argument.ensures.stands,
      (parts.0, argument_held m s ts 0 (atom []) c.argument.result parts.1 (omega (arith, one)) c.argument.ensures.stands),
    )
