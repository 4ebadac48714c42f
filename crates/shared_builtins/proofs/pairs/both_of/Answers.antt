use Rattle.std.proofs.Common.{◌≡◌, ◌==◌, [], length, sym, ap, ◌∙◌, arith}
use Rattle.pl_term.specs.Tree.{atom}
use Rattle.term_store.specs.Contents.{arguments_at}
use Rattle.world_builtins.specs.Spelling.{spelled, text_of}
use Rattle.builtin_rows.proofs.Listing.{argument_held, arguments_long, compound_parts, not_false, not_true}
use Rattle.shared_builtins.specs.Pairs.{is_pair}
use Rattle.shared_builtins.proofs.PairTerms.{both_read, counted_otherwise, named_otherwise}
use Rattle.shared_builtins.proofs.pairs.both_of.Goals as goal

pub returns-in-Variable-clause-read : goal.returns-in-Variable-clause-read
returns-in-Variable-clause-read c m t n held is = ap (λ u. is_pair t (spelled (text_of m) u)) c.in-Variable.ensures

pub returns-in-Integer-clause-read : goal.returns-in-Integer-clause-read
returns-in-Integer-clause-read c m t n held is = ap (λ u. is_pair t (spelled (text_of m) u)) c.in-Integer.ensures

pub returns-in-Atom-clause-read : goal.returns-in-Atom-clause-read
returns-in-Atom-clause-read c m t n held is = ap (λ u. is_pair t (spelled (text_of m) u)) c.in-Atom.ensures

pub returns-then-ne-clause-read : goal.returns-then-ne-clause-read
returns-then-ne-clause-read c m t n held is =
    let s = c.args.store.now in
    let p = c.args.place in
    let a = c.in-Compound in
    named_otherwise m n s p a.found c.args.name t (arguments_at s a.arguments) is (compound_parts m s p a.found a.arguments a.ensures.0 a.ensures.1.0 a.ensures.1.1 held).0
    (not_true (a.found == c.args.name) c.if-ne.ensures) a.ensures.0

pub returns-then-len-ne2-clause-read : goal.returns-then-len-ne2-clause-read
returns-then-len-ne2-clause-read c m t n held is =
    let s = c.args.store.now in
    let a = c.in-Compound in
    let long = arguments_long s a.arguments a.ensures.1.0 in
    counted_otherwise m s c.args.place a.found t (arguments_at s a.arguments) (λ k. c.if-len-ne2.true (c.len.ensures ∙ sym long ∙ k)) a.ensures.0

pub returns-else-len-ne2-clause-read : goal.returns-else-len-ne2-clause-read
returns-else-len-ne2-clause-read c m t n held is =
    let s = c.args.store.now in
    let p = c.args.place in
    let a = c.in-Compound in
    let ts = arguments_at s a.arguments in
    let long = arguments_long s a.arguments a.ensures.1.0 in
    let two : length ts ≡ 2 = long ∙ sym c.len.ensures ∙ c.if-len-ne2.false in
    let x = c.argument.result in
    let y = c.argument-in-Compound.result in
    let all = (compound_parts m s p a.found a.arguments a.ensures.0 a.ensures.1.0 a.ensures.1.1 held).1 in (
      both_read m n.stands s p x y a.found c.args.name t ts (atom []) is (not_false (a.found == c.args.name) c.if-ne.ensures) a.ensures.0 two c.argument.ensures.stands c.argument-in-Compound.ensures.stands,
      (
        argument_held m s ts 0 (atom []) x all (omega (arith, two)) c.argument.ensures.stands,
        argument_held m s ts 1 (atom []) y all (omega (arith, two)) c.argument-in-Compound.ensures.stands,
      ),
    )
