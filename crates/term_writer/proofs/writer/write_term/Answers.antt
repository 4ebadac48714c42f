use Rattle.std.proofs.Common.{◌+◌, ◌∷◌, drop, reverse, ap, ◌∙◌, arith, rules}
use Rattle.std.proofs.lemmas.Int.{to_z-of_z}
use mir.Syntax.{w64}
use mir.Val.{SFits}
use Rattle.term_writer.specs.Pages.{behind_page, shown}
use Rattle.term_writer.specs.Styles.{lookup_of, manner_of}
use Rattle.term_writer.specs.Work.{left}
use Rattle.term_writer.proofs.Ahead.{variable_ahead, integer_ahead, atom_ahead, variable_left, integer_left, atom_left, compound_at, compound_ahead, compound_left}
use Rattle.term_writer.proofs.writer.write_term.Goals as goal

pub open_compound-requires : goal.open_compound-requires
open_compound-requires c =
    let ns = c.requires.0 in
    let at = c.requires.1 in
    let e = c.requires.2 ∙ ap (λ x. x ∷ drop (at + 1) ns) c.in-Comp.is in
    let k = compound_at ns at c.args.max c.args.position (reverse c.args.stack.now.items) _ _ c.requires.3 e in
    omega (arith, k.arity)

pub returns-in_ok-put_variable-in-Var-clause-steps : goal.returns-in_ok-put_variable-in-Var-clause-steps
returns-in_ok-put_variable-in-Var-clause-steps c =
    let m = manner_of c.args.style in
    let ops = lookup_of c.args.style.operators in
    let ws = reverse c.args.stack.now.items in
    let page = c.args.page.now in
    record {
      ahead = λ ns at is a. variable_ahead ns at c.args.max c.args.position ws a c.in-Var.n (is ∙ ap (λ x. x ∷ drop (at + 1) ns) c.in-Var.is);
      shows = λ ns at is a.
          c.in_ok-put_variable-in-Var.ensures.puts (left m ops ns (at + 1) ws)
          ∙ ap (shown page.bytes.items (behind_page page)) (variable_left m ops ns at c.args.max c.args.position ws c.in-Var.n (is ∙ ap (λ x. x ∷ drop (at + 1) ns) c.in-Var.is));
    }

pub returns-in_ok-put_integer-in-Int-clause-steps : goal.returns-in_ok-put_integer-in-Int-clause-steps
returns-in_ok-put_integer-in-Int-clause-steps c =
    let m = manner_of c.args.style in
    let ops = lookup_of c.args.style.operators in
    let ws = reverse c.args.stack.now.items in
    let page = c.args.page.now in
    let fits : SFits w64 c.in-Int.i = search rules in
    record {
      ahead = λ ns at is a. integer_ahead ns at c.args.max c.args.position ws a c.in-Int.i (is ∙ ap (λ x. x ∷ drop (at + 1) ns) c.in-Int.is);
      shows = λ ns at is a.
          (rw (to_z-of_z w64 c.in-Int.i fits) at c.in_ok-put_integer-in-Int.ensures.puts (left m ops ns (at + 1) ws))
          ∙ ap (shown page.bytes.items (behind_page page)) (integer_left m ops ns at c.args.max c.args.position ws c.in-Int.i (is ∙ ap (λ x. x ∷ drop (at + 1) ns) c.in-Int.is));
    }

pub returns-in_ok-write_atom-in-Atom-clause-steps : goal.returns-in_ok-write_atom-in-Atom-clause-steps
returns-in_ok-write_atom-in-Atom-clause-steps c =
    let m = manner_of c.args.style in
    let ops = lookup_of c.args.style.operators in
    let ws = reverse c.args.stack.now.items in
    let page = c.args.page.now in
    record {
      ahead = λ ns at is a. atom_ahead ns at c.args.max c.args.position ws a _ (is ∙ ap (λ x. x ∷ drop (at + 1) ns) c.in-Atom.is);
      shows = λ ns at is a.
          c.in_ok-write_atom-in-Atom.ensures.puts (left m ops ns (at + 1) ws)
          ∙ ap (shown page.bytes.items (behind_page page)) (atom_left m ops ns at c.args.max c.args.position ws _ (is ∙ ap (λ x. x ∷ drop (at + 1) ns) c.in-Atom.is));
    }

pub returns-in_ok-open_compound-in-Comp-clause-steps : goal.returns-in_ok-open_compound-in-Comp-clause-steps
returns-in_ok-open_compound-in-Comp-clause-steps c =
    let m = manner_of c.args.style in
    let ops = lookup_of c.args.style.operators in
    let vs = reverse c.args.stack.now.items in
    let ws = reverse c.open_compound.new.stack.items in
    record {
      ahead = λ ns at is a.
          let k = compound_at ns at c.args.max c.args.position vs _ _ a (is ∙ ap (λ x. x ∷ drop (at + 1) ns) c.in-Comp.is) in
          compound_ahead _ _ _ _ _ ws k c.in_ok-open_compound-in-Comp.ensures.reads;
      shows = λ ns at is a.
          let k = compound_at ns at c.args.max c.args.position vs _ _ a (is ∙ ap (λ x. x ∷ drop (at + 1) ns) c.in-Comp.is) in
          compound_left m ops _ _ c.args.max c.args.position vs ws _ _ c.args.page.now c.open_compound.new.page k c.in_ok-open_compound-in-Comp.ensures.shows;
    }
