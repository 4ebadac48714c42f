use Rattle.std.proofs.Common.{◌<◌, [], ◌∷◌, reverse, refl, sym, subst, ◌∙◌, arith}
use Rattle.term_writer.specs.declared.operators.Position.TheVariants.{Operand}
use Rattle.term_writer.specs.declared.writer.Work.TheVariants.{Term, Infix, Arguments}
use Rattle.term_writer.specs.Styles.{lookup_of, manner_of}
use Rattle.term_writer.specs.Work.{Fits, Steps, coming, reads}
use Rattle.term_writer.proofs.Stepping.{fits_as, steps_after}
use Rattle.term_writer.proofs.writer.read.Goals as goal

pub write_term-requires : goal.write_term-requires
write_term-requires c = subst (λ w. Fits c.args.node.now (w ∷ reverse c.args.stack.now.items)) c.in-Term.is c.requires.fits

pub write_term-requires-in-Infix : goal.write_term-requires-in-Infix
write_term-requires-in-Infix c =
    let ws = reverse c.args.stack.now.items in
    fits_as c.args.node.now (Infix c.in-Infix.f c.in-Infix.max ∷ ws) (Term c.in-Infix.max Operand ∷ ws)
    (subst (λ w. Fits c.args.node.now (w ∷ ws)) c.in-Infix.is c.requires.fits) refl

pub write_rest-requires : goal.write_rest-requires
write_rest-requires c = subst (λ w. Fits c.args.node.now (w ∷ reverse c.args.stack.now.items)) c.in-Rest.is c.requires.fits

pub write_argument-requires : goal.write_argument-requires
write_argument-requires c =
    record {
      some = let some : 0 < reads (Arguments c.in-Arguments.k ∷ []) = subst (λ w. 0 < reads (w ∷ [])) c.in-Arguments.is c.requires.reads in omega (arith, some);
      fits = subst (λ w. Fits c.args.node.now (w ∷ reverse c.args.stack.now.items)) c.in-Arguments.is c.requires.fits;
    }

pub returns-in_ok-write_term-in-Term-clause-steps : goal.returns-in_ok-write_term-in-Term-clause-steps
returns-in_ok-write_term-in-Term-clause-steps c =
    subst (λ w. Steps (manner_of c.args.style) (lookup_of c.args.style.operators) c.args.node.now (w ∷ reverse c.args.stack.now.items) c.args.page.now
    (reverse c.write_term.new.stack.items) c.write_term.new.page) (sym c.in-Term.is) c.in_ok-write_term-in-Term.ensures.steps

pub returns-in_ok-write_term-in-Infix-clause-steps : goal.returns-in_ok-write_term-in-Infix-clause-steps
returns-in_ok-write_term-in-Infix-clause-steps c =
    let m = manner_of c.args.style in
    let ops = lookup_of c.args.style.operators in
    let ws = reverse c.args.stack.now.items in
    subst (λ w. Steps m ops c.args.node.now (w ∷ ws) c.args.page.now (reverse c.write_term-in-Infix.new.stack.items) c.write_term-in-Infix.new.page) (sym c.in-Infix.is)
    (steps_after m ops c.args.node.now (Infix c.in-Infix.f c.in-Infix.max ∷ ws) (Term c.in-Infix.max Operand ∷ ws) (reverse c.write_term-in-Infix.new.stack.items)
    c.args.page.now c.put_infix.new.page c.write_term-in-Infix.new.page refl
    (λ ts. c.in_ok-put_infix-in-Infix.ensures.puts (coming m ops (Term c.in-Infix.max Operand ∷ ws) ts)) c.in_ok-write_term-in-Infix.ensures.steps)

pub returns-in_ok-write_argument-in-Arguments-clause-steps : goal.returns-in_ok-write_argument-in-Arguments-clause-steps
returns-in_ok-write_argument-in-Arguments-clause-steps c =
    subst (λ w. Steps (manner_of c.args.style) (lookup_of c.args.style.operators) c.args.node.now (w ∷ reverse c.args.stack.now.items) c.args.page.now
    (reverse c.write_argument.new.stack.items) c.write_argument.new.page) (sym c.in-Arguments.is) c.in_ok-write_argument-in-Arguments.ensures.steps

pub returns-in_ok-write_rest-in-Rest-clause-steps : goal.returns-in_ok-write_rest-in-Rest-clause-steps
returns-in_ok-write_rest-in-Rest-clause-steps c =
    subst (λ w. Steps (manner_of c.args.style) (lookup_of c.args.style.operators) c.args.node.now (w ∷ reverse c.args.stack.now.items) c.args.page.now
    (reverse c.write_rest.new.stack.items) c.write_rest.new.page) (sym c.in-Rest.is) c.in_ok-write_rest-in-Rest.ensures.steps
