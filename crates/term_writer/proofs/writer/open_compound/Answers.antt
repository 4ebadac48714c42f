use Rattle.std.proofs.Common.{◌≡◌, [], ◌∷◌, ◌++◌, subst, arith}
use Rattle.pl_model.specs.TermWriting.{before_operand, operator_name}
use Rattle.term_writer.specs.declared.writer.Work.TheVariants.{Infix, Postfix}
use Rattle.term_writer.specs.Pages.{Puts}
use Rattle.term_writer.specs.Styles.{lookup_of, manner_of}
use Rattle.term_writer.proofs.Opens.{list_opens, curly_opens, infix_opens, prefix_opens, postfix_opens, functional_opens}
use Rattle.term_writer.proofs.writer.open_compound.Goals as goal

pub returns-in_ok-push-in-List-2-clause-shows : goal.returns-in_ok-push-in-List-2-clause-shows
returns-in_ok-push-in-List-2-clause-shows c = λ t ts us is.
    list_opens (manner_of c.args.style) (lookup_of c.args.style.operators) c.args.page.now c.put_mark.new.self c.args.f.now c.args.k c.args.max c.args.position _ _ _ t ts us c.in_ok-put_mark-in-List.ensures.puts c.in-List.ensures c.in_ok-push-in-List.ensures.items c.in_ok-push-in-List-2.ensures.items is

pub returns-in_ok-push-in-Curly-2-clause-shows : goal.returns-in_ok-push-in-Curly-2-clause-shows
returns-in_ok-push-in-Curly-2-clause-shows c = λ t ts us is.
    curly_opens (manner_of c.args.style) (lookup_of c.args.style.operators) c.args.page.now c.put_mark-in-Curly.new.self c.args.f.now c.args.k c.args.max c.args.position _ _ _ t ts us c.in_ok-put_mark-in-Curly.ensures.puts c.in-Curly.ensures c.in_ok-push-in-Curly.ensures.items c.in_ok-push-in-Curly-2.ensures.items is

pub returns-in_ok-push-in-Infix-2-clause-shows : goal.returns-in_ok-push-in-Infix-2-clause-shows
returns-in_ok-push-in-Infix-2-clause-shows c = λ t ts us is.
    infix_opens (manner_of c.args.style) (lookup_of c.args.style.operators) c.args.page.now c.open_parenthesis.new.page c.args.f.now c.args.k c.args.max c.args.position c.right_max.result c.left_max.result c.in-Infix.priority c.in-Infix.kind c.encloses.result _ _ _ _ t ts us c.in_ok-open_parenthesis-in-Infix.ensures.puts c.in-Infix.ensures c.encloses.ensures c.right_max.ensures c.left_max.ensures c.in_ok-open_parenthesis-in-Infix.ensures.pushes (subst (λ n. c.push-in-Infix.new.self.items ≡ c.open_parenthesis.new.stack.items ++ Infix n c.right_max.result ∷ []) c.in_ok-name-in-Infix.ensures c.in_ok-push-in-Infix.ensures.items) c.in_ok-push-in-Infix-2.ensures.items is

pub returns-in_ok-push-in-Prefix-clause-shows : goal.returns-in_ok-push-in-Prefix-clause-shows
returns-in_ok-push-in-Prefix-clause-shows c = λ t ts us is.
    prefix_opens (manner_of c.args.style) (lookup_of c.args.style.operators) c.args.page.now c.open_parenthesis-in-Prefix.new.page c.put_operator.new.page c.args.f.now c.args.k c.args.max c.args.position c.right_max-in-Prefix.result c.in-Prefix.priority c.in-Prefix.kind c.encloses-in-Prefix.result _ _ _ t ts us c.in_ok-open_parenthesis-in-Prefix.ensures.puts (subst (λ n. Puts c.open_parenthesis-in-Prefix.new.page c.put_operator.new.page (before_operand n (operator_name (manner_of c.args.style) c.args.f.now) ∷ [])) c.in_ok-name-in-Prefix.ensures c.in_ok-put_operator-in-Prefix.ensures.puts) c.in-Prefix.ensures c.encloses-in-Prefix.ensures c.right_max-in-Prefix.ensures c.in_ok-open_parenthesis-in-Prefix.ensures.pushes c.in_ok-push-in-Prefix.ensures.items is

pub returns-in_ok-push-in-Postfix-2-clause-shows : goal.returns-in_ok-push-in-Postfix-2-clause-shows
returns-in_ok-push-in-Postfix-2-clause-shows c = λ t ts us is.
    postfix_opens (manner_of c.args.style) (lookup_of c.args.style.operators) c.args.page.now c.open_parenthesis-in-Postfix.new.page c.args.f.now c.args.k c.args.max c.args.position c.left_max-in-Postfix.result c.in-Postfix.priority c.in-Postfix.kind c.encloses-in-Postfix.result _ _ _ _ t ts us c.in_ok-open_parenthesis-in-Postfix.ensures.puts c.in-Postfix.ensures c.encloses-in-Postfix.ensures c.left_max-in-Postfix.ensures c.in_ok-open_parenthesis-in-Postfix.ensures.pushes (subst (λ n. c.push-in-Postfix.new.self.items ≡ c.open_parenthesis-in-Postfix.new.stack.items ++ Postfix n ∷ []) c.in_ok-name-in-Postfix.ensures c.in_ok-push-in-Postfix.ensures.items) c.in_ok-push-in-Postfix-2.ensures.items is

pub returns-in_ok-push-in-Functional-2-clause-shows : goal.returns-in_ok-push-in-Functional-2-clause-shows
returns-in_ok-push-in-Functional-2-clause-shows c = λ t ts us is.
    functional_opens (manner_of c.args.style) (lookup_of c.args.style.operators) c.args.page.now c.put_functor.new.page c.put_mark-in-Functional.new.self c.args.f.now c.args.k _ c.args.max c.args.position _ _ _ t ts us c.in_ok-put_functor-in-Functional.ensures.puts c.in_ok-put_mark-in-Functional.ensures.puts c.in-Functional.ensures c.in_ok-push-in-Functional.ensures.items c.in_ok-push-in-Functional-2.ensures.items is (omega arith)
