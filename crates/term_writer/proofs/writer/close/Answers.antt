use Rattle.std.proofs.Common.{refl, subst, sym, ◌∙◌, ap, arith}
use Rattle.term_writer.specs.declared.writer.Work.TheVariants.{Arguments}
use Rattle.term_writer.specs.Pages.{behind_page, shown}
use Rattle.term_writer.specs.Styles.{lookup_of, manner_of}
use Rattle.term_writer.specs.Work.{Closes, coming}
use Rattle.term_writer.proofs.Rest.{arguments_close}
use Rattle.term_writer.proofs.writer.close.Goals as goal

pub returns-in_ok-put_postfix-in-Postfix-clause-closes : goal.returns-in_ok-put_postfix-in-Postfix-clause-closes
returns-in_ok-put_postfix-in-Postfix-clause-closes c closed =
    let m = manner_of c.args.style in
    let ops = lookup_of c.args.style.operators in
    subst (λ w. Closes m ops w c.args.page.now c.put_postfix.new.page) (sym c.in-Postfix.is)
    (record { none_read = refl; shows = λ ws ts. c.in_ok-put_postfix-in-Postfix.ensures.puts (coming m ops ws ts) })

pub returns-in_ok-put_mark-in-Parenthesis-clause-closes : goal.returns-in_ok-put_mark-in-Parenthesis-clause-closes
returns-in_ok-put_mark-in-Parenthesis-clause-closes c closed =
    let m = manner_of c.args.style in
    let ops = lookup_of c.args.style.operators in
    subst (λ w. Closes m ops w c.args.page.now c.put_mark-in-Parenthesis.new.self) (sym c.in-Parenthesis.is)
    (record { none_read = refl; shows = λ ws ts. c.in_ok-put_mark-in-Parenthesis.ensures.puts (coming m ops ws ts) })

pub returns-in_ok-put_mark-in-Bracket-clause-closes : goal.returns-in_ok-put_mark-in-Bracket-clause-closes
returns-in_ok-put_mark-in-Bracket-clause-closes c closed =
    let m = manner_of c.args.style in
    let ops = lookup_of c.args.style.operators in
    subst (λ w. Closes m ops w c.args.page.now c.put_mark-in-Bracket.new.self) (sym c.in-Bracket.is)
    (record { none_read = refl; shows = λ ws ts. c.in_ok-put_mark-in-Bracket.ensures.puts (coming m ops ws ts) })

pub returns-in_ok-put_mark-in-Brace-clause-closes : goal.returns-in_ok-put_mark-in-Brace-clause-closes
returns-in_ok-put_mark-in-Brace-clause-closes c closed =
    let m = manner_of c.args.style in
    let ops = lookup_of c.args.style.operators in
    subst (λ w. Closes m ops w c.args.page.now c.put_mark-in-Brace.new.self) (sym c.in-Brace.is)
    (record { none_read = refl; shows = λ ws ts. c.in_ok-put_mark-in-Brace.ensures.puts (coming m ops ws ts) })

pub returns-in_ok-put_mark-in-Arguments-clause-closes : goal.returns-in_ok-put_mark-in-Arguments-clause-closes
returns-in_ok-put_mark-in-Arguments-clause-closes c closed =
    let m = manner_of c.args.style in
    let ops = lookup_of c.args.style.operators in
    let page = c.args.page.now in
    subst (λ w. Closes m ops w page c.put_mark.new.self) (sym c.in-Arguments.is)
    (record {
      none_read = omega (arith, c.if-k-ne0.false);
      shows = λ ws ts.
          c.in_ok-put_mark-in-Arguments.ensures.puts (coming m ops ws ts)
          ∙ ap (shown page.bytes.items (behind_page page)) (sym (arguments_close m ops ws ts c.in-Arguments.k c.if-k-ne0.false));
    })
