use Rattle.std.proofs.Common.{◌≡◌, ◌+◌, ◌∷◌, ◌-◌, suc, reverse, ap, sym, ◌∙◌, arith}
use Rattle.term_writer.specs.declared.writer.Work.TheVariants.{Term, Arguments}
use Rattle.term_writer.specs.declared.operators.Position.TheVariants.{Alone}
use Rattle.term_writer.specs.Pages.{behind_page, shown}
use Rattle.term_writer.specs.Styles.{lookup_of, manner_of}
use Rattle.term_writer.specs.Work.{left, reads}
use Rattle.term_writer.proofs.Opens.{pushed}
use Rattle.term_writer.proofs.Rest.{ahead_as, ahead_on, argument_left}
use Rattle.term_writer.proofs.writer.write_argument.Goals as goal

pub write_term-requires : goal.write_term-requires
write_term-requires c =
    let ws = reverse c.args.stack.now.items in
    let k = c.args.k in
    let stack = pushed _ _ _ c.in_ok-push.ensures.items in
    let same : suc ((k - 1) + reads ws) ≡ k + reads ws = omega (arith, c.requires.some) in (
      c.requires.fits.0,
      c.requires.fits.1,
      c.requires.fits.2,
      ahead_on _ _ _ (Term 999 Alone ∷ Arguments (k - 1) ∷ ws) (ap (λ vs. Term 999 Alone ∷ vs) stack)
          (ahead_as _ _ (Arguments k ∷ ws) (Term 999 Alone ∷ Arguments (k - 1) ∷ ws) c.requires.fits.3 same),
    )

pub returns-clause-steps : goal.returns-clause-steps
returns-clause-steps c =
    let m = manner_of c.args.style in
    let ops = lookup_of c.args.style.operators in
    let ws = reverse c.args.stack.now.items in
    let k = c.args.k in
    let page = c.args.page.now in
    let mark = c.put_mark.new.self in
    let stack = pushed _ _ _ c.in_ok-push.ensures.items in
    let same : suc ((k - 1) + reads ws) ≡ k + reads ws = omega (arith, c.requires.some) in
    let one_less : k ≡ suc (k - 1) = omega (arith, c.requires.some) in
    record {
      ahead = λ ns at is a.
          c.in_ok-write_term.ensures.steps.ahead ns at is
          (ahead_on ns at _ (Term 999 Alone ∷ Arguments (k - 1) ∷ ws) (ap (λ vs. Term 999 Alone ∷ vs) stack)
          (ahead_as ns at (Arguments k ∷ ws) (Term 999 Alone ∷ Arguments (k - 1) ∷ ws) a same));
      shows = λ ns at is a.
          c.in_ok-write_term.ensures.steps.shows ns at is
          (ahead_on ns at _ (Term 999 Alone ∷ Arguments (k - 1) ∷ ws) (ap (λ vs. Term 999 Alone ∷ vs) stack)
          (ahead_as ns at (Arguments k ∷ ws) (Term 999 Alone ∷ Arguments (k - 1) ∷ ws) a same))
          ∙ ap (λ vs. shown mark.bytes.items (behind_page mark) (left m ops ns at (Term 999 Alone ∷ vs))) stack
          ∙ c.in_ok-put_mark.ensures.puts (left m ops ns at (Term 999 Alone ∷ Arguments (k - 1) ∷ ws))
          ∙ ap (shown page.bytes.items (behind_page page)) (sym (argument_left m ops ns at k (k - 1) ws a one_less));
    }
