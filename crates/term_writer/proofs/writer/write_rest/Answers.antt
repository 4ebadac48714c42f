use Rattle.std.proofs.Common.{◌+◌, ◌∷◌, reverse, refl, ap, sym, ◌∙◌}
use Rattle.term_writer.specs.declared.writer.Work.TheVariants.{Term, Bracket, Rest}
use Rattle.term_writer.specs.declared.operators.Position.TheVariants.{Alone}
use Rattle.term_writer.specs.Pages.{behind_page, shown}
use Rattle.term_writer.specs.Styles.{lookup_of, manner_of}
use Rattle.term_writer.specs.Work.{left}
use Rattle.term_writer.proofs.Opens.{pushed, pushed_two}
use Rattle.term_writer.proofs.Rest.{ends_ahead, ends_left, cell_at, goes_on_ahead, goes_on_left, partial_left, ahead_as, ahead_on}
use Rattle.term_writer.proofs.writer.write_rest.Goals as goal

pub returns-in_ok-put_mark-in-Ends-clause-steps : goal.returns-in_ok-put_mark-in-Ends-clause-steps
returns-in_ok-put_mark-in-Ends-clause-steps c =
    let m = manner_of c.args.style in
    let ops = lookup_of c.args.style.operators in
    let ws = reverse c.args.stack.now.items in
    let page = c.args.page.now in
    record {
      ahead = λ ns at is a. ends_ahead ns at ws c.args.node.now a is c.in-Ends.ensures;
      shows = λ ns at is a.
          c.in_ok-put_mark-in-Ends.ensures.puts (left m ops ns (at + 1) ws)
          ∙ ap (shown page.bytes.items (behind_page page)) (sym (ends_left m ops ns at ws c.args.node.now is c.in-Ends.ensures));
    }

pub returns-in_ok-push-in-GoesOn-2-clause-steps : goal.returns-in_ok-push-in-GoesOn-2-clause-steps
returns-in_ok-push-in-GoesOn-2-clause-steps c =
    let m = manner_of c.args.style in
    let ops = lookup_of c.args.style.operators in
    let ws = reverse c.args.stack.now.items in
    let page = c.args.page.now in
    let mark = c.put_mark-in-GoesOn.new.self in
    let stack = pushed_two c.args.stack.now.items _ _ Rest (Term 999 Alone) c.in_ok-push-in-GoesOn.ensures.items c.in_ok-push-in-GoesOn-2.ensures.items in
    record {
      ahead = λ ns at is a.
          let k = cell_at ns at ws c.args.node.now a is c.in-GoesOn.ensures in
          ahead_on ns (at + 1) _ _ stack (goes_on_ahead ns at ws k.0 k.1);
      shows = λ ns at is a.
          ap (λ vs. shown mark.bytes.items (behind_page mark) (left m ops ns (at + 1) vs)) stack
          ∙ c.in_ok-put_mark-in-GoesOn.ensures.puts (left m ops ns (at + 1) (Term 999 Alone ∷ Rest ∷ ws))
          ∙ ap (shown page.bytes.items (behind_page page)) (sym (goes_on_left m ops ns at ws c.args.node.now a is c.in-GoesOn.ensures));
    }

pub write_term-requires : goal.write_term-requires
write_term-requires c =
    let ws = reverse c.args.stack.now.items in
    let stack = pushed c.args.stack.now.items _ Bracket c.in_ok-push-in-Partial.ensures.items in (
      c.requires.0,
      c.requires.1,
      c.requires.2,
      ahead_on _ _ _ (Term 999 Alone ∷ Bracket ∷ ws) (ap (λ vs. Term 999 Alone ∷ vs) stack) (ahead_as _ _ (Rest ∷ ws) (Term 999 Alone ∷ Bracket ∷ ws) c.requires.3 refl),
    )

pub returns-in_ok-write_term-in-Partial-clause-steps : goal.returns-in_ok-write_term-in-Partial-clause-steps
returns-in_ok-write_term-in-Partial-clause-steps c =
    let m = manner_of c.args.style in
    let ops = lookup_of c.args.style.operators in
    let ws = reverse c.args.stack.now.items in
    let page = c.args.page.now in
    let mark = c.put_mark-in-Partial.new.self in
    let stack = pushed c.args.stack.now.items _ Bracket c.in_ok-push-in-Partial.ensures.items in
    record {
      ahead = λ ns at is a.
          c.in_ok-write_term-in-Partial.ensures.steps.ahead ns at is
          (ahead_on ns at _ (Term 999 Alone ∷ Bracket ∷ ws) (ap (λ vs. Term 999 Alone ∷ vs) stack) (ahead_as ns at (Rest ∷ ws) (Term 999 Alone ∷ Bracket ∷ ws) a refl));
      shows = λ ns at is a.
          c.in_ok-write_term-in-Partial.ensures.steps.shows ns at is
          (ahead_on ns at _ (Term 999 Alone ∷ Bracket ∷ ws) (ap (λ vs. Term 999 Alone ∷ vs) stack) (ahead_as ns at (Rest ∷ ws) (Term 999 Alone ∷ Bracket ∷ ws) a refl))
          ∙ ap (λ vs. shown mark.bytes.items (behind_page mark) (left m ops ns at (Term 999 Alone ∷ vs))) stack
          ∙ c.in_ok-put_mark-in-Partial.ensures.puts (left m ops ns at (Term 999 Alone ∷ Bracket ∷ ws))
          ∙ ap (shown page.bytes.items (behind_page page)) (sym (partial_left m ops ns at ws c.args.node.now a is c.in-Partial.ensures));
    }
