use Rattle.std.proofs.Common.{refl, sym, ap, subst, map, ◌∙◌}
use Rattle.std.specs.List.{All}
use Rattle.pl_model.specs.BuiltinRows.{table}
use Rattle.pl_model.specs.SharedBuiltins.{operator_row, operators_row}
use Rattle.iso_search.specs.Told.{line_answer}
use Rattle.world_api.specs.declared.reply.Reply.TheVariants as replies
use Rattle.world_api.specs.Texts.{text_of}
use Rattle.shared_builtins.specs.Replies.{IsLineHeld, IsReplyFor}
use Rattle.shared_builtins.proofs.OperatorLines.{operator_line, operators_held, operators_told}
use Rattle.shared_builtins.proofs.Saying.{names_only, operators_said, said_as_is}
use Rattle.shared_builtins.proofs.replies.gives_operators.Goals as goal

pub returns-in-Operators : goal.returns-in-Operators
returns-in-Operators c m r h =
    let s = c.args.store.now in
    let x = c.args.goal.now in
    let k = subst (λ y. IsReplyFor m s x y r) c.in-Operators.is h in
    let all = c.in-Operators.all.items in
    let stands = h.tells.naming.stands in
    let lines = c.in_ok-lines-in-Operators.ensures ∙ ap (map operator_line) c.as_slice.ensures.value in
    let said = operators_said (text_of m) c.in-Operators.all r (said_as_is (text_of m) (replies.Operators c.in-Operators.all) r (λ z e. absurd cc) k.says) in (
      ap (λ q. operators_row q c.args.next) said.2 ∙ ap table (ap (map operator_row) said.3 ∙ operators_told m stands all ∙ ap (map (line_answer m)) (sym lines)),
      (refl, subst (All (IsLineHeld m)) (sym lines) (operators_held m stands all k.names)),
    )

pub returns : goal.returns
returns c m r h = absurd (names_only c.args.reply (h.named c.requires.follows) c.in_default.not-Operators)
