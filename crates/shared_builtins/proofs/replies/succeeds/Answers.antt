use Rattle.std.proofs.Common.{refl, sym, subst}
use Rattle.pl_model.specs.Predicates.{proc_of}
use Rattle.pl_model.specs.Requests.{Reply}
use Rattle.pl_model.specs.SharedBuiltins.{succeeds_with}
use Rattle.pl_model.specs.Terms.{arguments}
use Rattle.builtin_rows.specs.Given.{given}
use Rattle.builtin_rows.specs.Rows.{IsRow}
use Rattle.world_api.specs.Texts.{text_of}
use Rattle.world_builtins.specs.Spelling.{reads}
use Rattle.shared_builtins.specs.Replies.{IsReplied, IsReplyFor}
use Rattle.shared_builtins.proofs.ReplyRows.{fails_row, plain_error}
use Rattle.shared_builtins.proofs.Saying.{other_succeeds, refusal_said, said_as_is}
use Rattle.world_api.specs.declared.reply.Reply.TheVariants as replies
use Rattle.shared_builtins.proofs.replies.succeeds.Goals as goal

pub returns-in-Done : goal.returns-in-Done
returns-in-Done c m r h =
    let s = c.args.store.now in
    let x = c.args.goal.now in
    let g = reads m s x.place in
    let us = arguments g in
    let k = subst (λ y. IsReplyFor m s x y r) c.in-Done.is h in
    let said = said_as_is (text_of m) replies.Done r (λ z e. absurd cc) k.says in (
      subst (λ (q : Reply). IsRow s c.args.next us (given (proc_of g) us c.args.next s.used s.budget (succeeds_with us q c.args.next)) m c.succeeded.new.store c.in_ok-row-in-Done.row) (sym said)
          (c.in_ok-row-in-Done.ensures.row m h.tells.naming h.held),
      (c.in_ok-row-in-Done.ensures.refuses, c.in_ok-row-in-Done.ensures.single),
    )

pub returns-in-Refused : goal.returns-in-Refused
returns-in-Refused c m r h =
    let s = c.args.store.now in
    let x = c.args.goal.now in
    let us = arguments (reads m s x.place) in
    let k = subst (λ y. IsReplyFor m s x y r) c.in-Refused.is h in
    let said = refusal_said (text_of m) c.in-Refused.error r k.says in
    subst (λ (q : Reply). IsReplied m s c.args.next x ((succeeds_with us) q c.args.next) s c.refused_by.result) (sym said.1.0)
    (c.refused_by.ensures m said.0 c.args.next h.tells.naming h.held k.names said.1.1 (plain_error x.pred us said.0 c.requires.plain (h.refuses said.0 said.1.0)))

pub returns : goal.returns
returns c m r h =
    let s = c.args.store.now in
    let x = c.args.goal.now in
    let us = arguments (reads m s x.place) in
    let text = text_of m in (
      fails_row m s c.args.next (proc_of (reads m s x.place)) us ((succeeds_with us) r c.args.next)
          (other_succeeds text us c.args.reply r c.args.next c.in_default.not-Done c.in_default.not-Refused (said_as_is text c.args.reply r c.in_default.not-Refused h.says)),
      (refl, tt),
    )
