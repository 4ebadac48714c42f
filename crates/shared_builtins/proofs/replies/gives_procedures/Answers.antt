use Rattle.std.proofs.Common.{refl, sym, ap, subst, map, ◌∙◌}
use Rattle.std.specs.List.{All}
use Rattle.pl_model.specs.BuiltinRows.{table}
use Rattle.pl_model.specs.Predicates.{proc_of}
use Rattle.pl_model.specs.SharedBuiltins.{procedures_row}
use Rattle.pl_model.specs.Terms.{arguments}
use Rattle.iso_search.specs.declared.told.Line.TheVariants.{Indicator}
use Rattle.iso_search.specs.Told.{line_answer}
use Rattle.world_api.specs.declared.visit.Procedure.{Procedure}
use Rattle.world_api.specs.declared.reply.Reply.TheVariants as replies
use Rattle.world_api.specs.Texts.{text_of}
use Rattle.world_builtins.specs.Spelling.{reads}
use Rattle.shared_builtins.specs.Replies.{IsLineHeld, IsReplyFor}
use Rattle.shared_builtins.proofs.ReplyRows.{fails_row, procedures_held, procedures_told}
use Rattle.shared_builtins.proofs.Saying.{plain_procedures, said_as_is}
use Rattle.shared_builtins.proofs.replies.gives_procedures.Goals as goal

pub returns-in-Procedures : goal.returns-in-Procedures
returns-in-Procedures c m r h =
    let s = c.args.store.now in
    let x = c.args.goal.now in
    let k = subst (λ y. IsReplyFor m s x y r) c.in-Procedures.is h in
    let all = c.in-Procedures.all.items in
    let lines = c.in_ok-lines-in-Procedures.ensures in
    let said = said_as_is (text_of m) (replies.Procedures c.in-Procedures.all) r (λ z e. absurd cc) k.says in (
      ap (λ q. procedures_row q c.args.next) said ∙ ap table (procedures_told m all ∙ ap (map (line_answer m)) (sym (lines ∙ ap (map (λ (p : Procedure). Indicator p.name p.arity)) c.as_slice.ensures.value))),
      (refl, subst (All (IsLineHeld m)) (sym (lines ∙ ap (map (λ (p : Procedure). Indicator p.name p.arity)) c.as_slice.ensures.value)) (procedures_held m all k.names)),
    )

pub returns : goal.returns
returns c m r h =
    let s = c.args.store.now in
    let x = c.args.goal.now in
    let us = arguments (reads m s x.place) in (
      fails_row m s c.args.next (proc_of (reads m s x.place)) us (procedures_row r c.args.next)
          (plain_procedures (text_of m) c.args.reply r c.args.next c.in_default.not-Procedures h.says),
      (refl, tt),
    )
