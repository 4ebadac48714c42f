use Rattle.std.proofs.Common.{refl, sym, ap, subst, map, ◌∙◌}
use Rattle.std.specs.List.{All, filter_map}
use Rattle.pl_model.specs.BuiltinRows.{table}
use Rattle.pl_model.specs.Predicates.{proc_of}
use Rattle.pl_model.specs.SharedBuiltins.{flags_row}
use Rattle.pl_model.specs.Terms.{arguments}
use Rattle.iso_search.specs.Told.{line_answer}
use Rattle.world_api.specs.declared.reply.Reply.TheVariants as replies
use Rattle.world_api.specs.Texts.{text_of}
use Rattle.world_builtins.specs.Spelling.{reads}
use Rattle.shared_builtins.specs.Replies.{IsLineHeld, IsReplyFor, flag_line}
use Rattle.shared_builtins.proofs.FlagLines.{flags_held, flags_told, read_flag}
use Rattle.shared_builtins.proofs.ReplyRows.{fails_row}
use Rattle.shared_builtins.proofs.Saying.{plain_flags, said_as_is}
use Rattle.shared_builtins.proofs.replies.gives_flags.Goals as goal

pub returns-in-Flags : goal.returns-in-Flags
returns-in-Flags c m r h =
    let s = c.args.store.now in
    let x = c.args.goal.now in
    let k = subst (λ y. IsReplyFor m s x y r) c.in-Flags.is h in
    let all = c.in-Flags.all.items in
    let stands = h.tells.naming.stands in
    let lines = c.in_ok-lines-in-Flags.ensures ∙ ap (filter_map flag_line) c.as_slice.ensures.value in
    let said = said_as_is (text_of m) (replies.Flags c.in-Flags.all) r (λ z e. absurd cc) k.says in
    let values = h.values c.requires.follows (map (read_flag m) all) said in (
      ap (λ q. flags_row q c.args.next) said ∙ ap table (flags_told m stands all values ∙ ap (map (line_answer m)) (sym lines)),
      (refl, subst (All (IsLineHeld m)) (sym lines) (flags_held m stands all values k.names)),
    )

pub returns : goal.returns
returns c m r h =
    let s = c.args.store.now in
    let x = c.args.goal.now in
    let us = arguments (reads m s x.place) in (
      fails_row m s c.args.next (proc_of (reads m s x.place)) us (flags_row r c.args.next)
          (plain_flags (text_of m) c.args.reply r c.args.next c.in_default.not-Flags h.says),
      (refl, tt),
    )
