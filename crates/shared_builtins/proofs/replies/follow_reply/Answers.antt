use Rattle.std.proofs.Common.{sym, ap, subst, ◌∙◌}
use Rattle.pl_model.specs.Terms.{arguments}
use Rattle.world_builtins.specs.Spelling.{reads}
use Rattle.shared_builtins.specs.Following.{row_by, with_answer}
use Rattle.shared_builtins.specs.Replies.{IsReplied}
use Rattle.shared_builtins.proofs.Followed.{reply_for, row_for}
use Rattle.shared_builtins.proofs.replies.follow_reply.Goals as goal

pub returns : goal.returns
returns c m q n r to =
    let s = c.args.store.now in
    let x = c.args.goal.now in
    let us = arguments (reads m s x.place) in
    let t = c.follow_as.new.store in
    let is = c.requires.goal in
    subst (λ d. IsReplied m s c.args.next x d t c.in_ok-replied.replied)
    (ap (λ f. row_by f us (with_answer x.pred us) r c.args.next) c.following_of-following.ensures ∙ sym (ap (λ k. k r c.args.next) (row_for m s x c.args.reply q n r is to)))
    (c.in_ok-replied.ensures m r (reply_for m s x c.args.reply q n r is to))
