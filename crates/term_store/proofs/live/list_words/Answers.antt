use Rattle.std.proofs.Common.{◌<◌, ◌≤◌, pos, subst}
use Rattle.term_store.specs.declared.words.Word.TheVariants.{Int}
use Rattle.term_store.specs.Live.{Gathers, word_atoms}
use Rattle.term_store.proofs.Gathering.{gathers_last, gathers_next, gathers_none}
use Rattle.term_store.proofs.live.list_words.Goals as goal

pub loop-i-init : goal.loop-i-init
loop-i-init c = gathers_none c.args.live.now

pub loop-i-preserved : goal.loop-i-preserved
loop-i-preserved c =
    gathers_next word_atoms c.args.words.now.items c.loop-i.i (Int (pos 0)) c.args.live.now c.loop-i.live c.list_word.new.live (subst (λ n. c.loop-i.i < n) c.len-i-end.ensures c.loop-i-test.true) c.loop-i.invariant
    (subst (λ w. Gathers (word_atoms w) c.loop-i.live c.list_word.new.live) c.get.ensures c.in_ok-list_word.ensures)

pub returns : goal.returns
returns c = gathers_last word_atoms c.args.words.now.items c.loop-i.i c.args.live.now c.loop-i.live (subst (λ n. n ≤ c.loop-i.i) c.len-i-end.ensures c.loop-i-test.false) c.loop-i.invariant
