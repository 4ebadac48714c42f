use Rattle.std.proofs.Common.{◌≡◌, ◌∷◌, [], reverse, refl, sym, ap, append-nil, ◌∙◌, arith}
use Rattle.pl_term.specs.Tree.{none}
use Rattle.term_writer.specs.Pages.{behind_page, shown}
use Rattle.term_writer.specs.Styles.{lookup_of, manner_of}
use Rattle.term_writer.specs.Work.{coming, reads}
use Rattle.term_writer.proofs.Opens.{pushed}
use Rattle.term_writer.proofs.Stepping.{closes_more, closes_reads, grows_then, reads_one}
use Rattle.term_writer.proofs.writer.put_end.Goals as goal

pub loop-work-init : goal.loop-work-init
loop-work-init c = record { none_read = c.requires; shows = λ ts. refl; grows = ([], sym (append-nil c.args.page.now.bytes.items)) }

pub unreachable-requires : goal.unreachable-requires
unreachable-requires c =
    let w = c.in-Some.work in
    let ws = reverse c.pop.new.self.items in
    let popped = pushed c.pop.new.self.items c.loop-work.stack.items w c.in-Some.ensures.items in
    omega (arith, (c.in_ok-close.ensures.open c.if-not-branch.true).0, reads_one w ws, ap reads popped, c.loop-work.invariant.none_read)

pub loop-work-preserved : goal.loop-work-preserved
loop-work-preserved c =
    let m = manner_of c.args.style in
    let ops = lookup_of c.args.style.operators in
    let w = c.in-Some.work in
    let vs = reverse c.args.stack.now.items in
    let ws = reverse c.pop.new.self.items in
    let popped = pushed c.pop.new.self.items c.loop-work.stack.items w c.in-Some.ensures.items in
    let closed = c.in_ok-close.ensures.closes c.if-not-branch.false in
    record {
      none_read = closes_reads m ops w c.loop-work.page c.close.new.page ws closed ∙ ap reads (sym popped) ∙ c.loop-work.invariant.none_read;
      shows =
          closes_more m ops w c.args.page.now c.loop-work.page c.close.new.page vs ws closed
          (λ ts. ap (λ us. shown c.loop-work.page.bytes.items (behind_page c.loop-work.page) (coming m ops us ts)) (sym popped) ∙ c.loop-work.invariant.shows ts);
      grows = grows_then c.args.page.now.bytes.items c.loop-work.page.bytes.items c.close.new.page.bytes.items c.loop-work.invariant.grows c.close.ensures.grows;
    }
