use Rattle.std.proofs.Common.{◌≡◌, ◌∷◌, [], length, reverse, refl, sym, ap, subst, append-nil, ◌∙◌, arith}
use Rattle.term_writer.specs.Pages.{behind_page, shown}
use Rattle.term_writer.specs.Styles.{lookup_of, manner_of}
use Rattle.term_writer.specs.Work.{coming, reads}
use Rattle.term_writer.proofs.Opens.{pushed}
use Rattle.term_writer.proofs.Stepping.{closes_more, closes_reads, fits_as, grows_then, nothing_read, some_read, steps_after}
use Rattle.term_writer.proofs.writer.put_node.Goals as goal

pub loop-work-init : goal.loop-work-init
loop-work-init c = record { same = refl; shows = λ ts. refl; grows = ([], sym (append-nil c.args.page.now.bytes.items)) }

pub read-requires : goal.read-requires
read-requires c =
    let w = c.in-Some.work in
    let vs = reverse c.args.stack.now.items in
    let popped = pushed c.pop.new.self.items c.loop-work.stack.items w c.in-Some.ensures.items in
    record {
      reads = (c.in_ok-close.ensures.open c.if-not-branch.true).0;
      fits = fits_as c.args.node.now vs (w ∷ reverse c.pop.new.self.items) c.requires (ap reads (sym popped) ∙ c.loop-work.invariant.same);
    }

pub returns-then-not-branch-clause-steps : goal.returns-then-not-branch-clause-steps
returns-then-not-branch-clause-steps c =
    let m = manner_of c.args.style in
    let ops = lookup_of c.args.style.operators in
    let w = c.in-Some.work in
    let vs = reverse c.args.stack.now.items in
    let ws = reverse c.pop.new.self.items in
    let popped = pushed c.pop.new.self.items c.loop-work.stack.items w c.in-Some.ensures.items in
    let same_page = (c.in_ok-close.ensures.open c.if-not-branch.true).1 in
    steps_after m ops c.args.node.now vs (w ∷ ws) (reverse c.read.new.stack.items) c.args.page.now c.close.new.page c.read.new.page
    (ap reads (sym popped) ∙ c.loop-work.invariant.same)
    (λ ts. ap (λ p. shown p.bytes.items (behind_page p) (coming m ops (w ∷ ws) ts)) same_page
    ∙ ap (λ us. shown c.loop-work.page.bytes.items (behind_page c.loop-work.page) (coming m ops us ts)) (sym popped)
    ∙ c.loop-work.invariant.shows ts)
    c.in_ok-read.ensures.steps

pub loop-work-preserved : goal.loop-work-preserved
loop-work-preserved c =
    let m = manner_of c.args.style in
    let ops = lookup_of c.args.style.operators in
    let w = c.in-Some.work in
    let vs = reverse c.args.stack.now.items in
    let ws = reverse c.pop.new.self.items in
    let popped = pushed c.pop.new.self.items c.loop-work.stack.items w c.in-Some.ensures.items in
    let closed = c.in_ok-close.ensures.closes c.if-not-branch.false in
    record {
      same = closes_reads m ops w c.loop-work.page c.close.new.page ws closed ∙ ap reads (sym popped) ∙ c.loop-work.invariant.same;
      shows =
          closes_more m ops w c.args.page.now c.loop-work.page c.close.new.page vs ws closed
          (λ ts. ap (λ us. shown c.loop-work.page.bytes.items (behind_page c.loop-work.page) (coming m ops us ts)) (sym popped) ∙ c.loop-work.invariant.shows ts);
      grows = grows_then c.args.page.now.bytes.items c.loop-work.page.bytes.items c.close.new.page.bytes.items c.loop-work.invariant.grows c.close.ensures.grows;
    }

pub unreachable-requires : goal.unreachable-requires
unreachable-requires c =
    let f = c.requires in
    let some = some_read f.0 f.1 c.args.node.now (reverse c.args.stack.now.items) f.2 f.3 in
    let over : length c.loop-work.stack.items ≡ 0 = omega (arith, c.loop-work.stack.ok.0, c.in_default.ensures.cases.0) in
    omega (arith, some, c.loop-work.invariant.same, nothing_read c.loop-work.stack.items over)
