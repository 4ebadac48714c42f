use Rattle.std.proofs.Common.{◌≡◌, ◌<◌, ◌≤◌, ◌∷◌, [], length, drop, reverse, ap, sym, append-nil, refl, ◌∙◌, arith}
use Rattle.std.proofs.lemmas.List.{drop_all}
use Rattle.pl_term.specs.Nodes.{forest}
use Rattle.term_writer.specs.Pages.{behind_page, shown}
use Rattle.term_writer.specs.Styles.{lookup_of, manner_of}
use Rattle.term_writer.specs.Work.{coming}
use Rattle.term_writer.proofs.Ahead.{node_at}
use Rattle.term_writer.proofs.Stepping.{grows_then, none_read}
use Rattle.term_writer.proofs.Whole.{starts_ahead, starts_left}
use Rattle.term_writer.proofs.writer.write_nodes.Goals as goal

pub loop-i-init : goal.loop-i-init
loop-i-init c =
    let only = c.in_ok-stack.ensures.items in
    record {
      ahead = starts_ahead c.args.all.now c.args.max _ c.requires only;
      shows = ap (shown c.args.page.now.bytes.items (behind_page c.args.page.now)) (starts_left (manner_of c.args.style) (lookup_of c.args.style.operators) c.args.all.now c.args.max _ c.requires only);
      grows = ([], sym (append-nil c.args.page.now.bytes.items));
    }

pub put_node-requires : goal.put_node-requires
put_node-requires c =
    let ns = c.args.all.now in
    let below : c.loop-i.i < length ns = omega arith in
    (ns, c.loop-i.i, node_at ns c.loop-i.i _ _ below c.index-all-i.is refl, c.loop-i.invariant.ahead)

pub loop-i-preserved : goal.loop-i-preserved
loop-i-preserved c =
    let ns = c.args.all.now in
    let i = c.loop-i.i in
    let below : i < length ns = omega arith in
    let is = node_at ns i _ _ below c.index-all-i.is refl in
    let s = c.in_ok-put_node.ensures.steps in
    record {
      ahead = s.ahead ns i is c.loop-i.invariant.ahead;
      shows = s.shows ns i is c.loop-i.invariant.ahead ∙ c.loop-i.invariant.shows;
      grows = grows_then c.args.page.now.bytes.items c.loop-i.page.bytes.items c.put_node.new.page.bytes.items c.loop-i.invariant.grows c.put_node.ensures.grows;
    }

pub put_end-requires : goal.put_end-requires
put_end-requires c =
    let ns = c.args.all.now in
    let over : length ns ≤ c.loop-i.i = omega arith in
    none_read ns c.loop-i.i (reverse c.loop-i.stack.items) (drop_all c.loop-i.i ns over) c.loop-i.invariant.ahead

pub returns-clause-shows : goal.returns-clause-shows
returns-clause-shows c =
    let ns = c.args.all.now in
    let m = manner_of c.args.style in
    let ops = lookup_of c.args.style.operators in
    let ws = reverse c.loop-i.stack.items in
    let page = c.loop-i.page in
    let over : length ns ≤ c.loop-i.i = omega arith in
    c.in_ok-put_end.ensures.shows
    ∙ ap (λ ms. shown page.bytes.items (behind_page page) (coming m ops ws (forest ms))) (sym (drop_all c.loop-i.i ns over))
    ∙ c.loop-i.invariant.shows
