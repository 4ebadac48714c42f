use Rattle.std.proofs.Common.{sym, subst}
use Rattle.std.specs.List.{All}
use Rattle.term_store.specs.declared.words.Word.TheVariants.{Comp}
use Rattle.term_store.specs.Cells.{heap_of}
use Rattle.term_store.specs.Meeting.{IsMet}
use Rattle.term_store.specs.Waiting.{waiting}
use Rattle.term_store.proofs.Handing.{parted_never, parted_some}
use Rattle.term_store.proofs.Joining.{again, all_joined, all_opened, all_added}
use Rattle.term_store.proofs.Turning.{goes_same}
use Rattle.term_store.proofs.unify.meet.Goals as goal

pub returns-then-holds : goal.returns-then-holds
returns-then-holds c =
    let h = heap_of c.args.cells.now in
    let ps = waiting h c.args.pending.now.rests.items c.args.next in
    let ms = c.args.pending.now.met.list.items in
    let same = again h c.args.k c.args.l ps ms (c.holds.ensures c.if-holds.true) c.requires.met in
    record {
      waits = c.requires.waiting;
      goes = goes_same h ps (Comp c.args.k) (Comp c.args.l) same;
      met = all_joined h ps (record { left = Comp c.args.k; right = Comp c.args.l }) ms same c.requires.met;
    }

pub returns-in_default : goal.returns-in_default
returns-in_default c =
    parted_never c.in_ok-parts.field-0 (heap_of c.args.cells.now) c.args.k c.args.l c.args.pending.now.rests.items c.args.next c.open_pair.new.rests.items
    c.in_default.not-Some c.in_ok-parts.ensures

pub returns-in_ok-add : goal.returns-in_ok-add
returns-in_ok-add c =
    let h = heap_of c.args.cells.now in
    let ps = waiting h c.args.pending.now.rests.items c.args.next in
    let qs = waiting h c.open_pair.new.rests.items c.in-Some.parts in
    let ms = c.args.pending.now.met.list.items in
    let p = parted_some c.in_ok-parts.field-0 c.in-Some.parts h c.args.k c.args.l c.args.pending.now.rests.items c.args.next c.open_pair.new.rests.items c.in-Some.is c.in_ok-parts.ensures in
    record {
      waits = p.kept c.requires.waiting;
      goes = p.goes;
      met =
          subst (λ ns. All (IsMet h qs) ns) (sym c.in_ok-add.ensures)
          (all_added h c.args.k c.args.l ps qs ms p.parts (all_opened h c.args.k c.args.l ps qs ms p.parts c.requires.met));
    }

pub returns-else-long-2 : goal.returns-else-long-2
returns-else-long-2 c =
    let h = heap_of c.args.cells.now in
    let ps = waiting h c.args.pending.now.rests.items c.args.next in
    let qs = waiting h c.open_pair.new.rests.items c.in-Some.parts in
    let p = parted_some c.in_ok-parts.field-0 c.in-Some.parts h c.args.k c.args.l c.args.pending.now.rests.items c.args.next c.open_pair.new.rests.items c.in-Some.is c.in_ok-parts.ensures in
    record {
      waits = p.kept c.requires.waiting;
      goes = p.goes;
      met = all_opened h c.args.k c.args.l ps qs c.args.pending.now.met.list.items p.parts c.requires.met;
    }
