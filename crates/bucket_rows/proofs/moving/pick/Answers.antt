use Rattle.std.proofs.Common.{◌≡◌, refl, sym, ap, ◌∙◌, arith}
use Rattle.atom_words.specs.Kinds.{view_after}
use Rattle.atom_words.specs.declared.view.View.{View}
use Rattle.atom_words.specs.declared.kind.Kind.TheVariants.{Pick}
use Rattle.atom_words.proofs.Tied.{own_tied, walk_tied, pass_tied}
use Rattle.bucket_rows.proofs.RowGoes.{picking}
use Rattle.bucket_rows.proofs.moving.pick.Goals as goal

pub load-requires : goal.load-requires
load-requires c = let words = c.args.words.now in let s = c.args.seat.now.seat in let same : words.size ≡ s.me.0.size = sym c.requires.fits.1 in let m = c.requires.moves in let e = c.requires.ended in let q = e.0 in (
  c.requires.fits.0,
  omega (arith, words.counted),
  picking words.table.shared.key words.table.shared.table_id.slots s.id s.me (words.keyed ∙ same) c.requires.fits.2 (record { slot = c.args.slot; text = c.args.row.now }) c.args.before q.0 m.0 m.1 m.2 q.1 q.2 q.3 e.1 q.4,
)

pub invariant_of-seat : goal.invariant_of-seat
invariant_of-seat c = let words = c.args.words.now in let s = c.args.seat.now in let same : words.size ≡ s.seat.me.0.size = sym c.requires.fits.1 in let v : View = s.seat.me.0 in let w : View = c.load.new.seat.me.0 in let a : View = view_after v (Pick (record { slot = c.args.slot; text = c.args.row.now }) c.args.before) in
    let is : w ≡ a = let q = c.requires.ended.0 in c.load.ensures.2.1 q.0 (record { slot = c.args.slot; text = c.args.row.now }) c.args.before q.1 q.4 in record {
      slotless = c.load.ensures.2.0 ∙ s.slotless;
      numbered = ap (λ (y : View). y.cycle.engine) is ∙ s.numbered;
      acknowledged = ap (λ (y : View). y.cycle.acked) is ∙ s.acknowledged;
      owns = own_tied a w s.own is s.owns;
      walks = walk_tied a w s.head s.word is (refl, refl, s.walks.2);
      passes = pass_tied a w s.began s.first s.counted is s.passes;
    }

pub returns-clause-steps : goal.returns-clause-steps
returns-clause-steps c = let q = c.requires.ended.0 in c.load.ensures.2.1 q.0 (record { slot = c.args.slot; text = c.args.row.now }) c.args.before q.1 q.4
