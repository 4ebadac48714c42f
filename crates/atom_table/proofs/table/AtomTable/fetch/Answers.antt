use Rattle.std.proofs.Common.{◌≡◌, ◌<◌, ℕ, sym, ap, ◌∙◌, subst}
use Rattle.atom_words.specs.Board.{atom_at}
use Rattle.atom_words.specs.Kinds.{view_after}
use Rattle.atom_words.specs.Seats.{seen}
use Rattle.atom_words.specs.declared.size.Size.{Size}
use Rattle.atom_words.specs.declared.view.View.{View}
use Rattle.atom_words.specs.declared.kind.Kind.TheVariants.{Fetch}
use Rattle.atom_words.proofs.WalkSteps.{fetching}
use Rattle.atom_words.proofs.Tied.{own_tied, walk_tied, pass_tied}
use Rattle.atom_table.proofs.Counting.{counted_inside, sound_fetched}
use Rattle.atom_table.proofs.table.AtomTable.fetch.Goals as goal

pub atom_place-place-requires : goal.atom_place-place-requires
atom_place-place-requires c = let q = c.requires.counted in subst (λ (k : ℕ). k < c.args.self.now.words.size.slots) (sym c.slot.ensures) (subst (λ (z : Size). c.args.a < z.slots) c.requires.sits.0.1 (counted_inside (seen c.args.seat.now) q.0 c.args.a q.1 q.2 c.requires.sits.2))

pub fetch_or-requires : goal.fetch_or-requires
fetch_or-requires c = let words = c.args.self.now.words in let s = c.args.seat.now in let same : words.size ≡ s.seat.me.0.size = sym c.requires.sits.0.1 in let q = c.requires.counted in (
  c.requires.sits.0.0,
  c.atom_place-place.ensures.inside,
  fetching words.table.shared.key words.table.shared.table_id.slots s.seat.id s.seat.me (words.keyed ∙ same) c.requires.sits.0.2 c.atom_place-place.result c.args.a q.0
      (c.atom_place-place.ensures.place ∙ (λ i. atom_at (same i) (c.slot.ensures i))) (counted_inside (seen s) q.0 c.args.a q.1 q.2 c.requires.sits.2) q.1 q.2 c.requires.sitting,
)

pub invariant_of-seat : goal.invariant_of-seat
invariant_of-seat c = let words = c.args.self.now.words in let s = c.args.seat.now in let same : words.size ≡ s.seat.me.0.size = sym c.requires.sits.0.1 in let v : View = s.seat.me.0 in let w : View = c.fetch_or.new.seat.me.0 in let a : View = view_after v (Fetch c.args.a) in
    let is : w ≡ a = (c.fetch_or.ensures.2.1 c.args.a (c.atom_place-place.ensures.place ∙ (λ i. atom_at (same i) (c.slot.ensures i)))).0 in record {
      slotless = c.fetch_or.ensures.2.0 ∙ s.slotless;
      numbered = ap (λ (y : View). y.cycle.engine) is ∙ s.numbered;
      acknowledged = ap (λ (y : View). y.cycle.acked) is ∙ s.acknowledged;
      owns = own_tied a w s.own is s.owns;
      walks = walk_tied a w s.head s.word is s.walks;
      passes = pass_tied a w s.began s.first s.counted is s.passes;
    }

pub returns-clause-steps : goal.returns-clause-steps
returns-clause-steps c = let words = c.args.self.now.words in let s = c.args.seat.now in let same : words.size ≡ s.seat.me.0.size = sym c.requires.sits.0.1 in
    (c.fetch_or.ensures.2.1 c.args.a (c.atom_place-place.ensures.place ∙ (λ i. atom_at (same i) (c.slot.ensures i)))).0

pub returns-clause-sits : goal.returns-clause-sits
returns-clause-sits c = let words = c.args.self.now.words in let s = c.args.seat.now in let same : words.size ≡ s.seat.me.0.size = sym c.requires.sits.0.1 in let v : View = s.seat.me.0 in let w : View = c.fetch_or.new.seat.me.0 in let q = c.requires.counted in
    let told = c.fetch_or.ensures.2.1 c.args.a (c.atom_place-place.ensures.place ∙ (λ i. atom_at (same i) (c.slot.ensures i))) in let e = told.0 in (
      (c.fetch_or.ensures.0 ∙ c.requires.sits.0.0, ap (λ (y : View). y.size) e ∙ c.requires.sits.0.1, ap (λ (y : View). y.gone) e ∙ c.requires.sits.0.2),
      ap (λ (y : View). y.own) e ∙ c.requires.sits.1,
      sound_fetched v w q.0 c.args.a q.2 q.1 (told.1 q.0 q.1) e c.requires.sits.2,
    )
